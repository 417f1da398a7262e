use Rattle.std.proofs.Common.{rules, ◌≡◌, ℕ, true, false, List, length, Ok, Err, Result, sym, ap, ◌∙◌}
use Rattle.modelfile.specs.File.{Model, read_file}
use Rattle.modelfile.specs.Lists.{model_states, model_choices, model_branches, loaded_of, outcome, answered, after_call}
use Rattle.modelfile.specs.Filling.{Tally, filled}
use Rattle.modelfile.specs.declared.fault.FileFault.{FileFault}
use Rattle.modelfile.specs.declared.fault.FileFault.TheVariants.{ShortList}
use Rattle.modelfile.proofs.Loads.{after_front, filled_ok, tallied_ok, outcome_short, outcome_ok, roomy, room}
use Rattle.modelfile.proofs.FileLaws.{file_law}
use Rattle.modelfile.proofs.lists.load.Goals as goal

pub returns-in_err-need-clause-law : goal.returns-in_err-need-clause-law
returns-in_err-need-clause-law c = file_law c.args.file.now (λ i. (c.type_inv.file i).fits)

pub returns-then-not-fit : goal.returns-then-not-fit
returns-then-not-fit c =
    let file : List ℕ = c.args.file.now in
    let L = c.new-lists.result in
    let same = c.new-lists.ensures.lists in
    let v = filled_ok _ _ _ (read_file file) _ c.in_ok-need.ensures.filled in
    let short : roomy file (length L.states.now) (length L.choices.now) (length L.branches.now) (loaded_of v.0) ≡ false =
    ap (roomy file (length L.states.now) (length L.choices.now) (length L.branches.now)) (sym v.2) ∙ sym c.if-not-fit.ensures in
    let out : outcome file (length c.args.states.now) (length c.args.choices.now) (length c.args.branches.now) ≡ Err ShortList =
    sym (ap (λ (t : Tally). outcome file (length t.states) (length t.choices) (length t.branches)) same)
    ∙ outcome_short file (length L.states.now) (length L.choices.now) (length L.branches.now) v.0 v.1 short in
    record {
      answer = sym (ap answered out);
      states = search rules ∙ ap (λ (t : Tally). t.states) same ∙ sym (ap (λ (o : Result Model FileFault). after_call o model_states c.args.states.now) out);
      choices = search rules ∙ ap (λ (t : Tally). t.choices) same ∙ sym (ap (λ (o : Result Model FileFault). after_call o model_choices c.args.choices.now) out);
      branches = search rules ∙ ap (λ (t : Tally). t.branches) same ∙ sym (ap (λ (o : Result Model FileFault). after_call o model_branches c.args.branches.now) out);
      law = file_law file (λ i. (c.type_inv.file i).fits);
    }

pub returns : goal.returns
returns c =
    let file : List ℕ = c.args.file.now in
    let L = c.new-lists.result in
    let same = c.new-lists.ensures.lists in
    let v = filled_ok _ _ _ (read_file file) _ c.in_ok-need.ensures.filled in
    let m : Model = v.0 in
    let enough : roomy file (length L.states.now) (length L.choices.now) (length L.branches.now) (loaded_of m) ≡ true =
    ap (roomy file (length L.states.now) (length L.choices.now) (length L.branches.now)) (sym v.2) ∙ sym c.if-not-fit.ensures in
    let out : outcome file (length c.args.states.now) (length c.args.choices.now) (length c.args.branches.now) ≡ Ok m =
    sym (ap (λ (t : Tally). outcome file (length t.states) (length t.choices) (length t.branches)) same)
    ∙ outcome_ok file (length L.states.now) (length L.choices.now) (length L.branches.now) m v.1 enough in
    let has = room (length (model_states m)) (length (model_choices m)) (length (model_branches m)) (length L.states.now) (length L.choices.now) (length L.branches.now) enough in
    let all = tallied_ok c.walk-2.result _ _ _ _
    (c.walk-2.ensures.filled ∙ ap (λ (r : Result Model FileFault). filled r L.states.now L.choices.now L.branches.now) v.1) in
    record {
      answer = all.0 ∙ sym (ap answered out);
      states = search rules ∙ after_front model_states out (ap (λ (t : Tally). t.states) same) has.0 all.1;
      choices = search rules ∙ after_front model_choices out (ap (λ (t : Tally). t.choices) same) has.1 all.2;
      branches = search rules ∙ after_front model_branches out (ap (λ (t : Tally). t.branches) same) has.2 all.3;
      law = file_law file (λ i. (c.type_inv.file i).fits);
    }
