use Rattle.std.proofs.Common.{◌≡◌, ℕ, ◌≤◌, false, leb, List, length, None, Ok, Err, Option, Result, sym, refl, ap, ◌∙◌, subst, arith}
use Rattle.std.proofs.lemmas.Result.{err_from_is_err_and}
use Rattle.std.proofs.lemmas.Bool.{leb-true}
use Rattle.std.specs.Option.{option_map}
use Rattle.modelfile.specs.Records.{Fields, fields_of}
use Rattle.modelfile.specs.Steps.{Cursor, standing, step, cursor_of}
use Rattle.modelfile.specs.Filling.{Tally, tally, tallied, tally_of, counted}
use Rattle.modelfile.specs.declared.fault.FileFault.{FileFault}
use Rattle.modelfile.specs.declared.fault.FileFault.TheVariants.{TooLong}
use Rattle.modelfile.specs.declared.loaded.Loaded.{Loaded}
use Rattle.modelfile.specs.declared.record.Record.{Record}
use Rattle.modelfile.proofs.Fields.{ok_same}
use Rattle.modelfile.proofs.Inverse.{test_inv}
use Rattle.modelfile.proofs.Walk.{finish, finish_some, finish_none}
use Rattle.modelfile.proofs.WalkEnds.{finish_err, finish_start, step_moves, Under, under_more, item_step}
use Rattle.modelfile.proofs.lists.walk.Goals as goal

pub loop-item-init : goal.loop-item-init
loop-item-init c =
    let file : List ℕ = c.args.file.now in
    let S = c.args.lists.now.states.now in
    let C = c.args.lists.now.choices.now in
    let B = c.args.lists.now.branches.now in
    let t = test_inv (leb (length file) 65536) (Ok (standing false 0 0 0)) TooLong (sym c.in_ok-reader.ensures.place) in
    let place : cursor_of c.in_ok-reader.reader ≡ standing false 0 0 0 = sym (ok_same t.1) in
    let zero : (cursor_of c.in_ok-reader.reader).at ≡ 0 = ap (λ (x : Cursor). x.at) place in
    let most : length file ≤ 65536 = leb-true (length file) 65536 t.0 in
    let states = ap (λ (u : Loaded). u.states) c.requires in
    let choices = ap (λ (u : Loaded). u.choices) c.requires in
    let branches = ap (λ (u : Loaded). u.branches) c.requires in (
      c.in_ok-reader.ensures.held,
      ap (λ (x : Cursor). finish file x (tally_of c.args.lists.now)) place
          ∙ ap (λ (u : Loaded). finish file (standing false 0 0 0) (tally u S C B)) c.requires
          ∙ finish_start file S C B most,
      (omega arith, omega arith, omega arith),
      omega arith,
      most,
      (refl, refl, refl),
    )

pub returns-in_err-item-clause-filled : goal.returns-in_err-item-clause-filled
returns-in_err-item-clause-filled c =
    let file : List ℕ = c.args.file.now in
    let at : Cursor = cursor_of c.loop-item.reader in
    let t : Tally = tally_of c.loop-item.lists in
    let e : FileFault = c.in_err-item.field-0.0 in
    let p = err_from_is_err_and c.from_residual-in_err-item.result c.from_residual-in_err-item.ensures.1 in
    let failed : step file at ≡ Err e = ap (λ (f : List ℕ). step f at) (sym c.loop-item.invariant.0) ∙ sym c.in_err-item.ensures.step in
    ap (λ (r : Result Loaded FileFault). tallied r c.loop-item.lists.states.now c.loop-item.lists.choices.now c.loop-item.lists.branches.now) p.1
    ∙ ap Err p.2
    ∙ sym (finish_err file t at e failed)
    ∙ c.loop-item.invariant.1

pub place-requires : goal.place-requires
place-requires c =
    let file : List ℕ = c.args.file.now in
    let at : Cursor = cursor_of c.loop-item.reader in
    let next : Cursor = cursor_of c.next.new.self in
    let here = item_step file c.loop-item.reader.cursor.file.now at next c.in_ok-item.field-0 c.in-Some.item c.loop-item.invariant.0 c.in_ok-item.ensures.step c.in-Some.is in
    let moved = step_moves file (λ i. (c.type_inv.file i).fits) at next (fields_of c.in-Some.item) here in
    (omega arith, omega arith, omega arith, omega arith)

pub loop-item-smaller : goal.loop-item-smaller
loop-item-smaller c =
    let file : List ℕ = c.args.file.now in
    let at : Cursor = cursor_of c.loop-item.reader in
    let next : Cursor = cursor_of c.next.new.self in
    let here = item_step file c.loop-item.reader.cursor.file.now at next c.in_ok-item.field-0 c.in-Some.item c.loop-item.invariant.0 c.in_ok-item.ensures.step c.in-Some.is in
    let moved = step_moves file (λ i. (c.type_inv.file i).fits) at next (fields_of c.in-Some.item) here in
    omega arith

pub loop-item-preserved : goal.loop-item-preserved
loop-item-preserved c =
    let file : List ℕ = c.args.file.now in
    let at : Cursor = cursor_of c.loop-item.reader in
    let next : Cursor = cursor_of c.next.new.self in
    let f : Fields = fields_of c.in-Some.item in
    let t : Tally = tally_of c.loop-item.lists in
    let here = item_step file c.loop-item.reader.cursor.file.now at next c.in_ok-item.field-0 c.in-Some.item c.loop-item.invariant.0 c.in_ok-item.ensures.step c.in-Some.is in
    let moved = step_moves file (λ i. (c.type_inv.file i).fits) at next f here in
    let under : Under (counted c.loop-item.lists.used f) next.at =
    under_more c.loop-item.lists.used at.at f next.at c.loop-item.invariant.2 moved.0 moved.2 in
    let same = c.place.ensures.same in
    let before = c.loop-item.invariant.5 in (
      c.in_ok-item.ensures.file ∙ c.loop-item.invariant.0,
      ap (finish file next) c.place.ensures.lists ∙ sym (finish_some file t at next f here) ∙ c.loop-item.invariant.1,
      subst (λ (x : Loaded). Under x next.at) (sym (ap (λ (t : Tally). t.counts) c.place.ensures.lists)) under,
      moved.1,
      c.loop-item.invariant.4,
      (same.0 ∙ before.0, same.1 ∙ before.1, same.2 ∙ before.2),
    )

pub returns-clause-filled : goal.returns-clause-filled
returns-clause-filled c =
    let file : List ℕ = c.args.file.now in
    let at : Cursor = cursor_of c.loop-item.reader in
    let next : Cursor = cursor_of c.next.new.self in
    let t : Tally = tally_of c.loop-item.lists in
    let ended : step file at ≡ Ok (None, next) =
    ap (λ (f : List ℕ). step f at) (sym c.loop-item.invariant.0) ∙ sym c.in_ok-item.ensures.step
    ∙ ap (λ (o : Option Record). Ok (option_map fields_of o, next)) c.in_default.is in
    sym (finish_none file t at next ended) ∙ c.loop-item.invariant.1
