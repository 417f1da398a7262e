-- From the lists that a load fills to the table of the model.
use Rattle.std.proofs.Common.{◌≡◌, ℕ, List, length, take, drop, Ok, Err, Result, sym, refl, ap, ◌∙◌, arith}
use Rattle.std.proofs.lemmas.List.{take_at}
use Rattle.sources.specs.Rows.{list_table}
use Rattle.sources.specs.declared.list.List.{List as Rows}
use Rattle.sources.specs.declared.list.StateRow.{StateRow}
use Rattle.sources.specs.declared.list.ChoiceRow.{ChoiceRow}
use Rattle.modelfile.specs.File.{Model}
use Rattle.modelfile.specs.Lists.{denominator_of, model_states, model_choices, model_branches, loaded_of, answered, after_call}
use Rattle.modelfile.specs.declared.fault.FileFault.{FileFault}
use Rattle.modelfile.specs.declared.loaded.Loaded.{Loaded}
use Rattle.quoting.specs.Models.{table_read, table_in}

-- a load that was accepted is of a model
pub accepted : (o : Result Model FileFault) (u : Loaded) → ◌≡◌ {A = Result Loaded FileFault} (Ok u) (answered o) → (m : Model) × (o ≡ Ok m) × (u ≡ loaded_of m)
accepted (Ok m) u e = (m, refl, cc)
accepted (Err f) u e = let z : ◌≡◌ {A = ℕ} 0 1 = cc in absurd (omega arith)

pub refused : (o : Result Model FileFault) (f : FileFault) → ◌≡◌ {A = Result Loaded FileFault} (Err f) (answered o) → o ≡ Err f
refused (Ok m) f e = let z : ◌≡◌ {A = ℕ} 0 1 = cc in absurd (omega arith)
refused (Err g) f e = cc

-- its rows stand at the front of the list
pub front : {X : Type 0} (rows : Model → List X) (o : Result Model FileFault) (m : Model) (list after : List X) (n : ℕ)
    → o ≡ Ok m → after ≡ after_call o rows list → n ≡ length (rows m) → take n after ≡ rows m
front rows o m list after n h e k =
    ap (λ (l : List _). take n l) (e ∙ ap (λ (r : Result Model FileFault). after_call r rows list) h) ∙ take_at (rows m) (drop (length (rows m)) list) n (sym k)

-- and so the list has a place for each
pub fitting : {X : Type 0} (rows : Model → List X) (o : Result Model FileFault) (m : Model) (list after : List X) (n : ℕ)
    → o ≡ Ok m → after ≡ after_call o rows list → n ≡ length (rows m) → n ≡ length (take n after)
fitting rows o m list after n h e k = k ∙ sym (ap length (front rows o m list after n h e k))

-- a source over the rows has the table of the model
pub same_table : (l : Rows) (m : Model) (o : Result Model FileFault) → o ≡ Ok m → l.denominator ≡ denominator_of m
    → l.states.now ≡ model_states m → l.choices.now ≡ model_choices m → l.branches.now ≡ model_branches m → table_in (Ok l) ≡ table_read o
same_table l m o h d s c b =
    ap (λ (W : ℕ). Ok (list_table W l.states.now l.choices.now l.branches.now)) d
    ∙ ap (λ (S : List StateRow). Ok (list_table (denominator_of m) S l.choices.now l.branches.now)) s
    ∙ ap (λ (C : List ChoiceRow). Ok (list_table (denominator_of m) (model_states m) C l.branches.now)) c
    ∙ ap (λ (B : List (ℕ × ℕ)). Ok (list_table (denominator_of m) (model_states m) (model_choices m) B)) b
    ∙ sym (ap table_read h)
