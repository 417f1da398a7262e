-- The start of a run.
use Rattle.std.proofs.Common.{◌≡◌, ℕ, List, [], ◌∷◌, ◌++◌, IfSome, Some, None, Ok, Err, Option, Result, sym, refl, ap, ◌∙◌, append-nil, arith}
use Rattle.std.specs.Option.{option_map}
use Rattle.table.specs.Table.{Table}
use Rattle.table.specs.declared.fault.Fault.{Fault}
use Rattle.modelfile.specs.Lists.{outcome}
use Rattle.modelfile.specs.declared.fault.FileFault.{FileFault}
use Rattle.history.specs.Calls.{State, idle, loaded, standing, opened}
use Rattle.history.specs.Answers.{stands, unopened, answer, answer_idle, answer_loaded}
use Rattle.console.specs.Inputs.{lines_of}
use Rattle.quoting.specs.Refused.{refused_file}
use Rattle.quoting.specs.Models.{table_read}
use Rattle.quoting.specs.Runs.{begins, begins_with, start, replies, goes_on, transcript, bytes_of}
use Rattle.quoting.specs.Consoles.{held, Opened}
use Rattle.quoting.specs.declared.session.Console.{Console}

never : {A : Type 0} → ◌≡◌ {A = ℕ} 0 1 → A
never e = absurd (omega arith)

-- a refused model ends the run, and else it goes on
pub ends : (S : State) (e : Fault) → unopened e ≡ answer S standing → ◌≡◌ {A = Option State} None (begins S).1
unfolding answer answer_idle answer_loaded
ends (idle f) e h = refl
ends (loaded T B) e h = never (cc)

pub goes : (S : State) (a : ℕ × ℕ) → stands a.0 a.1 ≡ answer S standing → Some S ≡ (begins S).1
unfolding answer answer_idle answer_loaded
goes (idle e) a h = never (cc)
goes (loaded T B) a h = refl

-- the lists have a place for 256 states, 1,024 choices and 4,096 branches
pub sized : (file : List ℕ) (states choices branches : ℕ) (o : Result Table FileFault) → states ≡ 256 → choices ≡ 1024 → branches ≡ 4096
    → o ≡ table_read (outcome file states choices branches) → o ≡ table_read (outcome file 256 1024 4096)
sized file states choices branches o s c b h =
    h ∙ ap (λ (n : ℕ). table_read (outcome file n choices branches)) s ∙ ap (λ (n : ℕ). table_read (outcome file 256 n branches)) c
    ∙ ap (λ (n : ℕ). table_read (outcome file 256 1024 n)) b

-- an engine on the table of the file
pub begun : (file : List ℕ) (S : State) (T : Table) → Ok T ≡ table_read (outcome file 256 1024 4096) → S ≡ opened T → begins S ≡ start file
unfolding start
begun file S T h e = ap begins e ∙ ap (λ (o : Result Table FileFault). begins_with o) h

-- a file that is refused
pub unbegun : (file : List ℕ) (e : FileFault) → Err e ≡ table_read (outcome file 256 1024 4096) → (refused_file e, None) ≡ start file
unfolding start
unbegun file e h = ap (λ (o : Result Table FileFault). begins_with o) h

pub opened_made : (file line : List ℕ) (console : Option Console) (S : State) → begins S ≡ start file
    → line ≡ (begins S).0 → option_map held console ≡ (begins S).1 → IfSome console (λ c. c.lines ≡ 0) → Opened file line console
opened_made file line console S e l h n = record {
  line = l ∙ ap (λ (x : List ℕ × Option State). x.0) e;
  engine = h ∙ ap (λ (x : List ℕ × Option State). x.1) e;
  count = n;
}

-- the whole text of a run that goes on, and of one that ends after its first line
module _ (file input first text : List ℕ) (console : Option Console) (o : Opened file first console) where
  line_is : (x : Option State) → (first ++ (10 ∷ [])) ++ bytes_of (goes_on x input) ≡ ((start file).0 ++ (10 ∷ [])) ++ bytes_of (goes_on x input)
  line_is x = ap (λ (bs : List ℕ). (bs ++ (10 ∷ [])) ++ bytes_of (goes_on x input)) o.line

  pub going : (k : Console) → console ≡ Some k → text ≡ (first ++ (10 ∷ [])) ++ bytes_of (replies 1 (held k) (lines_of input)) → text ≡ bytes_of (transcript file input)
  going k e h =
      let holds : Some (held k) ≡ (start file).1 = ap (option_map held) (sym e) ∙ o.engine in
      h ∙ line_is (Some (held k)) ∙ ap (λ (x : Option State). ((start file).0 ++ (10 ∷ [])) ++ bytes_of (goes_on x input)) holds

  pub ended : console ≡ None → text ≡ first ++ (10 ∷ []) → text ≡ bytes_of (transcript file input)
  ended e h =
      let holds : None ≡ (start file).1 = ap (option_map held) (sym e) ∙ o.engine in
      h ∙ sym (append-nil (first ++ (10 ∷ []))) ∙ line_is None ∙ ap (λ (x : Option State). ((start file).0 ++ (10 ∷ [])) ++ bytes_of (goes_on x input)) holds
