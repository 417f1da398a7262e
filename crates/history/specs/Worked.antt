-- Worked histories: each is an open, then calls with the answer expected of each, which follow from the definitions by computation.
use Rattle.std.specs.Prelude.{◌≡◌, ℕ, true, false, List, [], ◌∷◌, map, pos, neg_ℤ, Some, None, Option, MatchOption}
use Rattle.std.specs.List.{AllByRecursion}
use Rattle.table.specs.Table.{Table}
use Rattle.table.specs.declared.fault.Fault.{Fault}
use Rattle.table.specs.declared.fault.Fault.TheVariants.{States, Denominator, Choices, Reward, Branches, Successor, Weight, Repeated, Sum}
use Rattle.components.specs.Law.{Lone}
use Rattle.components.specs.Worked.{WorkedParts, parts_of}
use Rattle.history.specs.Calls.{Call, load, standing, refines, sweeping, close, quote, plan, opened}
use Rattle.history.specs.Answers.{Answer, refused, done, stands, unopened, refined, swept, quoted, planned, answers}
use Rattle.history.specs.Models.{model_a, model_b, model_c, model_d, model_e, model_f, no_states, coarse, no_choices, dear, no_branches, astray, weightless, twice, light}
use Rattle.history.specs.declared.refusal.Refusal.TheVariants as refusal

-- a table that is opened, and the calls after that, each with its answer; beside that, where the case tells of it,
-- what the table is taken apart into, and which of its states are lone
pub record Case : Type 0 where
  pub table : Table
  pub parts : Option WorkedParts
  pub lone : List ℕ
  pub calls : List (Call × Answer)

abbrev pub asked : Case → List Call
asked c = map (λ (p : Call × Answer). p.0) c.calls

abbrev pub expected : Case → List Answer
expected c = map (λ (p : Call × Answer). p.1) c.calls

-- the parts are as told, the states told are lone, and the calls answer as expected
abbrev pub Works : Case → Type 0
Works c =
    MatchOption c.parts (Unit {0}) (λ p. parts_of c.table ≡ p)
    × AllByRecursion (Lone c.table) c.lone
    × (answers (opened c.table) (asked c) ≡ expected c)

-- a case that tells of the calls alone
abbrev pub history_of : Table → List (Call × Answer) → Case
history_of T calls = record { table = T; parts = None; lone = []; calls = calls }

-- the open is refused with this fault: standing answers it, and every call that needs a table is refused with 21
abbrev pub turned_away : Table → Fault → Case
turned_away T e =
    history_of T
    ((standing, unopened e)
    ∷ (refines 0 1 0, refused refusal.Idle)
    ∷ (refines 9 0 0, refused refusal.Idle)
    ∷ (sweeping 1, refused refusal.Idle)
    ∷ (close, refused refusal.Idle)
    ∷ (quote 0 0, refused refusal.Idle)
    ∷ (plan (7 ∷ []), refused refusal.Idle)
    ∷ (load T, refused (refusal.Table e))
    ∷ (standing, unopened e)
    ∷ [])

abbrev pub worked_cases : List Case
worked_cases =
    -- A: right after the open
    record {
      table = model_a;
      parts = Some (record { inside = (true ∷ []) ∷ []; node = 0 ∷ []; component = Some 0 ∷ []; depth = 0 ∷ [] });
      lone = [];
      calls = (standing, stands 1 1) ∷ (quote 0 0, quoted (pos 3145728) (pos 3145728) 1) ∷ [];
    }
    -- B: one step
    ∷ record {
      table = model_b;
      parts = Some (record { inside = (true ∷ []) ∷ (true ∷ []) ∷ []; node = 0 ∷ 0 ∷ []; component = Some 0 ∷ []; depth = 0 ∷ [] });
      lone = [];
      calls = (refines 0 1 0, refined 1 (pos 0) (pos 10485760)) ∷ [];
    }
    -- B: of ten steps asked two are made
    ∷ history_of model_b ((refines 0 10 0, refined 2 (pos 5242880) (pos 5242880)) ∷ [])
    -- C: one step each; of ten sweeps asked four are made
    ∷ record {
      table = model_c;
      parts = None;
      lone = 0 ∷ [];
      calls =
          (standing, stands 3 2)
          ∷ (refines 0 1 0, refined 1 (pos 8388608) (pos 8388608))
          ∷ (refines 1 1 0, refined 1 (neg_ℤ (pos 4194304)) (neg_ℤ (pos 4194304)))
          ∷ (sweeping 10, swept 4)
          ∷ (quote 0 0, quoted (neg_ℤ (pos 1048576)) (neg_ℤ (pos 1048576)) 1)
          ∷ [];
    }
    -- D: a third, rounded to both sides; the mark tells whether it is as narrow as the width
    ∷ record {
      table = model_d (pos 1);
      parts = None;
      lone = 0 ∷ [];
      calls =
          (refines 0 1 0, refined 1 (pos 1048576) (pos 1048576))
          ∷ (refines 1 1 0, refined 1 (pos 0) (pos 0))
          ∷ (sweeping 2, swept 2)
          ∷ (quote 0 0, quoted (pos 349525) (pos 349526) 0)
          ∷ (quote 0 1, quoted (pos 349525) (pos 349526) 1)
          ∷ [];
    }
    -- D with -1 for 1: the same below 0
    ∷ history_of (model_d (neg_ℤ (pos 1)))
    ((refines 0 1 0, refined 1 (neg_ℤ (pos 1048576)) (neg_ℤ (pos 1048576)))
    ∷ (refines 1 1 0, refined 1 (pos 0) (pos 0))
    ∷ (sweeping 2, swept 2)
    ∷ (quote 0 0, quoted (neg_ℤ (pos 349526)) (neg_ℤ (pos 349525)) 0)
    ∷ (quote 0 1, quoted (neg_ℤ (pos 349526)) (neg_ℤ (pos 349525)) 1)
    ∷ [])
    -- E: of 1,000 sweeps asked 25 are made; the plan leaves the cycle from state 1, and the rest of the list is left
    ∷ record {
      table = model_e;
      parts =
          Some (record {
            inside = (true ∷ []) ∷ (true ∷ false ∷ []) ∷ (true ∷ []) ∷ [];
            node = 0 ∷ 0 ∷ 1 ∷ [];
            component = Some 0 ∷ Some 1 ∷ [];
            depth = 1 ∷ 0 ∷ [];
          });
      lone = [];
      calls =
          (refines 0 1 0, refined 1 (pos 0) (pos 0))
          ∷ (refines 1 1 0, refined 1 (pos 6291456) (pos 6291456))
          ∷ (sweeping 1000, swept 25)
          ∷ (quote 0 0, quoted (pos 6291455) (pos 6291456) 0)
          ∷ (plan (9 ∷ 8 ∷ 7 ∷ 6 ∷ []), planned (0 ∷ 1 ∷ 0 ∷ 6 ∷ []))
          ∷ [];
    }
    -- F: state 0 is lone, so there is one component
    ∷ record {
      table = model_f;
      parts = Some (record { inside = (false ∷ []) ∷ (true ∷ []) ∷ []; node = 0 ∷ 1 ∷ []; component = None ∷ Some 0 ∷ []; depth = 1 ∷ 0 ∷ [] });
      lone = 0 ∷ [];
      calls = (standing, stands 2 1) ∷ [];
    }
    -- opens that are refused, with 11 to 19
    ∷ turned_away no_states States
    ∷ turned_away coarse Denominator
    ∷ turned_away no_choices (Choices 1)
    ∷ turned_away dear (Reward 1 0)
    ∷ turned_away no_branches (Branches 1 1)
    ∷ turned_away astray (Successor 1 0 1)
    ∷ turned_away weightless (Weight 1 0 1)
    ∷ turned_away twice (Repeated 1 0 1)
    ∷ turned_away light (Sum 1 1)
    -- an open that is refused, a load that is refused too, and one that is accepted: the engine is no longer idle
    ∷ history_of no_states
    ((load light, refused (refusal.Table (Sum 1 1)))
    ∷ (standing, unopened States)
    ∷ (load model_a, done)
    ∷ (standing, stands 1 1)
    ∷ (quote 0 0, quoted (pos 3145728) (pos 3145728) 1)
    ∷ [])
    -- a load that is refused with 19 at state 1, choice 1: the quote after it is as before
    ∷ history_of model_b
    ((refines 0 10 0, refined 2 (pos 5242880) (pos 5242880))
    ∷ (sweeping 1, swept 1)
    ∷ (quote 0 0, quoted (pos 5242880) (pos 5242880) 1)
    ∷ (load light, refused (refusal.Table (Sum 1 1)))
    ∷ (quote 0 0, quoted (pos 5242880) (pos 5242880) 1)
    ∷ [])
    -- the same, and then a load that is accepted: nothing of B is left
    ∷ history_of model_b
    ((refines 0 10 0, refined 2 (pos 5242880) (pos 5242880))
    ∷ (load light, refused (refusal.Table (Sum 1 1)))
    ∷ (load model_a, done)
    ∷ (standing, stands 1 1)
    ∷ (quote 0 0, quoted (pos 3145728) (pos 3145728) 1)
    ∷ (quote 1 0, refused refusal.State)
    ∷ [])
    -- a close: B is at its start again
    ∷ history_of model_b
    ((refines 0 10 0, refined 2 (pos 5242880) (pos 5242880))
    ∷ (sweeping 1, swept 1)
    ∷ (close, done)
    ∷ (standing, stands 2 1)
    ∷ (quote 0 0, quoted (pos 0) (pos 10485760) 0)
    ∷ (refines 0 1 0, refined 1 (pos 0) (pos 10485760))
    ∷ [])
    -- calls that are refused with 22, 22, 24, 24, 24, 23 and 25, in this order
    ∷ history_of model_c
    ((refines 2 1 0, refused refusal.Component)
    ∷ (refines 2 0 0, refused refusal.Component)
    ∷ (refines 0 0 0, refused refusal.Count)
    ∷ (refines 1 1001 0, refused refusal.Count)
    ∷ (sweeping 1001, refused refusal.Count)
    ∷ (quote 3 0, refused refusal.State)
    ∷ (plan (0 ∷ 0 ∷ []), refused refusal.Room)
    ∷ (standing, stands 3 2)
    ∷ [])
    ∷ []

-- all of them
unfoldable pub Worked : Type 0
Worked = AllByRecursion Works worked_cases
