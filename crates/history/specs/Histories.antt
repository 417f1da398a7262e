-- The law over whole histories: what holds after the open and after every call, whatever the calls were.
use Rattle.std.specs.Prelude.{◌≡◌, ℕ, ◌^◌, ◌<◌, List, [], ℤ, pos, ◌+ℤ◌, ◌-ℤ◌, ◌*ℤ◌, ◌≤ℤ◌, slice_index}
use Rattle.table.specs.Table.{Table}
use Rattle.table.specs.Limits.{Lawful}
use Rattle.horizon.specs.Strategies.{Strategy, Names, PlanNames, follow, scaled_reward}
use Rattle.components.specs.Nodes.{components}
use Rattle.rules.specs.Choosing.{at_z}
use Rattle.rules.specs.Setting.{scale_in_use, setting_of}
use Rattle.rules.specs.Promises.{excess}
use Rattle.history.specs.Calls.{State, idle, loaded, Call, quote, plan, opened, run, Quiet}
use Rattle.history.specs.Answers.{quoted, planned, answer}

-- the engine holds the table T
abbrev pub Holds : State → Table → Type 0
Holds (idle e) T = ⊥
Holds (loaded T' B) T = T' ≡ T

-- lo and hi of a component, which a refine answers
abbrev pub lo_of : State → ℕ → ℤ
lo_of (idle e) k = pos 0
lo_of (loaded T B) k = at_z B.lo k

abbrev pub hi_of : State → ℕ → ℤ
hi_of (idle e) k = pos 0
hi_of (loaded T B) k = at_z B.hi k

-- No strategy over any horizon beats the upper bound by more than C: F × V ≤ W^N × (N × U + C),
-- where U is what a quote would answer, and F and C are those of the rules.
abbrev pub UpperPromise : State → Table → Type 0
UpperPromise S T =
    (σ : Strategy) → Names T σ → (N s width : ℕ) → s < T.states
    → (L U : ℤ) (mark : ℕ) → answer S (quote s width) ≡ quoted L U mark
    → (pos scale_in_use *ℤ scaled_reward T σ N s []) ≤ℤ (pos (T.denominator ^ N) *ℤ ((pos N *ℤ U) +ℤ pos (excess (setting_of T))))

-- The plan earns at least the lower bound less C over every horizon: W^N × (N × L - C) ≤ F × V,
-- where the plan is what would be written, and L what a quote would answer. It names an existing choice of each state.
pub record LowerPromise (S : State) (T : Table) (plays : ℕ → ℕ) : Type 0 where
  pub names : PlanNames T plays
  pub earns : (N s width : ℕ) → s < T.states
      → (L U : ℤ) (mark : ℕ) → answer S (quote s width) ≡ quoted L U mark
      → (pos (T.denominator ^ N) *ℤ ((pos N *ℤ L) -ℤ pos (excess (setting_of T)))) ≤ℤ (pos scale_in_use *ℤ scaled_reward T (follow plays) N s [])

-- What the engine would answer now, of the table that it holds, if any:
pub record BoundsHold (S : State) : Type 0 where
  -- that table keeps all limits
  pub lawful : (T : Table) → Holds S T → Lawful T
  -- no strategy beats the upper bound by more than C
  pub upper : (T : Table) → Holds S T → UpperPromise S T
  -- the plan of this moment earns the lower bound less C
  pub lower : (T : Table) → Holds S T → (list written : List ℕ) → answer S (plan list) ≡ planned written
      → LowerPromise S T (λ s. slice_index written s)

-- No upper bound rises and no lower bound falls from R to S, of a state or of a component.
pub record Tighter (R S : State) (T : Table) : Type 0 where
  pub states : (s v w : ℕ) → s < T.states
      → (L U L' U' : ℤ) (mark mark' : ℕ) → answer R (quote s v) ≡ quoted L U mark → answer S (quote s w) ≡ quoted L' U' mark'
      → (L ≤ℤ L') × (U' ≤ℤ U)
  pub components : (k : ℕ) → k < components T → (lo_of R k ≤ℤ lo_of S k) × (hi_of S k ≤ℤ hi_of R k)

-- from R to S the table stays and bounds only tighten
pub record Onward (R S : State) : Type 0 where
  pub table : (T : Table) → Holds R T → Holds S T
  pub tighter : (T : Table) → Holds R T → Tighter R S T

-- After an open, accepted or refused, and any list of calls, loads with any tables and refused calls among them:
pub record HistoryLaw (opening : Table) : Type 0 where
  -- bounds and plan hold
  pub holds : (calls : List Call) → BoundsHold (run (opened opening) calls)
  -- and until the next accepted load or close bounds only tighten
  pub tightens : (calls later : List Call) → Quiet (run (opened opening) calls) later
      → Onward (run (opened opening) calls) (run (run (opened opening) calls) later)
