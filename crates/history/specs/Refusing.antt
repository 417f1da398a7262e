-- When a call is refused and with what number, what a refusal leaves, and what an accepted load forgets.
use Rattle.std.specs.Prelude.{◌≡◌, ℕ, ◌<◌, ◌≤◌, ◌⊎◌, List, [], ◌∷◌, ◌++◌, length, Some, None}
use Rattle.table.specs.Table.{Table}
use Rattle.table.specs.Limits.{StatesWithin, DenominatorWithin, ChoicesWithin, RewardWithin, BranchesWithin, SuccessorWithin, WeightPresent, SuccessorNew, WeightsComplete}
use Rattle.table.specs.Faults.{noted, notice_of}
use Rattle.table.specs.Walk.{fault_of}
use Rattle.table.specs.Law.{WalkLaw}
use Rattle.table.specs.declared.fault.Fault.{Fault}
use Rattle.table.specs.declared.fault.Notice.{Notice}
use Rattle.components.specs.Nodes.{components}
use Rattle.rules.specs.Book.{Book}
use Rattle.history.specs.Calls.{State, idle, loaded, Call, load, standing, refines, sweeping, close, quote, plan, fresh, opened, next, run}
use Rattle.history.specs.Answers.{refused, done, answer, answers}
use Rattle.history.specs.Refusals.{refusal_notice}
use Rattle.history.specs.declared.refusal.Refusal.{Refusal}

-- the limit of a table that is broken, by its number and place: state, choice and branch, 0 where the limit has none
pub data Breaks (T : Table) : Notice → Type 0 where
  states : ¬ StatesWithin T → Breaks T (noted 11 0 0 0)
  denominator : ¬ DenominatorWithin T → Breaks T (noted 12 0 0 0)
  choices : (s : ℕ) → ¬ ChoicesWithin T s → Breaks T (noted 13 s 0 0)
  reward : (s c : ℕ) → ¬ RewardWithin T s c → Breaks T (noted 14 s c 0)
  branches : (s c : ℕ) → ¬ BranchesWithin T s c → Breaks T (noted 15 s c 0)
  successor : (s c b : ℕ) → ¬ SuccessorWithin T s c b → Breaks T (noted 16 s c b)
  weight : (s c b : ℕ) → ¬ WeightPresent T s c b → Breaks T (noted 17 s c b)
  repeated : (s c b : ℕ) → ¬ SuccessorNew T s c b → Breaks T (noted 18 s c b)
  sum : (s c : ℕ) → ¬ WeightsComplete T s c → Breaks T (noted 19 s c 0)

-- the calls that need a table
abbrev pub NeedsTable : Call → Type 0
NeedsTable (load T) = ⊥
NeedsTable standing = ⊥
NeedsTable (refines k n width) = Unit {0}
NeedsTable (sweeping n) = Unit {0}
NeedsTable close = Unit {0}
NeedsTable (quote s width) = Unit {0}
NeedsTable (plan list) = Unit {0}

-- a count outside 1 to 1,000
abbrev pub Miscounted : ℕ → Type 0
Miscounted n = (n < 1) ⊎ (1000 < n)

-- why a call is refused, and the number of that refusal with its place in the table
pub data Reason : State → Call → Notice → Type 0 where
  -- the table breaks a limit: the first on its walk
  broken : {S : State} {T : Table} {e : Fault} → fault_of T ≡ Some e → Reason S (load T) (notice_of e)
  -- the engine is idle, and the call needs a table
  needed : {e : Fault} {c : Call} → NeedsTable c → Reason (idle e) c (noted 21 0 0 0)
  no_component : {T : Table} {B : Book} {k n width : ℕ} → components T ≤ k → Reason (loaded T B) (refines k n width) (noted 22 0 0 0)
  no_state : {T : Table} {B : Book} {s width : ℕ} → T.states ≤ s → Reason (loaded T B) (quote s width) (noted 23 0 0 0)
  -- the component is looked at first
  bad_steps : {T : Table} {B : Book} {k n width : ℕ} → k < components T → Miscounted n → Reason (loaded T B) (refines k n width) (noted 24 0 0 0)
  bad_sweeps : {T : Table} {B : Book} {n : ℕ} → Miscounted n → Reason (loaded T B) (sweeping n) (noted 24 0 0 0)
  no_room : {T : Table} {B : Book} {list : List ℕ} → length list < T.states → Reason (loaded T B) (plan list) (noted 25 0 0 0)

-- the call is refused with this number and place
pub record RefusedWith (S : State) (c : Call) (n : Notice) : Type 0 where
  pub refusal : Refusal
  pub answers : answer S c ≡ refused refusal
  pub numbered : refusal_notice refusal ≡ n

-- the engine is as if T had just been opened: it holds the same, and every list of calls answers and leads as after that open
pub record AsOpened (S : State) (T : Table) : Type 0 where
  pub holds : S ≡ opened T
  pub answers : (later : List Call) → answers S later ≡ answers (opened T) later
  pub leads : (later : List Call) → run S later ≡ run (opened T) later

pub record RefusalLaw : Type 0 where
  -- a refused call has a reason, whose number and place its refusal has
  pub reasoned : (S : State) (c : Call) (e : Refusal) → answer S c ≡ refused e → Reason S c (refusal_notice e)
  -- a call with a reason is refused with that number and place
  pub refuses : (S : State) (c : Call) (n : Notice) → Reason S c n → RefusedWith S c n
  -- a fault has the number and place of a limit that the table breaks, and it is the first on the walk
  pub numbers : (T : Table) (e : Fault) → fault_of T ≡ Some e → Breaks T (notice_of e)
  pub walks : (T : Table) → WalkLaw T
  -- a refused call changes nothing
  pub unchanged : (S : State) (c : Call) (e : Refusal) → answer S c ≡ refused e → next S c ≡ S
  -- a close gives the start of the table that is loaded
  pub closes : (T : Table) (B : Book) → next (loaded T B) close ≡ fresh T
  -- where that table keeps all limits, this is what an open of it gives
  pub reopens : (T : Table) (B : Book) → fault_of T ≡ None → next (loaded T B) close ≡ opened T
  -- after an accepted load nothing depends on what the engine held before: it is as if just opened
  pub forgets : (S : State) (calls : List Call) (T : Table) → fault_of T ≡ None → run S (calls ++ (load T ∷ [])) ≡ opened T
  -- An old fault leaves no trace. An engine is opened on any table and any calls follow, refines among them; then a load is refused,
  -- of whatever table; then a load of T is accepted: the engine is as if T had just been opened.
  pub old_fault : (first faulty T : Table) (calls : List Call) (e : Refusal)
      → answer (run (opened first) calls) (load faulty) ≡ refused e
      → answer (run (opened first) (calls ++ (load faulty ∷ []))) (load T) ≡ done
      → AsOpened (run (opened first) (calls ++ (load faulty ∷ load T ∷ []))) T
