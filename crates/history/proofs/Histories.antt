-- The law over whole histories: every engine holds a sound book of a lawful table, or nothing.
use Rattle.std.proofs.Common.{◌≡◌, ℕ, zero, suc, ◌^◌, ◌<◌, Bool, true, false, cond, ◌&&◌, ltb, leb, List, [], ◌∷◌, ◌++◌, length, get_or, drop, ℤ, pos, ◌+ℤ◌, ◌-ℤ◌, ◌*ℤ◌, ◌≤ℤ◌, Some, None, Option, sym, refl, ap, ◌∙◌, subst, inl, inr, arith}
use Rattle.std.proofs.lemmas.List.FromFn.{length-map-range_with_len, get_or-map-range_with_len}
use Rattle.std.proofs.lemmas.List.{get_or_append_left}
use Rattle.std.proofs.lemmas.Bool.{and_parts, cases_Bool, cond-true, cond-false, ltb-true, lt-ltb}
use Rattle.table.specs.Table.{Table, successor, weight}
use Rattle.table.specs.Limits.{Lawful}
use Rattle.table.specs.Walk.{fault_of}
use Rattle.table.specs.declared.fault.Fault.{Fault}
use Rattle.table.proofs.WalkLaw.{walk_law}
use Rattle.horizon.specs.Sums.{branch_sum_z}
use Rattle.horizon.specs.Strategies.{Plan, follow, scaled_reward}
use Rattle.horizon.specs.Ring.{le_trans, le_same}
use Rattle.horizon.specs.SumsLemmas.{weighted_z_cong}
use Rattle.components.specs.Nodes.{components}
use Rattle.rules.specs.Setting.{Setting, scale_in_use, setting_of}
use Rattle.rules.specs.Book.{Book}
use Rattle.rules.specs.Refine.{refine}
use Rattle.rules.specs.Choosing.{tabulate}
use Rattle.rules.specs.Sweep.{sweeps}
use Rattle.rules.specs.Play.{play}
use Rattle.rules.specs.Promises.{upper_at, lower_at, excess}
use Rattle.rules.specs.Sound.{Sound}
use Rattle.rules.proofs.Promises.{every_sound}
use Rattle.rules.specs.Promises as rules
use Rattle.history.specs.Calls.{State, idle, loaded, Call, load, standing, refines, sweeping, close, quote, plan, count_within, fresh, opened, after_load, after_call, after_idle, next, run, BeginsAnew, Quiet}
use Rattle.history.specs.Answers.{refused, quoted, planned, quote_answer, plan_answer, answer_loaded, answer}
use Rattle.history.specs.Histories.{Holds, UpperPromise, LowerPromise, BoundsHold, Tighter, Onward, HistoryLaw}
use Rattle.history.specs.declared.refusal.Refusal.TheVariants as refusal
use Rattle.history.proofs.Refusing.{found_or_none, after_broken, after_kept, opens}

-- Bounds that stay, and bounds that tighten twice

still : (M : Setting) (B : Book) → rules.Tighter M B B
still M B = record {
  upper = λ s h. le_same (upper_at M B s) (upper_at M B s) refl;
  lower = λ s h. le_same (lower_at M B s) (lower_at M B s) refl;
  hi = λ k h. le_same _ _ refl;
  lo = λ k h. le_same _ _ refl;
}

twice : (M : Setting) (A B C : Book) → rules.Tighter M A B → rules.Tighter M B C → rules.Tighter M A C
twice M A B C p q = record {
  upper = λ s h. le_trans _ _ _ (q.upper s h) (p.upper s h);
  lower = λ s h. le_trans _ _ _ (p.lower s h) (q.lower s h);
  hi = λ k h. le_trans _ _ _ (q.hi k h) (p.hi k h);
  lo = λ k h. le_trans _ _ _ (p.lo k h) (q.lo k h);
}

-- Two plans that agree on the states earn the same

module _ (T : Table) (law : Lawful T) (p q : Plan) (agree : (s : ℕ) → s < T.states → p s ≡ q s) (names : (s : ℕ) → s < T.states → p s < T.choices s) where
  plan_cong : (N s : ℕ) (past : List ℕ) → s < T.states → scaled_reward T (follow p) N s past ≡ scaled_reward T (follow q) N s past
  plan_cong zero s past h = refl
  plan_cong (suc N) s past h =
      let W : ℤ = pos (T.denominator ^ suc N) in
      let c : ℕ = p s in
      let after : Plan → ℕ → ℤ = λ r u. scaled_reward T (follow r) N u (s ∷ past) in
      let same : branch_sum_z T s c (after p) ≡ branch_sum_z T s c (after q) =
      weighted_z_cong (T.branches s c) (weight T s c) (λ b. after p (successor T s c b)) (λ b. after q (successor T s c b))
      (λ b l. plan_cong N (successor T s c b) (s ∷ past) (law.successors s c b h (names s h) l)) in
      ap (λ (z : ℤ). (W *ℤ T.reward s c) +ℤ z) same
      ∙ ap (λ (d : ℕ). (W *ℤ T.reward s d) +ℤ branch_sum_z T s d (after q)) (agree s h)

-- What quotes and plans answer

module _ (T : Table) (B : Book) where
  -- an answer to a quote has the bounds of the state's node
  quote_is : (s width : ℕ) (L U : ℤ) (mark : ℕ) → s < T.states → answer (loaded T B) (quote s width) ≡ quoted L U mark
      → (lower_at (setting_of T) B s ≡ L) × (upper_at (setting_of T) B s ≡ U)
  unfolding answer answer_loaded quote_answer
  quote_is s width L U mark h e =
      let q : quote_answer T B s width ≡ quoted L U mark =
      sym (cond-true (ltb s T.states) (quote_answer T B s width) (refused refusal.State) (lt-ltb s T.states h)) ∙ e in
      (cc, cc)

  -- an answer to a plan has the choice of each state at its place
  plan_is : (list written : List ℕ) → answer (loaded T B) (plan list) ≡ planned written
      → (s : ℕ) → s < T.states → get_or written s 0 ≡ play T B s
  unfolding answer answer_loaded plan_answer
  plan_is list written e s h =
      elim (cases_Bool (leb T.states (length list))) [
        | inl a ↦ (
            let q : plan_answer T B list ≡ planned written =
            sym (cond-true (leb T.states (length list)) (plan_answer T B list) (refused refusal.Room) a) ∙ e in
            let w : tabulate T.states (play T B) ++ drop T.states list ≡ written = cc in
            ap (λ (xs : List ℕ). get_or xs s 0) (sym w)
            ∙ get_or_append_left (tabulate T.states (play T B)) (drop T.states list) 0 s
            (let l = length-map-range_with_len (play T B) 0 T.states in omega arith)
            ∙ get_or-map-range_with_len (play T B) 0 T.states s s 0 h (omega arith))
        | inr a ↦ (
            let q : refused refusal.Room ≡ planned written =
            sym (cond-false (leb T.states (length list)) (plan_answer T B list) (refused refusal.Room) a) ∙ e in
            let z : ◌≡◌ {A = ℕ} 0 1 = cc in absurd (omega arith))
      ]

-- Opens

module _ (T : Table) where
  open_broken : (e : Fault) → fault_of T ≡ Some e → opened T ≡ idle e
  unfolding opened
  open_broken e h = ap (λ (o : Option Fault). elim o [ Some d ↦ idle d | None ↦ fresh T ]) h

-- Every history

-- what holds of each state of an engine
Good : State → Type 0
Good (idle e) = Unit {0}
Good (loaded T B) = Lawful T × Sound (setting_of T) B

good_fresh : (T : Table) → fault_of T ≡ None → Good (fresh T)
unfolding Good
good_fresh T h = let law = (walk_law T).lawful.0 h in (law, (every_sound (setting_of T) law).starts)

good_either : (b : Bool) (R S : State) → Good R → Good S → Good (cond b R S)
good_either true R S p q = p
good_either false R S p q = q

good_open : (T : Table) → Good (opened T)
unfolding Good
good_open T =
    elim (found_or_none (fault_of T)) [
      | inl h ↦ subst Good (sym (opens T h)) (good_fresh T h)
      | inr w ↦ subst Good (sym (open_broken T w.0 w.1)) tt
    ]

good_load : (T : Table) (S : State) → Good S → Good (after_load T S)
good_load T S g =
    elim (found_or_none (fault_of T)) [
      | inl h ↦ subst Good (sym (after_kept T S h)) (good_fresh T h)
      | inr w ↦ subst Good (sym (after_broken T w.0 S w.1)) g
    ]

good_call : (T : Table) (B : Book) (c : Call) → Good (loaded T B) → Good (after_call T B c)
unfolding Good after_call
good_call T B (load T') g = good_load T' (loaded T B) g
good_call T B standing g = g
good_call T B (refines k n width) g =
    elim (cases_Bool (ltb k (components T) && count_within n)) [
      | inl a ↦ (
          let l = ltb-true k (components T) (and_parts (ltb k (components T)) (count_within n) a).0 in
          subst Good (sym (cond-true (ltb k (components T) && count_within n) (loaded T (refine (setting_of T) k n width B).book) (loaded T B) a))
          (g.0, (every_sound (setting_of T) g.0).refined k n width l B g.1))
      | inr a ↦ subst Good (sym (cond-false (ltb k (components T) && count_within n) (loaded T (refine (setting_of T) k n width B).book) (loaded T B) a)) g
    ]
good_call T B (sweeping n) g =
    good_either (count_within n) (loaded T (sweeps (setting_of T) n B).book) (loaded T B) (g.0, (every_sound (setting_of T) g.0).swept n B g.1) g
good_call T B close g = (g.0, (every_sound (setting_of T) g.0).starts)
good_call T B (quote s width) g = g
good_call T B (plan list) g = g

good_idle : (e : Fault) (c : Call) → Good (after_idle e c)
unfolding Good after_idle
good_idle e (load T) = good_load T (idle e) tt
good_idle e standing = tt
good_idle e (refines k n width) = tt
good_idle e (sweeping n) = tt
good_idle e close = tt
good_idle e (quote s width) = tt
good_idle e (plan list) = tt

good_next : (S : State) (c : Call) → Good S → Good (next S c)
unfolding next
good_next (idle e) c g = good_idle e c
good_next (loaded T B) c g = good_call T B c g

good_run : (S : State) (calls : List Call) → Good S → Good (run S calls)
unfolding run
good_run S [] g = g
good_run S (c ∷ cs) g = good_run (next S c) cs (good_next S c g)

-- The table is lawful
lawful_good : (S : State) (T : Table) → Good S → Holds S T → Lawful T
unfolding Good
lawful_good (idle e) T g h = absurd h
lawful_good (loaded T' B) T g h = subst Lawful h g.0

-- The upper bound
upper_loaded : (T : Table) (B : Book) → Good (loaded T B) → UpperPromise (loaded T B) T
unfolding Good
upper_loaded T B g σ names N s width h L U mark e =
    let q = (quote_is T B s width L U mark h e).1 in
    subst (λ (z : ℤ). (pos scale_in_use *ℤ scaled_reward T σ N s []) ≤ℤ (pos (T.denominator ^ N) *ℤ ((pos N *ℤ z) +ℤ pos (excess (setting_of T))))) q
    ((every_sound (setting_of T) g.0).upper B g.1 σ names N s [] (h, tt))

upper_good : (S : State) (T : Table) → Good S → Holds S T → UpperPromise S T
upper_good (idle e) T g h = absurd h
upper_good (loaded T' B) T g h = subst (UpperPromise (loaded T' B)) h (upper_loaded T' B g)

-- The lower bound
lower_loaded : (T : Table) (B : Book) → Good (loaded T B) → (list written : List ℕ) → answer (loaded T B) (plan list) ≡ planned written
    → LowerPromise (loaded T B) T (λ s. get_or written s 0)
unfolding Good
lower_loaded T B g list written a =
    let low = (every_sound (setting_of T) g.0).lower B g.1 in
    let plays : Plan = λ s. get_or written s 0 in
    let agree : (s : ℕ) → s < T.states → play T B s ≡ plays s = λ s h. sym (plan_is T B list written a s h) in
    record {
      names = λ s h. subst (λ (c : ℕ). c < T.choices s) (agree s h) (low.names s h);
      earns = λ N s width h L U mark e.
          subst (λ (z : ℤ). (pos (T.denominator ^ N) *ℤ ((pos N *ℤ z) -ℤ pos (excess (setting_of T)))) ≤ℤ (pos scale_in_use *ℤ scaled_reward T (follow plays) N s []))
          (quote_is T B s width L U mark h e).0
          (subst (λ (v : ℤ). (pos (T.denominator ^ N) *ℤ ((pos N *ℤ lower_at (setting_of T) B s) -ℤ pos (excess (setting_of T)))) ≤ℤ (pos scale_in_use *ℤ v))
          (plan_cong T g.0 (play T B) plays agree low.names N s [] h)
          (low.earns N s [] h));
    }

lower_good : (S : State) (T : Table) → Good S → Holds S T → (list written : List ℕ) → answer S (plan list) ≡ planned written
    → LowerPromise S T (λ s. get_or written s 0)
lower_good (idle e) T g h list written a = absurd h
lower_good (loaded T' B) T g h list written a =
    subst (λ (R : Table). LowerPromise (loaded T' B) R (λ s. get_or written s 0)) h (lower_loaded T' B g list written a)

-- Bounds that only tighten

-- the engine still holds T, with a book whose bounds are no wider
record Follows (T : Table) (B : Book) (S : State) : Type 0 where
  book : Book
  held : S ≡ loaded T book
  good : Good (loaded T book)
  tighter : rules.Tighter (setting_of T) B book

stays : (T : Table) (B : Book) → Good (loaded T B) → Follows T B (loaded T B)
stays T B g = record { book = B; held = refl; good = g; tighter = still (setting_of T) B }

quiet_load : (T : Table) (B : Book) → Good (loaded T B) → (T' : Table) → ¬ (fault_of T' ≡ None)
    → Follows T B (after_load T' (loaded T B))
quiet_load T B g T' n =
    elim (found_or_none (fault_of T')) [
      | inl h ↦ absurd (n h)
      | inr w ↦ subst (Follows T B) (sym (after_broken T' w.0 (loaded T B) w.1)) (stays T B g)
    ]

quiet_call : (T : Table) (B : Book) → Good (loaded T B) → (c : Call) → ¬ BeginsAnew (loaded T B) c → Follows T B (after_call T B c)
unfolding Good after_call
quiet_call T B g (load T') n = quiet_load T B g T' n
quiet_call T B g standing n = stays T B g
quiet_call T B g (refines k m width) n =
    let both = ltb k (components T) && count_within m in
    let made = (refine (setting_of T) k m width B).book in
    elim (cases_Bool both) [
      | inl a ↦ (
          let l = ltb-true k (components T) (and_parts (ltb k (components T)) (count_within m) a).0 in
          let r = every_sound (setting_of T) g.0 in
          subst (Follows T B) (sym (cond-true both (loaded T made) (loaded T B) a))
          (record { book = made; held = refl; good = (g.0, r.refined k m width l B g.1); tighter = r.refining k m width l B g.1 }))
      | inr a ↦ subst (Follows T B) (sym (cond-false both (loaded T made) (loaded T B) a)) (stays T B g)
    ]
quiet_call T B g (sweeping m) n =
    let made = (sweeps (setting_of T) m B).book in
    elim (cases_Bool (count_within m)) [
      | inl a ↦ (
          let r = every_sound (setting_of T) g.0 in
          subst (Follows T B) (sym (cond-true (count_within m) (loaded T made) (loaded T B) a))
          (record { book = made; held = refl; good = (g.0, r.swept m B g.1); tighter = r.sweeping m B g.1 }))
      | inr a ↦ subst (Follows T B) (sym (cond-false (count_within m) (loaded T made) (loaded T B) a)) (stays T B g)
    ]
quiet_call T B g close n = absurd (n tt)
quiet_call T B g (quote s width) n = stays T B g
quiet_call T B g (plan list) n = stays T B g

onward : (T : Table) (B : Book) → Good (loaded T B) → (calls : List Call) → Quiet (loaded T B) calls → Follows T B (run (loaded T B) calls)
unfolding run next
onward T B g [] q = stays T B g
onward T B g (c ∷ cs) q =
    let o = quiet_call T B g c q.0 in
    let r = onward T o.book o.good cs (subst (λ (S : State). Quiet S cs) o.held q.1) in
    subst (λ (S : State). Follows T B (run S cs)) (sym o.held)
    (record { book = r.book; held = r.held; good = r.good; tighter = twice (setting_of T) B o.book r.book o.tighter r.tighter })

tighter_answers : (T : Table) (A B : Book) → rules.Tighter (setting_of T) A B → Tighter (loaded T A) (loaded T B) T
tighter_answers T A B t = record {
  states = λ s v w h L U L' U' mark mark' p q.
      let a = quote_is T A s v L U mark h p in
      let b = quote_is T B s w L' U' mark' h q in (
        le_trans L (lower_at (setting_of T) A s) L' (le_same L (lower_at (setting_of T) A s) (sym a.0))
            (le_trans (lower_at (setting_of T) A s) (lower_at (setting_of T) B s) L' (t.lower s h) (le_same (lower_at (setting_of T) B s) L' b.0)),
        le_trans U' (upper_at (setting_of T) B s) U (le_same U' (upper_at (setting_of T) B s) (sym b.1))
            (le_trans (upper_at (setting_of T) B s) (upper_at (setting_of T) A s) U (t.upper s h) (le_same (upper_at (setting_of T) A s) U a.1)),
      );
  components = λ k h. (t.lo k h, t.hi k h);
}

tight_good : (S : State) (T : Table) (later : List Call) → Good S → Holds S T → Quiet S later
    → Holds (run S later) T × Tighter S (run S later) T
tight_good (idle e) T later g h q = absurd h
tight_good (loaded T' B) T later g h q =
    let o = onward T' B g later q in
    subst (λ (R : Table). Holds (run (loaded T' B) later) R × Tighter (loaded T' B) (run (loaded T' B) later) R) h
    (subst (λ (S : State). Holds S T' × Tighter (loaded T' B) S T') (sym o.held) (refl, tighter_answers T' B o.book o.tighter))

bounds_hold : (S : State) → Good S → BoundsHold S
bounds_hold S g = record {
  lawful = λ T h. lawful_good S T g h;
  upper = λ T h. upper_good S T g h;
  lower = λ T h. lower_good S T g h;
}

pub every_history : (T : Table) → HistoryLaw T
every_history T =
    let good : (calls : List Call) → Good (run (opened T) calls) = λ calls. good_run (opened T) calls (good_open T) in
    record {
      holds = λ calls. bounds_hold (run (opened T) calls) (good calls);
      tightens = λ calls later q. record {
        table = λ R h. (tight_good (run (opened T) calls) R later (good calls) h q).0;
        tighter = λ R h. (tight_good (run (opened T) calls) R later (good calls) h q).1;
      };
    }
