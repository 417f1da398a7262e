-- Where reading a part stops, what stands before that place is the beginning of a part that the writer writes.
use Rattle.std.proofs.Common.{◌≡◌, ℕ, zero, suc, ◌+◌, ◌^◌, ◌<◌, ◌≤◌, Bool, true, false, cond, leb, List, [], ◌∷◌, ◌++◌, length, take, drop, replicate, Some, None, Ok, Err, Option, Result, sym, refl, ap, ◌∙◌, subst, ap₂, inl, inr, arith, w32, to_z}
use Rattle.std.proofs.lemmas.List.{append_assoc, append-nil, length-replicate}
use Rattle.std.proofs.lemmas.Bool.{cases_Bool}
use Rattle.std.specs.List.{flat_map, AllByRecursion}
use Rattle.modelfile.specs.Results.{Read, and_then, of_record, when_set}
use Rattle.modelfile.specs.Bytes.{field, little_endian, number, signed, text, branch, branch_run, branches}
use Rattle.modelfile.specs.Written.{bytes_of, written_text, written_branch, written_branches, if_there, bit_of, OneByte, FourBytes, TextFits, BranchFits, BranchesFit, WhereThere}
use Rattle.modelfile.specs.declared.fault.ByteFault.{ByteFault}
use Rattle.modelfile.specs.declared.fault.ByteFault.TheVariants.{Lacking}
use Rattle.modelfile.specs.declared.fault.RecordFault.{RecordFault}
use Rattle.modelfile.specs.declared.fault.RecordFault.TheVariants.{Bytes, UnknownBit}
use Rattle.modelfile.proofs.Inverse.{err_ok}
use Rattle.modelfile.proofs.Accepted.{Stands, stands_none, stands_append, Small, number_reads, branch_reads}

pub err_same : {A E : Type 0} {x y : E} → ◌≡◌ {A = Result A E} (Err x) (Err y) → x ≡ y
err_same h = cc

pub ok_err : {A E : Type 0} {a : A} {e : E} → ◌≡◌ {A = Result A E} (Ok a) (Err e) → ⊥
ok_err h = err_ok (sym h)

-- where a fault is
abbrev pub byte_at : ByteFault → ℕ
byte_at (Lacking p) = p

abbrev pub record_at : RecordFault → ℕ
record_at (Bytes b) = byte_at b
record_at (UnknownBit p) = p

pub all_replicate : {A : Type 0} (P : A → Type 0) (n : ℕ) (a : A) → P a → AllByRecursion P (replicate n a)
all_replicate P zero a h = tt
all_replicate P (suc n) a h = (h, all_replicate P n a h)

-- n parts that fit
abbrev pub Many : {A : Type 0} → (A → Type 0) → ℕ → List A → Type 0
Many P n vs = (length vs ≡ n) × AllByRecursion P vs

pub many_same : {A : Type 0} (P : A → Type 0) (n : ℕ) (a : A) → P a → Many P n (replicate n a)
many_same P n a h = (length-replicate n a, all_replicate P n a h)

-- a field that is there exactly where its bit is, and fits
abbrev pub AsSet : {A : Type 0} → ℕ → Bool → (A → Type 0) → Option A → Type 0
AsSet bit b Fit o = (bit_of bit o ≡ cond b bit 0) × WhereThere Fit o

-- a value where the bit is
abbrev pub if_set : {A : Type 0} → Bool → A → Option A
if_set false a = None
if_set true a = Some a

pub if-set : {A : Type 0} (bit : ℕ) (b : Bool) (Fit : A → Type 0) (a : A) → Fit a → AsSet bit b Fit (if_set b a)
if-set bit false Fit a h = (refl, tt)
if-set bit true Fit a h = (refl, h)

-- the bytes from p to q are the beginning of what the writer writes for some value that fits
pub record Begun (file : List ℕ) {A : Type 0} (p q : ℕ) (write : A → List ℕ) (Fit : A → Type 0) : Type 0 where
  pub value : A
  pub fits : Fit value
  pub before : List ℕ
  pub after : List ℕ
  pub parts : write value ≡ before ++ after
  pub stands : Stands file p before q

module _ (file : List ℕ) where
  pub begun_none : {A : Type 0} {write : A → List ℕ} {Fit : A → Type 0} (p : ℕ) → p ≤ length file → (v : A) → Fit v → Begun file p p write Fit
  begun_none {A} {write} {Fit} p h v fit = record { value = v; fits = fit; before = []; after = write v; parts = refl; stands = stands_none file p h }

  -- a part that is begun, with the bytes a before it and b behind it
  pub begun_within : {A B : Type 0} {part : A → List ℕ} {PartFit : A → Type 0} {write : B → List ℕ} {Fit : B → Type 0} {p q r : ℕ} (a b : List ℕ)
      → Stands file p a q → (s : Begun file q r part PartFit) → (v : B) → Fit v → write v ≡ a ++ (part s.value ++ b) → Begun file p r write Fit
  begun_within {A} {B} {part} a b t s v fit e = record {
    value = v;
    fits = fit;
    before = a ++ s.before;
    after = s.after ++ b;
    parts = e ∙ (ap (λ (x : List ℕ). a ++ (x ++ b)) s.parts ∙ simp append_assoc);
    stands = stands_append t s.stands;
  }

  -- where reading r stops, what was read from p on is begun
  abbrev pub Stops : {X A E : Type 0} → (E → ℕ) → ℕ → Read X E → (A → List ℕ) → (A → Type 0) → Type 0
  Stops {X} {A} {E} at p r write Fit = (e : E) → r ≡ Err e → Begun file p (at e) write Fit

  pub then_stops : {X Y A E : Type 0} (at : E → ℕ) (p : ℕ) (r : Read X E) (next : X × ℕ → Read Y E) (write : A → List ℕ) (Fit : A → Type 0)
      → Stops at p r write Fit → ((a : X × ℕ) → r ≡ Ok a → Stops at p (next a) write Fit) → Stops at p (and_then r next) write Fit
  then_stops at p (Ok a) next write Fit h k e q = k a refl e q
  then_stops at p (Err x) next write Fit h k e q = let s : x ≡ e = err_same q in subst (λ y. Begun file p (at y) write Fit) s (h x refl)

  pub of-record : {X A : Type 0} (p : ℕ) (r : Read X ByteFault) (write : A → List ℕ) (Fit : A → Type 0) → Stops byte_at p r write Fit → Stops record_at p (of_record r) write Fit
  of-record p (Ok a) write Fit h e q = absurd (ok_err q)
  of-record p (Err x) write Fit h e q = let s : Bytes x ≡ e = err_same q in subst (λ (y : RecordFault). Begun file p (record_at y) write Fit) s (h x refl)

  -- a part that stands only where its bit does
  pub set_stops : {A : Type 0} (b : Bool) (bit p : ℕ) (part : Read A ByteFault) (write : A → List ℕ) (Fit : A → Type 0) → Stops byte_at p part write Fit
      → Stops byte_at p (when_set b p part) (if_there write) (AsSet bit b Fit)
  set_stops false bit p part write Fit h = λ e q. absurd (ok_err q)
  set_stops true bit p part write Fit h =
      then_stops byte_at p part (λ v. Ok (Some v.0, v.1)) (if_there write) (AsSet bit true Fit)
      (λ e q. let s = h e q in record { value = Some s.value; fits = (refl, s.fits); before = s.before; after = s.after; parts = s.parts; stands = s.stands })
      (λ a _ e q. absurd (ok_err q))

  -- a field that lacks bytes stops at its start
  pub field_stops : {A : Type 0} (k p : ℕ) (write : A → List ℕ) (Fit : A → Type 0) → p ≤ length file → (v : A) → Fit v → Stops byte_at p (field k file p) write Fit
  field_stops k p write Fit h v fit e q =
      elim (cases_Bool (leb (p + k) (length file))) [
        | inl t ↦ absurd (ok_err (ap (λ (b : Bool). cond b (Ok (take k (drop p file), p + k)) (Err (Lacking p))) (sym t) ∙ q))
        | inr t ↦ (
            let s : Lacking p ≡ e = err_same (ap (λ (b : Bool). cond b (Ok (take k (drop p file), p + k)) (Err (Lacking p))) (sym t) ∙ q) in
            subst (λ (y : ByteFault). Begun file p (byte_at y) write Fit) s (begun_none p h v fit))
      ]

  pub number_stops : {A : Type 0} (k p : ℕ) (write : A → List ℕ) (Fit : A → Type 0) → p ≤ length file → (v : A) → Fit v → Stops byte_at p (number k file p) write Fit
  number_stops k p write Fit h v fit =
      then_stops byte_at p (field k file p) (λ f. Ok (little_endian f.0, f.1)) write Fit (field_stops k p write Fit h v fit) (λ a _ e q. absurd (ok_err q))

  pub signed_stops : {A : Type 0} (p : ℕ) (write : A → List ℕ) (Fit : A → Type 0) → p ≤ length file → (v : A) → Fit v → Stops byte_at p (signed file p) write Fit
  signed_stops p write Fit h v fit =
      then_stops byte_at p (number 4 file p) (λ n. Ok (to_z w32 n.0, n.1)) write Fit (number_stops 4 p write Fit h v fit) (λ a _ e q. absurd (ok_err q))

  -- one part and then k more; the parts that are not reached are filled in by one that fits
  pub run_stops : {A E : Type 0} (at : E → ℕ) (k p : ℕ) (r : Read A E) (more : ℕ → Read (List A) E) (write : A → List ℕ) (Fit : A → Type 0) (other : A) → Fit other
      → p ≤ length file → Stops at p r write Fit
      → ((v : A × ℕ) → r ≡ Ok v → Stands file p (write v.0) v.1 × Fit v.0)
      → ((v : A × ℕ) → v.1 ≤ length file → Stops at v.1 (more v.1) (flat_map write) (Many Fit k))
      → Stops at p (and_then r (λ a. and_then (more a.1) (λ vs. Ok (a.0 ∷ vs.0, vs.1)))) (flat_map write) (Many Fit (suc k))
  run_stops {A} at k p r more write Fit other fit room stop reads stops =
      then_stops at p r _ (flat_map write) (Many Fit (suc k))
      (λ e q.
      let s = stop e q in
      let rest = many_same Fit k other fit in
      begun_within [] (flat_map write (replicate k other)) (stands_none file p room) s (s.value ∷ replicate k other) (ap suc rest.0, (s.fits, rest.1)) refl)
      (λ a q0.
      let one = reads a q0 in
      then_stops at p (more a.1) (λ vs. Ok (a.0 ∷ vs.0, vs.1)) (flat_map write) (Many Fit (suc k))
      (λ e q.
      let s = stops a one.0.inside e q in
      begun_within (write a.0) [] one.0 s (a.0 ∷ s.value) (ap suc s.fits.0, (one.1, s.fits.1)) (ap (λ (x : List ℕ). write a.0 ++ x) (sym (append-nil (flat_map write s.value)))))
      (λ b _ e q. absurd (ok_err q)))

  -- a count in one byte, then that many parts
  pub counted : {A : Type 0} {p q r : ℕ} (n : ℕ) (write : List A → List ℕ) (P : A → Type 0) → n < 2 ^ 8 → Stands file p (bytes_of 1 n) q → Begun file q r write (Many P n)
      → Begun file p r (λ vs. bytes_of 1 (length vs) ++ write vs) (λ vs. OneByte (length vs) × AllByRecursion P vs)
  counted n write P few t s =
      let long : length s.value ≡ n = s.fits.0 in
      begun_within (bytes_of 1 n) [] t s s.value (subst (λ (x : ℕ). x < 2 ^ 8) (sym long) few, s.fits.1)
      (ap₂ (λ (x : ℕ) (y : List ℕ). bytes_of 1 x ++ y) long (sym (append-nil (write s.value))))

  module _ (small : Small file) where
    pub text_stops : (p : ℕ) → p ≤ length file → Stops byte_at p (text file p) written_text TextFits
    text_stops p h =
        then_stops byte_at p (number 1 file p) (λ n. field n.0 file n.1) written_text TextFits (number_stops 1 p written_text TextFits h [] (omega arith, tt)) (λ n q0 e q.
        let a = number_reads file small 1 p n q0 in
        counted n.0 (λ t. t) OneByte a.1 a.0
        (field_stops n.0 n.1 (λ t. t) (Many OneByte n.0) a.0.inside (replicate n.0 0) (many_same OneByte n.0 0 (omega arith)) e q))

    branch_stops : (p : ℕ) → p ≤ length file → Stops byte_at p (branch file p) written_branch BranchFits
    branch_stops p h =
        then_stops byte_at p (number 2 file p) _ written_branch BranchFits (number_stops 2 p written_branch BranchFits h (0, 0) (omega arith, omega arith)) (λ u q0.
        let a = number_reads file small 2 p u q0 in
        then_stops byte_at p (number 4 file u.1) (λ w. Ok ((u.0, w.0), w.1)) written_branch BranchFits
        (λ e q.
        let s = number_stops 4 u.1 (bytes_of 4) FourBytes a.0.inside 0 (omega arith) e q in
        begun_within (bytes_of 2 u.0) [] a.0 s (u.0, s.value) (a.1, s.fits) (ap (λ (x : List ℕ). bytes_of 2 u.0 ++ x) (sym (append-nil (bytes_of 4 s.value)))))
        (λ b _ e q. absurd (ok_err q)))

    branch_run_stops : (k p : ℕ) → p ≤ length file → Stops byte_at p (branch_run k file p) (flat_map written_branch) (Many BranchFits k)
    branch_run_stops zero p h = λ e q. absurd (ok_err q)
    branch_run_stops (suc k) p h =
        run_stops byte_at k p (branch file p) (branch_run k file) written_branch BranchFits (0, 0) (omega arith, omega arith) h (branch_stops p h) (branch_reads file small p) (λ v. branch_run_stops k v.1)

    pub branches_stops : (p : ℕ) → p ≤ length file → Stops byte_at p (branches file p) written_branches BranchesFit
    branches_stops p h =
        then_stops byte_at p (number 1 file p) (λ n. branch_run n.0 file n.1) written_branches BranchesFit (number_stops 1 p written_branches BranchesFit h [] (omega arith, tt)) (λ n q0 e q.
        let a = number_reads file small 1 p n q0 in
        counted n.0 (flat_map written_branch) BranchFits a.1 a.0 (branch_run_stops n.0 n.1 a.0.inside e q))
