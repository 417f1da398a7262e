-- The branches of each choice of the three tables.
use Rattle.std.proofs.Common.{◌≡◌, Bool, add-mul, add_assoc, ℕ, zero, suc, ◌+◌, ◌-◌, ◌*◌, ◌/◌, ◌%◌, ◌<◌, ◌≤◌, cond, eqb, ltb, ◌≢◌, sym, refl, ap, ◌∙◌, subst, ⊎_elim, arith}
use Rattle.std.proofs.ByRecursion.{All-get_or}
use Rattle.std.proofs.lemmas.Bool.{cases_eq, cases_lt, cond-true, cond-false, eq-eqb, ne_eqb, lt-ltb, le-ltb}
use Rattle.table.specs.Sums.{sum_n}
use Rattle.samples.specs.declared.tables.Weights.{Weights}
use Rattle.samples.specs.declared.tables.Weights.TheVariants.{Even, Uneven}
use Rattle.samples.specs.Tables.{shares, share, scattered, onward, leaving, stepping}
use Rattle.samples.proofs.Numbered.{Fair}

weighty : (w : Weights) (b : ℕ) → b < 8 → 1 ≤ share w b
weighty Even b l = All-get_or (λ (x : ℕ). 1 ≤ x) (shares Even) b 0 l (omega arith, (omega arith, (omega arith, (omega arith, (omega arith, (omega arith, (omega arith, (omega arith, tt))))))))
weighty Uneven b l = All-get_or (λ (x : ℕ). 1 ≤ x) (shares Uneven) b 0 l (omega arith, (omega arith, (omega arith, (omega arith, (omega arith, (omega arith, (omega arith, (omega arith, tt))))))))

total : (w : Weights) → sum_n 8 (share w) ≡ 65536
total Even = refl
total Uneven = refl

pub fair_scattered : (w : Weights) (n : ℕ) → Fair 8 (scattered w n)
fair_scattered w n = record {
  few = (omega arith, omega arith);
  inside = λ b l. omega arith;
  weighty = weighty w;
  apart = λ b l a m e. omega arith;
  total = total w;
}

-- one to seven equal odd steps do not lead around 256 or 16 states
not_around_256 : (y m d : ℕ) → 1 ≤ d → d < 8 → y % 256 ≡ (y + d * (2 * m + 1)) % 256 → ⊥
not_around_256 y m zero l h e = omega arith
not_around_256 y m (suc zero) l h e = omega arith
not_around_256 y m (suc (suc zero)) l h e = omega arith
not_around_256 y m (suc (suc (suc zero))) l h e = omega arith
not_around_256 y m (suc (suc (suc (suc zero)))) l h e = omega arith
not_around_256 y m (suc (suc (suc (suc (suc zero))))) l h e = omega arith
not_around_256 y m (suc (suc (suc (suc (suc (suc zero)))))) l h e = omega arith
not_around_256 y m (suc (suc (suc (suc (suc (suc (suc zero))))))) l h e = omega arith
not_around_256 y m (suc (suc (suc (suc (suc (suc (suc (suc d)))))))) l h e = omega arith

not_around_16 : (y m d : ℕ) → 1 ≤ d → d < 8 → y % 16 ≡ (y + d * (2 * m + 1)) % 16 → ⊥
not_around_16 y m zero l h e = omega arith
not_around_16 y m (suc zero) l h e = omega arith
not_around_16 y m (suc (suc zero)) l h e = omega arith
not_around_16 y m (suc (suc (suc zero))) l h e = omega arith
not_around_16 y m (suc (suc (suc (suc zero)))) l h e = omega arith
not_around_16 y m (suc (suc (suc (suc (suc zero))))) l h e = omega arith
not_around_16 y m (suc (suc (suc (suc (suc (suc zero)))))) l h e = omega arith
not_around_16 y m (suc (suc (suc (suc (suc (suc (suc zero))))))) l h e = omega arith
not_around_16 y m (suc (suc (suc (suc (suc (suc (suc (suc d)))))))) l h e = omega arith

-- further on by that many steps
steps_on : (n a b : ℕ) → a < b → onward n b ≡ onward n a + (b - a) * (2 * (n % 16) + 1)
steps_on n a b l =
    let e : b ≡ a + (b - a) = omega arith in
    ap (λ (x : ℕ). n / 16 + 1 + x * (2 * (n % 16) + 1)) e
    ∙ ap (λ (x : ℕ). n / 16 + 1 + x) (add-mul a (b - a) (2 * (n % 16) + 1))
    ∙ sym (add_assoc (n / 16 + 1) (a * (2 * (n % 16) + 1)) ((b - a) * (2 * (n % 16) + 1)))

apart_256 : (n a b : ℕ) → a < b → b < 8 → onward n a % 256 ≡ onward n b % 256 → ⊥
apart_256 n a b l h e =
    not_around_256 (onward n a) (n % 16) (b - a) (omega arith) (omega arith) (e ∙ ap (λ (x : ℕ). x % 256) (steps_on n a b l))

apart_16 : (n a b : ℕ) → a < b → b < 8 → 240 + onward n a % 16 ≡ 240 + onward n b % 16 → ⊥
apart_16 n a b l h e =
    let f : onward n a % 16 ≡ onward n b % 16 = omega arith in
    not_around_16 (onward n a) (n % 16) (b - a) (omega arith) (omega arith) (f ∙ ap (λ (x : ℕ). x % 16) (steps_on n a b l))

-- eight branches with the weights of a sharing out
shared : (w : Weights) (f : ℕ → ℕ) → ((b : ℕ) → b < 8 → f b < 256) → ((b : ℕ) → b < 8 → (a : ℕ) → a < b → f a ≢ f b)
    → Fair 8 (λ b. (f b, share w b))
shared w f inside apart = record {
  few = (omega arith, omega arith);
  inside = inside;
  weighty = weighty w;
  apart = apart;
  total = total w;
}

pub leaving_lone : (w : Weights) (n b : ℕ) → n < 3840 → leaving w n b ≡ (onward n b % 256, share w b)
leaving_lone w n b l = ap (λ (x : ℕ). (x, share w b)) (cond-true (ltb n 3840) (onward n b % 256) (240 + onward n b % 16) (lt-ltb n 3840 l))

pub leaving_inner : (w : Weights) (n b : ℕ) → 3840 ≤ n → leaving w n b ≡ (240 + onward n b % 16, share w b)
leaving_inner w n b l = ap (λ (x : ℕ). (x, share w b)) (cond-false (ltb n 3840) (onward n b % 256) (240 + onward n b % 16) (le-ltb n 3840 l))

pub fair_leaving : (w : Weights) (n : ℕ) → Fair 8 (leaving w n)
fair_leaving w n =
    let to : ℕ → ℕ = λ b. (leaving w n b).0 in
    ⊎_elim
    (λ (l : n < 3840).
    let e : (b : ℕ) → onward n b % 256 ≡ to b = λ b. ap (λ (x : ℕ × ℕ). x.0) (sym (leaving_lone w n b l)) in
    shared w to (λ b h. subst (λ (x : ℕ). x < 256) (e b) (omega arith)) (λ b h a k q. apart_256 n a b k h (e a ∙ q ∙ sym (e b))))
    (λ (l : 3840 ≤ n).
    let e : (b : ℕ) → 240 + onward n b % 16 ≡ to b = λ b. ap (λ (x : ℕ × ℕ). x.0) (sym (leaving_inner w n b l)) in
    shared w to (λ b h. subst (λ (x : ℕ). x < 256) (e b) (omega arith)) (λ b h a k q. apart_16 n a b k h (e a ∙ q ∙ sym (e b))))
    (cases_lt n 3840)

-- two branches by halves, to the first state and to one that is not the first
halves : (s : ℕ) → s < 255 → Fair 2 (λ b. (cond (eqb b 0) 0 (s + 1), 32768))
halves s l = record { few = (omega arith, omega arith); inside = inside; weighty = λ b h. omega arith; apart = apart; total = refl }
  where
    inside : (b : ℕ) → b < 2 → cond (eqb b 0) 0 (s + 1) < 256
    inside zero h = omega arith
    inside (suc zero) h = omega arith
    inside (suc (suc b)) h = absurd (omega arith)

    apart : (b : ℕ) → b < 2 → (a : ℕ) → a < b → cond (eqb a 0) 0 (s + 1) ≢ cond (eqb b 0) 0 (s + 1)
    apart zero h a k e = omega arith
    apart (suc zero) h zero k e = omega arith
    apart (suc zero) h (suc a) k e = omega arith
    apart (suc (suc b)) h a k e = omega arith

alone : Fair 1 (λ b. (255, 65536))
alone = record {
  few = (omega arith, omega arith);
  inside = λ b h. omega arith;
  weighty = λ b h. omega arith;
  apart = λ b h a k e. omega arith;
  total = refl;
}

pub fair_stepping : (s c : ℕ) → s < 256 → c < 16 → Fair (cond (eqb s 255) 1 2) (stepping (16 * s + c))
fair_stepping s c l m =
    let e : s ≡ (16 * s + c) / 16 = omega arith in
    subst (λ (x : ℕ). Fair (cond (eqb s 255) 1 2) (λ b. cond (eqb x 255) (255, 65536) (cond (eqb b 0) 0 (x + 1), 32768))) e
    (⊎_elim
    (λ (q : s ≡ 255). subst (λ (x : Bool). Fair (cond x 1 2) (λ b. cond x (255, 65536) (cond (eqb b 0) 0 (s + 1), 32768))) (sym (eq-eqb s 255 q)) alone)
    (λ (q : s ≡ 255 → ⊥). subst (λ (x : Bool). Fair (cond x 1 2) (λ b. cond x (255, 65536) (cond (eqb b 0) 0 (s + 1), 32768))) (sym (ne_eqb s 255 q)) (halves s (omega arith)))
    (cases_eq s 255))

pub many_before : (s : ℕ) → s < 255 → cond {A = ℕ} (eqb s 255) 1 2 ≡ 2
many_before s l = cond-false (eqb s 255) 1 2 (ne_eqb s 255 (λ q. omega arith))

pub many_last : (s : ℕ) → 255 ≤ s → s < 256 → cond {A = ℕ} (eqb s 255) 1 2 ≡ 1
many_last s l h = cond-true (eqb s 255) 1 2 (eq-eqb s 255 (omega arith))

pub stepping_before : (n b : ℕ) → n < 4080 → stepping n b ≡ (cond (eqb b 0) 0 (n / 16 + 1), 32768)
stepping_before n b l = cond-false (eqb (n / 16) 255) (255, 65536) (cond (eqb b 0) 0 (n / 16 + 1), 32768) (ne_eqb (n / 16) 255 (λ q. omega arith))

pub stepping_last : (n b : ℕ) → 4080 ≤ n → n < 4096 → stepping n b ≡ (255, 65536)
stepping_last n b l h = cond-true (eqb (n / 16) 255) (255, 65536) (cond (eqb b 0) 0 (n / 16 + 1), 32768) (eq-eqb (n / 16) 255 (omega arith))
