-- What a decomposition starts from, and what it comes to.
use Rattle.std.proofs.Common.{◌≡◌, ℕ, ◌+◌, ◌-◌, ◌*◌, ◌<◌, ◌≤◌, Bool, true, false, ◌&&◌, ltb, List, ◌++◌, length, get_or, take, drop, replicate, vec_items, vec_len, sym, ap, ◌∙◌, subst, ap₂, ⊎_elim, arith}
use Rattle.std.specs.List.{slice_range}
use Rattle.std.proofs.lemmas.List.{get_or-replicate, get_or-take, get_or-drop, get_or_append_left, get_or-append-add, get_or_past, length-append, length-drop, length-replicate, length-take-le, take_all}
use Rattle.std.proofs.lemmas.Bool.{cases_eq, cases_lt, lt-ltb, le-ltb}
use Rattle.table.specs.Table.{Table}
use Rattle.table.specs.Limits.{Lawful}
use Rattle.components.specs.Inside.{inside}
use Rattle.components.specs.Nodes.{nodes, components}
use Rattle.components.proofs.Law.{every_lawful_table}
use Rattle.decomposition.specs.Flags.{flag_at, Flagged, AllSet, OwnFlags}
use Rattle.decomposition.specs.Numbered.{Numbered}
use Rattle.decomposition.specs.Decomposed.{Decomposed}
use Rattle.decomposition.specs.declared.parts.Parts.{Parts}

pub all_set : (T : Table) → Lawful T → (flags : List Bool) → flags ≡ replicate 4096 true → AllSet T flags
all_set T law flags e s c p =
    let few = (law.choices s p.state).1 in
    let most = law.states.1 in
    let h = p.state in
    let l = p.choice in
    ap (λ (xs : List Bool). get_or xs (16 * s + c) false) e ∙ get_or-replicate 4096 (16 * s + c) true false (omega arith)

-- the flags of one more state: those of its choices, and no other up to the next state's
module _ (T : Table) (k : ℕ) (flags own part mid next : List Bool) (few : T.choices k ≤ 16) (long : 16 * k + 16 ≤ length flags)
    (P : OwnFlags T k flags own) (e : part ≡ slice_range flags (16 * k) (16 * k + T.choices k)) (m : mid ≡ own ++ part)
    (n : next ≡ take (16 * (k + 1)) mid ++ replicate (16 * (k + 1) - length mid) false) where
  long_part : length part ≡ T.choices k
  long_part =
      let d = length-drop (16 * k) flags in
      ap length e ∙ length-take-le (16 * k + T.choices k - 16 * k) (drop (16 * k) flags) (omega arith) ∙ omega arith

  long_mid : length mid ≡ 16 * k + T.choices k
  long_mid = let l = P.size in let p = long_part in ap length m ∙ length-append own part ∙ omega arith

  whole : next ≡ mid ++ replicate (16 - T.choices k) false
  whole =
      let l = long_mid in
      let r : 16 * (k + 1) - length mid ≡ 16 - T.choices k = omega arith in
      n ∙ ap₂ (λ (xs : List Bool) (i : ℕ). xs ++ replicate i false) (take_all (16 * (k + 1)) mid (omega arith)) r

  old_flag : (i : ℕ) → i < 16 * k → get_or next i false ≡ get_or own i false
  old_flag i h =
      let l = P.size in
      let p = long_mid in
      ap (λ (xs : List Bool). get_or xs i false) whole
      ∙ get_or_append_left mid (replicate (16 - T.choices k) false) false i (omega arith)
      ∙ ap (λ (xs : List Bool). get_or xs i false) m ∙ get_or_append_left own part false i (omega arith)

  choice_flag : (c : ℕ) → c < T.choices k → get_or next (16 * k + c) false ≡ get_or flags (16 * k + c) false
  choice_flag c h =
      let l = P.size in
      let p = long_mid in
      let q : 16 * k + c ≡ length own + c = omega arith in
      ap (λ (xs : List Bool). get_or xs (16 * k + c) false) whole
      ∙ get_or_append_left mid (replicate (16 - T.choices k) false) false (16 * k + c) (omega arith)
      ∙ ap₂ (λ (xs : List Bool) (i : ℕ). get_or xs i false) m q
      ∙ get_or-append-add own part c false
      ∙ ap (λ (xs : List Bool). get_or xs c false) e
      ∙ get_or-take (16 * k + T.choices k - 16 * k) (drop (16 * k) flags) c false (omega arith)
      ∙ get_or-drop (16 * k) flags c false

  no_flag : (c : ℕ) → T.choices k ≤ c → c < 16 → get_or next (16 * k + c) false ≡ false
  no_flag c h l =
      let p = long_mid in
      let q : 16 * k + c ≡ length mid + (c - T.choices k) = omega arith in
      ap₂ (λ (xs : List Bool) (i : ℕ). get_or xs i false) whole q
      ∙ get_or-append-add mid (replicate (16 - T.choices k) false) (c - T.choices k) false
      ∙ get_or-replicate (16 - T.choices k) (c - T.choices k) false false (omega arith)

  pub own_more : OwnFlags T (k + 1) flags next
  own_more = record {
    size =
        let p = long_mid in
        let l = length-replicate {A = Bool} (16 - T.choices k) false in
        ap length whole ∙ length-append mid (replicate (16 - T.choices k) false) ∙ omega arith;
    at = λ s c h l. ⊎_elim
        (λ (q : s ≡ k). subst (λ x. flag_at next x c ≡ (ltb c (T.choices x) && flag_at flags x c)) (sym q) (here c l))
        (λ (q : s ≡ k → ⊥). old_flag (16 * s + c) (omega arith) ∙ P.at s c (omega arith) l)
        (cases_eq s k);
  }
    where
      here : (c : ℕ) → c < 16 → flag_at next k c ≡ (ltb c (T.choices k) && flag_at flags k c)
      here c l =
          ⊎_elim
          (λ (h : c < T.choices k). choice_flag c h ∙ sym (ap (λ (b : Bool). b && flag_at flags k c) (lt-ltb c (T.choices k) h)))
          (λ (h : T.choices k ≤ c). no_flag c h l ∙ sym (ap (λ (b : Bool). b && flag_at flags k c) (le-ltb c (T.choices k) h)))
          (cases_lt c (T.choices k))

pub decomposed : (T : Table) → Lawful T → (p : Parts) (flags : List Bool) → Flagged T flags (inside T)
    → OwnFlags T T.states flags (vec_items p.inside)
    → Numbered T T.states (vec_items p.node) (vec_items p.component) p.components
    → vec_len p.component ≡ length (vec_items p.component) → Decomposed T p
unfolding nodes components
decomposed T law p flags f own N l = record {
  lawful = law;
  inside_size = own.size;
  inside_is = λ s c q.
      let few = (law.choices s q.state).1 in
      let h = q.choice in
      let low : c < 16 = omega arith in
      ap₂ (λ (a b : Bool). a && b) (lt-ltb c 16 low) (own.at s c q.state low)
      ∙ ap (λ (b : Bool). b && flag_at flags s c) (lt-ltb c (T.choices s) h) ∙ f s c q;
  none_outside = λ s c q. ⊎_elim
      (λ (low : c < 16).
      ap (λ (b : Bool). b && flag_at (vec_items p.inside) s c) (lt-ltb c 16 low)
      ∙ ⊎_elim
      (λ (h : s < T.states).
      own.at s c h low
      ∙ ap (λ (b : Bool). b && flag_at flags s c)
      (le-ltb c (T.choices s)
      (⊎_elim (λ (k : c < T.choices s). absurd (q (record { state = h; choice = k }))) (λ (k : T.choices s ≤ c). k) (cases_lt c (T.choices s)))))
      (λ (h : T.states ≤ s).
      let m = own.size in
      get_or_past (vec_items p.inside) (16 * s + c) false (omega arith))
      (cases_lt s T.states))
      (λ (high : 16 ≤ c). ap (λ (b : Bool). b && flag_at (vec_items p.inside) s c) (le-ltb c 16 high))
      (cases_lt c 16);
  node_size = N.size;
  node_is = N.node_at;
  nodes_are = l ∙ N.nodes;
  component_is = N.component_at;
  components_are = N.counted;
  law = every_lawful_table T law;
}
