-- A line reads as the command that it spells.
use Rattle.std.proofs.Common.{◌≡◌, ℕ, Bool, true, false, cond, ◌&&◌, eqb, leb, ◌⊎◌, List, [], ◌∷◌, ◌++◌, length, drop, Some, None, Option, sym, refl, ap, ◌∙◌, subst, inl, inr, take-append-drop, arith}
use Rattle.std.proofs.lemmas.List.{drop_at}
use Rattle.std.proofs.lemmas.List.Folds.{length-prefix_len}
use Rattle.std.proofs.lemmas.List.Sums.{take_while-cons}
use Rattle.std.proofs.lemmas.Bool.{and_parts, cond-true, eqb-true, leb-true}
use Rattle.std.specs.List.{take_while, prefix_len}
use Rattle.std.specs.Option.{option_map, option_and_then}
use Rattle.std.specs.Str.Parse.{digits_value}
use Rattle.std.specs.Char.{is_ascii_digit}
use Rattle.std.specs.Str.{all_ascii_digits}
use Rattle.console.specs.Commands.{number_of, front_number, argument_in, ended_in, refine_in, sweep_in, quote_in, command_of}
use Rattle.console.specs.Spelling.{letter_of, arguments_of, Decimal, Decimals, Spells, CommandLaw}
use Rattle.console.specs.declared.command.Command.{Command}
use Rattle.console.specs.declared.command.Command.TheVariants.{Refine, Sweep, Quote, Plan, Close}
use Rattle.console.proofs.Fields.{spaced, line_spaced}
use Rattle.console.proofs.Figures.{digits_run, number_some}

-- nothing was given where something was
never : {A X : Type 0} (x : A) → None ≡ Some x → X
never x e = absurd (let z : ◌≡◌ {A = ℕ} 0 1 = cc in omega arith)

-- which way a choice went that gave something
way : {A : Type 0} (t : Bool) (x y : Option A) (z : A) → cond t x y ≡ Some z → ((t ≡ true) × (x ≡ Some z)) ⊎ ((t ≡ false) × (y ≡ Some z))
way true x y z e = inl (refl, e)
way false x y z e = inr (refl, e)

-- the step before gave something, if the whole did
before : {A B : Type 0} (next : A → Option B) (o : Option A) (z : B) → option_and_then next o ≡ Some z → (x : A) × (o ≡ Some x) × (next x ≡ Some z)
before next None z e = never z e
before next (Some x) z e = (x, refl, e)

mapped : {A B : Type 0} (f : A → B) (o : Option A) (z : B) → option_map f o ≡ Some z → (x : A) × (o ≡ Some x) × (f x ≡ z)
mapped f None z e = never z e
mapped f (Some x) z e = (x, refl, cc)

-- the text has a blank and a decimal for each number, and nothing else
pub record Tail (numbers text : List ℕ) : Type 0 where
  pub words : List (List ℕ)
  pub decimals : Decimals numbers words
  pub whole : text ≡ spaced words

-- the number that was read at the front is a decimal there
front_found : (text : List ℕ) (a : ℕ × List ℕ) → front_number text ≡ Some a → (word : List ℕ) × Decimal a.0 word × (text ≡ word ++ a.1)
front_found text a h =
    let run : List ℕ = take_while is_ascii_digit text in
    let m = mapped (λ (number : ℕ). (number, drop (prefix_len is_ascii_digit text) text)) (number_of run) a h in
    elim (way (leb 1 (length run) && leb (length run) 18) (Some (digits_value 10 run)) None m.0 m.1) [
      | inl k ↦ (
          let p = and_parts (leb 1 (length run)) (leb (length run) 18) k.0 in
          let value : digits_value 10 run ≡ m.0 = cc k.1 in (
            run,
            record { some = leb-true 1 (length run) p.0; few = leb-true (length run) 18 p.1; digits = digits_run text; worth = value ∙ ap (λ (x : ℕ × List ℕ). x.0) m.2 },
            sym (take-append-drop (prefix_len is_ascii_digit text) text) ∙ ap (λ (x : ℕ × List ℕ). run ++ x.1) m.2,
          ))
      | inr k ↦ never m.0 k.1
    ]

-- and an argument is a blank and a decimal
found : (text : List ℕ) (a : ℕ × List ℕ) → argument_in text ≡ Some a → (word : List ℕ) × Decimal a.0 word × (text ≡ 32 ∷ (word ++ a.1))
found [] a h = never a h
found (b ∷ bs) a h =
    elim (way (eqb b 32) (front_number bs) None a h) [
      | inl k ↦ (
          let w = front_found bs a k.1 in
          (w.0, w.1, ap (λ (x : ℕ). x ∷ bs) (eqb-true b 32 k.0) ∙ ap (λ (xs : List ℕ). 32 ∷ xs) w.2))
      | inr k ↦ never a k.1
    ]

tail_more : (numbers text : List ℕ) (a : ℕ × List ℕ) → argument_in text ≡ Some a → Tail numbers a.1 → Tail (a.0 ∷ numbers) text
tail_more numbers text a h t =
    let w = found text a h in
    record { words = w.0 ∷ t.words; decimals = (w.1, t.decimals); whole = w.2 ∙ ap (λ (xs : List ℕ). 32 ∷ (w.0 ++ xs)) t.whole }

tail_end : (text : List ℕ) (c d : Command) → ended_in text c ≡ Some d → Tail [] text × (c ≡ d)
tail_end [] c d h = (record { words = []; decimals = tt; whole = refl }, cc)
tail_end (b ∷ bs) c d h = never d h

-- the letter and what follows it
spells : (letter : ℕ) (text : List ℕ) (c d : Command) → letter ≡ letter_of c → Tail (arguments_of c) text → c ≡ d → Spells d (letter ∷ text)
spells letter text c d l t same =
    subst (λ (x : Command). Spells x (letter ∷ text)) same
    (record { words = t.words; decimals = t.decimals; whole = ap (λ (x : ℕ). x ∷ text) l ∙ ap (λ (xs : List ℕ). letter_of c ∷ xs) t.whole ∙ sym (line_spaced (letter_of c ∷ []) t.words) })

refine_spells : (letter : ℕ) (text : List ℕ) (d : Command) → letter ≡ 82 → refine_in text ≡ Some d → Spells d (letter ∷ text)
refine_spells letter text d l e =
    let a = before _ (argument_in text) d e in
    let b = before _ (argument_in a.0.1) d a.2 in
    let c = before _ (argument_in b.0.1) d b.2 in
    let end = tail_end c.0.1 (Refine a.0.0 b.0.0 c.0.0) d c.2 in
    spells letter text (Refine a.0.0 b.0.0 c.0.0) d l (tail_more _ text a.0 a.1 (tail_more _ a.0.1 b.0 b.1 (tail_more _ b.0.1 c.0 c.1 end.0))) end.1

sweep_spells : (letter : ℕ) (text : List ℕ) (d : Command) → letter ≡ 83 → sweep_in text ≡ Some d → Spells d (letter ∷ text)
sweep_spells letter text d l e =
    let a = before _ (argument_in text) d e in
    let end = tail_end a.0.1 (Sweep a.0.0) d a.2 in
    spells letter text (Sweep a.0.0) d l (tail_more _ text a.0 a.1 end.0) end.1

quote_spells : (letter : ℕ) (text : List ℕ) (d : Command) → letter ≡ 81 → quote_in text ≡ Some d → Spells d (letter ∷ text)
quote_spells letter text d l e =
    let a = before _ (argument_in text) d e in
    let b = before _ (argument_in a.0.1) d a.2 in
    let end = tail_end b.0.1 (Quote a.0.0 b.0.0) d b.2 in
    spells letter text (Quote a.0.0 b.0.0) d l (tail_more _ text a.0 a.1 (tail_more _ a.0.1 b.0 b.1 end.0)) end.1

bare_spells : (letter : ℕ) (text : List ℕ) (c d : Command) → arguments_of c ≡ [] → letter ≡ letter_of c → ended_in text c ≡ Some d → Spells d (letter ∷ text)
bare_spells letter text c d bare l e =
    let end = tail_end text c d e in
    spells letter text c d l (subst (λ (ns : List ℕ). Tail ns text) (sym bare) end.0) end.1

-- what is read is spelled
pub read_spells : (line : List ℕ) (d : Command) → command_of line ≡ Some d → Spells d line
read_spells [] d e0 = never d e0
read_spells (b ∷ text) d e0 =
    elim (way (eqb b 82) (refine_in text) _ d e0) [
      | inl k ↦ refine_spells b text d (eqb-true b 82 k.0) k.1
      | inr e1 ↦ (
          elim (way (eqb b 83) (sweep_in text) _ d e1.1) [
            | inl k ↦ sweep_spells b text d (eqb-true b 83 k.0) k.1
            | inr e2 ↦ (
                elim (way (eqb b 81) (quote_in text) _ d e2.1) [
                  | inl k ↦ quote_spells b text d (eqb-true b 81 k.0) k.1
                  | inr e3 ↦ (
                      elim (way (eqb b 80) (ended_in text Plan) _ d e3.1) [
                        | inl k ↦ bare_spells b text Plan d refl (eqb-true b 80 k.0) k.1
                        | inr e4 ↦ (
                            elim (way (eqb b 67) (ended_in text Close) None d e4.1) [
                              | inl k ↦ bare_spells b text Close d refl (eqb-true b 67 k.0) k.1
                              | inr e5 ↦ never d e5.1
                            ])
                      ])
                ])
          ])
    ]

-- a decimal that a blank or the end follows is the whole run of digits
run_word : (word : List ℕ) (words : List (List ℕ)) → all_ascii_digits word ≡ true → take_while is_ascii_digit (word ++ spaced words) ≡ word
run_word [] [] h = refl
run_word [] (w ∷ ws) h = refl
run_word (b ∷ bs) words h =
    let p = and_parts (is_ascii_digit b) (all_ascii_digits bs) h in
    take_while-cons is_ascii_digit b (bs ++ spaced words) ∙ cond-true (is_ascii_digit b) (b ∷ take_while is_ascii_digit (bs ++ spaced words)) [] p.0
    ∙ ap (λ (xs : List ℕ). b ∷ xs) (run_word bs words p.1)

-- a blank and a decimal are read as an argument
written : (n : ℕ) (word : List ℕ) (words : List (List ℕ)) → Decimal n word → argument_in (spaced (word ∷ words)) ≡ Some (n, spaced words)
written n word words d =
    let text : List ℕ = word ++ spaced words in
    let run = run_word word words d.digits in
    let size : prefix_len is_ascii_digit text ≡ length word = sym (length-prefix_len is_ascii_digit text) ∙ ap length run in
    let number : number_of (take_while is_ascii_digit text) ≡ Some n = ap number_of run ∙ number_some word d.some d.few ∙ ap Some d.worth in
    ap (option_map (λ (m : ℕ). (m, drop (prefix_len is_ascii_digit text) text))) number
    ∙ ap (λ (k : ℕ). Some (n, drop k text)) size ∙ ap (λ (rest : List ℕ). Some (n, rest)) (drop_at word (spaced words) (length word) refl)

-- a step that gives something, and then the rest
onward : {A B : Type 0} (next : A → Option B) (o : Option A) (x : A) (z : Option B) → o ≡ Some x → next x ≡ z → option_and_then next o ≡ z
onward next o x z e f = ap (option_and_then next) e ∙ f

-- what is spelled is read
pub spelled_reads : (c : Command) (words : List (List ℕ)) → Decimals (arguments_of c) words → command_of (letter_of c ∷ spaced words) ≡ Some c
spelled_reads (Refine x y z) (u ∷ v ∷ w ∷ []) d =
    onward _ _ _ _ (written x u (v ∷ w ∷ []) d.0) (onward _ _ _ _ (written y v (w ∷ []) d.1.0) (onward _ _ _ _ (written z w [] d.1.1.0) refl))
spelled_reads (Refine x y z) [] d = absurd d
spelled_reads (Refine x y z) (u ∷ []) d = absurd d.1
spelled_reads (Refine x y z) (u ∷ v ∷ []) d = absurd d.1.1
spelled_reads (Refine x y z) (u ∷ v ∷ w ∷ t ∷ ts) d = absurd d.1.1.1
spelled_reads (Sweep x) (u ∷ []) d = onward _ _ _ _ (written x u [] d.0) refl
spelled_reads (Sweep x) [] d = absurd d
spelled_reads (Sweep x) (u ∷ v ∷ vs) d = absurd d.1
spelled_reads (Quote x y) (u ∷ v ∷ []) d = onward _ _ _ _ (written x u (v ∷ []) d.0) (onward _ _ _ _ (written y v [] d.1.0) refl)
spelled_reads (Quote x y) [] d = absurd d
spelled_reads (Quote x y) (u ∷ []) d = absurd d.1
spelled_reads (Quote x y) (u ∷ v ∷ w ∷ ws) d = absurd d.1.1
spelled_reads Plan [] d = refl
spelled_reads Plan (u ∷ us) d = absurd d
spelled_reads Close [] d = refl
spelled_reads Close (u ∷ us) d = absurd d

reads : (line : List ℕ) (c : Command) → Spells c line → command_of line ≡ Some c
reads line c s = ap command_of (s.whole ∙ line_spaced (letter_of c ∷ []) s.words) ∙ spelled_reads c s.words s.decimals

none_spelled : (line : List ℕ) (o : Option Command) → command_of line ≡ o → ((c : Command) → Spells c line → ⊥) → o ≡ None
none_spelled line None e h = refl
none_spelled line (Some c) e h = absurd (h c (read_spells line c e))

pub command_law : (line : List ℕ) → CommandLaw line
command_law line = record {
  spelled = λ c. (read_spells line c, reads line c);
  single = λ c d s t. (let p = reads line c s in let q = reads line d t in cc);
  refused = (λ e c s. (let p = reads line c s in let z : ◌≡◌ {A = ℕ} 0 1 = cc in omega arith), none_spelled line (command_of line) refl);
}
