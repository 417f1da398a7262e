use Rattle.std.proofs.Common.{◌≡◌, ℕ, List, replicate, ℤ, pos, refl, ◌∙◌, ap₂, w64, SFits, rules, arith}
use Rattle.std.proofs.lemmas.List.{with_items_is}
use Rattle.std.proofs.lemmas.Int.{to_z-of_z}
use Rattle.table.specs.Table.{Table}
use Rattle.book.specs.Layouts.{layout_table}
use Rattle.book.proofs.Starts.{started}
use Rattle.book.proofs.Layouts.{law}
use Rattle.book.proofs.start.write_start.Goals as goal

-- a list that is filled with one number
filled : (xs : List ℤ) (n m : ℕ) (a b : ℤ) → (((y : ℤ) → y ≡ a → y ≡ a) → xs ≡ replicate n a) → n ≡ m → a ≡ b → xs ≡ replicate m b
filled xs n m a b h e q = h (λ y w. w) ∙ ap₂ replicate e q

pub returns : goal.returns
returns c =
    let T : Table = layout_table c.args.layout.now in
    let B = c.args.book.now in
    let S = c.requires.sized in
    let fb : SFits w64 c.widest-bottom.result.0 = search rules in
    let ft : SFits w64 c.widest-bottom.result.1 = search rules in
    let eb = c.widest-bottom.ensures.bottom in
    let et = c.widest-bottom.ensures.top in
    started T (law c.args.layout.now) _ record {
      vector = filled _ _ _ (pos 0) _ c.fill.ensures.items S.vector refl;
      recorded = with_items_is B.recorded c.record_first.new.recorded (search rules) ∙ c.record_first.ensures;
      lo = filled _ _ _ _ _ (simp to_z-of_z at c.fill-2.ensures.items) S.lo eb;
      hi = filled _ _ _ _ _ (simp to_z-of_z at c.fill-3.ensures.items) S.hi et;
      x = filled _ _ _ _ _ (simp to_z-of_z at c.fill-4.ensures.items) S.x et;
      y = filled _ _ _ _ _ (simp to_z-of_z at c.fill-5.ensures.items) S.y eb;
      plan = with_items_is B.plan c.plan_first.new.plan (search rules) ∙ c.plan_first.ensures;
      halfway = S.halfway;
      marks = S.marks;
      room = (
        let a = c.fill.ensures.capacity in let r = S.room.0 in omega arith,
        S.room.1,
        let a = c.fill-2.ensures.capacity in let r = S.room.2 in omega arith,
        let a = c.fill-3.ensures.capacity in let r = S.room.3 in omega arith,
        let a = c.fill-4.ensures.capacity in let r = S.room.4 in omega arith,
        let a = c.fill-5.ensures.capacity in let r = S.room.5 in omega arith,
        S.room.6,
        S.room.7,
        S.room.8,
      );
    }
