use Rattle.std.proofs.Common.{◌≡◌, ℕ, suc, ◌+◌, ◌-◌, sym, ap, ◌∙◌, arith}
use Rattle.table.specs.Table.{Table}
use Rattle.rules.specs.Setting.{Setting, setting_of}
use Rattle.rules.specs.Book as rules
use Rattle.rules.specs.Sweep.{sweep, sweeps, still}
use Rattle.book.specs.Desks.{desk_table, desk_book}
use Rattle.book.proofs.Sweeps.{sweeps_none, sweeps_stop, sweeps_on}
use Rattle.book.proofs.desk.Desk.sweep_times.Goals as goal

pub returns-then-sweep_once : goal.returns-then-sweep_once
returns-then-sweep_once c =
    let M : Setting = setting_of (desk_table c.args.self.now) in
    let B : rules.Book = desk_book c.loop-made.self in
    let k : ℕ = c.loop-made.made in
    let n : ℕ = c.args.count in
    let more : n - k ≡ suc (n - (k + 1)) = omega arith in
    let table = c.loop-made.invariant.2 in
    let swept = c.sweep_once.ensures.book ∙ ap (λ (T : Table). sweep (setting_of T) B) table in
    let quiet = c.sweep_once.ensures.still ∙ ap (λ (T : Table). still (setting_of T) B (sweep (setting_of T) B)) table in
    let stop = sweeps_stop M (n - (k + 1)) B (sym quiet ∙ c.if-sweep_once.true) in
    let one : (sweeps M (n - k) B).made ≡ 1 = ap (λ (j : ℕ). (sweeps M j B).made) more ∙ stop.1 in
    record {
      table = c.sweep_once.ensures.table ∙ table;
      made = ap (λ (j : ℕ). k + j) (sym one) ∙ c.loop-made.invariant.1;
      book = swept ∙ sym (ap (λ (j : ℕ). (sweeps M j B).book) more ∙ stop.0) ∙ c.loop-made.invariant.0;
    }

pub loop-made-preserved : goal.loop-made-preserved
loop-made-preserved c =
    let M : Setting = setting_of (desk_table c.args.self.now) in
    let B : rules.Book = desk_book c.loop-made.self in
    let after : rules.Book = desk_book c.sweep_once.new.self in
    let k : ℕ = c.loop-made.made in
    let n : ℕ = c.args.count in
    let m : ℕ = n - (k + 1) in
    let more : n - k ≡ suc (n - (k + 1)) = omega arith in
    let table = c.loop-made.invariant.2 in
    let quiet = c.sweep_once.ensures.still ∙ ap (λ (T : Table). still (setting_of T) B (sweep (setting_of T) B)) table in
    let on = sweeps_on M (n - (k + 1)) B (sym quiet ∙ c.if-sweep_once.false) in
    let swept : sweep M B ≡ after = sym (c.sweep_once.ensures.book ∙ ap (λ (T : Table). sweep (setting_of T) B) table) in
    let count : (sweeps M (n - k) B).made ≡ suc (sweeps M m after).made =
    ap (λ (j : ℕ). (sweeps M j B).made) more ∙ on.1 ∙ ap (λ (A : rules.Book). suc (sweeps M m A).made) swept in
    let moved : (k + 1) + (sweeps M m after).made ≡ k + suc (sweeps M m after).made = omega arith in (
      sym (ap (λ (j : ℕ). (sweeps M j B).book) more ∙ on.0 ∙ ap (λ (A : rules.Book). (sweeps M m A).book) swept) ∙ c.loop-made.invariant.0,
      moved ∙ ap (λ (j : ℕ). k + j) (sym count) ∙ c.loop-made.invariant.1,
      c.sweep_once.ensures.table ∙ table,
    )

pub returns : goal.returns
returns c =
    let M : Setting = setting_of (desk_table c.args.self.now) in
    let B : rules.Book = desk_book c.loop-made.self in
    let k : ℕ = c.loop-made.made in
    let n : ℕ = c.args.count in
    let none : n - k ≡ 0 = omega arith in
    let end = sweeps_none M B in
    let zero-made : (sweeps M (n - k) B).made ≡ 0 = ap (λ (j : ℕ). (sweeps M j B).made) none ∙ end.1 in
    let all : n ≡ k + 0 = omega arith in
    record {
      table = c.loop-made.invariant.2;
      made = all ∙ ap (λ (j : ℕ). k + j) (sym zero-made) ∙ c.loop-made.invariant.1;
      book = sym (ap (λ (j : ℕ). (sweeps M j B).book) none ∙ end.0) ∙ c.loop-made.invariant.0;
    }
