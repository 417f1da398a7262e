-- A fault names a limit and the place at which it is broken.
use Rattle.std.specs.Prelude.{ℕ, zero, suc, Bool, false, not, ◌&&◌, ◌||◌, List, ◌++◌, pos, neg_ℤ, ◌==◌, int_le, nat_le, nat_lt, codes, decimal}
use Rattle.table.specs.Sums.{sum_n}
use Rattle.table.specs.Table.{Table, successor, weight}
use Rattle.table.specs.Limits.{StatesWithin, DenominatorWithin, ChoicesWithin, RewardWithin, BranchesWithin, SuccessorWithin, WeightPresent, SuccessorNew, WeightsComplete}
use Rattle.table.specs.declared.fault.Fault.{Fault}
use Rattle.table.specs.declared.fault.Fault.TheVariants.{States, Denominator, Choices, Reward, Branches, Successor, Weight, Repeated, Sum}
use Rattle.table.specs.declared.fault.Notice.{Notice}

abbrev pub noted : ℕ → ℕ → ℕ → ℕ → Notice
noted number state choice branch = record { number = number; state = state; choice = choice; branch = branch }

-- a notice in print, each number in decimal
abbrev pub notice_text : Notice → List ℕ
notice_text n =
    decimal n.number ++ (codes " at state " ++ (decimal n.state ++ (codes ", choice " ++ (decimal n.choice ++ (codes ", branch " ++ decimal n.branch)))))

-- the number of each fault, with its state, choice and branch; 0 where the walk did not reach one
abbrev pub notice_of : Fault → Notice
notice_of States = noted 11 0 0 0
notice_of Denominator = noted 12 0 0 0
notice_of (Choices s) = noted 13 s 0 0
notice_of (Reward s c) = noted 14 s c 0
notice_of (Branches s c) = noted 15 s c 0
notice_of (Successor s c b) = noted 16 s c b
notice_of (Weight s c b) = noted 17 s c b
notice_of (Repeated s c b) = noted 18 s c b
notice_of (Sum s c) = noted 19 s c 0

-- the limit that a fault names, at its place, in plain words
abbrev pub Limit : Table → Fault → Type 0
Limit T States = StatesWithin T
Limit T Denominator = DenominatorWithin T
Limit T (Choices s) = ChoicesWithin T s
Limit T (Reward s c) = RewardWithin T s c
Limit T (Branches s c) = BranchesWithin T s c
Limit T (Successor s c b) = SuccessorWithin T s c b
Limit T (Weight s c b) = WeightPresent T s c b
Limit T (Repeated s c b) = SuccessorNew T s c b
Limit T (Sum s c) = WeightsComplete T s c

-- whether one of the first k branches of a choice leads to u
abbrev pub leads_to : Table → ℕ → ℕ → ℕ → ℕ → Bool
leads_to T s c u zero = false
leads_to T s c u (suc k) = leads_to T s c u k || successor T s c k == u

-- the same limit as a test that computes
abbrev pub kept : Table → Fault → Bool
kept T States = nat_le 1 T.states && nat_le T.states 256
kept T Denominator = nat_le 1 T.denominator && nat_le T.denominator 65536
kept T (Choices s) = nat_le 1 (T.choices s) && nat_le (T.choices s) 16
kept T (Reward s c) = int_le (neg_ℤ (pos 1000000)) (T.reward s c) && int_le (T.reward s c) (pos 1000000)
kept T (Branches s c) = nat_le 1 (T.branches s c) && nat_le (T.branches s c) 8
kept T (Successor s c b) = nat_lt (successor T s c b) T.states
kept T (Weight s c b) = nat_le 1 (weight T s c b)
kept T (Repeated s c b) = not (leads_to T s c (successor T s c b) b)
kept T (Sum s c) = sum_n (T.branches s c) (weight T s c) == T.denominator
