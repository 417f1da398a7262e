-- How deep a node lies.
use Rattle.std.specs.Prelude.{◌≡◌, ℕ, zero, suc, ◌<◌, ◌≤◌, Bool, false, not, ◌||◌, ◌==◌}
use Rattle.table.specs.Table.{Table, successor}
use Rattle.components.specs.Below.{every, any, first}
use Rattle.components.specs.EndComponent.{Choice}
use Rattle.components.specs.Inside.{inside}
use Rattle.components.specs.Nodes.{node_of}

-- the choice c of the state s leaves the node v
pub record Leaving (T : Table) (v s c : ℕ) : Type 0 where
  pub choice : Choice T s c
  pub node : node_of T s ≡ v
  pub out : inside T s c ≡ false

-- each leaving choice of the node v has a branch to a node with a number below k
abbrev pub Falls : Table → (ℕ → ℕ) → ℕ → ℕ → Type 0
Falls T d v k =
    (s c : ℕ) → Leaving T v s c → (b : ℕ) × (b < T.branches s c) × (d (node_of T (successor T s c b)) < k)

-- d gives the node v its depth: the least k such that each leaving choice has a branch to a node
-- of depth below k; 0 if there is no leaving choice
pub record IsDepth (T : Table) (d : ℕ → ℕ) (v : ℕ) : Type 0 where
  pub falls : Falls T d v (d v)
  pub least : (k : ℕ) → Falls T d v k → d v ≤ k

-- the node v has a depth below k, as it computes
unfoldable pub depth_below : Table → ℕ → ℕ → Bool
depth_below T zero = λ v. false
depth_below T (suc k) =
    let node = node_of T in
    let i = inside T in
    let below = depth_below T k in
    λ v. every T.states (λ s. not (node s == v)
    || every (T.choices s) (λ c. i s c || any (T.branches s c) (λ b. below (node (successor T s c b)))))

-- the depth of the node v
unfoldable pub depth : Table → ℕ → ℕ
depth T v = first T.states (λ k. depth_below T (suc k) v)
