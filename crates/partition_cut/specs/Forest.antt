-- Trees of nodes, in which each node leads to its label.
use Rattle.std.specs.Prelude.{◌≡◌, ℕ, ◌<◌, ◌≤◌, List, length, slice_index}

-- each node names a parent, which is no greater than the node
abbrev pub AreParents : List ℕ → Type 0
AreParents parents = (n : ℕ) → n < length parents → slice_index parents n ≤ n

-- a node has the label of its parent, and a node that is its own parent has its own number as label
pub record LeadTo (parents labels : List ℕ) : Type 0 where
  pub each : length labels ≡ length parents
  pub step : (n : ℕ) → n < length parents → slice_index labels (slice_index parents n) ≡ slice_index labels n
  pub root : (n : ℕ) → n < length parents → slice_index parents n ≡ n → slice_index labels n ≡ n
