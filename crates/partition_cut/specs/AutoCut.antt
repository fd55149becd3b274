-- The cut that keeps near nodes together: those that a LAN joins, or a link below the median delay.
use Rattle.std.specs.Prelude.{◌≡◌, ◌≢◌, ◌==◌, ℕ, ◌<◌, ◌≤◌, ◌-◌, ◌/◌, Bool, true, nat_lt, min, max, List, ◌++◌, map, filter, count_by, length, Contains, IsPermutation, IsSorted, Option, Some, None, slice_index, slice_get, if◌then◌else◌, ◌↔◌}
use Rattle.std.specs.List.{flat_map, range_with_len}
use Rattle.std.specs.Ordering.{nat_cmp}
use Rattle.partition_cut.specs.declared.network.Shape.{Shape}
use Rattle.partition_cut.specs.declared.network.Cut.{Cut}
use Rattle.partition_cut.specs.Network.{Link, node_lists, group_at}

-- the positive delays of links
abbrev pub positive_delays : List Link → List ℕ
positive_delays links = filter (nat_lt 0) (map (λ link. link.2.0) links)

-- the median of some delays, if there are any: the one at index (n - 1) / 2 of their order
pub record IsMedian (delays : List ℕ) (median : Option ℕ) : Type 0 where
  pub sorted : List ℕ
  pub permutes : IsPermutation delays sorted
  pub ordered : IsSorted nat_cmp sorted
  pub middle : slice_get sorted ((length sorted - 1) / 2) ≡ median

-- whether a link is kept within a group
abbrev pub is_kept : Option ℕ → Link → Bool
is_kept None link = true
is_kept (Some threshold) link = nat_lt link.2.0 threshold

-- the pairs of nodes that kept links join
abbrev pub pairs_of_links : Option ℕ → List Link → List (ℕ × ℕ)
pairs_of_links threshold links = map (λ link. (link.0, link.1)) (filter (is_kept threshold) links)

-- the pairs of nodes that a LAN joins: its first member and each of its members
abbrev pub pairs_of_lan : List ℕ → List (ℕ × ℕ)
pairs_of_lan lan = map (λ node. (slice_index lan 0, node)) lan

-- the pairs of nodes that stay together
abbrev pub pairs_in : Option ℕ → List Link → List (List ℕ) → List (ℕ × ℕ)
pairs_in threshold links lans = pairs_of_links threshold links ++ flat_map pairs_of_lan lans

abbrev pub pairs_of : Option ℕ → Shape → List (ℕ × ℕ)
pairs_of threshold shape = pairs_in threshold shape.links.items (node_lists shape.lans.items)

-- a walk from node to node over pairs, in either direction
pub data Walk (pairs : List (ℕ × ℕ)) : ℕ → ℕ → Type 0 where
  Stays : {n : ℕ} → Walk pairs n n
  Goes : {n m k : ℕ} → Contains pairs (n, m) → Walk pairs m k → Walk pairs n k
  Comes : {n m k : ℕ} → Contains pairs (m, n) → Walk pairs m k → Walk pairs n k

-- no node before this one is in its group
abbrev pub IsLeast : (ℕ → ℕ) → ℕ → Type 0
IsLeast group_of n = (k : ℕ) → k < n → group_of k ≢ group_of n

-- nodes are in one group exactly where a walk joins them, and groups are numbered by their least node
pub record IsAutoCut (shape : Shape) (cut : Cut) : Type 0 where
  pub threshold : Option ℕ
  pub median : IsMedian (positive_delays shape.links.items) threshold
  pub joined : (n m : ℕ) → n < shape.nodes → m < shape.nodes →
      (group_at cut.group_of.items n ≡ group_at cut.group_of.items m) ↔ Walk (pairs_of threshold shape) n m
  pub numbered : (n m : ℕ) → n < m → m < shape.nodes → IsLeast (group_at cut.group_of.items) n → IsLeast (group_at cut.group_of.items) m →
      group_at cut.group_of.items n < group_at cut.group_of.items m

-- the labels of nodes when the labels of a pair are made one, the lesser
abbrev pub joined : List ℕ → ℕ × ℕ → List ℕ
joined labels pair =
    let a = slice_index labels pair.0 in let b = slice_index labels pair.1 in
    map (λ label. if label == max a b then min a b else label) labels

-- each node's label is no greater than the node, and is its own label
abbrev pub AreSettled : List ℕ → Type 0
AreSettled labels = (i : ℕ) → i < length labels →
    (slice_index labels i ≤ i) × (slice_index labels (slice_index labels i) ≡ slice_index labels i)

-- how many nodes below a node have their own label
abbrev pub rank : List ℕ → ℕ → ℕ
rank labels n = count_by (λ k. slice_index labels k == k) (range_with_len 0 n)
