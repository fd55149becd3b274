-- Which cuts of a network into groups are allowed, and how far ahead their groups may run.
use Rattle.std.specs.Prelude.{◌≡◌, ◌≢◌, ◌==◌, ℕ, ◌<◌, ◌≤◌, Bool, not, List, fold, length, All, Any, Option, Some, None, slice_index, min, if◌then◌else◌}
use Rattle.std.specs.List.{list_any}
use Rattle.sim_base.specs.declared.time.Time.{Time}
use Rattle.partition_cut.specs.declared.network.Shape.{Shape}
use Rattle.partition_cut.specs.declared.network.Cut.{Cut}
use Rattle.partition_cut.specs.Network.{Link, node_lists, group_at}

-- whether the ends of a link are in two groups
abbrev pub is_cut : (ℕ → ℕ) → Link → Bool
is_cut group_of link = not (group_of link.0 == group_of link.1)

-- whether some node of a list is in another group than the first
abbrev pub is_apart : (ℕ → ℕ) → List ℕ → Bool
is_apart group_of nodes = list_any (λ node. not (group_of node == group_of (slice_index nodes 0))) nodes

-- each LAN lies within one group, and each link with its ends in two groups has a positive delay
pub record IsAllowed (shape : Shape) (group_of : ℕ → ℕ) : Type 0 where
  pub lans : All (λ lan. All (λ a. All (λ b. group_of a ≡ group_of b) lan) lan) (node_lists shape.lans.items)
  pub links : All (λ link. group_of link.0 ≢ group_of link.1 → 0 < link.2.0) shape.links.items

-- the lookahead is the least delay of a link with its ends in two groups, if there is one
abbrev pub IsLookahead : (ℕ → ℕ) → List Link → Option Time → Type 0
IsLookahead group_of links None = All (λ link. group_of link.0 ≡ group_of link.1) links
IsLookahead group_of links (Some least) =
    Any (λ link. (group_of link.0 ≢ group_of link.1) × (link.2 ≡ least)) links
    × All (λ link. group_of link.0 ≢ group_of link.1 → least.0 ≤ link.2.0) links

-- the sooner of a delay and the least so far
abbrev pub sooner_of : Option Time → Time → Time
sooner_of None delay = delay
sooner_of (Some least) delay = record { 0 = min least.0 delay.0 }

-- the least delay so far, with one more link
abbrev pub least_with_link : (ℕ → ℕ) → Option Time → Link → Option Time
least_with_link group_of least link =
    if group_of link.0 == group_of link.1 then least else Some (sooner_of least link.2)

-- the least delay of a link with its ends in two groups, if there is one
abbrev pub lookahead_of : (ℕ → ℕ) → List Link → Option Time
lookahead_of group_of links = fold (least_with_link group_of) None links

-- an allowed cut: each node is in one of the groups, each group has a node, and so there are no more groups than nodes
pub record IsCutOf (shape : Shape) (cut : Cut) : Type 0 where
  pub each : length cut.group_of.items ≡ shape.nodes
  pub within : All (λ group. group < cut.groups) cut.group_of.items
  pub used : (g : ℕ) → g < cut.groups → Any (λ group. group ≡ g) cut.group_of.items
  pub few : cut.groups ≤ shape.nodes
  pub allowed : IsAllowed shape (group_at cut.group_of.items)
  pub lookahead : IsLookahead (group_at cut.group_of.items) shape.links.items cut.lookahead
