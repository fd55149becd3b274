-- Why groups of nodes are refused as a cut.
use Rattle.std.specs.Prelude.{◌≡◌, ◌==◌, ◌&&◌, ℕ, ◌<◌, nat_lt, List, map, sum_by, count_by, fold, position, Option, Some, option_map, if◌then◌else◌}
use Rattle.std.specs.List.{list_any, enumerate_from, range_with_len}
use Rattle.std.specs.Option.{option_or}
use Rattle.partition_cut.specs.declared.network.Shape.{Shape}
use Rattle.partition_cut.specs.declared.verdict.CutBad.{CutBad}
use Rattle.partition_cut.specs.declared.verdict.CutBad.TheVariants.{Twice, Missing, Lan, ZeroDelay}
use Rattle.partition_cut.specs.declared.verdict.CutStop.{CutStop}
use Rattle.partition_cut.specs.declared.verdict.CutStop.TheVariants.{Bad, NoMemory}
use Rattle.partition_cut.specs.AllowedCut.{IsAllowed, is_apart, is_cut}
use Rattle.partition_cut.specs.Network.{Link, PlainShape, group_at, node_lists, plain_shape}

-- in how many places of the groups a node stands
abbrev pub places : List (List ℕ) → ℕ → ℕ
places groups node = sum_by (count_by (λ member. member == node)) groups

-- the number of the group that holds a node: of the last one, where several do
abbrev pub group_in : List (List ℕ) → ℕ → ℕ
group_in groups node =
    fold (λ held group. if list_any (λ member. member == node) group.1 then group.0 else held) 0 (enumerate_from 0 groups)

-- the group of each of so many nodes
abbrev pub groups_in : ℕ → List (List ℕ) → List ℕ
groups_in nodes groups = map (group_in groups) (range_with_len 0 nodes)

-- the group of each node
abbrev pub groups_of : Shape → List (List ℕ) → List ℕ
groups_of shape groups = groups_in shape.nodes groups

-- groups in which each node stands once, and which are allowed
pub record AreAllowed (shape : Shape) (groups : List (List ℕ)) : Type 0 where
  pub once : (node : ℕ) → node < shape.nodes → places groups node ≡ 1
  pub allowed : IsAllowed shape (group_at (groups_of shape groups))

-- the first refusal for where so many nodes stand: a node in two places, a node in none
abbrev pub place_refusal_in : ℕ → List (List ℕ) → Option CutBad
place_refusal_in nodes groups =
    option_or (option_map Twice (position (λ node. nat_lt 1 (places groups node)) (range_with_len 0 nodes)))
    (option_map Missing (position (λ node. places groups node == 0) (range_with_len 0 nodes)))

abbrev pub place_refusal : Shape → List (List ℕ) → Option CutBad
place_refusal shape groups = place_refusal_in shape.nodes groups

-- the first refusal for what joins groups: a LAN in two groups, a link without delay between two groups
abbrev pub network_refusal_in : List Link → List (List ℕ) → (ℕ → ℕ) → Option CutBad
network_refusal_in links lans group_of =
    option_or (option_map Lan (position (is_apart group_of) lans))
    (option_map ZeroDelay (position (λ link. is_cut group_of link && (link.2.0 == 0)) links))

abbrev pub network_refusal : Shape → (ℕ → ℕ) → Option CutBad
network_refusal shape group_of = network_refusal_in shape.links.items (node_lists shape.lans.items) group_of

-- the first refusal of groups of a network's nodes, of each kind with the least number
unfoldable pub refusal_in : PlainShape → List (List ℕ) → Option CutBad
refusal_in net groups =
    option_or (place_refusal_in net.nodes groups) (network_refusal_in net.links net.lans (group_at (groups_in net.nodes groups)))

abbrev pub first_refusal : Shape → List (List ℕ) → Option CutBad
first_refusal shape groups = refusal_in (plain_shape shape) groups

-- a stop says why: it is the refusal, or memory ran out
abbrev pub IsRefusedFor : CutStop → Option CutBad → Type 0
IsRefusedFor (Bad bad) refusal = refusal ≡ Some bad
IsRefusedFor NoMemory refusal = Unit {0}
