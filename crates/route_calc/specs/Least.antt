-- How a node reaches a network, as a function: by the least of the walks that have no more hops than there are nodes.
use Rattle.std.specs.Prelude.{ℕ, zero, suc, ◌+◌, ◌==◌, nat_lt, Bool, true, false, ◌&&◌, ◌||◌, if◌then◌else◌, List, [], ◌∷◌, map, filter, Option, Some, None}
use Rattle.std.specs.List.{filter_map, flat_map, list_any}
use Rattle.route_calc.specs.declared.graph.Graph.{Graph}
use Rattle.route_calc.specs.declared.graph.Net.{Net}
use Rattle.route_calc.specs.declared.graph.Member.{Member}
use Rattle.route_calc.specs.declared.graph.Reach.{Reach}
use Rattle.route_calc.specs.declared.graph.Reach.TheVariants.{Here, Unreachable, Via}

-- a network as plain data: what it costs to go over it, and its members
pub record PlainNet : Type 0 where
  pub cost : ℕ
  pub members : List Member

abbrev pub plain : Net → PlainNet
plain net = record { cost = net.cost; members = net.members.items }

-- the networks of a graph
abbrev pub nets_of : Graph → List PlainNet
nets_of g = map plain g.nets.items

-- a hop goes over a network, from one of its members to one of its members
pub record Hop : Type 0 where
  pub cost : ℕ
  pub from : Member
  pub to : Member

abbrev pub hop : PlainNet → Member → Member → Hop
hop net from to = record { cost = net.cost; from = from; to = to }

abbrev pub hops_over : PlainNet → List Hop
hops_over net = flat_map (λ from. map (hop net from) net.members) net.members

-- the hops that a node can make
abbrev pub hops_from : List PlainNet → ℕ → List Hop
hops_from nets node = filter (λ h. h.from.node == node) (flat_map hops_over nets)

-- the walks from a node of at most so many hops: each goes on from where the hop before it led
unfoldable pub walks : List PlainNet → ℕ → ℕ → List (List Hop)
walks nets zero node = [] ∷ []
walks nets (suc most) node = [] ∷ flat_map (λ h. map (λ hops. h ∷ hops) (walks nets most h.to.node)) (hops_from nets node)

-- the node to which a walk from a node leads
abbrev pub end_of : ℕ → List Hop → ℕ
end_of node [] = node
end_of node (h ∷ hops) = end_of h.to.node hops

-- a walk costs the sum of the costs of the networks that it goes over
abbrev pub cost_of : List Hop → ℕ
cost_of [] = 0
cost_of (h ∷ hops) = h.cost + cost_of hops

-- a node is on a network
abbrev pub is_on : PlainNet → ℕ → Bool
is_on net node = list_any (λ m. m.node == node) net.members

-- what a walk costs, and by which interface and to which neighbour it begins
pub record Lead : Type 0 where
  pub distance : ℕ
  pub iface : ℕ
  pub neighbour : ℕ

abbrev pub lead_of : List Hop → Option Lead
lead_of [] = None
lead_of (h ∷ hops) = Some (record { distance = cost_of (h ∷ hops); iface = h.from.iface; neighbour = h.to.addr })

-- less by its cost; where that is the same by its interface; and where that is the same too, by its neighbour
abbrev pub is_less : Lead → Lead → Bool
is_less a b =
    nat_lt a.distance b.distance
    || ((a.distance == b.distance) && (nat_lt a.iface b.iface || ((a.iface == b.iface) && nat_lt a.neighbour b.neighbour)))

abbrev pub lesser : Lead → Option Lead → Lead
lesser a None = a
lesser a (Some b) = if is_less b a then b else a

-- the least of some
abbrev pub least : List Lead → Option Lead
least [] = None
least (lead ∷ leads) = Some (lesser lead (least leads))

-- how the least walk from a node to a network that it isn't on begins, where a walk leads there
abbrev pub least_lead : List PlainNet → ℕ → ℕ → PlainNet → Option Lead
least_lead nets nodes node net =
    if is_on net node
    then None
    else least (filter_map lead_of (filter (λ hops. is_on net (end_of node hops)) (walks nets nodes node)))

-- the same of an answer
abbrev pub answer : Reach → Option Lead
answer Here = None
answer Unreachable = None
answer (Via iface neighbour distance) = Some (record { distance = distance; iface = iface; neighbour = neighbour })
