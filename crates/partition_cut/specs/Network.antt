-- Networks of nodes, links and LANs, as their cutting sees them.
use Rattle.std.specs.Prelude.{ℕ, ◌<◌, ◌^◌, List, map, length, All, Option, Vec, slice_index}
use Rattle.std.specs.Global.{Global}
use Rattle.std.specs.List.{range_with_len}
use Rattle.sim_base.specs.declared.time.Time.{Time}
use Rattle.partition_cut.specs.declared.network.Cut.{Cut}
use Rattle.partition_cut.specs.declared.network.Shape.{Shape}

-- a link: the nodes at its ends, and its delay
abbrev pub Link : Type 0
Link = ℕ × ℕ × Time

-- lists of nodes, as groups and LANs are
abbrev pub node_lists : List (Vec ℕ Global) → List (List ℕ)
node_lists lists = map (λ list. list.items) lists

-- a network as plain data: the number of nodes, the links, and the LANs as lists of their members
pub record PlainShape : Type 0 where
  pub nodes : ℕ
  pub links : List Link
  pub lans : List (List ℕ)

abbrev pub plain_shape : Shape → PlainShape
plain_shape shape = record { nodes = shape.nodes; links = shape.links.items; lans = node_lists shape.lans.items }

-- a cut as plain data: the group of each node, the number of groups, and the lookahead
pub record PlainCut : Type 0 where
  pub group_of : List ℕ
  pub groups : ℕ
  pub lookahead : Option Time

abbrev pub plain_cut : Cut → PlainCut
plain_cut cut = record { group_of = cut.group_of.items; groups = cut.groups; lookahead = cut.lookahead }

-- the nodes of a shape, in their order
abbrev pub nodes_of : Shape → List ℕ
nodes_of shape = range_with_len 0 shape.nodes

-- the group of a node, by a list that has one for each node
abbrev pub group_at : List ℕ → ℕ → ℕ
group_at numbers node = slice_index numbers node

-- links and LANs that name nodes of the shape, and are so few that a u32 numbers them
pub record IsShape (shape : Shape) : Type 0 where
  pub links : All (λ link. (link.0 < shape.nodes) × (link.1 < shape.nodes)) shape.links.items
  pub lans : All (λ lan. All (λ node. node < shape.nodes) lan) (node_lists shape.lans.items)
  pub few_links : length shape.links.items < 2 ^ 32
  pub few_lans : length shape.lans.items < 2 ^ 32

-- groups that name nodes of the shape, none of them empty
abbrev pub AreGroups : Shape → List (List ℕ) → Type 0
AreGroups shape groups = All (λ group. (0 < length group) × All (λ node. node < shape.nodes) group) groups
