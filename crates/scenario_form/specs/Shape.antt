-- The network of a scenario, as its cutting sees it.
use Rattle.std.specs.Prelude.{◌≡◌, ℕ, List, map}
use Rattle.sim_base.specs.declared.key.NodeId.{NodeId}
use Rattle.partition_cut.specs.declared.network.Cut.{Cut}
use Rattle.partition_cut.specs.declared.network.Shape.{Shape}
use Rattle.partition_cut.specs.AllowedCut.{IsCutOf}
use Rattle.partition_cut.specs.Network.{Link as ShapeLink, PlainShape, node_lists}
use Rattle.scenario_form.specs.declared.scenario.Lan.{Lan}
use Rattle.scenario_form.specs.declared.scenario.Link.{Link}
use Rattle.scenario_form.specs.declared.scenario.Scenario.{Scenario}

-- links, as the nodes at their ends and their delays
abbrev pub links_of : List Link → List ShapeLink
links_of links = map (λ link. (link.a.0, link.b.0, link.delay_ns)) links

abbrev pub numbers_of : List NodeId → List ℕ
numbers_of members = map (λ node. node.0) members

-- LANs, as the nodes that are their members
abbrev pub lans_of : List Lan → List (List ℕ)
lans_of lans = map (λ lan. numbers_of lan.members) lans

-- a shape has the nodes of a scenario, its links and its LANs
pub record IsNetworkOf (s : Scenario) (shape : Shape) : Type 0 where
  pub nodes : shape.nodes ≡ s.nodes
  pub links : shape.links.items ≡ links_of s.links
  pub lans : node_lists shape.lans.items ≡ lans_of s.lans

-- the network as plain data
abbrev pub network_of : Scenario → PlainShape
network_of s = record { nodes = s.nodes; links = links_of s.links; lans = lans_of s.lans }

-- an allowed cut of a scenario's network
pub record IsCutFor (s : Scenario) (cut : Cut) : Type 0 where
  pub shape : Shape
  pub network : IsNetworkOf s shape
  pub is_cut : IsCutOf shape cut
