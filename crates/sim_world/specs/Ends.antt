-- The interfaces of nodes: the ends of links, and faces on LANs.
use Rattle.std.specs.Prelude.{ℕ, ◌+◌, ◌<◌, List, [], ◌∷◌, ◌++◌, fold, length}
use Rattle.std.specs.List.{enumerate_from, zip}
use Rattle.sim_base.specs.declared.key.NodeId.{NodeId}
use Rattle.scenario_form.specs.declared.scenario.Lan.{Lan}
use Rattle.scenario_form.specs.declared.scenario.Link.{Link as SLink}
use Rattle.sim_world.specs.declared.ends.End.{End}
use Rattle.sim_world.specs.declared.ends.Medium.{Medium}
use Rattle.sim_world.specs.declared.ends.Medium.TheVariants.{Link, OnLan}
use Rattle.sim_world.specs.declared.networks.Network.{Network}
use Rattle.sim_world.specs.Grouping.{grouped, joined, under}
use Rattle.sim_world.specs.Networks.{IsNetwork, lan_network, link_network}

abbrev pub node_of : End → ℕ
node_of e = e.place.node.0

-- the ends at a node: its interfaces, numbered from 0
abbrev pub ends_at : ℕ → List End → List End
ends_at n ends = under node_of n ends

-- the number of the next interface of a node
abbrev pub next_iface : NodeId → List End → ℕ
next_iface node ends = length (ends_at node.0 ends)

-- the end of a link at one of its nodes, behind the ends that there are
abbrev pub end_of : List End → Network → NodeId → ℕ → NodeId → End
end_of ends network node addr peer = record {
  place = record { node = node; iface = next_iface node ends };
  addr = addr;
  network = network;
  medium = Link (record { node = peer; iface = next_iface peer ends });
}

-- a link adds an interface to each of its nodes
abbrev pub with_link : List End → ℕ × SLink → List End
with_link ends l =
    ends ++ end_of ends (link_network l.0 l.1) l.1.a l.1.a_addr l.1.b ∷ end_of ends (link_network l.0 l.1) l.1.b l.1.b_addr l.1.a ∷ []

-- a member's interface on a LAN, behind the ends that there are
abbrev pub face_of : List End → Network → ℕ → NodeId → ℕ → End
face_of ends network lan node addr = record {
  place = record { node = node; iface = next_iface node ends };
  addr = addr;
  network = network;
  medium = OnLan lan;
}

abbrev pub with_face : Network → ℕ → List End → NodeId × ℕ → List End
with_face network lan ends member = ends ++ face_of ends network lan member.0 member.1 ∷ []

-- a LAN adds an interface to each of its members, behind so many links
abbrev pub with_lan : ℕ → List End → ℕ × Lan → List End
with_lan links ends l = fold (with_face (lan_network (links + l.0) l.1) l.0) ends (zip l.1.members l.1.addrs)

-- the ends of links in their order, and then the faces on LANs in theirs
unfoldable pub ends_of : List SLink → List Lan → List End
ends_of links lans = fold (with_lan (length links)) (fold with_link [] (enumerate_from 0 links)) (enumerate_from 0 lans)

-- the interfaces of all nodes, node by node
abbrev pub in_order : ℕ → List End → List End
in_order nodes ends = joined (grouped node_of nodes ends)

-- where there are so many LANs
abbrev pub IsOn : ℕ → Medium → Type 0
IsOn lans (Link peer) = Unit {0}
IsOn lans (OnLan lan) = lan < lans

-- an interface on a network that there is
pub record IsEnd (lans : ℕ) (e : End) : Type 0 where
  pub network : IsNetwork e.network
  pub on : IsOn lans e.medium
