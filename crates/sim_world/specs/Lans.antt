-- Who is on a LAN.
use Rattle.std.specs.Prelude.{ℕ, ◌/◌, ◌%◌, ◌==◌, not, List, [], ◌∷◌, map, filter, Option, None, Some}
use Rattle.std.specs.List.{filter_map}
use Rattle.sim_base.specs.declared.key.NodeId.{NodeId}
use Rattle.iface_step.specs.declared.words.Place.{Place}
use Rattle.sim_world.specs.declared.ends.End.{End}
use Rattle.sim_world.specs.declared.ends.Medium.{Medium}
use Rattle.sim_world.specs.declared.ends.Medium.TheVariants.{Link, OnLan}
use Rattle.sim_world.specs.declared.lans.Member.{Member}
use Rattle.sim_world.specs.Grouping.{grouped}

abbrev pub lan_of : Member → ℕ
lan_of m = m.lan

abbrev pub member_by : Place → Medium → Option Member
member_by place (Link peer) = None
member_by place (OnLan lan) = Some (record { lan = lan; place = place })

-- an interface on a LAN is a member
abbrev pub member_of : End → Option Member
member_of e = member_by e.place e.medium

-- the members of each of so many LANs, in the order of these interfaces
abbrev pub members_of : ℕ → List End → List (List Member)
members_of lans ends = grouped lan_of lans (filter_map member_of ends)

-- the interfaces of a LAN's other members
abbrev pub others : NodeId → List Member → List Place
others node members = map (λ m. m.place) (filter (λ m. not (m.place.node.0 == node.0)) members)

-- a MAC address has two bytes of its own, the LAN's number in two, and the node's in two
abbrev pub mac_of : ℕ → NodeId → List ℕ
mac_of lan node = 2 ∷ 0 ∷ lan / 256 % 256 ∷ lan % 256 ∷ node.0 / 256 % 256 ∷ node.0 % 256 ∷ []
