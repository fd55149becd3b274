-- The world in which the run of a scenario begins.
use Rattle.std.specs.Prelude.{ℕ, List, length, map}
use Rattle.std.specs.List.{range_with_len, flat_map}
use Rattle.sim_base.specs.declared.key.NodeId.{NodeId}
use Rattle.sim_base.specs.declared.time.Time.{Time}
use Rattle.sim_base.specs.Draws.{begun}
use Rattle.sim_base.specs.Packet.{Packet}
use Rattle.route_calc.specs.Least.{PlainNet}
use Rattle.scenario_form.specs.declared.scenario.Route.{Route}
use Rattle.scenario_form.specs.declared.scenario.Routing.{Routing}
use Rattle.scenario_form.specs.declared.scenario.Routing.TheVariants.{Static, Auto}
use Rattle.scenario_form.specs.declared.scenario.Scenario.{Scenario}
use Rattle.frag_core.specs.Step.{no_frags}
use Rattle.node_step.specs.declared.loads.Event.{Event}
use Rattle.node_step.specs.Node.{PlainNode}
use Rattle.sim_world.specs.declared.apps.Installed.{Installed}
use Rattle.sim_world.specs.declared.ends.End.{End}
use Rattle.sim_world.specs.Grouping.{grouped, under}
use Rattle.sim_world.specs.Ends.{ends_at, ends_of, in_order}
use Rattle.sim_world.specs.Lans.{members_of}
use Rattle.sim_world.specs.Ifaces.{Around, iface_of}
use Rattle.sim_world.specs.declared.routing.Entry.{Entry}
use Rattle.sim_world.specs.Graph.{costs_of, least_routes, nets_by, number_of}
use Rattle.sim_world.specs.Routing.{holder_of, ip_of, listed_routes}
use Rattle.sim_world.specs.Routing as routing
use Rattle.sim_world.specs.Apps.{conns_of, listed_from, installed_from, local_app, ports_of}
use Rattle.sim_world.specs.Apps as apps
use Rattle.sim_world.specs.Ticks.{ticks_of, tick_count}

-- the nodes by their numbers, how many LANs there are, the events that come first, when the run stops, and how many events the firings of a node may
-- schedule
pub record PlainWorld : Type 0 where
  pub nodes : List PlainNode
  pub lans : ℕ
  pub first : List (Event Packet)
  pub stop : Time
  pub limit : ℕ

-- the interfaces of a node: its links and then its LANs, in the scenario's order
abbrev pub ends_in : Scenario → ℕ → List End
ends_in s n = ends_at n (ends_of s.links s.lans)

abbrev pub routes_in : Scenario → ℕ → List Route
routes_in s n = under routing.node_of n s.routes

-- the interfaces of all nodes, node by node
abbrev pub all_ends : Scenario → List End
all_ends s = in_order s.nodes (ends_of s.links s.lans)

-- the interfaces on each network of a scenario, and its networks
abbrev pub on_in : Scenario → List (List End)
on_in s = grouped number_of (length (costs_of s.links s.lans)) (all_ends s)

abbrev pub nets_in : Scenario → List PlainNet
nets_in s = nets_by (costs_of s.links s.lans) (on_in s)

-- the routes of a node beyond the networks that it is on: the listed ones, or those of least cost
abbrev pub beyond_in : Routing → Scenario → ℕ → List Entry
beyond_in Static s n = listed_routes (holder_of (all_ends s)) (ends_in s n) (routes_in s n)
beyond_in Auto s n = least_routes (nets_in s) (on_in s) s.nodes n (ends_in s n)

-- the applications of a node, in the scenario's order
abbrev pub apps_in : Scenario → ℕ → List Installed
apps_in s n = installed_from 0 (under apps.node_of n (listed_from 0 s.apps))

-- what lies around the nodes of a scenario
abbrev pub around_in : Scenario → Around
around_in s = record {
  told = s.ascii;
  losses = s.losses;
  members = members_of (length s.lans) (in_order s.nodes (ends_of s.links s.lans));
}

-- a node that has sent, numbered and dropped nothing, and has scheduled the first ticks of its applications
abbrev pub new_node : ℕ → Around → NodeId → List End → List Entry → List Installed → PlainNode
new_node seed around number ends beyond apps = record {
  ifaces = map (iface_of around) ends;
  ip = ip_of ends beyond;
  frags = no_frags;
  ports = ports_of apps;
  conns = conns_of apps;
  apps = map local_app apps;
  random = begun seed number.0;
  numbers = record { node = number; packets = 0; ids = 0; stamps = 0 };
  drops = 0;
  first = tick_count apps;
  scheduled = tick_count apps;
}

abbrev pub id : ℕ → NodeId
id n = record { 0 = n }

abbrev pub node_in : Scenario → ℕ → PlainNode
node_in s n = new_node s.seed (around_in s) (id n) (ends_in s n) (beyond_in s.routing s n) (apps_in s n)

abbrev pub ticks_in : Scenario → ℕ → List (Event Packet)
ticks_in s n = ticks_of (id n) (apps_in s n)

-- the world of a scenario
unfoldable pub world_of : Scenario → PlainWorld
world_of s = record {
  nodes = map (node_in s) (range_with_len 0 s.nodes);
  lans = length s.lans;
  first = flat_map (ticks_in s) (range_with_len 0 s.nodes);
  stop = s.stop_ns;
  limit = s.events_per_node;
}
