-- The networks of a scenario, and the least-cost routes over them.
use Rattle.std.specs.Prelude.{ℕ, List, [], ◌++◌, length, map, Option, None, Some, option_map, slice_get, slice_index_or}
use Rattle.std.specs.List.{filter_map, range_with_len}
use Rattle.ipv4_core.specs.Routes.{network}
use Rattle.route_calc.specs.declared.graph.Member.{Member}
use Rattle.route_calc.specs.Least.{Lead, PlainNet, least_lead}
use Rattle.scenario_form.specs.declared.scenario.Lan.{Lan}
use Rattle.scenario_form.specs.declared.scenario.Link.{Link}
use Rattle.sim_world.specs.declared.ends.End.{End}
use Rattle.sim_world.specs.declared.routing.Entry.{Entry}
use Rattle.sim_world.specs.Routing.{way_of}

abbrev pub cost_of_link : Link → ℕ
cost_of_link l = l.cost

abbrev pub cost_of_lan : Lan → ℕ
cost_of_lan l = l.cost

-- what it costs to go over each network: the links, and then the LANs
abbrev pub costs_of : List Link → List Lan → List ℕ
costs_of links lans = map cost_of_link links ++ map cost_of_lan lans

abbrev pub number_of : End → ℕ
number_of e = e.network.number

-- an interface as a member of its network
abbrev pub member_of : End → Member
member_of e = record { node = e.place.node.0; iface = e.place.iface; addr = e.addr }

-- the network of a number, of which these are the interfaces on each
abbrev pub net_of : List ℕ → List (List End) → ℕ → PlainNet
net_of costs on t = record { cost = slice_index_or costs t 0; members = map member_of (slice_index_or on t []) }

-- as many networks as there are costs
abbrev pub nets_by : List ℕ → List (List End) → List PlainNet
nets_by costs on = map (net_of costs on) (range_with_len 0 (length costs))

-- the network at a place of a list that has it
abbrev pub net_at : List PlainNet → ℕ → PlainNet
net_at nets t = slice_index_or nets t (record { cost = 0; members = [] })

-- the route to the network of an interface, by an interface and a neighbour
abbrev pub least_by : End → ℕ → End → Entry
least_by there neighbour e = record {
  prefix = there.network.prefix;
  dest = network there.network.prefix there.addr;
  way = way_of e (Some neighbour);
}

-- the route of a node with these interfaces to the network of another interface, as a walk leads there
abbrev pub led_to : List End → Lead → End → Option Entry
led_to ends lead there = option_map (least_by there lead.neighbour) (slice_get ends lead.iface)

-- the same where a walk leads there, and where the network has an interface
abbrev pub led : List End → Option Lead → Option End → Option Entry
led ends None there = None
led ends (Some lead) None = None
led ends (Some lead) (Some there) = led_to ends lead there

-- the route of a node with these interfaces to the network of a number
abbrev pub least_route : List PlainNet → List (List End) → ℕ → ℕ → List End → ℕ → Option Entry
least_route nets on nodes node ends t = led ends (least_lead nets nodes node (net_at nets t)) (slice_get (slice_index_or on t []) 0)

-- the routes of a node to the networks that it isn't on, each by the first hop of the least walk that leads there: by what it costs,
-- then by the interface, then by the neighbour
abbrev pub least_routes : List PlainNet → List (List End) → ℕ → ℕ → List End → List Entry
least_routes nets on nodes node ends = filter_map (least_route nets on nodes node ends) (range_with_len 0 (length nets))
