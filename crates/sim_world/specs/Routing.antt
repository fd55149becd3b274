-- Where a node sends packets: to its own networks, and by the routes beyond them.
use Rattle.std.specs.Prelude.{ℕ, zero, suc, ◌==◌, List, [], ◌∷◌, ◌++◌, map, fold, filter, find, filter_map, Option, None, Some, option_map}
use Rattle.std.specs.Ordering.{nat_cmp}
use Rattle.std.specs.BTreeMap.{insert_entry}
use Rattle.std.specs.BTreeSet.{insert_key}
use Rattle.ipv4_core.specs.declared.routes.Table.{Table}
use Rattle.ipv4_core.specs.declared.routes.Way.{Way}
use Rattle.ipv4_core.specs.Routes.{PlainTable, network}
use Rattle.ipv4_core.specs.Ip.{PlainIp}
use Rattle.scenario_form.specs.declared.scenario.Route.{Route}
use Rattle.sim_world.specs.declared.ends.End.{End}
use Rattle.sim_world.specs.declared.routing.Entry.{Entry}

abbrev pub node_of : Route → ℕ
node_of r = r.node.0

-- a way out of an interface, through a neighbour or to whoever has the address
abbrev pub way_of : End → Option ℕ → Way
way_of e via = record { iface = e.place.iface; addr = e.addr; mtu = e.network.mtu; via = via }

-- the network that an interface is on
abbrev pub connected : End → Entry
connected e = record { prefix = e.network.prefix; dest = network e.network.prefix e.addr; way = way_of e None }

-- the first interface that has an address
abbrev pub holder_of : List End → ℕ → Option End
holder_of ends addr = find (λ e. e.addr == addr) ends

-- the first interface on a network, by the network's number
abbrev pub first_on : List End → ℕ → Option End
first_on ends number = find (λ e. e.network.number == number) ends

-- the interface on the network of another
abbrev pub toward : (ℕ → Option End) → Option End → Option End
toward on None = None
toward on (Some there) = on there.network.number

abbrev pub listed_by : Route → End → Entry
listed_by r e = record { prefix = r.prefix; dest = r.dest; way = way_of e (Some r.via) }

-- a listed route leaves by the interface that is on the network of its next hop
abbrev pub listed : (ℕ → Option End) → (ℕ → Option End) → Route → Option Entry
listed holder on r = option_map (listed_by r) (toward on (holder r.via))

-- the listed routes of a node with these interfaces
abbrev pub listed_routes : (ℕ → Option End) → List End → List Route → List Entry
listed_routes holder ends routes = filter_map (listed holder (first_on ends)) routes

-- the routes of a node with these interfaces: its networks, and then those beyond
abbrev pub entries_of : List End → List Entry → List Entry
entries_of ends beyond = map connected ends ++ beyond

abbrev pub prefix_of : Entry → ℕ
prefix_of e = e.prefix

-- one more way to a network
abbrev pub with_way : List (ℕ × Way) → Entry → List (ℕ × Way)
with_way ways e = insert_entry nat_cmp ways e.dest e.way

-- the ways to the networks of some routes, by network
abbrev pub ways_to : List Entry → List (ℕ × Way)
ways_to entries = fold with_way [] entries

-- those of one prefix length
abbrev pub ways_of : ℕ → List Entry → List (ℕ × Way)
ways_of prefix entries = ways_to (filter (λ e. e.prefix == prefix) entries)

-- a table, as contracts see it
abbrev pub seen : Table → PlainTable
seen t = record { prefix = t.prefix; ways = t.ways.entries }

-- a table stands where there is a way
abbrev pub with_table : ℕ → List (ℕ × Way) → List PlainTable → List PlainTable
with_table prefix [] tables = tables
with_table prefix (way ∷ ways) tables = record { prefix = prefix; ways = way ∷ ways } ∷ tables

-- the tables of the prefix lengths below a number, the longest first
unfoldable pub tables_below : ℕ → List Entry → List PlainTable
tables_below zero entries = []
tables_below (suc prefix) entries = with_table prefix (ways_of prefix entries) (tables_below prefix entries)

-- the tables of a node's routes; no prefix is longer than 30
abbrev pub tables_of : List Entry → List PlainTable
tables_of entries = tables_below 31 entries

-- one more address
abbrev pub with_own : List ℕ → End → List ℕ
with_own own e = insert_key nat_cmp own e.addr

-- the addresses of a node
abbrev pub own_of : List End → List ℕ
own_of ends = fold with_own [] ends

abbrev pub ip_of : List End → List Entry → PlainIp
ip_of ends beyond = record { routes = tables_of (entries_of ends beyond); own = own_of ends }
