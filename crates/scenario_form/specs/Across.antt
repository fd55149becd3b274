-- The checks over all tables of a scenario, in their order.
use Rattle.std.specs.Prelude.{ℕ, ℤ, pos, int_le, int_lt, Bool, true, false, not, ◌&&◌, nat_eq, ◌==◌, List, [], ◌∷◌, ◌++◌, map, slice_index, Option, Some, None, option_map, unwrap_or, Ok, Err, count_by, if◌then◌else◌}
use Rattle.std.specs.Bool.{beq}
use Rattle.std.specs.List.{list_any, filter_map, flat_map, enumerate_from}
use Rattle.sim_base.specs.declared.key.NodeId.{NodeId}
use Rattle.scenario_form.specs.declared.field.Code.TheVariants.{Twice, NoNeighbour, Own, NoInterface}
use Rattle.scenario_form.specs.declared.scenario.Kind.{Kind}
use Rattle.scenario_form.specs.declared.scenario.Kind.TheVariants.{UdpSink, UdpEchoServer, TcpSink}
use Rattle.scenario_form.specs.declared.scenario.Link.{Link}
use Rattle.scenario_form.specs.declared.scenario.Lan.{Lan}
use Rattle.scenario_form.specs.declared.scenario.Route.{Route}
use Rattle.scenario_form.specs.declared.scenario.App.{App}
use Rattle.scenario_form.specs.declared.scenario.Loss.{Loss}
use Rattle.scenario_form.specs.declared.scenario.Scenario.{Scenario}
use Rattle.scenario_form.specs.declared.interface.Interface.{Interface}
use Rattle.scenario_form.specs.declared.refusal.Place.{Place}
use Rattle.scenario_form.specs.declared.refusal.Refusal.{Refusal}
use Rattle.scenario_form.specs.declared.refusal.Refusal.TheVariants.{Schema}
use Rattle.scenario_form.specs.Checks.{Check, ◌>>◌, require, each}
use Rattle.scenario_form.specs.Values.{natural}
use Rattle.scenario_form.specs.Networks.{Network, network_of, same_network}
use Rattle.scenario_form.specs.Walk.{place}

abbrev pub indexed : {A : Type 0} → List A → List (ℕ × A)
indexed xs = enumerate_from 0 xs

-- none of the keys was held before
abbrev pub none_twice : {K : Type 0} → (K → K → Bool) → List K → List (Place × K) → Check Refusal
none_twice same held [] = Ok tt
none_twice same held (e ∷ more) =
    require (not (list_any (same e.1) held)) (Schema e.0 Twice) >> none_twice same (e.1 ∷ held) more

-- ---- interfaces

abbrev pub interface_at : Place → ℕ → NodeId → ℕ → Interface
interface_at at prefix node address = record { at = at; node = node; address = address; network = network_of prefix address }

-- a link's two
abbrev pub link_ends : (ℕ × Link) → List Interface
link_ends e =
    interface_at (place 1 e.0 3) e.1.prefix e.1.a e.1.a_addr ∷ interface_at (place 1 e.0 4) e.1.prefix e.1.b e.1.b_addr ∷ []

abbrev pub ends_of_links : List Link → List Interface
ends_of_links links = flat_map link_ends (indexed links)

-- one for each member of a LAN, with the address that stands at the member's place
abbrev pub ends_from : ℕ → ℕ → List NodeId → List ℕ → List Interface
ends_from index prefix [] addresses = []
ends_from index prefix (node ∷ nodes) [] = []
ends_from index prefix (node ∷ nodes) (a ∷ addresses) = interface_at (place 2 index 2) prefix node a ∷ ends_from index prefix nodes addresses

abbrev pub lan_ends : (ℕ × Lan) → List Interface
lan_ends e = ends_from e.0 e.1.prefix e.1.members e.1.addrs

abbrev pub ends_of_lans : List Lan → List Interface
ends_of_lans lans = flat_map lan_ends (indexed lans)

-- links in list order, then LANs: so a node's interfaces stand in the order of their numbers
abbrev pub interfaces : Scenario → List Interface
interfaces s = ends_of_links s.links ++ ends_of_lans s.lans

-- 1. an interface address that was held before
abbrev pub addresses_check : List Interface → Check Refusal
addresses_check all = none_twice nat_eq [] (map (λ i. (i.at, i.address)) all)

-- ---- networks

abbrev pub link_network : (ℕ × Link) → Place × Network
link_network e = (place 1 e.0 5, network_of e.1.prefix e.1.a_addr)

abbrev pub lan_network : (ℕ × Lan) → Place × Network
lan_network e = (place 2 e.0 3, network_of e.1.prefix (slice_index e.1.addrs 0))

abbrev pub networks : Scenario → List (Place × Network)
networks s = map link_network (indexed s.links) ++ map lan_network (indexed s.lans)

-- 2. a network that was held before
abbrev pub networks_check : Scenario → Check Refusal
networks_check s = none_twice same_network [] (networks s)

-- ---- routes

-- a node with one of its destinations
abbrev pub Target : Type 0
Target = ℕ × Network

abbrev pub same_target : Target → Target → Bool
same_target s t = (s.0 == t.0) && same_network s.1 t.1

-- the networks that nodes are on
abbrev pub connected : List Interface → List Target
connected all = map (λ i. (i.node.0, i.network)) all

abbrev pub is_on : List Interface → ℕ → Network → Bool
is_on all node network = list_any (same_target (node, network)) (connected all)

-- another node's address on a network of the node
abbrev pub is_neighbour : List Interface → ℕ → ℕ → Bool
is_neighbour all node address =
    list_any (λ i. (i.address == address) && (not (i.node.0 == node) && is_on all node i.network)) all

abbrev pub via_check : List Interface → (ℕ × Route) → Check Refusal
via_check all e = require (is_neighbour all e.1.node.0 e.1.via) (Schema (place 3 e.0 4) NoNeighbour)

-- 3. a route by way of no neighbour
abbrev pub vias_check : List Interface → List Route → Check Refusal
vias_check all routes = each (via_check all) (indexed routes)

abbrev pub route_target : (ℕ × Route) → Place × Target
route_target e = (place 3 e.0 2, (e.1.node.0, network_of e.1.prefix e.1.dest))

-- 4. a destination that the node has already, connected or by an earlier route
abbrev pub targets_check : List Interface → List Route → Check Refusal
targets_check all routes = none_twice same_target (connected all) (map route_target (indexed routes))

-- ---- applications

abbrev pub is_own : List Interface → ℕ → ℕ → Bool
is_own all node address = list_any (λ i. (i.address == address) && (i.node.0 == node)) all

-- where there is one to send to
abbrev pub sends_to_own : List Interface → ℕ → Option ℕ → Bool
sends_to_own all node None = false
sends_to_own all node (Some dst) = is_own all node dst

abbrev pub own_check : List Interface → (ℕ × App) → Check Refusal
own_check all e = require (not (sends_to_own all e.1.node.0 e.1.dst)) (Schema (place 4 e.0 4) Own)

-- 5. an application that sends to its own node
abbrev pub owns_check : List Interface → List App → Check Refusal
owns_check all apps = each (own_check all) (indexed apps)

-- a node's port, of TCP where the middle says so
abbrev pub Port : Type 0
Port = ℕ × (Bool × ℕ)

abbrev pub same_port : Port → Port → Bool
same_port p q = (p.0 == q.0) && (beq p.1.0 q.1.0 && (p.1.1 == q.1.1))

-- whether a kind listens, and if so by TCP
abbrev pub listens : Kind → Option Bool
listens UdpSink = Some false
listens UdpEchoServer = Some false
listens TcpSink = Some true
listens _ = None

abbrev pub listened : (ℕ × App) → Option (Place × Port)
listened e = option_map (λ tcp. (place 4 e.0 3, (e.1.node.0, (tcp, unwrap_or e.1.port 0)))) (listens e.1.kind)

-- 6. a port that is listened on before
abbrev pub ports_check : List App → Check Refusal
ports_check apps = none_twice same_port [] (filter_map listened (indexed apps))

-- ---- losses

abbrev pub interface_count : List Interface → ℕ → ℕ
interface_count all node = count_by (λ i. i.node.0 == node) all

abbrev pub has_interface : List Interface → ℕ → ℤ → Bool
has_interface all node number = int_le (pos 0) number && int_lt number (pos (interface_count all node))

-- an interface by its node and its number
abbrev pub Wire : Type 0
Wire = ℕ × ℕ

abbrev pub same_wire : Wire → Wire → Bool
same_wire v w = (v.0 == w.0) && (v.1 == w.1)

-- the interface that a loss is on, where its node has it
abbrev pub wire : List Interface → Loss → Option Wire
wire all l = if has_interface all l.node.0 l.iface then Some (l.node.0, natural l.iface) else None

-- it is there, and none before is it
abbrev pub wire_check : ℕ → List Wire → Option Wire → Check Refusal
wire_check index held None = Err (Schema (place 5 index 2) NoInterface)
wire_check index held (Some w) = require (not (list_any (same_wire w) held)) (Schema (place 5 index 2) Twice)

abbrev pub with_wire : Option Wire → List Wire → List Wire
with_wire None held = held
with_wire (Some w) held = w ∷ held

-- 7. an interface that the node hasn't, or that has a loss before
abbrev pub losses_check : List Interface → List Wire → List (ℕ × Loss) → Check Refusal
losses_check all held [] = Ok tt
losses_check all held (e ∷ more) =
    wire_check e.0 held (wire all e.1) >> losses_check all (with_wire (wire all e.1) held) more

-- ---- in their order

-- a route's two checks, each for all routes
abbrev pub routes_check : List Interface → List Route → Check Refusal
routes_check all routes = vias_check all routes >> targets_check all routes

-- what the routes, the applications and the losses say of the interfaces
abbrev pub uses_check : List Interface → Scenario → Check Refusal
uses_check all s =
    routes_check all s.routes >> (owns_check all s.apps >> (ports_check s.apps >> losses_check all [] (indexed s.losses)))

abbrev pub across_check : Scenario → Check Refusal
across_check s =
    let all = interfaces s in
    addresses_check all >> (networks_check s >> uses_check all s)
