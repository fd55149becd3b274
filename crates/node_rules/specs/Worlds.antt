-- The world of a list of nodes.
use Rattle.std.specs.Prelude.{ℕ, ◌≡◌, ◌<◌, List, [], map, length, Option, None, Some, slice_get}
use Rattle.std.specs.List.{AllByRecursion}
use Rattle.sim_base.specs.Draws.{begun}
use Rattle.sim_base.specs.Packet.{Packet}
use Rattle.csma_dev.specs.declared.bus.Bus.{Bus}
use Rattle.round_core.specs.Opening.{HaveOwnKeys, opening}
use Rattle.round_core.specs.World.{Event, World}
use Rattle.frag_core.specs.Step.{no_frags}
use Rattle.tcp_flow.specs.Conns.{no_conns}
use Rattle.node_step.specs.declared.loads.Event.{Event as NodeEvent}
use Rattle.node_step.specs.declared.loads.Load.{Load}
use Rattle.node_step.specs.Firing.{Text, free}
use Rattle.node_step.specs.Node.{PlainNode}
use Rattle.node_rules.specs.Health.{IsWellEvent, IsWellNode}
use Rattle.node_rules.specs.Shape.{Shape, wire_of}

-- a node with nothing: no event is for it
abbrev pub no_node : ℕ → PlainNode
no_node n = record {
  ifaces = [];
  ip = record { routes = []; own = [] };
  frags = no_frags;
  ports = record { udp = []; pings = [] };
  conns = no_conns;
  apps = [];
  random = begun 0 n;
  numbers = record { node = record { 0 = n }; packets = 0; ids = 0; stamps = 0 };
  drops = 0;
  first = 0;
  scheduled = 0;
}

abbrev pub node_or : ℕ → Option PlainNode → PlainNode
node_or n None = no_node n
node_or n (Some node) = node

-- the nodes by number; a node beyond the list has nothing
abbrev pub node_at : List PlainNode → ℕ → PlainNode
node_at nodes n = node_or n (slice_get nodes n)

-- an event of a node, in the world
abbrev pub event_of : NodeEvent Packet → Event (Load Packet)
event_of e = record { key = e.key; load = e.load }

-- the world of these nodes, in which no frame has used a bus, and these events are the first to come
abbrev pub opening_world : List PlainNode → List (NodeEvent Packet) → World PlainNode Bus (Load Packet) Text
opening_world nodes events = opening (node_at nodes) (λ lan. free) (map event_of events)

-- what these nodes have, on so many LANs
abbrev pub shape_of : ℕ → List PlainNode → Shape
shape_of lans nodes = record {
  nodes = length nodes;
  lans = lans;
  wires = λ n. map (λ face. wire_of face.at) (node_at nodes n).ifaces;
  apps = λ n. length (node_at nodes n).apps;
}

-- nodes that are well by what they have together
abbrev pub AreWellNodes : ℕ → List PlainNode → Type 0
AreWellNodes lans nodes = (n : ℕ) (node : PlainNode) → slice_get nodes n ≡ Some node → IsWellNode (shape_of lans nodes) n node

-- first events that the nodes can handle, each with a key of its own, and counted by the node that scheduled it
pub record AreFirstEvents (lans : ℕ) (nodes : List PlainNode) (events : List (NodeEvent Packet)) : Type 0 where
  pub well : AllByRecursion (λ e. IsWellEvent (shape_of lans nodes) (event_of e)) events
  pub own_keys : HaveOwnKeys (λ e. e.key) events
  pub counted : AllByRecursion (λ e. e.key.count < (node_at nodes e.key.by.0).scheduled) events
