-- What the firings of a part of the network are in the world.
use Rattle.std.specs.Prelude.{ℕ, ◌≡◌, ◌<◌, ◌++◌, Bool, List, [], ◌∷◌, map, length, Some, slice_index, slice_set, if◌then◌else◌}
use Rattle.sim_base.specs.declared.key.Key.{Key}
use Rattle.sim_base.specs.Packet.{Packet}
use Rattle.pkt_face.specs.declared.line.Line.{Line as PacketLine}
use Rattle.csma_dev.specs.declared.bus.Bus.{Bus}
use Rattle.round_core.specs.Lines.{Line, numbered}
use Rattle.round_core.specs.Order.{insert_each}
use Rattle.round_core.specs.World.{Effect, Firing, Ready, World, Does, after, next, scheduled, seen, without_first}
use Rattle.node_step.specs.declared.loads.Event.{Event as NodeEvent}
use Rattle.node_step.specs.declared.loads.Load.{Load}
use Rattle.node_step.specs.Firing.{Text, bus_at, text_of}
use Rattle.node_step.specs.Node.{PlainNode}
use Rattle.node_step.specs.Part.{Fired, PlainPart, place_of}
use Rattle.node_rules.specs.Rules.{rules}
use Rattle.node_rules.specs.Shape.{Shape, sits_on}
use Rattle.node_rules.specs.Worlds.{event_of, node_at}

-- a line of the trace
abbrev pub trace_line : Line Text → PacketLine Packet
trace_line l = record {
  key = l.key;
  index = l.index;
  node = l.key.node;
  iface = l.text.iface;
  sign = l.text.sign;
  packet = l.text.packet;
}

-- A part has fired an event of a node as the rules say: the node at its place is the one after the reaction, and no other has
-- changed; the buses on which the node sits are as the reaction leaves them, and no other has changed; what is scheduled has the
-- keys and loads that the rules give it, and the lines are those of the firing
pub record FiresSo (shape : Shape) (part : PlainPart) (e : NodeEvent Packet) (node : PlainNode) (f : Fired) : Type 0 where
  pub effect : Effect PlainNode Bus (Load Packet) Text
  pub reacts : (rules part.limit shape).react (event_of e) node
      (seen (rules part.limit shape) e.key.node.0 (bus_at part.lans)) ≡ Does effect
  pub places : f.part.places ≡ part.places
  pub nodes : f.part.nodes ≡ slice_set part.nodes (place_of e.key.node.0 part) effect.node
  pub lans : (lan : ℕ) → bus_at f.part.lans lan ≡ (if sits_on shape e.key.node.0 lan then effect.lans lan else bus_at part.lans lan)
  pub count : length f.part.lans ≡ length part.lans
  pub limit : f.part.limit ≡ part.limit
  pub sends : map event_of f.sends ≡ scheduled e.key node.scheduled effect.sends
  pub lines : f.lines ≡ map trace_line (numbered e.key 0 effect.texts)

-- all nodes stand in the part in the order of their numbers
pub record HoldsAll (part : PlainPart) : Type 0 where
  pub count : length part.places ≡ length part.nodes
  pub places : (n : ℕ) → n < length part.places → slice_index part.places n ≡ n

-- a firing in the log, by its lines
abbrev pub firing_of : Key → List (PacketLine Packet) → Firing Text
firing_of key lines = record { key = key; texts = map text_of lines }

-- the world of all nodes after a part that holds them has fired an event, which was the first to pass a test
abbrev pub world_after : (Key → Bool) → World PlainNode Bus (Load Packet) Text → NodeEvent Packet → Fired →
    World PlainNode Bus (Load Packet) Text
world_after test w e f = record {
  nodes = node_at f.part.nodes;
  lans = bus_at f.part.lans;
  pending = insert_each (λ x. x.key) (map event_of f.sends) (without_first test w.pending);
  fired = w.fired ++ firing_of e.key f.lines ∷ [];
}

-- What a part has fired is what is to fire next in the world: it leaves the world after that, and its lines are those of the
-- firing in the log
pub record IsNextFiring (limit : ℕ) (shape : Shape) (test : Key → Bool) (w : World PlainNode Bus (Load Packet) Text) (e : NodeEvent Packet)
    (f : Fired) : Type 0 where
  pub ready : Ready PlainNode Bus (Load Packet) Text
  pub next_is : next (rules limit shape) test w ≡ Some ready
  pub event_is : ready.event ≡ event_of e
  pub after_is : after (rules limit shape) test w ready ≡ world_after test w e f
  pub lines_are : f.lines ≡ map trace_line (numbered e.key 0 (firing_of e.key f.lines).texts)
