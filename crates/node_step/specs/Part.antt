-- A part of the network, and how it changes when an event fires.
use Rattle.std.specs.Prelude.{ℕ, Bool, ◌&&◌, nat_lt, ◌<◌, ◌≤◌, ◌^◌, List, fold, length, map, Option, None, Some, slice_get, slice_set, slice_index, IsSomeAnd}
use Rattle.std.specs.List.{flat_map}
use Rattle.sim_base.specs.Packet.{Packet}
use Rattle.pkt_face.specs.declared.line.Line.{Line}
use Rattle.layer_words.specs.Counting.{count_up}
use Rattle.csma_dev.specs.declared.bus.Bus.{Bus}
use Rattle.node_step.specs.declared.loads.Event.{Event}
use Rattle.node_step.specs.declared.local_app.AppCount.{AppCount}
use Rattle.node_step.specs.Firing.{scheduled, numbered}
use Rattle.node_step.specs.LocalApp.{app_count}
use Rattle.node_step.specs.Node.{PlainNode, Progress}
use Rattle.node_step.specs.React.{CanHandle, react}

-- some of the nodes, where each of all nodes stands among them, the buses of all LANs by number, of which it uses those on
-- which its nodes sit, and how many events a node may schedule
pub record PlainPart : Type 0 where
  pub places : List ℕ
  pub nodes : List PlainNode
  pub lans : List Bus
  pub limit : ℕ

-- how many packets nodes have dropped
abbrev pub drops : List PlainNode → ℕ
drops nodes = fold (λ dropped node. count_up node.drops dropped) 0 nodes

-- what each application has sent and got: those of the first node in their order, then those of the next
abbrev pub counts : List PlainNode → List AppCount
counts nodes = flat_map (λ node. map app_count node.apps) nodes

-- a part after a firing, the events that it schedules and the lines that it writes
pub record Fired : Type 0 where
  pub part : PlainPart
  pub sends : List (Event Packet)
  pub lines : List (Line Packet)

abbrev pub fired : PlainPart → ℕ → Progress → Fired
fired part place p = record {
  part = record part { nodes = slice_set part.nodes place p.node; lans = p.firing.lans };
  sends = scheduled p.firing.key p.firing.before p.firing.requests;
  lines = numbered p.firing.key 0 p.firing.texts;
}

abbrev pub allowed : PlainPart → ℕ → Option Progress → Option Fired
allowed part place None = None
allowed part place (Some p) = Some (fired part place p)

-- the node at a place reacts
abbrev pub fire_at : Event Packet → PlainPart → ℕ → Option PlainNode → Option Fired
fire_at e part place None = None
fire_at e part place (Some node) = allowed part place (react part.limit e node part.lans)

-- the place of a node
abbrev pub place_of : ℕ → PlainPart → ℕ
place_of node part = slice_index part.places node

-- whether a node is among the part's; one of another part has a place beyond its nodes
abbrev pub has : ℕ → PlainPart → Bool
has node part = nat_lt node (length part.places) && nat_lt (place_of node part) (length part.nodes)

-- an event fires: its node reacts with the buses of the LANs, and no other node changes
abbrev pub fire : Event Packet → PlainPart → Option Fired
fire e part = fire_at e part (place_of e.key.node.0 part) (slice_get part.nodes (place_of e.key.node.0 part))

-- the part has the event's node
pub record CanFire (e : Event Packet) (part : PlainPart) : Type 0 where
  pub time : e.key.time.0 ≤ 10 ^ 12
  pub known : e.key.node.0 < length part.places
  pub here : IsSomeAnd (slice_get part.nodes (place_of e.key.node.0 part)) (CanHandle e.load)
