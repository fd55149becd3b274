-- Nodes as rounds see them: the rules of a simulation of nodes, links and LANs.
use Rattle.std.specs.Prelude.{ℕ, zero, suc, ◌+◌, ◌-◌, List, [], ◌∷◌, map, Option, None, Some, unwrap_or}
use Rattle.sim_base.specs.Packet.{Packet}
use Rattle.csma_dev.specs.declared.bus.Bus.{Bus}
use Rattle.round_core.specs.World.{Effect, Event, Reaction, Rules, Send, Limit, Does}
use Rattle.node_step.specs.declared.loads.Event.{Event as NodeEvent}
use Rattle.node_step.specs.declared.loads.Load.{Load}
use Rattle.node_step.specs.Firing.{Request, Text, bus_at, free}
use Rattle.node_step.specs.Node.{PlainNode, Progress}
use Rattle.node_step.specs.React.{react}
use Rattle.node_rules.specs.Shape.{Shape, sits_on}

-- an event of the world, as a node takes it
abbrev pub node_event : Event (Load Packet) → NodeEvent Packet
node_event e = record { key = e.key; load = e.load }

-- an event that is to be scheduled, which gets its key where all of a firing are numbered
abbrev pub send_of : Request → Send (Load Packet)
send_of r = record { at = r.at.0; to = r.to.0; load = r.load }

-- the buses of so many LANs by number, as a node sees them: one on which it doesn't sit looks like one that no frame has used
abbrev pub buses : ℕ → (ℕ → Option Bus) → List Bus
buses zero seen = []
buses (suc count) seen = unwrap_or (seen 0) free ∷ buses count (λ lan. seen (suc lan))

-- what a firing leaves
abbrev pub effect_of : Progress → Effect PlainNode Bus (Load Packet) Text
effect_of p =
    record { node = p.node; lans = bus_at p.firing.lans; sends = map send_of p.firing.requests; texts = p.firing.texts }

abbrev pub reaction_of : Option Progress → Reaction PlainNode Bus (Load Packet) Text
reaction_of None = Limit
reaction_of (Some p) = Does (effect_of p)

-- A node counts the events that it has scheduled, and reacts with the buses on which it sits. Its firings may schedule as many
-- events as the limit says
abbrev pub rules : ℕ → Shape → Rules PlainNode Bus (Load Packet) Text
rules limit shape = record {
  sits = sits_on shape;
  counter = λ node. node.scheduled;
  react = λ e node seen. reaction_of (react limit (node_event e) node (buses shape.lans seen));
}

-- how many more events a node's firings may schedule
abbrev pub room : ℕ → PlainNode → ℕ
room limit node = node.first + limit - node.scheduled
