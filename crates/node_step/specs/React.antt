-- How a node reacts to an event.
use Rattle.std.specs.Prelude.{ℕ, ◌≡◌, ◌+◌, ◌<◌, ◌≤◌, nat_lt, List, [], length, Option, None, Some, slice_get, IsSomeAnd, if◌then◌else◌}
use Rattle.sim_base.specs.declared.key.NodeId.{NodeId}
use Rattle.sim_base.specs.Packet.{Packet, len}
use Rattle.csma_dev.specs.declared.bus.Bus.{Bus}
use Rattle.iface_step.specs.declared.words.Happening.TheVariants.{Arrive as Arrives, Sent as HasLeft, BusFree as BusIsFree, BackoffOver as BackoffIsOver, DiscReady as DiscIsReady, ArpTimer as ArpTimerEnds}
use Rattle.iface_step.specs.Attachment.{least_frame}
use Rattle.frag_core.specs.declared.words.In.TheVariants.{Timer as FragsTimer}
use Rattle.tcp_flow.specs.declared.words.In.TheVariants.{Timer}
use Rattle.traffic_apps.specs.declared.app.In.TheVariants.{Tick as TickInput}
use Rattle.node_step.specs.declared.loads.Event.{Event}
use Rattle.node_step.specs.declared.loads.Load.{Load}
use Rattle.node_step.specs.declared.loads.Load.TheVariants.{Arrive, Sent, BusFree, BackoffOver, DiscReady, ArpTimer, FragTimer, TcpTimer, Tick}
use Rattle.node_step.specs.declared.stop.FireStop.{FireStop}
use Rattle.node_step.specs.declared.stop.FireStop.TheVariants.{NoMemory, Limit}
use Rattle.node_step.specs.Apps.{app_takes}
use Rattle.node_step.specs.Hearing.{conns_hear}
use Rattle.node_step.specs.Node.{PlainNode, Progress, now}
use Rattle.node_step.specs.Reassembly.{frags_take}
use Rattle.node_step.specs.Up.{iface_happens}

-- what an event brings is handed to an interface, to reassembly, to TCP or to an application
unfoldable pub handled : Load Packet → Progress → Progress
handled (Arrive iface frame) p = iface_happens iface (Arrives frame) p
handled (Sent iface) p = iface_happens iface HasLeft p
handled (BusFree iface) p = iface_happens iface BusIsFree p
handled (BackoffOver iface) p = iface_happens iface BackoffIsOver p
handled (DiscReady iface) p = iface_happens iface DiscIsReady p
handled (ArpTimer iface addr stamp) p = iface_happens iface (ArpTimerEnds addr stamp) p
handled (FragTimer stamp) p = frags_take (FragsTimer stamp) p
handled (TcpTimer conn stamp) p = conns_hear (Timer (now p) conn stamp) p
handled (Tick app) p = app_takes app (TickInput (now p)) p

-- a node at the start of a firing, with the buses of the LANs
abbrev pub begun : Event Packet → PlainNode → List Bus → Progress
begun e node lans = record {
  node = node;
  firing = record { key = e.key; before = node.scheduled; lans = lans; requests = []; texts = [] };
}

-- the node has scheduled what it asked for
abbrev pub counted : Progress → Progress
counted p = record p { node = record p.node { scheduled = p.node.scheduled + length p.firing.requests } }

-- what the firing leaves, unless the firings of the node would have scheduled more events than they may
abbrev pub within : ℕ → Progress → Option Progress
within limit p = if nat_lt (p.node.first + limit) p.node.scheduled then None else Some p

-- The node and the buses after a firing, and what it asks for. None, where the node would have scheduled more events than
-- it may
unfoldable pub react : ℕ → Event Packet → PlainNode → List Bus → Option Progress
react limit e node lans = within limit (counted (handled e.load (begun e node lans)))

-- a refusal, other than want of memory, comes where nothing fires and names the node
abbrev pub Refuses : {A : Type 0} → NodeId → Option A → FireStop → Type 0
Refuses node fires NoMemory = Unit {0}
Refuses node fires (Limit at) = (fires ≡ None) × (at ≡ node)

-- the node has the interface, and a frame of so many bytes its header and trailer
abbrev pub CanArrive : ℕ → ℕ → PlainNode → Type 0
CanArrive iface bytes node = IsSomeAnd (slice_get node.ifaces iface) (λ face. least_frame face.at ≤ bytes)

-- the node has the interface or the application that the event names, and a frame its header and trailer
abbrev pub CanHandle : Load Packet → PlainNode → Type 0
CanHandle (Arrive iface frame) node = CanArrive iface (len frame) node
CanHandle (Sent iface) node = iface < length node.ifaces
CanHandle (BusFree iface) node = iface < length node.ifaces
CanHandle (BackoffOver iface) node = iface < length node.ifaces
CanHandle (DiscReady iface) node = iface < length node.ifaces
CanHandle (ArpTimer iface addr stamp) node = iface < length node.ifaces
CanHandle (FragTimer stamp) node = Unit {0}
CanHandle (TcpTimer conn stamp) node = Unit {0}
CanHandle (Tick app) node = app < length node.apps
