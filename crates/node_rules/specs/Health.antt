-- What stays true of nodes and events: what each node has, and what its interfaces are attached to.
use Rattle.std.specs.Prelude.{ℕ, ◌≡◌, ◌<◌, ◌≤◌, true, Option, None, Some, length, slice_get, IsSomeAnd, ◌⊎◌}
use Rattle.std.specs.List.{AllByRecursion}
use Rattle.sim_base.specs.Packet.{Packet, len}
use Rattle.queue_discs.specs.declared.bucket.Bucket.{Bucket}
use Rattle.queue_discs.specs.Disc.{AllHeld, PlainDisc}
use Rattle.p2p_dev.specs.Device.{IsDevice as IsLinkDevice}
use Rattle.csma_dev.specs.declared.bus.Bus.{Bus}
use Rattle.csma_dev.specs.Device.{IsDevice as IsLanDevice}
use Rattle.iface_step.specs.declared.words.Place.{Place}
use Rattle.iface_step.specs.Attachment.{PlainAttachment, OnLan, OnLink, least_frame}
use Rattle.iface_step.specs.Iface.{PlainIface}
use Rattle.tcp_flow.specs.Table.{AllWait}
use Rattle.traffic_apps.specs.App.{IsKind}
use Rattle.round_core.specs.Laws.{Health}
use Rattle.round_core.specs.World.{Event}
use Rattle.node_step.specs.declared.loads.Load.{Load}
use Rattle.node_step.specs.declared.loads.Load.TheVariants.{Arrive, Sent, BusFree, BackoffOver, DiscReady, ArpTimer, FragTimer, TcpTimer, Tick}
use Rattle.node_step.specs.LocalApp.{PlainLocalApp}
use Rattle.node_step.specs.Node.{PlainNode}
use Rattle.node_rules.specs.Shape.{Shape, Wire, least_on, sits_on, wire_of}

-- what an event brings is for an interface or an application that the node has, for reassembly or for TCP, and a frame has its
-- header and trailer
abbrev pub IsFor : Shape → ℕ → Load Packet → Type 0
IsFor shape node (Arrive iface frame) = IsSomeAnd (slice_get (shape.wires node) iface) (λ wire. least_on wire.lan ≤ len frame)
IsFor shape node (Sent iface) = iface < length (shape.wires node)
IsFor shape node (BusFree iface) = iface < length (shape.wires node)
IsFor shape node (BackoffOver iface) = iface < length (shape.wires node)
IsFor shape node (DiscReady iface) = iface < length (shape.wires node)
IsFor shape node (ArpTimer iface addr stamp) = iface < length (shape.wires node)
IsFor shape node (FragTimer stamp) = Unit {0}
IsFor shape node (TcpTimer conn stamp) = Unit {0}
IsFor shape node (Tick app) = app < shape.apps node

-- an event for a node that there is, which can handle it
pub record IsWellEvent (shape : Shape) (e : Event (Load Packet)) : Type 0 where
  pub known : e.key.node.0 < shape.nodes
  pub load : IsFor shape e.key.node.0 e.load

-- an interface that there is, and that is attached to the same LAN, or to a link too
pub record IsNeighbour (shape : Shape) (lan : Option ℕ) (place : Place) : Type 0 where
  pub known : place.node.0 < shape.nodes
  pub same : IsSomeAnd (slice_get (shape.wires place.node.0) place.iface) (λ wire. wire.lan ≡ lan)

-- a device within the limits
abbrev pub IsAttached : PlainAttachment → Type 0
IsAttached (OnLink e) = IsLinkDevice e.device
IsAttached (OnLan e) = IsLanDevice e.device

-- a bucket gets credit
abbrev pub IsPaced : Option Bucket → Type 0
IsPaced None = Unit {0}
IsPaced (Some bucket) = 1 ≤ bucket.rate

-- each frame that waits has so many bytes
abbrev pub HasFrames : ℕ → PlainDisc → Type 0
HasFrames least disc = AllHeld (λ frame. least ≤ len frame) disc

-- an interface of a node, whose wire leads to interfaces that there are, with a device within the limits, before which each frame
-- that waits has its header and trailer
pub record IsWellIface (shape : Shape) (node iface : ℕ) (wire : Wire) (face : PlainIface) : Type 0 where
  pub place : face.place ≡ record { node = record { 0 = node }; iface = iface }
  pub attached : wire_of face.at ≡ wire
  pub neighbours : AllByRecursion (IsNeighbour shape wire.lan) wire.reaches
  pub device : IsAttached face.at
  pub paced : IsPaced face.disc.bucket
  pub frames : HasFrames (least_frame face.at) face.disc

-- a node with the interfaces and the applications that it has in the shape, all within the limits, whose connections wait for
-- some time before they send again
pub record IsWellNode (shape : Shape) (n : ℕ) (node : PlainNode) : Type 0 where
  pub number : node.numbers.node.0 ≡ n
  pub ifaces : length node.ifaces ≡ length (shape.wires n)
  pub apps : length node.apps ≡ shape.apps n
  pub each_iface : (i : ℕ) (wire : Wire) (face : PlainIface) →
      slice_get (shape.wires n) i ≡ Some wire → slice_get node.ifaces i ≡ Some face → IsWellIface shape n i wire face
  pub each_app : (i : ℕ) (a : PlainLocalApp) → slice_get node.apps i ≡ Some a → IsKind a.app.kind
  pub waits : AllWait node.conns.conns

-- what a simulation keeps true; a bus is free or busy, whatever happens
abbrev pub health : Shape → Health PlainNode Bus (Load Packet)
health shape = record {
  node = λ n node. IsWellNode shape n node;
  lan = λ l bus. Unit {0};
  event = λ e. IsWellEvent shape e;
}

-- a delay that a lookahead allows
abbrev pub IsLong : Option ℕ → ℕ → Type 0
IsLong None delay = ⊥
IsLong (Some lookahead) delay = lookahead ≤ delay

-- The members of one LAN are in one group, and each link between two groups has at least the lookahead as delay; with no
-- lookahead there is no such link
pub record IsCutBy (shape : Shape) (group_of : ℕ → ℕ) (lookahead : Option ℕ) : Type 0 where
  pub lans : (n m lan : ℕ) → sits_on shape n lan ≡ true → sits_on shape m lan ≡ true → group_of n ≡ group_of m
  pub links : (n iface : ℕ) (wire : Wire) → slice_get (shape.wires n) iface ≡ Some wire → wire.lan ≡ None →
      AllByRecursion (λ place. (group_of place.node.0 ≡ group_of n) ⊎ IsLong lookahead wire.delay) wire.reaches
