-- A firing: what it sees beside its node, and what it has asked for so far.
use Rattle.std.specs.Prelude.{ℕ, suc, List, [], ◌∷◌, ◌++◌, Option, None, Some, slice_get, slice_set, unwrap_or}
use Rattle.sim_base.specs.declared.key.Key.{Key}
use Rattle.sim_base.specs.declared.key.NodeId.{NodeId}
use Rattle.sim_base.specs.declared.time.Time.{Time}
use Rattle.sim_base.specs.Packet.{Packet}
use Rattle.pkt_face.specs.declared.line.Line.{Line}
use Rattle.pkt_face.specs.declared.line.Sign.{Sign}
use Rattle.csma_dev.specs.declared.bus.Bus.{Bus}
use Rattle.node_step.specs.declared.loads.Event.{Event}
use Rattle.node_step.specs.declared.loads.Load.{Load}

-- an event that is to be scheduled: when, for which node, and what it brings
pub record Request : Type 0 where
  pub at : Time
  pub to : NodeId
  pub load : Load Packet

-- what a line of the trace says
pub record Text : Type 0 where
  pub iface : ℕ
  pub sign : Sign
  pub packet : Packet

-- the key of the event that fires, how many events its node had scheduled before, the buses of the LANs by number, and
-- what the firing has asked for so far, in order
pub record PlainFiring : Type 0 where
  pub key : Key
  pub before : ℕ
  pub lans : List Bus
  pub requests : List Request
  pub texts : List Text

-- a bus that no frame has used
abbrev pub free : Bus
free = record { busy_until = record { 0 = 0 } }

-- the bus of a LAN
abbrev pub bus_at : List Bus → ℕ → Bus
bus_at lans lan = unwrap_or (slice_get lans lan) free

-- the bus that an interface uses: that of its LAN; one on a link uses none
abbrev pub bus_of : Option ℕ → List Bus → Bus
bus_of None lans = free
bus_of (Some lan) lans = bus_at lans lan

-- the buses, when an interface has used one
abbrev pub with_bus : Option ℕ → Bus → List Bus → List Bus
with_bus None bus lans = lans
with_bus (Some lan) bus lans = slice_set lans lan bus

abbrev pub schedule : Time → NodeId → Load Packet → PlainFiring → PlainFiring
schedule at to load f = record f { requests = f.requests ++ record { at = at; to = to; load = load } ∷ [] }

abbrev pub write : ℕ → Sign → Packet → PlainFiring → PlainFiring
write iface sign packet f = record f { texts = f.texts ++ record { iface = iface; sign = sign; packet = packet } ∷ [] }

-- a request becomes an event, with its sender's count of events
abbrev pub event : Key → ℕ → Request → Event Packet
event key count r =
    record { key = record { time = r.at; node = r.to; sent = key.time; by = key.node; count = count }; load = r.load }

-- requests, numbered from a count on
abbrev pub scheduled : Key → ℕ → List Request → List (Event Packet)
scheduled key count [] = []
scheduled key count (r ∷ requests) = event key count r ∷ scheduled key (suc count) requests

abbrev pub line : Key → ℕ → Text → Line Packet
line key index t =
    record { key = key; index = index; node = key.node; iface = t.iface; sign = t.sign; packet = t.packet }

-- texts, numbered from an index on
abbrev pub numbered : Key → ℕ → List Text → List (Line Packet)
numbered key index [] = []
numbered key index (t ∷ texts) = line key index t ∷ numbered key (suc index) texts

abbrev pub request_of : Event Packet → Request
request_of e = record { at = e.key.time; to = e.key.node; load = e.load }

abbrev pub text_of : Line Packet → Text
text_of l = record { iface = l.iface; sign = l.sign; packet = l.packet }
