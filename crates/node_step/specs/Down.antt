-- A packet on its way down: by an interface to a neighbour.
use Rattle.std.specs.Prelude.{ℕ, List, [], Option, None, Some, fold, slice_get, slice_set}
use Rattle.sim_base.specs.Packet.{Packet}
use Rattle.iface_step.specs.declared.words.Act.{Act}
use Rattle.iface_step.specs.declared.words.Act.TheVariants.{Schedule, Write, Up, Dropped}
use Rattle.iface_step.specs.declared.words.In.{In}
use Rattle.iface_step.specs.declared.words.In.TheVariants.{Send}
use Rattle.iface_step.specs.Attachment.{lan_of}
use Rattle.iface_step.specs.Iface.{PlainIface}
use Rattle.iface_step.specs.Transit.{Progress as IfaceProgress}
use Rattle.iface_step.specs.Step.{step}
use Rattle.node_step.specs.Firing.{bus_of, schedule, with_bus, write}
use Rattle.node_step.specs.Loads.{load_of}
use Rattle.node_step.specs.Node.{Progress, dropped, now, with_firing}

-- what a step of an interface leaves, and what it asks for, in order
pub record IfaceStepped : Type 0 where
  pub progress : Progress
  pub acts : List (Act Packet)

-- an interface has made a step: it has changed, and so have the bus of its LAN and what its node draws and numbers
abbrev pub with_iface : ℕ → Option ℕ → IfaceProgress → Progress → Progress
with_iface iface lan s p = record {
  node = record p.node { ifaces = slice_set p.node.ifaces iface s.iface; random = s.random; numbers = s.numbers };
  firing = record p.firing { lans = with_bus lan s.bus p.firing.lans };
}

-- an interface takes an input, and uses the bus of its LAN
abbrev pub iface_takes : ℕ → In Packet → Progress → PlainIface → IfaceStepped
iface_takes iface input p face =
    let s = step face (bus_of (lan_of face.at) p.firing.lans) p.node.random p.node.numbers input in
    record { progress = with_iface iface (lan_of face.at) s p; acts = s.acts }

abbrev pub taken_by : ℕ → In Packet → Progress → Option PlainIface → IfaceStepped
taken_by iface input p None = record { progress = p; acts = [] }
taken_by iface input p (Some face) = iface_takes iface input p face

-- the interface of this number takes an input; where there is none, nothing happens
unfoldable pub step_at : ℕ → In Packet → Progress → IfaceStepped
step_at iface input p = taken_by iface input p (slice_get p.node.ifaces iface)

-- what an interface asks for when it sends: an event is scheduled, a line is written, or a packet is dropped
unfoldable pub carry_down : ℕ → Progress → Act Packet → Progress
carry_down iface p (Schedule at to what) = with_firing (schedule at to.node (load_of to.iface what) p.firing) p
carry_down iface p (Write sign frame) = with_firing (write iface sign frame p.firing) p
carry_down iface p (Up packet) = p
carry_down iface p Dropped = dropped p

-- an interface after a step that sends, whose acts are carried out in order
abbrev pub stepped_down : ℕ → IfaceStepped → Progress
stepped_down iface s = fold (carry_down iface) s.progress s.acts

-- a packet leaves by an interface, for a neighbour
unfoldable pub send_packet : ℕ → ℕ → Packet → Progress → Progress
send_packet iface hop packet p = stepped_down iface (step_at iface (Send (now p) hop packet) p)
