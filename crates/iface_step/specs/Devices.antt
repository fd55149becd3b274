-- The device of an interface, on a link or on a LAN.
use Rattle.std.specs.Prelude.{List, [], map}
use Rattle.sim_base.specs.declared.time.Time.{Time}
use Rattle.sim_base.specs.Draws.{PlainRandom}
use Rattle.sim_base.specs.Packet.{Packet}
use Rattle.p2p_dev.specs.declared.Act.{Act as LinkAct}
use Rattle.p2p_dev.specs.declared.Act.TheVariants.{SentAt as LinkSentAt, ArriveAt as LinkArriveAt, Save as LinkSave, Lost as LinkLost, Up as LinkUp}
use Rattle.p2p_dev.specs.declared.In.TheVariants.{Start as LinkStart, Sent as LinkSent, Arrive as LinkArrive}
use Rattle.p2p_dev.specs.Device.{Device as LinkDevice}
use Rattle.p2p_dev.specs.Step.{Own, step as link_step}
use Rattle.csma_dev.specs.declared.words.Act.{Act as LanAct}
use Rattle.csma_dev.specs.declared.words.Act.TheVariants.{Save as LanSave, ArriveAt as LanArriveAt, SentAt as LanSentAt, BackoffAt, GaveUp, Lost as LanLost, Up as LanUp}
use Rattle.csma_dev.specs.declared.words.In.{In as LanIn}
use Rattle.csma_dev.specs.declared.words.In.TheVariants.{Start as LanStart, BusFree as LanFree, BackoffOver as LanOver, Arrive as LanArrive}
use Rattle.csma_dev.specs.Step.{Shared, step as lan_step}
use Rattle.iface_step.specs.declared.device.DeviceAct.{DeviceAct}
use Rattle.iface_step.specs.declared.device.DeviceAct.TheVariants.{Tell, Wait, Reach, Save, Lose, Lift}
use Rattle.iface_step.specs.Attachment.{PlainAttachment, PlainLanEnd, PlainLinkEnd, OnLink, OnLan}
use Rattle.iface_step.specs.Transit.{Transit, with_attachment}

-- an act of a device, whatever its kind
abbrev pub of_link : LinkAct Packet → DeviceAct Packet
of_link (LinkSentAt at) = Tell at
of_link (LinkArriveAt at frame) = Reach at frame
of_link (LinkSave frame) = Save frame
of_link (LinkLost frame) = Lose frame
of_link (LinkUp proto packet) = Lift proto packet

abbrev pub of_lan : LanAct Packet → DeviceAct Packet
of_lan (LanSave frame) = Save frame
of_lan (LanArriveAt at frame) = Reach at frame
of_lan (LanSentAt at) = Tell at
of_lan (BackoffAt at) = Wait at
of_lan (GaveUp frame) = Lose frame
of_lan (LanLost frame) = Lose frame
of_lan (LanUp proto packet) = Lift proto packet

-- What happens to a device, whatever its kind: a frame is to be sent, its frame has left or has come to the others, its wait for the
-- bus is over, or a frame comes
pub data DeviceIn : Type 0 where
  Begin : Time → Packet → DeviceIn
  Over : DeviceIn
  Again : Time → DeviceIn
  Come : Packet → DeviceIn

-- a device of a link never waits
abbrev pub link_takes : DeviceIn → LinkDevice → PlainRandom → Own
link_takes (Begin now frame) d r = link_step d r (LinkStart now frame)
link_takes Over d r = link_step d r LinkSent
link_takes (Again now) d r = record { device = d; random = r; acts = [] }
link_takes (Come frame) d r = link_step d r (LinkArrive frame)

abbrev pub lan_in : DeviceIn → LanIn Packet
lan_in (Begin now frame) = LanStart now frame
lan_in Over = LanFree
lan_in (Again now) = LanOver now
lan_in (Come frame) = LanArrive frame

-- an interface whose device has made a step, and what the device asks for, in order
pub record Turn : Type 0 where
  pub transit : Transit
  pub acts : List (DeviceAct Packet)

abbrev pub link_turn : PlainLinkEnd → Own → Transit → Turn
link_turn e s t = record {
  transit = record (with_attachment (OnLink (record e { device = s.device })) t) { random = s.random };
  acts = map of_link s.acts;
}

abbrev pub lan_turn : PlainLanEnd → Shared → Transit → Turn
lan_turn e s t = record {
  transit = record (with_attachment (OnLan (record e { device = s.device })) t) { bus = s.bus; random = s.random };
  acts = map of_lan s.acts;
}

abbrev pub turn_at : PlainAttachment → DeviceIn → Transit → Turn
turn_at (OnLink e) input t = link_turn e (link_takes input e.device t.random) t
turn_at (OnLan e) input t = lan_turn e (lan_step e.device t.bus t.random (lan_in input)) t

abbrev pub device_steps : DeviceIn → Transit → Turn
device_steps input t = turn_at t.iface.at input t
