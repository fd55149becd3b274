-- A frame on its way up.
use Rattle.std.specs.Prelude.{ℕ, ◌==◌, ◌||◌, ◌++◌, Option, None, Some, fold, slice_range, if◌then◌else◌}
use Rattle.sim_base.specs.declared.time.Time.{Time}
use Rattle.sim_base.specs.Packet.{Packet}
use Rattle.pkt_face.specs.declared.line.Sign.TheVariants.{Drop as DropSign, Receive}
use Rattle.header_forms.specs.declared.arp.Arp.{Arp}
use Rattle.header_forms.specs.Arp.{arp_of}
use Rattle.arp_core.specs.declared.words.In.TheVariants.{Heard}
use Rattle.iface_step.specs.declared.words.Act.TheVariants.{Up, Dropped}
use Rattle.iface_step.specs.Attachment.{PlainAttachment, OnLink, OnLan}
use Rattle.iface_step.specs.declared.device.DeviceAct.{DeviceAct}
use Rattle.iface_step.specs.declared.device.DeviceAct.TheVariants.{Tell, Wait, Reach, Save, Lose, Lift}
use Rattle.iface_step.specs.Devices.{Come, Turn, device_steps}
use Rattle.iface_step.specs.Frames.{arp_on_lan, ip_on_lan, ip_on_link}
use Rattle.iface_step.specs.Resolution.{arp_takes}
use Rattle.iface_step.specs.Transit.{Progress, asking, asks, captured, in_transit, told, transit_of, with_transit}

-- the message that a packet is, if it can be read; over a link none comes
abbrev pub message_at : PlainAttachment → Packet → Option Arp
message_at (OnLink e) packet = None
message_at (OnLan e) packet = arp_of (slice_range packet.bytes 0 28)

-- what is no message is dropped
abbrev pub hears : Time → Option Arp → Progress → Progress
hears now None p = asks Dropped p
hears now (Some arp) p = arp_takes now (Heard now arp) p

unfoldable pub message_comes : Time → Packet → Progress → Progress
message_comes now packet p = hears now (message_at p.iface.at packet) p

-- a packet goes to its protocol: both numbers of IPv4 are taken on links and on LANs
unfoldable pub lifts : Time → ℕ → Packet → Progress → Progress
lifts now proto packet p =
    if proto == ip_on_link || proto == ip_on_lan then asks (Up packet) p
    else if proto == arp_on_lan then message_comes now packet p
    else asks Dropped p

-- what a device to which a frame has come asks for: a frame that is saved was received, in this order of lines
unfoldable pub carry_up : Time → Progress → DeviceAct Packet → Progress
carry_up now p (Tell at) = p
carry_up now p (Wait at) = p
carry_up now p (Reach at frame) = p
carry_up now p (Save frame) = in_transit (asking (told p.iface Receive frame ++ captured p.iface frame)) p
carry_up now p (Lose frame) = in_transit (asking (told p.iface DropSign frame)) p
carry_up now p (Lift proto packet) = lifts now proto packet p

abbrev pub carried_up : Time → Turn → Progress → Progress
carried_up now turn p = fold (carry_up now) (with_transit turn.transit p) turn.acts

-- a frame comes: it is received, ignored or lost
unfoldable pub comes : Time → Packet → Progress → Progress
comes now frame p = carried_up now (device_steps (Come frame) (transit_of p)) p
