-- Address resolution at an interface of a LAN: RFC 826.
use Rattle.std.specs.Prelude.{ℕ, List, fold}
use Rattle.sim_base.specs.declared.time.Time.{Time}
use Rattle.sim_base.specs.Packet.{Packet}
use Rattle.header_forms.specs.declared.arp.Arp.{Arp}
use Rattle.layer_words.specs.Acts.{Numbered}
use Rattle.layer_words.specs.Counting.{new_uid, with_packet}
use Rattle.csma_dev.specs.Step.{broadcast}
use Rattle.arp_core.specs.declared.words.Act.{Act as ArpAct}
use Rattle.arp_core.specs.declared.words.Act.TheVariants.{SendTo, Ask, Answer, TimerAt, Dropped as ArpDropped}
use Rattle.arp_core.specs.declared.words.In.{In as ArpIn}
use Rattle.arp_core.specs.Cache.{PlainCache}
use Rattle.arp_core.specs.Step.{step as arp_step}
use Rattle.iface_step.specs.declared.words.Act.TheVariants.{Schedule, Dropped}
use Rattle.iface_step.specs.declared.words.Happening.TheVariants.{ArpTimer}
use Rattle.iface_step.specs.Attachment.{PlainAttachment, PlainLanEnd, OnLink, OnLan}
use Rattle.iface_step.specs.Down.{send_frame}
use Rattle.iface_step.specs.Frames.{arp_on_lan, ip_on_lan, lan_frame, message}
use Rattle.iface_step.specs.Transit.{Progress, asks, in_transit, with_attachment}

-- a message is a new packet of the node
unfoldable pub sends_message : Time → List ℕ → List ℕ → Arp → Progress → Progress
sends_message now to from arp p =
    in_transit (send_frame now (lan_frame to from arp_on_lan (message (new_uid p.numbers) arp))) (record p { numbers = with_packet p.numbers })

-- what address resolution asks for: a packet or a message goes down, a timer is set, or a packet is dropped
unfoldable pub carry_arp : Time → List ℕ → Progress → ArpAct Packet → Progress
carry_arp now mac p (SendTo to packet) = in_transit (send_frame now (lan_frame to mac ip_on_lan packet)) p
carry_arp now mac p (Ask arp) = sends_message now broadcast mac arp p
carry_arp now mac p (Answer arp) = sends_message now arp.target_mac mac arp p
carry_arp now mac p (TimerAt at addr stamp) = asks (Schedule at p.iface.place (ArpTimer addr stamp)) p
carry_arp now mac p ArpDropped = asks Dropped p

-- a step of address resolution, whose acts are carried out in order
abbrev pub resolved : Time → PlainLanEnd → Numbered PlainCache (ArpAct Packet) → Progress → Progress
resolved now e s p =
    fold (carry_arp now e.cache.mac) (record (in_transit (with_attachment (OnLan (record e { cache = s.state }))) p) { numbers = s.numbers }) s.acts

-- on a link no address is asked for
abbrev pub arp_takes_at : PlainAttachment → Time → ArpIn Packet → Progress → Progress
arp_takes_at (OnLink e) now input p = p
arp_takes_at (OnLan e) now input p = resolved now e (arp_step e.cache p.numbers input) p

unfoldable pub arp_takes : Time → ArpIn Packet → Progress → Progress
arp_takes now input p = arp_takes_at p.iface.at now input p
