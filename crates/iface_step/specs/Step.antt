-- What happens at an interface.
use Rattle.std.specs.Prelude.{ℕ, ◌≤◌, ◌<◌, ◌^◌, []}
use Rattle.sim_base.specs.declared.numbers.Numbers.{Numbers}
use Rattle.sim_base.specs.declared.time.Time.{Time}
use Rattle.sim_base.specs.Draws.{PlainRandom}
use Rattle.sim_base.specs.Packet.{Packet, len}
use Rattle.csma_dev.specs.declared.bus.Bus.{Bus}
use Rattle.arp_core.specs.declared.words.In.TheVariants.{Resolve, Timer}
use Rattle.iface_step.specs.declared.words.Happening.{Happening}
use Rattle.iface_step.specs.declared.words.Happening.TheVariants.{Arrive, Sent, BusFree, BackoffOver, DiscReady, ArpTimer}
use Rattle.iface_step.specs.declared.words.In.{In}
use Rattle.iface_step.specs.declared.words.In.TheVariants.{Send, Happens}
use Rattle.iface_step.specs.Attachment.{PlainAttachment, OnLink, OnLan, least_frame}
use Rattle.iface_step.specs.Down.{asks_disc, frees, send_frame, tries_again}
use Rattle.iface_step.specs.Frames.{link_frame}
use Rattle.iface_step.specs.Iface.{PlainIface}
use Rattle.iface_step.specs.Resolution.{arp_takes}
use Rattle.iface_step.specs.Transit.{Progress, in_transit}
use Rattle.iface_step.specs.Up.{comes}

-- IPv4 sends a packet to a neighbour: on a link it leaves at once, on a LAN when the neighbour's MAC address is known
abbrev pub sends_at : PlainAttachment → Time → ℕ → Packet → Progress → Progress
sends_at (OnLink e) now hop packet p = in_transit (send_frame now (link_frame packet)) p
sends_at (OnLan e) now hop packet p = arp_takes now (Resolve now hop packet) p

unfoldable pub sends : Time → ℕ → Packet → Progress → Progress
sends now hop packet p = sends_at p.iface.at now hop packet p

unfoldable pub happened : Time → Happening Packet → Progress → Progress
happened now (Arrive frame) p = comes now frame p
happened now Sent p = in_transit (frees now) p
happened now BusFree p = in_transit (frees now) p
happened now BackoffOver p = in_transit (tries_again now) p
happened now DiscReady p = in_transit (asks_disc now) p
happened now (ArpTimer addr stamp) p = arp_takes now (Timer now addr stamp) p

unfoldable pub handled : In Packet → Progress → Progress
handled (Send now hop packet) p = sends now hop packet p
handled (Happens now what) p = happened now what p

-- an interface, its bus, what its node draws and numbers, after an input, and what is asked for, in order
abbrev pub step : PlainIface → Bus → PlainRandom → Numbers → In Packet → Progress
step iface bus r n input = handled input (record { iface = iface; bus = bus; random = r; numbers = n; acts = [] })

-- a frame has its header, and its trailer on a LAN
abbrev pub CanHappen : PlainAttachment → Happening Packet → Type 0
CanHappen at (Arrive frame) = least_frame at ≤ len frame
CanHappen at Sent = Unit {0}
CanHappen at BusFree = Unit {0}
CanHappen at BackoffOver = Unit {0}
CanHappen at DiscReady = Unit {0}
CanHappen at (ArpTimer addr stamp) = Unit {0}

-- times are those of a run, and a packet of IPv4 is no longer than a datagram
abbrev pub CanTake : PlainIface → In Packet → Type 0
CanTake i (Send now hop packet) = (now.0 ≤ 10 ^ 12) × (len packet < 2 ^ 16)
CanTake i (Happens now what) = (now.0 ≤ 10 ^ 12) × CanHappen i.at what
