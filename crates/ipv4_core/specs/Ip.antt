-- What IPv4 does with a packet: RFC 791.
use Rattle.std.specs.Prelude.{ℕ, ◌+◌, ◌-◌, ◌/◌, ◌%◌, ◌^◌, ◌≤◌, ◌<◌, nat_le, nat_lt, Bool, not, ◌&&◌, ◌||◌, ◌==◌, List, [], ◌∷◌, Option, None, Some, slice_range, if◌then◌else◌}
use Rattle.std.specs.List.{list_any}
use Rattle.std.specs.Option.{unwrap_or}
use Rattle.std.specs.Ordering.{is_eq, nat_cmp}
use Rattle.sim_base.specs.declared.numbers.Numbers.{Numbers}
use Rattle.sim_base.specs.declared.item.Kind.TheVariants.{Ipv4 as Ipv4Item}
use Rattle.sim_base.specs.Packet.{Packet, len, push_front, pop_front, cut}
use Rattle.header_forms.specs.declared.ipv4.Ipv4.{Ipv4}
use Rattle.header_forms.specs.Ipv4.{ipv4_bytes, ipv4_of}
use Rattle.layer_words.specs.Acts.{Made}
use Rattle.ipv4_core.specs.declared.ip.In.{In}
use Rattle.ipv4_core.specs.declared.ip.In.TheVariants.{Send, Arrive}
use Rattle.ipv4_core.specs.declared.ip.Act.{Act}
use Rattle.ipv4_core.specs.declared.ip.Act.TheVariants.{Out, Local, Report, Dropped}
use Rattle.ipv4_core.specs.declared.routes.Way.{Way}
use Rattle.ipv4_core.specs.Routes.{PlainTable, IsFalling, neighbour, route}

-- the routes, and the node's own addresses
pub record PlainIp : Type 0 where
  pub routes : List PlainTable
  pub own : List ℕ

-- longer prefixes are looked for first
abbrev pub IsIp : PlainIp → Type 0
IsIp ip = IsFalling ip.routes

-- the most bytes of data behind a header: 65535 less 20
abbrev pub most_data : ℕ
most_data = 65515

abbrev pub only : Numbers → Act Packet → Made (Act Packet)
only numbers act = record { numbers = numbers; acts = act ∷ [] }

-- a packet with a header in front
abbrev pub with_head : Ipv4 → Packet → Packet
with_head head packet = push_front Ipv4Item (ipv4_bytes head) packet

-- a packet leaves by a way
abbrev pub out : Way → Ipv4 → Packet → Act Packet
out way head packet = Out way.iface (neighbour way head.dst) way.mtu (with_head head packet)

-- the next identification, modulo 2^16
abbrev pub with_id : Numbers → Numbers
with_id numbers = record numbers { ids = (numbers.ids + 1) % 2 ^ 16 }

-- the header of a datagram that is sent: time to live 64, and no flags
abbrev pub new_head : Numbers → Option ℕ → ℕ → ℕ → Packet → Way → Ipv4
new_head numbers src dst proto packet way = record {
  tos = 0;
  total = 20 + len packet;
  id = numbers.ids;
  flags = 0;
  offset = 0;
  ttl = 64;
  proto = proto;
  src = unwrap_or src way.addr;
  dst = dst;
}

-- a datagram is sent, or dropped where no route leads to its destination
abbrev pub sent : Numbers → Option ℕ → ℕ → ℕ → Packet → Option Way → Made (Act Packet)
sent numbers src dst proto packet None = only numbers Dropped
sent numbers src dst proto packet (Some way) = only (with_id numbers) (out way (new_head numbers src dst proto packet way) packet)

-- the source of a datagram that is dropped is told why
abbrev pub told : ℕ → ℕ → Ipv4 → Packet → List (Act Packet)
told kind code head packet = Report kind code head packet ∷ Dropped ∷ []

-- the second of the three flags forbids fragments
abbrev pub is_whole_only : Ipv4 → Bool
is_whole_only head = head.flags / 2 % 2 == 1

-- a fragment has an offset, or the third flag: more fragments follow
abbrev pub is_fragment : Ipv4 → Bool
is_fragment head = not (head.offset == 0) || head.flags % 2 == 1

-- longer than the way's MTU, where fragments are forbidden
abbrev pub is_too_long : Ipv4 → Packet → Way → Bool
is_too_long head packet way = nat_lt way.mtu (20 + len packet) && is_whole_only head

-- a datagram goes on with a time to live less by one
abbrev pub forwarded : Ipv4 → Packet → Option Way → List (Act Packet)
forwarded head packet None = told 3 0 head packet
forwarded head packet (Some way) =
    if is_too_long head packet way then told 3 4 head packet else out way (record head { ttl = head.ttl - 1 }) packet ∷ []

-- a datagram for another node is forwarded, unless its time to live is over
abbrev pub forward : PlainIp → Ipv4 → Packet → List (Act Packet)
forward ip head packet =
    if nat_le head.ttl 1 then told 11 0 head packet else forwarded head packet (route head.dst ip.routes)

-- ICMP, TCP and UDP
abbrev pub is_known : ℕ → Bool
is_known proto = proto == 1 || (proto == 6 || proto == 17)

-- a datagram for this node goes to its protocol, and a fragment, of whatever protocol, to reassembly
abbrev pub local : Ipv4 → Packet → List (Act Packet)
local head packet =
    if is_fragment head || is_known head.proto then Local head packet ∷ [] else told 3 2 head packet

abbrev pub is_own : PlainIp → ℕ → Bool
is_own ip addr = list_any (λ own. is_eq (nat_cmp addr own)) ip.own

abbrev pub input : PlainIp → Ipv4 → Packet → List (Act Packet)
input ip head packet = if is_own ip head.dst then local head packet else forward ip head packet

-- what is left of a datagram behind its header, as long as the header says
abbrev pub data_of : Ipv4 → Packet → Packet
data_of head packet = pop_front 20 (cut 0 head.total packet)

abbrev pub headed : PlainIp → Packet → Option Ipv4 → List (Act Packet)
headed ip packet None = Dropped ∷ []
headed ip packet (Some head) =
    if nat_lt (len packet) head.total then Dropped ∷ [] else input ip head (data_of head packet)

-- a packet that begins with no header, or is shorter than its header says, is dropped
abbrev pub arrived : PlainIp → Packet → List (Act Packet)
arrived ip packet = headed ip packet (ipv4_of (slice_range packet.bytes 0 20))

abbrev pub step : PlainIp → Numbers → In Packet → Made (Act Packet)
step ip numbers (Send src dst proto packet) = sent numbers src dst proto packet (route dst ip.routes)
step ip numbers (Arrive packet) = record { numbers = numbers; acts = arrived ip packet }

-- a packet that is sent fits a datagram
abbrev pub CanTake : In Packet → Type 0
CanTake (Send src dst proto packet) = len packet ≤ most_data
CanTake (Arrive packet) = Unit {0}

-- what leaves fits a datagram with its header, and what goes up fits one without
abbrev pub FitsDatagram : Act Packet → Type 0
FitsDatagram (Out iface hop mtu packet) = (20 ≤ len packet) × (len packet < 2 ^ 16)
FitsDatagram (Local head packet) = len packet ≤ most_data
FitsDatagram (Report kind code head packet) = len packet ≤ most_data
FitsDatagram Dropped = Unit {0}
