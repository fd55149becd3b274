-- Datagrams between ports: RFC 768.
use Rattle.std.specs.Prelude.{ℕ, ◌+◌, ◌==◌, ◌||◌, ◌++◌, nat_lt, Bool, List, [], ◌∷◌, Option, None, Some, slice_range, if◌then◌else◌}
use Rattle.sim_base.specs.declared.item.Kind.TheVariants.{Udp as UdpItem}
use Rattle.sim_base.specs.Packet.{Packet, len, push_front, pop_front, cut}
use Rattle.header_forms.specs.declared.ipv4.Ipv4.{Ipv4}
use Rattle.header_forms.specs.declared.udp.Udp.{Udp}
use Rattle.header_forms.specs.Checksum.{checksum}
use Rattle.header_forms.specs.Udp.{udp_bytes, udp_of}
use Rattle.layer_words.specs.Covered.{pseudo_header}
use Rattle.udp_icmp.specs.declared.ports.Act.{Act}
use Rattle.udp_icmp.specs.declared.ports.Act.TheVariants.{ToIp, ToApp, Report, Dropped}
use Rattle.udp_icmp.specs.Ports.{PlainPorts, app_at}

-- the header of a datagram, with this checksum; its length counts header and data
abbrev pub udp_head : ℕ → ℕ → Packet → ℕ → Udp
udp_head sport port packet sum = record { sport = sport; dport = port; length = 8 + len packet; checksum = sum }

-- a checksum that is 0 is sent as all ones, for 0 means that there is none
abbrev pub never_zero : ℕ → ℕ
never_zero sum = if sum == 0 then 65535 else sum

-- the checksum over pseudo-header, header with 0 in the checksum's place, and data
abbrev pub udp_checksum : ℕ → ℕ → ℕ → ℕ → Packet → ℕ
udp_checksum src dst sport port packet =
    never_zero (checksum ((pseudo_header src dst 17 (8 + len packet) ++ udp_bytes (udp_head sport port packet 0)) ++ packet.bytes))

-- a packet with its header in front
abbrev pub datagram : ℕ → ℕ → ℕ → ℕ → Packet → Packet
datagram src dst sport port packet =
    push_front UdpItem (udp_bytes (udp_head sport port packet (udp_checksum src dst sport port packet))) packet

-- a datagram goes to IPv4; where no route gives it a source it is dropped
abbrev pub udp_sent : Option ℕ → ℕ → ℕ → ℕ → Packet → Act Packet
udp_sent None sport dst port packet = Dropped
udp_sent (Some src) sport dst port packet = ToIp (Some src) dst 17 (datagram src dst sport port packet)

-- it has no checksum, or one with which all that it covers sums to all ones
abbrev pub is_intact : Ipv4 → Udp → Packet → Bool
is_intact head udp packet =
    udp.checksum == 0 || checksum (pseudo_header head.src head.dst 17 udp.length ++ packet.bytes) == 0

-- the application at the port gets the data, with the sender's address and port; where there is none, the sender is told
abbrev pub delivered : Ipv4 → Udp → Packet → Option ℕ → List (Act Packet)
delivered head udp packet None = Report 3 3 head packet ∷ Dropped ∷ []
delivered head udp packet (Some app) = ToApp app head.src udp.sport (pop_front 8 packet) ∷ []

abbrev pub checked : PlainPorts → Ipv4 → Udp → Packet → List (Act Packet)
checked ports head udp packet =
    if is_intact head udp packet then delivered head udp packet (app_at udp.dport ports.udp) else Dropped ∷ []

abbrev pub headed : PlainPorts → Ipv4 → Packet → Option Udp → List (Act Packet)
headed ports head packet None = Dropped ∷ []
headed ports head packet (Some udp) =
    if nat_lt (len packet) udp.length then Dropped ∷ [] else checked ports head udp (cut 0 udp.length packet)

-- a packet that begins with no header, or is shorter than its header says, is dropped
abbrev pub udp_arrived : PlainPorts → Ipv4 → Packet → List (Act Packet)
udp_arrived ports head packet = headed ports head packet (udp_of (slice_range packet.bytes 0 8))
