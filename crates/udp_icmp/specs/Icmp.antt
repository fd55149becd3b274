-- Echo, and reports of what became of a packet: RFC 792.
use Rattle.std.specs.Prelude.{ℕ, ◌+◌, ◌/◌, ◌^◌, ◌==◌, ◌&&◌, ◌||◌, ◌++◌, not, Bool, List, [], ◌∷◌, Option, None, Some, min, slice_range, slice_index, if◌then◌else◌}
use Rattle.sim_base.specs.declared.item.Kind.TheVariants.{Icmp as IcmpItem}
use Rattle.sim_base.specs.declared.numbers.Numbers.{Numbers}
use Rattle.sim_base.specs.Packet.{Packet, len, push_front, pop_front, from_bytes}
use Rattle.header_forms.specs.declared.icmp.Icmp.{Icmp}
use Rattle.header_forms.specs.declared.ipv4.Ipv4.{Ipv4}
use Rattle.header_forms.specs.Checksum.{checksum}
use Rattle.header_forms.specs.Icmp.{icmp_bytes, icmp_of}
use Rattle.header_forms.specs.Ipv4.{ipv4_bytes}
use Rattle.layer_words.specs.Acts.{Made}
use Rattle.layer_words.specs.Counting.{new_uid, with_packet}
use Rattle.udp_icmp.specs.declared.ports.Act.{Act}
use Rattle.udp_icmp.specs.declared.ports.Act.TheVariants.{ToIp, ToApp, Dropped}
use Rattle.udp_icmp.specs.Ports.{PlainPorts, app_at}

-- the header of a message, with this checksum
abbrev pub icmp_head : ℕ → ℕ → ℕ → ℕ → Icmp
icmp_head kind code rest sum = record { kind = kind; code = code; checksum = sum; rest = rest }

-- the checksum over the header with 0 in the checksum's place, and the data
abbrev pub icmp_checksum : ℕ → ℕ → ℕ → Packet → ℕ
icmp_checksum kind code rest packet = checksum (icmp_bytes (icmp_head kind code rest 0) ++ packet.bytes)

-- data with the header of a message in front
abbrev pub message : ℕ → ℕ → ℕ → Packet → Packet
message kind code rest packet =
    push_front IcmpItem (icmp_bytes (icmp_head kind code rest (icmp_checksum kind code rest packet))) packet

-- an echo request is 8, and its reply 0
abbrev pub ping_sent : ℕ → ℕ → Packet → Act Packet
ping_sent dst rest packet = ToIp None dst 1 (message 8 0 rest packet)

abbrev pub nothing : Numbers → Made (Act Packet)
nothing numbers = record { numbers = numbers; acts = [] }

-- a request is answered by a new packet with the same rest and data, from the address that it was sent to
abbrev pub replied : Ipv4 → Icmp → Packet → Numbers → Made (Act Packet)
replied head icmp packet numbers = record {
  numbers = with_packet numbers;
  acts = ToIp (Some head.dst) head.src 1 (message 0 0 icmp.rest (from_bytes (new_uid numbers) (slice_range packet.bytes 8 (len packet)))) ∷ [];
}

abbrev pub given : Ipv4 → Packet → Option ℕ → List (Act Packet)
given head packet None = []
given head packet (Some app) = ToApp app head.src 0 (pop_front 8 packet) ∷ []

-- a reply goes to the `ping` whose number stands in the upper half of its rest
abbrev pub reply_given : PlainPorts → Ipv4 → Icmp → Packet → Numbers → Made (Act Packet)
reply_given ports head icmp packet numbers =
    record { numbers = numbers; acts = given head packet (app_at (icmp.rest / 2 ^ 16) ports.pings) }

abbrev pub is_request : Icmp → Bool
is_request icmp = icmp.kind == 8 && icmp.code == 0

abbrev pub is_reply : Icmp → Bool
is_reply icmp = icmp.kind == 0 && icmp.code == 0

-- other kinds are ignored
abbrev pub understood : PlainPorts → Ipv4 → Icmp → Packet → Numbers → Made (Act Packet)
understood ports head icmp packet numbers =
    if is_request icmp then replied head icmp packet numbers
    else if is_reply icmp then reply_given ports head icmp packet numbers
    else nothing numbers

abbrev pub icmp_headed : PlainPorts → Ipv4 → Packet → Numbers → Option Icmp → Made (Act Packet)
icmp_headed ports head packet numbers None = record { numbers = numbers; acts = Dropped ∷ [] }
icmp_headed ports head packet numbers (Some icmp) =
    if checksum packet.bytes == 0 then understood ports head icmp packet numbers
    else record { numbers = numbers; acts = Dropped ∷ [] }

-- a message without a header, or one that doesn't sum to all ones, is dropped
abbrev pub icmp_arrived : PlainPorts → Ipv4 → Packet → Numbers → Made (Act Packet)
icmp_arrived ports head packet numbers = icmp_headed ports head packet numbers (icmp_of (slice_range packet.bytes 0 8))

-- a message of ICMP other than an echo, which its first byte tells
abbrev pub is_icmp_error : ℕ → Packet → Bool
is_icmp_error proto packet = proto == 1 && not (slice_index packet.bytes 0 == 0 || slice_index packet.bytes 0 == 8)

-- nothing is reported about a fragment with an offset, nor about a report
abbrev pub is_told : Ipv4 → Packet → Bool
is_told head packet = head.offset == 0 && not (is_icmp_error head.proto packet)

-- what a report quotes: the header as it was received, and the first 8 bytes behind it
abbrev pub quoted : Ipv4 → Packet → List ℕ
quoted head packet = ipv4_bytes head ++ slice_range packet.bytes 0 (min (len packet) 8)

abbrev pub reported : ℕ → ℕ → Ipv4 → Packet → Numbers → Made (Act Packet)
reported kind code head packet numbers =
    if is_told head packet
    then record {
      numbers = with_packet numbers;
      acts = ToIp None head.src 1 (message kind code 0 (from_bytes (new_uid numbers) (quoted head packet))) ∷ [];
    }
    else nothing numbers
