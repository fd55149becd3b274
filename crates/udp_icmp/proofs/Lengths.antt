-- How long packets are.
use Rattle.std.proofs.Common.{ℕ, ◌≡◌, ◌+◌, ◌-◌, ◌≤◌, length, drop, refl, arith, ap, ◌∙◌, length-take, length-drop}
use Rattle.sim_base.specs.declared.item.Kind.TheVariants.{Icmp as IcmpItem, Udp as UdpItem}
use Rattle.sim_base.specs.Packet.{Packet, len, cut, pop_front}
use Rattle.sim_base.proofs.PacketLaws.{bytes-cut, len-cut, len-push_front}
use Rattle.header_forms.specs.declared.icmp.Icmp.{Icmp}
use Rattle.header_forms.specs.declared.udp.Udp.{Udp}
use Rattle.header_forms.specs.Icmp.{icmp_bytes}
use Rattle.header_forms.specs.Udp.{udp_bytes}
use Rattle.udp_icmp.specs.Icmp.{icmp_head, icmp_checksum, message}
use Rattle.udp_icmp.specs.Udp.{datagram, udp_checksum, udp_head}

-- a datagram that is cut to its length still has its header
pub header_stays : (n : ℕ) (packet shorter : Packet) → 8 ≤ n → n ≤ len packet → shorter ≡ cut 0 n packet → 8 ≤ len shorter
header_stays n packet shorter long inside e =
    let size : len shorter ≡ n - 0 = ap len e ∙ len-cut 0 n packet (omega arith) inside in
    omega arith

-- a cut makes no packet longer
pub len-cut-le : (n : ℕ) (packet : Packet) → len (cut 0 n packet) ≤ len packet
len-cut-le n packet =
    omega (arith, ap length (bytes-cut 0 n packet), length-take (n - 0) (drop 0 packet.bytes), length-drop 0 packet.bytes)

-- without its header a packet is shorter by 8 bytes
pub len-pop_front-le : (packet : Packet) → len (pop_front 8 packet) ≤ len packet - 8
len-pop_front-le packet =
    omega (arith, ap length (bytes-cut 8 (len packet) packet), length-take (len packet - 8) (drop 8 packet.bytes))

length-udp_bytes : (h : Udp) → length (udp_bytes h) ≡ 8
unfolding udp_bytes
length-udp_bytes h = refl

length-icmp_bytes : (h : Icmp) → length (icmp_bytes h) ≡ 8
unfolding icmp_bytes
length-icmp_bytes h = refl

pub len-datagram : (src dst sport port : ℕ) (packet : Packet) → len (datagram src dst sport port packet) ≡ 8 + len packet
len-datagram src dst sport port packet =
    let head = udp_head sport port packet (udp_checksum src dst sport port packet) in
    len-push_front UdpItem (udp_bytes head) packet ∙ ap (λ n. n + len packet) (length-udp_bytes head)

pub len-message : (kind code rest : ℕ) (packet : Packet) → len (message kind code rest packet) ≡ 8 + len packet
len-message kind code rest packet =
    let head = icmp_head kind code rest (icmp_checksum kind code rest packet) in
    len-push_front IcmpItem (icmp_bytes head) packet ∙ ap (λ n. n + len packet) (length-icmp_bytes head)
