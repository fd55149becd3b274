-- How long a packet is without its header.
use Rattle.std.proofs.Common.{ℕ, ◌≡◌, ◌-◌, ◌<◌, ◌≤◌, ◌^◌, arith, ap, ◌∙◌}
use Rattle.sim_base.specs.Packet.{Packet, len, pop_front, cut}
use Rattle.sim_base.proofs.PacketLaws.{len-cut}
use Rattle.header_forms.specs.declared.ipv4.Ipv4.{Ipv4}

pub len-payload : (head : Ipv4) (packet shorter left : Packet) → 20 ≤ head.total → head.total < 2 ^ 16 → head.total ≤ len packet → shorter ≡ cut 0 head.total packet → left ≡ pop_front 20 shorter → len left ≤ 65515
len-payload head packet shorter left long small fits cut-is left-is =
    let one : len shorter ≡ head.total - 0 = ap len cut-is ∙ len-cut 0 head.total packet (omega arith) fits in
    let two : len left ≡ len shorter - 20 = ap len left-is ∙ len-cut 20 (len shorter) shorter (omega arith) (omega arith) in
    omega arith

-- a datagram that is cut to its length still has its header
pub header_stays : (n : ℕ) (packet shorter : Packet) → 20 ≤ n → n ≤ len packet → shorter ≡ cut 0 n packet → 20 ≤ len shorter
header_stays n packet shorter long inside e =
    let size : len shorter ≡ n - 0 = ap len e ∙ len-cut 0 n packet (omega arith) inside in
    omega arith
