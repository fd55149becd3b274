use Rattle.std.proofs.Common.{arith, ap, ◌∙◌}
use Rattle.sim_base.specs.Packet.{cut}
use Rattle.udp_icmp.proofs.Lengths.{header_stays}
use Rattle.udp_icmp.proofs.udp.arrive.Goals as goal

pub check-requires-after_bounds : goal.check-requires-after_bounds
check-requires-after_bounds g c κs within =
    let packet = g.P.Pkt.plain c.args.packet in
    header_stays c.in-Some.udp.length packet _ c.in-Some.ensures.length (omega (arith, c.if-len-from.false, c.len.ensures.value, c.from.ensures))
    (c.cut.ensures ∙ ap (λ n. cut 0 n packet) c.from-2.ensures)
