use Rattle.std.proofs.Common.{arith, ap, ◌∙◌}
use Rattle.sim_base.specs.Packet.{len, cut}
use Rattle.ipv4_core.proofs.IpLaws.{header_stays, len-payload}
use Rattle.ipv4_core.proofs.ip.Ip.receive.Goals as goal

pub input-requires-after_bounds : goal.input-requires-after_bounds
input-requires-after_bounds g c κs within =
    let packet = g.P.Pkt.plain c.args.packet in
    let total = rw c.in-Some.is at c.requires in
    len-payload c.in-Some.head packet _ _ total.0 total.1 (omega (arith, c.if-len-from.false, c.len.ensures.value, c.from.ensures))
    (c.cut.ensures ∙ ap (λ n. cut 0 n packet) c.from-2.ensures) c.pop_front.ensures.after

pub pop_front-requires : goal.pop_front-requires
pop_front-requires g c =
    let packet = g.P.Pkt.plain c.args.packet in
    let total = rw c.in-Some.is at c.requires in
    header_stays c.in-Some.head.total packet _ total.0 (omega (arith, c.if-len-from.false, c.len.ensures.value, c.from.ensures))
    (c.cut.ensures ∙ ap (λ n. cut 0 n packet) c.from-2.ensures)
