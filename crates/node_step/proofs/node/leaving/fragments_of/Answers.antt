use Rattle.std.proofs.Common.{◌≡◌, ◌-◌, map, ap, ◌∙◌, arith}
use Rattle.std.proofs.lemmas.Result.{IfOk-weaker}
use Rattle.sim_base.specs.Packet.{len}
use Rattle.sim_base.proofs.PacketLaws.{len-cut}
use Rattle.node_step.proofs.Fragmenting.{all-short}
use Rattle.node_step.proofs.node.leaving.fragments_of.Goals as goal

pub split-requires-clause-size : goal.split-requires-clause-size
split-requires-clause-size g c κs within =
    let p = g.P.Pkt.plain c.args.packet in
    let left : len (g.P.Pkt.plain c.pop_front.new.self) ≡ len p - 20 =
    ap len c.pop_front.ensures.after ∙ len-cut 20 (len p) p c.requires.head (omega arith) in
    omega (arith, left, c.requires.size)

pub returns-clause-fit : goal.returns-clause-fit
returns-clause-fit g c =
    let size = len (g.P.Pkt.plain c.args.packet) in
    IfOk-weaker c.split.result _ _
    (λ packets fit. all-short c.args.mtu c.max.result size (map g.P.Pkt.plain packets.items) c.max.ensures c.requires.long c.requires.size fit)
    c.split.ensures.fit
