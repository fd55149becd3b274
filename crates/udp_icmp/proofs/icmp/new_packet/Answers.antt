use Rattle.std.proofs.Common.{◌≡◌, length, ap, ◌∙◌}
use Rattle.std.proofs.lemmas.Result.{IfOk-weaker}
use Rattle.sim_base.specs.Packet.{len, from_bytes}
use Rattle.sim_base.proofs.PacketLaws.{len-from_bytes}
use Rattle.udp_icmp.proofs.icmp.new_packet.Goals as goal

pub returns-clause-size : goal.returns-clause-size
returns-clause-size g c =
    let bytes = c.args.bytes.now in
    IfOk-weaker c.from_bytes.result (λ packet. g.P.Pkt.plain packet ≡ from_bytes c.args.uid bytes) (λ packet. len (g.P.Pkt.plain packet) ≡ length bytes)
    (λ packet e. ap len e ∙ len-from_bytes c.args.uid bytes) c.from_bytes.ensures
