use Rattle.std.proofs.Common.{sym, ◌∙◌}
use Rattle.tcp_wire.proofs.Short.{arrived-short}
use Rattle.tcp_flow.proofs.conns.Conns.hear.Goals as goal

pub take-requires-clause-bytes : goal.take-requires-clause-bytes
take-requires-clause-bytes g c κs within =
    let s = c.args.segment.now in
    arrived-short s.src s.dst (g.P.Pkt.plain s.packet) c.in-Some.arrived (sym c.in_ok-found.ensures ∙ c.in-Some.is) c.requires.packet
