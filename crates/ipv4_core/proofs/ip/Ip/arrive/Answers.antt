use Rattle.ipv4_core.proofs.FitLaws.{arrived_fits}
use Rattle.ipv4_core.proofs.ip.Ip.arrive.Goals as goal

pub returns-clause-fits : goal.returns-clause-fits
returns-clause-fits g c =
    arrived_fits c.args.self.now (g.P.Pkt.plain c.args.packet) c.read_head-head.result c.read_head-head.ensures.value c.read_head-head.ensures.total
