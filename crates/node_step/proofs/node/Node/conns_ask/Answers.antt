use Rattle.tcp_flow.specs.Seen.{plain_act, plain_in}
use Rattle.tcp_flow.specs.Small.{FitsDatagram}
use Rattle.node_step.proofs.Fits.{fit-none}
use Rattle.node_step.proofs.Stages.{conns-ask, made}
use Rattle.node_step.proofs.node.Node.conns_ask.Goals as goal

pub carry_all_asked-requires-after_bounds : goal.carry_all_asked-requires-after_bounds
carry_all_asked-requires-after_bounds g c κs within =
    c.in_ok-step.ensures.datagrams (fit-none FitsDatagram (plain_act g.P.Pkt.plain) c.room-acts.result.items c.room-acts.ensures)

pub returns : goal.returns
returns g c =
    conns-ask (plain_in g.P.Pkt.plain c.args.input) _ c.args.self.now c.args.work.now.firing c.step.new.self c.step.new.numbers _ _ c.self.view_is
    c.in_ok-step.ensures.state c.in_ok-step.ensures.numbers
    (made (plain_act g.P.Pkt.plain) c.room-acts.result.items c.step.new.out.items _ c.room-acts.ensures c.in_ok-step.ensures.acts) c.in_ok-carry_all_asked.ensures
