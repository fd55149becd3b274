use Rattle.ipv4_core.specs.Seen.{plain_act, plain_in}
use Rattle.ipv4_core.specs.Ip.{FitsDatagram}
use Rattle.node_step.proofs.Fits.{fit-made}
use Rattle.node_step.proofs.Stages.{ip-sends, made}
use Rattle.node_step.proofs.node.Node.ip_sends.Goals as goal

pub carry_all_sent-requires-after_bounds : goal.carry_all_sent-requires-after_bounds
carry_all_sent-requires-after_bounds g c κs within =
    fit-made FitsDatagram (plain_act g.P.Pkt.plain) c.room-acts.result.items c.step.new.acts.items _ c.room-acts.ensures c.in_ok-step.ensures.acts c.in_ok-step.ensures.fits

pub returns : goal.returns
returns g c =
    ip-sends (plain_in g.P.Pkt.plain c.args.input) _ c.args.self.now c.args.work.now.firing c.step.new.numbers _ _ c.self.view_is c.in_ok-step.ensures.numbers
    (made (plain_act g.P.Pkt.plain) c.room-acts.result.items c.step.new.acts.items _ c.room-acts.ensures c.in_ok-step.ensures.acts) c.in_ok-carry_all_sent.ensures
