use Rattle.udp_icmp.specs.Seen.{plain_act, plain_in}
use Rattle.udp_icmp.specs.Step.{FitsDatagram}
use Rattle.udp_icmp.proofs.StepLaws.{step_fits}
use Rattle.node_step.proofs.Fits.{fit-made}
use Rattle.node_step.proofs.Stages.{ports-take, made}
use Rattle.node_step.proofs.node.Node.ports_take.Goals as goal

pub carry_all_ports-requires-after_bounds : goal.carry_all_ports-requires-after_bounds
carry_all_ports-requires-after_bounds g c κs within =
    fit-made FitsDatagram (plain_act g.P.Pkt.plain) c.room-acts.result.items c.step.new.out.items _ c.room-acts.ensures c.in_ok-step.ensures.acts (step_fits _ _ _ c.requires)

pub returns : goal.returns
returns g c =
    ports-take (plain_in g.P.Pkt.plain c.args.input) _ c.args.self.now c.args.work.now.firing c.step.new.numbers _ _ c.self.view_is c.in_ok-step.ensures.numbers
    (made (plain_act g.P.Pkt.plain) c.room-acts.result.items c.step.new.out.items _ c.room-acts.ensures c.in_ok-step.ensures.acts) c.in_ok-carry_all_ports.ensures
