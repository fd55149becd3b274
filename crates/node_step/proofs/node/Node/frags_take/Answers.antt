use Rattle.frag_core.specs.Seen.{plain_act, plain_in}
use Rattle.frag_core.specs.Step.{FitsDatagram}
use Rattle.node_step.proofs.Fits.{fit-made}
use Rattle.node_step.proofs.Stages.{frags-take, made}
use Rattle.node_step.proofs.node.Node.frags_take.Goals as goal

pub carry_all_frags-requires-after_bounds : goal.carry_all_frags-requires-after_bounds
carry_all_frags-requires-after_bounds g c κs within =
    fit-made FitsDatagram (plain_act g.P.Pkt.plain) c.room-acts.result.items c.step.new.out.items _ c.room-acts.ensures c.in_ok-step.ensures.acts c.in_ok-step.ensures.fits

pub returns : goal.returns
returns g c =
    frags-take (plain_in g.P.Pkt.plain c.args.input) _ c.args.self.now c.args.work.now.firing c.step.new.self c.step.new.numbers _ _ c.self.view_is
    c.in_ok-step.ensures.state c.in_ok-step.ensures.numbers
    (made (plain_act g.P.Pkt.plain) c.room-acts.result.items c.step.new.out.items _ c.room-acts.ensures c.in_ok-step.ensures.acts) c.in_ok-carry_all_frags.ensures
