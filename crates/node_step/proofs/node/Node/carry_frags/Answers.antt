use Rattle.std.proofs.Common.{ap, sym, ◌∙◌}
use Rattle.frag_core.specs.Seen.{plain_act}
use Rattle.node_step.specs.Reassembly.{carry_frags}
use Rattle.node_step.specs.Node.{progress}
use Rattle.node_step.proofs.Stages.{frag-timers}
use Rattle.node_step.proofs.node.Node.carry_frags.Goals as goal

pub returns-in_ok-schedule-in-TimerAt : goal.returns-in_ok-schedule-in-TimerAt
returns-in_ok-schedule-in-TimerAt g c =
    frag-timers c.in-TimerAt.at c.in-TimerAt.stamp _ c.args.self.now c.args.work.now.firing c.schedule.new.self c.self.view_is c.in_ok-schedule-in-TimerAt.ensures
    ∙ ap (λ a. carry_frags (progress c.args.self.now c.args.work.now.firing) (plain_act g.P.Pkt.plain a)) (sym c.in-TimerAt.is)
