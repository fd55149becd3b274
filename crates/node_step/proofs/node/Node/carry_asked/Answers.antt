use Rattle.std.proofs.Common.{ap, sym, ◌∙◌}
use Rattle.tcp_flow.specs.Seen.{plain_act}
use Rattle.node_step.specs.Asking.{carry_asked}
use Rattle.node_step.specs.Node.{progress}
use Rattle.node_step.proofs.Stages.{timers}
use Rattle.node_step.proofs.node.Node.carry_asked.Goals as goal

pub returns-in-TimerAt : goal.returns-in-TimerAt
returns-in-TimerAt g c =
    timers c.in-TimerAt.at c.in-TimerAt.conn c.in-TimerAt.stamp _ c.args.self.now c.args.work.now.firing c.schedule.new.self c.self.view_is c.in_ok-schedule-in-TimerAt.ensures
    ∙ ap (λ a. carry_asked (progress c.args.self.now c.args.work.now.firing) (plain_act g.P.Pkt.plain a)) (sym c.in-TimerAt.is)
