use Rattle.std.proofs.Common.{ap, sym, ◌∙◌}
use Rattle.traffic_apps.specs.Seen.{plain_act}
use Rattle.node_step.specs.Apps.{carry_app}
use Rattle.node_step.specs.Node.{progress}
use Rattle.node_step.proofs.Stages.{ticks}
use Rattle.node_step.proofs.node.Node.carry_app.Goals as goal

pub returns-in_ok-schedule-in-TickAt : goal.returns-in_ok-schedule-in-TickAt
returns-in_ok-schedule-in-TickAt g c =
    ticks c.args.app c.args.port c.in-TickAt.at _ c.args.self.now c.args.work.now.firing c.schedule.new.self c.self-in-TickAt.view_is c.in_ok-schedule-in-TickAt.ensures
    ∙ ap (λ a. carry_app c.args.app c.args.port (progress c.args.self.now c.args.work.now.firing) (plain_act g.P.Pkt.plain a)) (sym c.in-TickAt.is)
