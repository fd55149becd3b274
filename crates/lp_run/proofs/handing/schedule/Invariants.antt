use Rattle.lp_run.proofs.Scheduled.{Put}
use Rattle.lp_run.proofs.handing.schedule.Given as goal

abbrev pub invariant-loop-event : goal.invariant-loop-event
invariant-loop-event g l = Put g.P.Pkt.plain l.fn.events.items l.fn.pending l.events.items l.pending

abbrev pub decreases-loop-event : goal.decreases-loop-event
decreases-loop-event g l = goal.left-loop-event g l
