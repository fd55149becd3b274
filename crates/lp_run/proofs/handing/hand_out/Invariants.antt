use Rattle.lp_run.proofs.Seen.{HandedOut}
use Rattle.lp_run.proofs.handing.hand_out.Given as goal

abbrev pub invariant-loop-event : goal.invariant-loop-event
invariant-loop-event g l =
    HandedOut g.P.Pkt.plain l.part l.fn.scheduled.items l.fn.pending l.fn.sends.items l.scheduled.items l.pending l.sends.items

abbrev pub decreases-loop-event : goal.decreases-loop-event
decreases-loop-event g l = goal.left-loop-event g l
