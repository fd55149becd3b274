use Rattle.std.proofs.Common.{refl, sym, subst}
use Rattle.event_queue.proofs.PendingLaws.{CountsBelow, new-from_count, counts-insert}
use Rattle.event_queue.proofs.tests.scheduled.Goals as goal

pub push-requires : goal.push-requires
push-requires c = new-from_count _ _ c.loop-number.invariant

pub loop-number-preserved : goal.loop-number-preserved
loop-number-preserved c =
    subst (CountsBelow _) (sym c.in_ok-push.ensures.ok) (counts-insert _ _ _ _ refl c.loop-number.invariant)
