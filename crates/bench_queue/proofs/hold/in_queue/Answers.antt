use Rattle.std.proofs.Common.{sym, subst}
use Rattle.event_queue.proofs.PendingLaws.{CountsBelow, new-from_count, counts-insert}
use Rattle.bench_queue.proofs.hold.in_queue.Goals as goal

pub loop-count-preserved : goal.loop-count-preserved
loop-count-preserved c =
    subst (CountsBelow _) (sym c.in_ok-push.ensures.ok) (counts-insert _ _ _ _ c.key.ensures c.loop-count.invariant)

pub push-requires-in-loop-count-2 : goal.push-requires-in-loop-count-2
push-requires-in-loop-count-2 c =
    let rest = (subst (CountsBelow c.loop-count-2.count) c.in-Some.ensures.some c.loop-count-2.invariant).1 in
    new-from_count _ _ (subst (λ n. CountsBelow n c.pop_below.new.self) (sym c.key-in-loop-count-2.ensures) rest)

pub loop-count-2-preserved : goal.loop-count-2-preserved
loop-count-2-preserved c =
    let rest = (subst (CountsBelow c.loop-count-2.count) c.in-Some.ensures.some c.loop-count-2.invariant).1 in
    subst (CountsBelow _) (sym c.in_ok-push-2.ensures.ok) (counts-insert _ _ _ _ c.key-in-loop-count-2.ensures rest)
