use Rattle.event_queue.proofs.PendingLaws.{CountsBelow}
use Rattle.bench_queue.proofs.hold.in_queue.Given as goal

abbrev pub invariant-loop-count : goal.invariant-loop-count
invariant-loop-count l = CountsBelow l.count l.queue

abbrev pub invariant-loop-count-2 : goal.invariant-loop-count-2
invariant-loop-count-2 l = CountsBelow l.count l.queue
