use Rattle.event_queue.proofs.PendingLaws.{CountsBelow}
use Rattle.event_queue.proofs.tests.scheduled.Given as goal

abbrev pub invariant-loop-number : goal.invariant-loop-number
invariant-loop-number l = CountsBelow l.number l.queue
