use Rattle.event_queue.proofs.LoadLaws.{holds-empty}
use Rattle.event_queue.proofs.queue.Queue.make.Goals as goal

pub invariant_of-result : goal.invariant_of-result
invariant_of-result g c = rw c.make.ensures (holds-empty c.new.result.slots)
