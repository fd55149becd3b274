use Rattle.std.proofs.Common.{refl}
use Rattle.event_queue.proofs.HeapLaws.{heap-empty, no_entries}
use Rattle.event_queue.proofs.agenda.Agenda.make.Goals as goal

pub invariant_of-result : goal.invariant_of-result
invariant_of-result c = heap-empty _ _ c.new.ensures.items

pub returns : goal.returns
returns c = no_entries _ _ (rw c.new.ensures.items refl)
