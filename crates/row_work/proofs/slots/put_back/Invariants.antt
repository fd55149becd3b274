use Rattle.std.proofs.Common.{length}
use Rattle.row_work.proofs.SlotLaws.{PutFrom}
use Rattle.row_work.proofs.slots.put_back.Given as goal

-- the items behind these have been put back
abbrev pub invariant-loop-item : goal.invariant-loop-item
invariant-loop-item g l = PutFrom l.order l.initial.drawn.items l.initial.slots.items l.drawn.items l.slots.items

abbrev pub decreases-loop-item : goal.decreases-loop-item
decreases-loop-item g l = length l.drawn.items
