use Rattle.std.proofs.Common.{◌+◌, ◌*◌, length, arith}
use Rattle.std_alloc.proofs.HeapSift as sifts
use Rattle.event_queue.specs.Heap.{entry_cmp}
use Rattle.event_queue.proofs.KeyOrdering.{entry_cmp-total}
use Rattle.event_queue.proofs.heap.earlier_child.Goals as goal

pub returns-then-heap-left : goal.returns-then-heap-left
returns-then-heap-left c =
    let keys = c.args.keys.now in
    record { bound = (omega arith, omega arith, omega arith); best = sifts.only_child (entry_cmp keys) (entry_cmp-total keys) _ c.args.at (2 * c.args.at + 1) (length c.args.heap.now) (omega arith) (omega arith) }

pub returns : goal.returns
returns c =
    let keys = c.args.keys.now in
    let child = sifts.either_child (entry_cmp keys) (entry_cmp-total keys) c.args.heap.now c.args.at (2 * c.args.at + 1) (length c.args.heap.now) c.is_earlier-is_left.result (omega arith) c.is_earlier-is_left.ensures in
    let small = child.0 in
    record { bound = (omega arith, omega arith, omega arith); best = child.1 }
