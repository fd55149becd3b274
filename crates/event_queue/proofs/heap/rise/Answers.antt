use Rattle.std.proofs.Common.{◌-◌, ◌/◌, ◌∙◌, arith}
use Rattle.core.proofs.slice.Lists.{unmoved, again}
use Rattle.std_alloc.proofs.Permutation.{as_swapped, swap_shuffles, every_shuffled}
use Rattle.std_alloc.proofs.HeapSift as sifts
use Rattle.event_queue.specs.Heap.{entry_cmp, IsTimed}
use Rattle.event_queue.proofs.KeyOrdering.{entry_cmp-total}
use Rattle.event_queue.proofs.heap.rise.Goals as goal

pub loop-at-init : goal.loop-at-init
loop-at-init c =
    let keys = c.args.keys.now in
    (unmoved _, omega arith, sifts.rise_begins (entry_cmp keys) (entry_cmp-total keys) _ c.args.from, c.requires.timed)

pub loop-at-preserved : goal.loop-at-preserved
loop-at-preserved c =
    let keys = c.args.keys.now in
    let l = c.loop-at in
    let xs = c.args.heap.now in
    let ys = l.heap in
    let zs = c.swap.new.self in
    let to = (l.at - 1) / 2 in
    let up = c.loop-at-test.true in
    let under = l.invariant.1 in
    let long = l.auto.heap in
    let inside = c.requires.inside in
    let step = swap_shuffles ys zs l.at to (omega arith) (omega arith) c.swap.ensures.after in (
      again xs ys zs step l.invariant.0,
      omega arith,
      sifts.rise_steps (entry_cmp keys) (entry_cmp-total keys) xs ys zs c.args.from l.at up under (omega arith) (c.swap.ensures.after ∙ as_swapped ys l.at to (omega arith)) c.if-is_earlier.ensures l.invariant.2,
      every_shuffled (IsTimed keys) ys zs step l.invariant.3,
    )

pub returns-else-is_earlier : goal.returns-else-is_earlier
returns-else-is_earlier c =
    let keys = c.args.keys.now in
    let l = c.loop-at in
    record { permutation = l.invariant.0; rises = sifts.rise_rests (entry_cmp keys) (entry_cmp-total keys) _ _ c.args.from l.at c.if-is_earlier.ensures l.invariant.2 }

pub returns-after-loop-at : goal.returns-after-loop-at
returns-after-loop-at c =
    let keys = c.args.keys.now in
    let l = c.loop-at in
    record { permutation = l.invariant.0; rises = sifts.rise_tops (entry_cmp keys) (entry_cmp-total keys) _ _ c.args.from l.at (omega arith) l.invariant.2 }
