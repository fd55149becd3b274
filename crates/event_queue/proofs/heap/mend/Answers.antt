use Rattle.std.proofs.Common.{length, subst, arith}
use Rattle.core.proofs.slice.Lists.{unmoved, again}
use Rattle.std_alloc.proofs.Permutation.{swap_shuffles, every_shuffled}
use Rattle.std_alloc.proofs.HeapSift as sifts
use Rattle.std_alloc.specs.BinaryHeap.Sift.{IsGreaterChild}
use Rattle.event_queue.specs.Heap.{entry_cmp, IsTimed}
use Rattle.event_queue.proofs.KeyOrdering.{entry_cmp-total}
use Rattle.event_queue.proofs.heap.mend.Goals as goal

pub returns-then-len-eq0 : goal.returns-then-len-eq0
returns-then-len-eq0 c =
    let keys = c.args.keys.now in
    record { permutation = unmoved _; mends = sifts.nothing_falls (entry_cmp keys) (entry_cmp-total keys) _ _ 1 _ (omega arith) }

pub loop-at-init : goal.loop-at-init
loop-at-init c =
    let keys = c.args.keys.now in
    (unmoved _, omega arith, sifts.fall_begins (entry_cmp keys) (entry_cmp-total keys) _ _, c.requires)

pub loop-at-preserved : goal.loop-at-preserved
loop-at-preserved c =
    let keys = c.args.keys.now in
    let l = c.loop-at in
    let xs = c.args.heap.now in
    let ys = l.heap in
    let zs = c.swap.new.self in
    let to = c.earlier_child-child.result in
    let bound = c.earlier_child-child.ensures.bound in
    let long = l.auto.heap in
    let best = subst (IsGreaterChild (entry_cmp keys) ys l.at to) long c.earlier_child-child.ensures.best in
    let step = swap_shuffles ys zs l.at to (omega arith) (omega arith) c.swap.ensures.after in (
      again xs ys zs step l.invariant.0,
      omega arith,
      sifts.fall_steps (entry_cmp keys) (entry_cmp-total keys) xs ys zs (length xs) l.at to bound.1 bound.2 (omega arith) (omega arith) c.swap.ensures.after best l.invariant.2,
      every_shuffled (IsTimed keys) ys zs step l.invariant.3,
    )

pub returns : goal.returns
returns c =
    let keys = c.args.keys.now in
    let l = c.loop-at in
    let xs = c.args.heap.now in
    let ys = l.heap in
    let zs = c.rise.new.heap in
    let long = l.auto.heap in
    let still = c.rise.auto.heap in
    record {
      permutation = again xs ys zs c.rise.ensures.permutation l.invariant.0;
      mends = sifts.fall_ends (entry_cmp keys) (entry_cmp-total keys) xs ys zs (length xs) l.at c.loop-at-test.false l.invariant.1 (omega arith) l.invariant.2 c.rise.ensures.rises;
    }
