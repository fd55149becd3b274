use Rattle.std.proofs.Common.{◌≡◌, ◌<◌, ◌+◌, List, length, ◌∷◌, sym, subst, ◌∙◌, arith}
use Rattle.std.proofs.lemmas.Bool.{eqb-true}
use Rattle.std.proofs.lemmas.List.{with_items_is}
use Rattle.std.specs.List.Sorted.{IsPermutation}
use Rattle.std_alloc.specs.BinaryHeap.Sift.{RestoresHeap}
use Rattle.sim_base.specs.declared.key.Key.{Key}
use Rattle.event_queue.specs.Heap.{entries_in_order, entry_cmp, IsHeapOfKeys}
use Rattle.event_queue.specs.declared.heap.Entry.{Entry}
use Rattle.event_queue.proofs.HeapLaws.{key-read, no_entries, top-timed, rest-timed, heap-mended, entries-mended}
use Rattle.event_queue.proofs.agenda.Agenda.pop.Goals as goal

pub returns-then-is_empty-clause-none : goal.returns-then-is_empty-clause-none
returns-then-is_empty-clause-none c =
    let none = eqb-true _ _ (sym c.is_empty.ensures ∙ c.if-is_empty.true) in
    sym c.self.view_is ∙ no_entries c.self.inside.keys.items c.self.inside.heap.items (sym c.self.inside.heap.ok.0 ∙ none)

-- the heap under the taken top is mended, also where it and the keys go by other names
mended : (keys named_keys : List Key) (ys named zs : List Entry) → named_keys ≡ keys → named ≡ ys → IsPermutation named zs → RestoresHeap (entry_cmp named_keys) named 1 (length named) zs →
    IsPermutation ys zs × RestoresHeap (entry_cmp keys) ys 1 (length ys) zs
mended keys named_keys ys named zs k y p m =
    (subst (λ l. IsPermutation l zs) y p, subst (λ l. RestoresHeap (entry_cmp keys) l 1 (length l) zs) y (subst (λ l. RestoresHeap (entry_cmp l) named 1 (length named) zs) k m))

pub mend-requires : goal.mend-requires
mend-requires c =
    let took = c.swap_remove-least.ensures in
    let keys = c.self.inside.keys.items in
    let xs = c.self.inside.heap.items in
    let ys = c.swap_remove-least.new.self.items in
    let some : 0 < length xs = omega (arith, took.len) in
    rw (c.as_slice.ensures.value, c.as_mut_slice.ensures.value) (rest-timed keys xs ys c.swap_remove-least.result c.self.invariant some took.value took.items)

pub index-requires : goal.index-requires
index-requires c =
    let took = c.swap_remove-least.ensures in
    let keys = c.self.inside.keys.items in
    let xs = c.self.inside.heap.items in
    let ys = c.swap_remove-least.new.self.items in
    let some : 0 < length xs = omega (arith, took.len) in
    let inside = (top-timed keys xs ys c.swap_remove-least.result c.self.invariant some took.value took.items).0 in
    omega (arith, c.self.inside.keys.ok.0)

pub invariant_of-self : goal.invariant_of-self
invariant_of-self c =
    let took = c.swap_remove-least.ensures in
    let keys = c.self.inside.keys.items in
    let xs = c.self.inside.heap.items in
    let ys = c.swap_remove-least.new.self.items in
    let zs = c.mend.new.heap in
    let some : 0 < length xs = omega (arith, took.len) in
    let long : length ys + 1 ≡ length xs = omega (arith, took.len) in
    let kept : length zs ≡ c.swap_remove-least.new.self.len = omega (arith, c.mend.auto.heap, c.as_mut_slice.ensures.len) in
    let after = mended keys _ ys _ zs c.as_slice.ensures.value c.as_mut_slice.ensures.value c.mend.ensures.permutation c.mend.ensures.mends in
    subst (IsHeapOfKeys keys) (sym (with_items_is c.swap_remove-least.new.self zs kept))
    (heap-mended keys xs ys c.swap_remove-least.result c.self.invariant some took.value took.items zs after.0 long after.1)

pub returns-clause-some : goal.returns-clause-some
returns-clause-some c =
    let took = c.swap_remove-least.ensures in
    let keys = c.self.inside.keys.items in
    let xs = c.self.inside.heap.items in
    let ys = c.swap_remove-least.new.self.items in
    let zs = c.mend.new.heap in
    let some : 0 < length xs = omega (arith, took.len) in
    let long : length ys + 1 ≡ length xs = omega (arith, took.len) in
    let kept : length zs ≡ c.swap_remove-least.new.self.len = omega (arith, c.mend.auto.heap, c.as_mut_slice.ensures.len) in
    let after = mended keys _ ys _ zs c.as_slice.ensures.value c.as_mut_slice.ensures.value c.mend.ensures.permutation c.mend.ensures.mends in
    let inside = (top-timed keys xs ys c.swap_remove-least.result c.self.invariant some took.value took.items).0 in
    let key = key-read keys c.swap_remove-least.result.place c.index.result.now c.index.ensures inside in
    let heap = sym (with_items_is c.swap_remove-least.new.self zs kept) in
    sym c.self.view_is
    ∙ entries-mended keys xs ys c.swap_remove-least.result c.self.invariant some took.value took.items zs after.0 long after.1
    ∙ (λ i. (key i, c.swap_remove-least.result.place) ∷ entries_in_order keys (heap i))
