use Rattle.std.proofs.Common.{◌≡◌, ◌<◌, ℕ, Bool, List, length, get_or, sym, ◌∙◌}
use Rattle.std.proofs.lemmas.List.{get_or_default}
use Rattle.std_alloc.specs.BinaryHeap.Sift.{ComparesAt}
use Rattle.sim_base.specs.declared.key.Key.{Key}
use Rattle.sim_base.specs.KeyOrder.{before}
use Rattle.event_queue.specs.Heap.{key_at, entry_cmp}
use Rattle.event_queue.specs.declared.heap.Entry.{Entry}
use Rattle.event_queue.proofs.KeyOrdering.{key_cmp-before}
use Rattle.event_queue.proofs.heap.is_earlier.Goals as goal

-- which entry of two is the greater one, by the keys at their places
compared : (keys : List Key) (heap : List Entry) (one other : ℕ) (e : Entry) (is : Bool) → one < length heap → other < length heap →
    is ≡ before (key_at keys (get_or heap one e).place) (key_at keys (get_or heap other e).place) → ComparesAt (entry_cmp keys) heap other one is
compared keys heap one other e is first second h = λ d.
    key_cmp-before (key_at keys (get_or heap one d).place) (key_at keys (get_or heap other d).place)
    ∙ (λ i. before (key_at keys (get_or_default heap one d e first i).place) (key_at keys (get_or_default heap other d e second i).place))
    ∙ sym h

pub returns : goal.returns
returns c = compared c.args.keys.now c.args.heap.now c.args.one c.args.other _ c.comes_before.result c.requires.inside.0 c.requires.inside.1 c.comes_before.ensures
