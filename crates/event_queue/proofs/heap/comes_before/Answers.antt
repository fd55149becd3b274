use Rattle.std.proofs.Common.{◌∙◌, sym, nat_lt}
use Rattle.event_queue.specs.Heap.{key_at}
use Rattle.event_queue.proofs.KeyOrdering.{before-by_time}
use Rattle.event_queue.proofs.heap.comes_before.Goals as goal

pub returns-then-one-other : goal.returns-then-one-other
returns-then-one-other c =
    let keys = c.args.keys.now in
    let one = c.requires.0.1 in
    let other = c.requires.1.1 in
    (λ i. nat_lt (one i) (other i))
    ∙ before-by_time (key_at keys c.args.one.place) (key_at keys c.args.other.place) (λ e. c.if-one-other.true (one ∙ e ∙ sym other))
