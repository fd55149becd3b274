use Rattle.std.proofs.Common.{◌<◌, length, Some, sym, ap, subst, ◌∙◌, arith}
use Rattle.std.proofs.lemmas.Bool.{eqb-true, eqb-false}
use Rattle.event_queue.specs.Pending.{key_of, first_key}
use Rattle.sim_base.specs.KeyOrder.{IsRising}
use Rattle.event_queue.specs.Heap.{IsTimed}
use Rattle.event_queue.proofs.HeapLaws.{all-at, key-read, rising-entries, no_entries, top_key, top_entry}
use Rattle.event_queue.proofs.agenda.Agenda.least.Goals as goal

pub returns-then-is_empty-clause-value : goal.returns-then-is_empty-clause-value
returns-then-is_empty-clause-value c =
    let none = eqb-true _ _ (sym c.is_empty.ensures ∙ c.if-is_empty.true) in
    sym (ap first_key (sym c.self.view_is ∙ no_entries c.self.inside.keys.items c.self.inside.heap.items (sym c.self.inside.heap.ok.0 ∙ none)))

pub returns-then-is_empty-clause-rising : goal.returns-then-is_empty-clause-rising
returns-then-is_empty-clause-rising c = subst (IsRising key_of) c.self.view_is (rising-entries c.self.inside.keys.items c.self.inside.heap.items c.self.invariant)

pub returns-clause-value : goal.returns-clause-value
returns-clause-value c =
    let keys = c.self.inside.keys.items in
    let xs = c.self.inside.heap.items in
    let top = c.index.result.now in
    let not_none = eqb-false _ _ (sym c.is_empty.ensures ∙ c.if-is_empty.false) in
    let some : 0 < length xs = omega (arith, not_none, c.self.inside.heap.ok.0) in
    let timed = subst (IsTimed keys) (sym c.index.ensures) (all-at (IsTimed keys) xs 0 top c.self.invariant.timed some) in
    sym
    (ap first_key (sym c.self.view_is) ∙ top_key keys top xs c.self.invariant some c.index.ensures (top_entry keys top xs c.self.invariant c.index.ensures)
    ∙ ap Some (key-read keys top.place c.index-2.result.now c.index-2.ensures timed.0))

pub returns-clause-rising : goal.returns-clause-rising
returns-clause-rising c = subst (IsRising key_of) c.self.view_is (rising-entries c.self.inside.keys.items c.self.inside.heap.items c.self.invariant)
