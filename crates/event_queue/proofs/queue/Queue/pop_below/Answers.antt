use Rattle.std.proofs.Common.{sym, ap, subst, ◌∙◌}
use Rattle.std.proofs.lemmas.Map.Keys.{le_from_is_le}
use Rattle.event_queue.specs.Pending.{key_of, NoneBelow}
use Rattle.sim_base.specs.KeyOrder.{IsRising}
use Rattle.event_queue.specs.Loads.{HoldsLoads, events_at}
use Rattle.event_queue.proofs.LoadLaws.{rising_events, first_key-events, none_below, holds-popped, events-popped}
use Rattle.event_queue.proofs.queue.Queue.pop_below.Goals as goal

pub returns-then-le-clause-rising : goal.returns-then-le-clause-rising
returns-then-le-clause-rising g c =
    subst (IsRising key_of) c.self.view_is (rising_events c.self.inside.loads.slots c.self.inside.agenda c.self.invariant.held c.least.ensures.rising)

pub returns-then-le-clause-none : goal.returns-then-le-clause-none
returns-then-le-clause-none g c =
    let rising = rising_events c.self.inside.loads.slots c.self.inside.agenda c.self.invariant.held c.least.ensures.rising in
    let first = first_key-events c.self.inside.loads.slots c.self.inside.agenda c.self.invariant.held in
    subst (NoneBelow c.args.end) c.self.view_is
    (none_below c.args.end c.in_ok-least.least (events_at c.self.inside.loads.slots c.self.inside.agenda) rising (first ∙ sym c.in_ok-least.ensures.value)
    (le_from_is_le _ _ (sym c.if-le.ensures)))

pub invariant_of-self-2 : goal.invariant_of-self-2
invariant_of-self-2 g c =
    holds-popped c.self.inside.loads.slots c.remove.new.self.slots c.in_ok-key.key c.in_ok-key.place c.pop.new.self
    (subst (HoldsLoads c.self.inside.loads.slots) c.in_ok-key.ensures.some c.self.invariant) c.remove.ensures.updates.others

pub returns-clause-some : goal.returns-clause-some
returns-clause-some g c =
    sym c.self.view_is ∙ ap (events_at c.self.inside.loads.slots) c.in_ok-key.ensures.some
    ∙ events-popped c.self.inside.loads.slots c.remove.new.self.slots c.in_ok-key.key c.in_ok-key.place c.remove.result c.pop.new.self
    (subst (HoldsLoads c.self.inside.loads.slots) c.in_ok-key.ensures.some c.self.invariant) c.remove.ensures.value c.remove.ensures.updates.others

pub returns-clause-rising : goal.returns-clause-rising
returns-clause-rising g c =
    subst (IsRising key_of) c.self.view_is (rising_events c.self.inside.loads.slots c.self.inside.agenda c.self.invariant.held c.least.ensures.rising)
