use Rattle.std.proofs.Common.{◌≡◌, ◌≢◌, ℕ, List, Option, Some, None, slice_index_or, sym, ap, subst, ◌∙◌}
use Rattle.slab.specs.Slab.{Slab, Updates}
use Rattle.event_queue.specs.Pending.{key_of, IsNew}
use Rattle.sim_base.specs.KeyOrder.{insert_by}
use Rattle.event_queue.specs.Loads.{HoldsLoads, events_at}
use Rattle.event_queue.proofs.LoadLaws.{all_of_events, places-free, holds-pushed, events-pushed}
use Rattle.event_queue.proofs.queue.Queue.push.Goals as goal

record IsStored {T : Type 0} (old new : List (Option T)) (place : ℕ) (load : T) : Type 0 where
  changed : slice_index_or new place None ≡ Some load
  others : (other : ℕ) → other ≢ place → slice_index_or new other None ≡ slice_index_or old other None

-- what the slab tells of its insert, with its room left out
stored : {T : Type 0} (old : List (Option T)) (before after : Slab T) (at place : ℕ) (load : T) → before.slots ≡ old → at ≡ place →
    Updates before after at (Some load) → IsStored old after.slots place load
stored old before after at place load same here u = record {
  changed = subst (λ p. slice_index_or after.slots p None ≡ Some load) here u.changed;
  others = λ other away. u.others other (λ e. away (e ∙ here)) ∙ ap (λ slots. slice_index_or slots other None) same;
}

pub push-requires-clause-new : goal.push-requires-clause-new
push-requires-clause-new g c =
    all_of_events c.self.inside.loads.slots (λ key. key ≢ c.args.key) c.self.inside.agenda c.self.invariant.held
    (subst (IsNew c.args.key) (sym c.self.view_is) c.requires)

pub push-requires-clause-free : goal.push-requires-clause-free
push-requires-clause-free g c =
    let same = ap (λ slab. slab.slots) c.in_ok-reserve.ensures.rest_kept in
    places-free c.self.inside.loads.slots c.vacant_key.result c.self.inside.agenda c.self.invariant.held
    (subst (λ slots. slice_index_or slots c.vacant_key.result None ≡ None) same c.vacant_key.ensures.vacant)

pub invariant_of-self-2 : goal.invariant_of-self-2
invariant_of-self-2 g c =
    let same = ap (λ slab. slab.slots) c.in_ok-reserve.ensures.rest_kept in
    let u = stored c.self.inside.loads.slots c.reserve.new.self c.insert_reserved.new.self c.insert_reserved.result c.vacant_key.result c.args.load same
    (c.insert_reserved.ensures.key ∙ sym c.vacant_key.ensures.value) c.insert_reserved.ensures.updates in
    let vacant = subst (λ slots. slice_index_or slots c.vacant_key.result None ≡ None) same c.vacant_key.ensures.vacant in
    subst (HoldsLoads c.insert_reserved.new.self.slots) (sym c.in_ok-push.ensures.ok)
    (holds-pushed c.self.inside.loads.slots c.insert_reserved.new.self.slots c.args.key c.vacant_key.result c.args.load c.self.inside.agenda
    c.self.invariant vacant u.changed u.others)

pub returns-clause-ok : goal.returns-clause-ok
returns-clause-ok g c =
    let same = ap (λ slab. slab.slots) c.in_ok-reserve.ensures.rest_kept in
    let u = stored c.self.inside.loads.slots c.reserve.new.self c.insert_reserved.new.self c.insert_reserved.result c.vacant_key.result c.args.load same
    (c.insert_reserved.ensures.key ∙ sym c.vacant_key.ensures.value) c.insert_reserved.ensures.updates in
    let vacant = subst (λ slots. slice_index_or slots c.vacant_key.result None ≡ None) same c.vacant_key.ensures.vacant in
    ap (events_at c.insert_reserved.new.self.slots) c.in_ok-push.ensures.ok
    ∙ events-pushed c.self.inside.loads.slots c.insert_reserved.new.self.slots c.args.key c.vacant_key.result c.args.load c.self.inside.agenda
    c.self.invariant vacant u.changed u.others
    ∙ ap (insert_by key_of (c.args.key, c.args.load)) c.self.view_is
