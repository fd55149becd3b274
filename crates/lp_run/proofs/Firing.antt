-- The least event of a group, popped from its queue, fires or is refused.
use Rattle.std.proofs.Common.{◌≡◌, ℕ, ◌<◌, ◌≤◌, ◌^◌, true, List, [], ◌∷◌, ◌++◌, filter, map, not, refl, sym, ap, ◌∙◌, Some, None, Option, subst}
use Rattle.std.specs.Option.{IsSomeAnd}
use Rattle.sim_base.specs.declared.key.Key.{Key}
use Rattle.sim_base.specs.Packet.{Packet}
use Rattle.pkt_face.specs.declared.line.Line.{Line}
use Rattle.layer_words.specs.Acts.{Appends}
use Rattle.layer_words.specs.Counting.{count_up}
use Rattle.round_core.specs.Order.{insert_each}
use Rattle.round_core.specs.Parts.{is_for}
use Rattle.round_core.specs.World.{Event}
use Rattle.node_step.specs.declared.loads.Event.{Event as NodeEvent}
use Rattle.node_step.specs.declared.loads.Load.{Load}
use Rattle.node_step.specs.declared.stop.FireStop.{FireStop}
use Rattle.node_step.specs.declared.stop.FireStop.TheVariants.{NoMemory, Limit}
use Rattle.pkt_face.specs.Seen.{plain_line}
use Rattle.node_step.specs.Loads.{plain_event}
use Rattle.node_step.specs.Part.{CanFire, Fired, PlainPart, fire}
use Rattle.node_step.specs.React.{Refuses}
use Rattle.node_rules.specs.Worlds.{event_of}
use Rattle.node_rules.specs.Shape.{Shape}
use Rattle.lp_run.specs.Lp.{IsRefused, IsStep, IsStepIn, IsWellIn, IsWellLp, PlainLp, own_group, stop_at}
use Rattle.lp_run.specs.Pending.{AreNew}
use Rattle.lp_run.proofs.Loop.{same_group}
use Rattle.lp_run.proofs.Ready.{can, new, refuses, steps}
use Rattle.lp_run.proofs.Seen.{held, seen}
use Rattle.lp_run.proofs.Steps.{lp_after}

-- what an option holds, where it holds something of which P is true
some-and : {A : Type 0} (o : Option A) (P : A → Type 0) → IsSomeAnd o P → (x : A) × (o ≡ Some x) × P x
some-and None P h = absurd h
some-and (Some x) P h = (x, refl, h)

module _ {P : Type 0} (plain : P → Packet) (end : ℕ) (lp : PlainLp) (well : IsWellLp lp) (key : Key) (load : Load P)
    (rest : List (Key × Load P)) (pending_is : lp.pending ≡ held plain ((key, load) ∷ rest)) (low : key.time.0 < end) where
  abbrev e : NodeEvent Packet
  e = plain_event plain (record { key = key; load = load })

  pub can-fire : end ≤ 10 ^ 12 → CanFire e lp.part
  can-fire early = can well.0 end lp well.1 e (held plain rest) pending_is low early

  pub refused : (stop : FireStop) (after : PlainLp) → Refuses key.node (fire e lp.part) stop → after.lines ≡ lp.lines →
      IsRefused end lp after (stop_at key stop)
  refused NoMemory after h same = tt
  refused (Limit node) after h same =
      let r = refuses well.0 end lp well.1 e (held plain rest) pending_is low h.0 in
      (event_of e, r.0, refl, h.1, λ shape in_shape. (refuses shape end lp in_shape e (held plain rest) pending_is low h.0).1, same)

  -- what a part that has fired leaves
  abbrev pub HasLeft : PlainPart → List (NodeEvent P) → List (NodeEvent P) → List (Line P) → List (Line P) → Fired → Type 0
  HasLeft part before sends old lines f =
      (part ≡ f.part) × Appends (plain_event plain) before sends f.sends × Appends (plain_line plain) old lines f.lines

  module _ (part : PlainPart) (before sends : List (NodeEvent P)) (old lines : List (Line P)) (none : before ≡ [])
      (lines_are : lp.lines ≡ map (plain_line plain) old)
      (fires : IsSomeAnd (fire e lp.part) (HasLeft part before sends old lines)) where
    left : (f : Fired) × (fire e lp.part ≡ Some f) × HasLeft part before sends old lines f
    left = some-and (fire e lp.part) (HasLeft part before sends old lines) fires

    sends_are : seen plain sends ≡ map event_of left.0.sends
    sends_are = ap (map event_of) (left.2.1 ∙ ap (λ l. map (plain_event plain) l ++ left.0.sends) none)

    pub are-new : AreNew (seen plain sends) (held plain rest)
    are-new = subst (λ (l : List (Event (Load Packet))). AreNew l (held plain rest)) (sym sends_are)
        (new well.0 end lp well.1 e (held plain rest) pending_is low left.0 left.1)

    groups : own_group part ≡ own_group lp.part
    groups = ap own_group left.2.0
        ∙ same_group lp (lp_after lp (held plain rest) left.0) _ (steps well.0 end lp well.1 e (held plain rest) pending_is low left.0 left.1).2

    pub stepped : (after : PlainLp) → after.part ≡ part →
        after.pending ≡ insert_each (λ x. x.key) (filter (is_for (own_group part) 0) (seen plain sends)) (held plain rest) →
        after.sends ≡ lp.sends ++ filter (λ x. not (is_for (own_group part) 0 x)) (seen plain sends) →
        after.lines ≡ map (plain_line plain) lines → after.fired ≡ count_up 1 lp.fired → IsStep end lp after true
    stepped after part_is pending sends_is lines_is fired =
        let at : lp_after lp (held plain rest) left.0 ≡ after = sym whole in
        λ shape in_shape. subst (λ (x : PlainLp). IsStepIn shape end lp x) at (steps shape end lp in_shape e (held plain rest) pending_is low left.0 left.1)
      where
        events : List (Event (Load Packet))
        events = map event_of left.0.sends

        by : {A : Type 0} (use_them : (ℕ → ℕ) → List (Event (Load Packet)) → A) →
            use_them (own_group part) (seen plain sends) ≡ use_them (own_group lp.part) events
        by use_them = ap (λ (x : ℕ → ℕ). use_them x (seen plain sends)) groups ∙ ap (use_them (own_group lp.part)) sends_are

        new_part : after.part ≡ left.0.part
        new_part = part_is ∙ left.2.0

        new_pending : after.pending ≡ insert_each (λ x. x.key) (filter (is_for (own_group lp.part) 0) events) (held plain rest)
        new_pending = pending ∙ by (λ g l. insert_each (λ x. x.key) (filter (is_for g 0) l) (held plain rest))

        new_sends : after.sends ≡ lp.sends ++ filter (λ x. not (is_for (own_group lp.part) 0 x)) events
        new_sends = sends_is ∙ by (λ g l. lp.sends ++ filter (λ x. not (is_for g 0 x)) l)

        new_lines : after.lines ≡ lp.lines ++ left.0.lines
        new_lines = lines_is ∙ left.2.2 ∙ ap (λ l. l ++ left.0.lines) (sym lines_are)

        whole : after ≡ lp_after lp (held plain rest) left.0
        whole i = record { part = new_part i; pending = new_pending i; sends = new_sends i; lines = new_lines i; fired = fired i }
