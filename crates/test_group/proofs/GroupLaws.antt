-- What a group keeps while it is run in windows, and how it takes an event from outside.
use Rattle.std.proofs.Common.{◌≡◌, ◌≢◌, ◌≤◌, ◌^◌, List, [], ◌∷◌, ◌++◌, map, refl, sym, ap, ◌∙◌, subst}
use Rattle.std.specs.List.{AllByRecursion}
use Rattle.std.proofs.lemmas.List.{map-append}
use Rattle.sim_base.specs.KeyOrder.{insert_by}
use Rattle.sim_base.specs.Packet.{Packet}
use Rattle.scenario_form.specs.declared.scenario.Scenario.{Scenario}
use Rattle.round_core.specs.Opening.{HaveOwnKeys}
use Rattle.round_core.specs.Order.{insert_each}
use Rattle.round_core.specs.World.{Event}
use Rattle.round_core.proofs.ListLaws.{all-insert_each}
use Rattle.node_step.specs.declared.loads.Event.{Event as NodeEvent}
use Rattle.node_step.specs.declared.loads.Load.{Load}
use Rattle.node_step.specs.Loads.{plain_event}
use Rattle.node_step.specs.Part.{PlainPart}
use Rattle.node_rules.specs.Worlds.{event_of}
use Rattle.lp_run.specs.Lp.{PlainLp, made}
use Rattle.lp_run.specs.Pending.{AreNew, HasNoKey}
use Rattle.sim_world.specs.World.{PlainWorld, world_of}
use Rattle.plain_kernel.proofs.Starting.{all-new}

-- a world stops when its scenario says
pub stop-world_of : (s : Scenario) (w : PlainWorld) → w ≡ world_of s → s.stop_ns.0 ≤ 10 ^ 12 → w.stop.0 ≤ 10 ^ 12
unfolding world_of
stop-world_of s w is h = subst (λ (x : PlainWorld). x.stop.0 ≤ 10 ^ 12) (sym is) h

module _ {Load : Type 0} where
  front-own : (xs : List (Event Load)) (x : Event Load) → HaveOwnKeys (λ e. e.key) (xs ++ x ∷ []) → HaveOwnKeys (λ e. e.key) xs
  front-own [] x own = tt
  front-own (y ∷ ys) x own = (front ys own.0, front-own ys x own.1)
    where
      front : (zs : List (Event Load)) → AllByRecursion (λ z. y.key ≢ z.key) (zs ++ x ∷ []) → AllByRecursion (λ z. y.key ≢ z.key) zs
      front [] h = tt
      front (z ∷ zs) h = (h.0, front zs h.1)

  -- the key of the last event is none of the others'
  last-own : (xs : List (Event Load)) (x : Event Load) → HaveOwnKeys (λ e. e.key) (xs ++ x ∷ []) → HasNoKey x.key xs
  last-own [] x own = tt
  last-own (y ∷ ys) x own = (last ys own.0, last-own ys x own.1)
    where
      last : (zs : List (Event Load)) → AllByRecursion (λ z. y.key ≢ z.key) (zs ++ x ∷ []) → y.key ≢ x.key
      last [] h = h.0
      last (z ∷ zs) h = last zs h.1

  -- the last of some events is put in behind the others
  insert_each-last : (xs : List (Event Load)) (x : Event Load) (l : List (Event Load)) →
      insert_each (λ e. e.key) (xs ++ x ∷ []) l ≡ insert_by (λ e. e.key) x (insert_each (λ e. e.key) xs l)
  unfolding insert_each
  insert_each-last [] x l = refl
  insert_each-last (y ∷ ys) x l = insert_each-last ys x (insert_by (λ e. e.key) y l)

module _ {P : Type 0} (plain : P → Packet) where
  -- events as those of the rounds
  abbrev pub shown : List (NodeEvent P) → List (Event (Load Packet))
  shown events = map event_of (map (plain_event plain) events)

  -- a group that is made of all events but the last, and takes that one in
  module _ (part : PlainPart) (all front : List (NodeEvent P)) (last : NodeEvent P) (is : all ≡ front ++ last ∷ [])
      (own : HaveOwnKeys (λ e. e.key) (shown all)) where
    abbrev shown_last : Event (Load Packet)
    shown_last = event_of (plain_event plain last)

    shown-is : shown all ≡ shown front ++ shown_last ∷ []
    shown-is = ap shown is ∙ ap (map event_of) (map-append (plain_event plain) front (last ∷ []))
        ∙ map-append event_of (map (plain_event plain) front) (plain_event plain last ∷ [])

    own-keys : HaveOwnKeys (λ e. e.key) (shown front ++ shown_last ∷ [])
    own-keys = subst (λ (l : List (Event (Load Packet))). HaveOwnKeys (λ e. e.key) l) shown-is own

    pub front-new : AreNew (shown front) []
    front-new = all-new (shown front) (front-own (shown front) shown_last own-keys)

    pub last-new : (lp : PlainLp) → lp ≡ made part (shown front) → HasNoKey last.key lp.pending
    last-new lp made_is = subst (λ (x : PlainLp). HasNoKey last.key x.pending) (sym made_is)
        (all-insert_each (λ (e : Event (Load Packet)). e.key) (λ (e : Event (Load Packet)). e.key ≢ last.key) (shown front) []
        (last-own (shown front) shown_last own-keys) tt)

    pub received : (lp new : PlainLp) → lp ≡ made part (shown front) →
        new ≡ record lp { pending = insert_by (λ e. e.key) shown_last lp.pending } → new ≡ made part (shown all)
    received lp new made_is new_is =
        let with_pending : List (Event (Load Packet)) → PlainLp =
        λ pending. record { part = part; pending = pending; sends = []; lines = []; fired = 0 } in
        let order : insert_by (λ e. e.key) shown_last (insert_each (λ e. e.key) (shown front) []) ≡ insert_each (λ e. e.key) (shown all) [] =
        sym (insert_each-last (shown front) shown_last []) ∙ ap (λ (l : List (Event (Load Packet))). insert_each (λ e. e.key) l []) (sym shown-is) in
        new_is ∙ ap (λ (x : PlainLp). record x { pending = insert_by (λ e. e.key) shown_last x.pending }) made_is ∙ ap with_pending order
