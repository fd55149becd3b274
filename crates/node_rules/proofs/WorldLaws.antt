-- A part that holds all nodes is their world.
use Rattle.std.proofs.Common.{◌≡◌, ℕ, ◌<◌, suc, Bool, List, [], ◌∷◌, ◌++◌, length, map, Option, None, Some, slice_get, refl, sym, ap, ◌∙◌, subst, arith, inl, inr, ◌↔◌, length-set}
use Rattle.std.specs.Prelude.{◌==◌, if◌then◌else◌, slice_index, slice_set}
use Rattle.std.proofs.lemmas.Bool.{cases_Bool, eqb-true, eqb-false}
use Rattle.sim_base.specs.declared.key.Key.{Key}
use Rattle.sim_base.specs.Packet.{Packet}
use Rattle.csma_dev.specs.declared.bus.Bus.{Bus}
use Rattle.round_core.specs.Lines.{numbered}
use Rattle.round_core.specs.Order.{insert_each}
use Rattle.round_core.specs.World.{Event, Effect, Reaction, Limit, Does, Ready, World, after, allowed, first, next, reaction, ready, scheduled, seen, without_first}
use Rattle.node_step.specs.declared.loads.Event.{Event as NodeEvent}
use Rattle.node_step.specs.declared.loads.Load.{Load}
use Rattle.node_step.specs.Firing.{Text, bus_at, text_of}
use Rattle.node_step.specs.Node.{PlainNode}
use Rattle.node_step.specs.Part.{Fired, PlainPart, fire, place_of}
use Rattle.node_rules.specs.Firings.{FiresSo, HoldsAll, IsNextFiring, trace_line, world_after}
use Rattle.node_rules.specs.Health.{IsWellNode}
use Rattle.node_rules.specs.Rules.{rules}
use Rattle.node_rules.specs.Shape.{Shape, sits_on}
use Rattle.node_rules.specs.Worlds.{event_of, node_at, node_or}
use Rattle.node_rules.proofs.FireLaws.{all-pass, fire-none, fire-some}
use Rattle.node_rules.proofs.Frames.{AllPass}
use Rattle.node_rules.proofs.Folds.{slice_get-some, slice_get-set_same, slice_get-set_other}

-- the lines of a firing say what its texts say
texts-again : (key : Key) (index : ℕ) (texts : List Text) → map text_of (map trace_line (numbered key index texts)) ≡ texts
texts-again key index [] = refl
texts-again key index (t ∷ texts) = ap (λ ts. t ∷ ts) (texts-again key (suc index) texts)

nodes-again : (nodes : List PlainNode) (n : ℕ) (was x : PlainNode) → slice_get nodes n ≡ Some was → (m : ℕ) →
    (if m == n then x else node_at nodes m) ≡ node_at (slice_set nodes n x) m
nodes-again nodes n was x at m = elim (cases_Bool (m == n)) [
  | inl same ↦ rw same (sym (ap (λ (i : ℕ). node_at (slice_set nodes n x) i) (eqb-true m n same)
      ∙ ap (node_or n) (slice_get-set_same nodes n was x at)))
  | inr other ↦ rw other (ap (node_or m) (sym (slice_get-set_other nodes n m x (λ e. eqb-false m n other (sym e)))))
]

none-allowed : (e : Event (Load Packet)) (r : Reaction PlainNode Bus (Load Packet) Text) → (allowed e r ≡ None) ↔ (r ≡ Limit)
none-allowed e Limit = (λ h. refl, λ h. refl)
none-allowed e (Does effect) = (λ h. absurd (let d : Some (record { event = e; effect = effect }) ≡ None = h in cc), λ h. absurd (let d : Does effect ≡ Limit = h in cc))

module _ (shape : Shape) (part : PlainPart) (e : NodeEvent Packet) (holds : HoldsAll part) (known : e.key.node.0 < length part.places)
    (count : length part.lans ≡ shape.lans)
    (well : (node : PlainNode) → slice_get part.nodes e.key.node.0 ≡ Some node → IsWellNode shape e.key.node.0 node) where
  abbrev n : ℕ
  n = e.key.node.0

  place-is : place_of n part ≡ n
  place-is = holds.places n known

  found : (node : PlainNode) × (slice_get part.nodes n ≡ Some node)
  found = let same : length part.places ≡ length part.nodes = holds.count in slice_get-some part.nodes n (omega (arith, known, same))

  at_place : slice_get part.nodes (place_of n part) ≡ Some found.0
  at_place = ap (slice_get part.nodes) place-is ∙ found.1

  pass : AllPass (sits_on shape n) found.0.ifaces
  pass = all-pass shape n found.0 (well found.0 found.1)

  module _ (test : Key → Bool) (w : World PlainNode Bus (Load Packet) Text) (nodes : w.nodes ≡ node_at part.nodes)
      (lans : w.lans ≡ bus_at part.lans) (least : first test w.pending ≡ Some (event_of e)) where
    abbrev sees : ℕ → Option Bus
    sees = seen (rules part.limit shape) n (bus_at part.lans)

    node-is : w.nodes n ≡ found.0
    node-is = ap (λ (g : ℕ → PlainNode). g n) nodes ∙ ap (node_or n) found.1

    next-is : next (rules part.limit shape) test w ≡ allowed (event_of e) ((rules part.limit shape).react (event_of e) found.0 sees)
    unfolding next reaction
    next-is = ap (ready (rules part.limit shape) w) least
        ∙ ap (λ (node : PlainNode). allowed (event_of e) ((rules part.limit shape).react (event_of e) node (seen (rules part.limit shape) n w.lans))) node-is
        ∙ ap (λ (buses : ℕ → Bus). allowed (event_of e) ((rules part.limit shape).react (event_of e) found.0 (seen (rules part.limit shape) n buses))) lans

    -- a part that holds all nodes refuses an event exactly where nothing is to fire
    pub refuses : (fire e part ≡ None) ↔ (next (rules part.limit shape) test w ≡ None)
    refuses =
        let by_rules = fire-none shape part e found.0 count pass at_place in
        let by_next = none-allowed (event_of e) ((rules part.limit shape).react (event_of e) found.0 sees) in
        (λ h. next-is ∙ by_next.1 (by_rules.0 h), λ h. by_rules.1 (by_next.0 (sym next-is ∙ h)))

    module _ (f : Fired) (fires : fire e part ≡ Some f) where
      so : FiresSo shape part e found.0 f
      so = fire-some shape part e found.0 count pass at_place f fires

      abbrev effect : Effect PlainNode Bus (Load Packet) Text
      effect = so.effect

      nodes-are : f.part.nodes ≡ slice_set part.nodes n effect.node
      nodes-are = so.nodes ∙ ap (λ (i : ℕ). slice_set part.nodes i effect.node) place-is

      new-nodes : (m : ℕ) → (if m == n then effect.node else w.nodes m) ≡ node_at f.part.nodes m
      new-nodes m = ap (λ (g : ℕ → PlainNode). if m == n then effect.node else g m) nodes
          ∙ nodes-again part.nodes n found.0 effect.node found.1 m ∙ ap (λ (ns : List PlainNode). node_at ns m) (sym nodes-are)

      new-lans : (l : ℕ) → (if sits_on shape n l then effect.lans l else w.lans l) ≡ bus_at f.part.lans l
      new-lans l = ap (λ (buses : ℕ → Bus). if sits_on shape n l then effect.lans l else buses l) lans ∙ sym (so.lans l)

      new-pending : insert_each (λ (x : Event (Load Packet)). x.key) (scheduled e.key (w.nodes n).scheduled effect.sends) (without_first test w.pending)
          ≡ insert_each (λ (x : Event (Load Packet)). x.key) (map event_of f.sends) (without_first test w.pending)
      new-pending = ap (λ (es : List (Event (Load Packet))). insert_each (λ (x : Event (Load Packet)). x.key) es (without_first test w.pending))
          (ap (λ (node : PlainNode). scheduled e.key node.scheduled effect.sends) node-is ∙ sym so.sends)

      new-texts : effect.texts ≡ map text_of f.lines
      new-texts = sym (ap (map text_of) so.lines ∙ texts-again e.key 0 effect.texts)

      abbrev fired : Ready PlainNode Bus (Load Packet) Text
      fired = record { event = event_of e; effect = effect }

      after-is : after (rules part.limit shape) test w fired ≡ world_after test w e f
      unfolding after
      after-is = λ i. record {
        nodes = λ m. new-nodes m i;
        lans = λ l. new-lans l i;
        pending = new-pending i;
        fired = w.fired ++ record { key = e.key; texts = new-texts i } ∷ [];
      }

      pub next-firing : IsNextFiring part.limit shape test w e f
      next-firing = record {
        ready = fired;
        next_is = next-is ∙ ap (allowed (event_of e)) so.reacts;
        event_is = refl;
        after_is = after-is;
        lines_are = so.lines ∙ ap (λ (texts : List Text). map trace_line (numbered e.key 0 texts)) new-texts;
      }

  -- a part that holds all nodes goes on to do so, with as many buses
  pub still-holds : (f : Fired) → fire e part ≡ Some f → HoldsAll f.part × (f.part.limit ≡ part.limit) × (length f.part.lans ≡ length part.lans)
  still-holds f fires =
      let so = fire-some shape part e found.0 count pass at_place f fires in (
        record {
          count = ap length so.places ∙ holds.count
              ∙ sym (length-set part.nodes (place_of n part) so.effect.node) ∙ ap length (sym so.nodes);
          places = λ m lt. ap (λ (ps : List ℕ). slice_index ps m) so.places
              ∙ holds.places m (subst (λ (ps : List ℕ). m < length ps) so.places lt);
        },
        so.limit,
        so.count,
      )
