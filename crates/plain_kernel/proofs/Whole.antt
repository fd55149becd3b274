-- A group that has all nodes is the whole world.
use Rattle.std.proofs.Common.{◌≡◌, ℕ, ◌<◌, Bool, cond, true, false, [], length, map, slice_get, refl, sym, ap, ◌∙◌, subst, arith, nat_lt, inl, inr, None, Some, Option, zero, suc}
use Rattle.std.specs.List.{range_with_len}
use Rattle.std.specs.Prelude.{replicate}
use Rattle.std.proofs.lemmas.List.{length-replicate}
use Rattle.std.proofs.lemmas.Bool.{cases_Bool, eq-eqb, lt-ltb, ltb-false, ltb-true}
use Rattle.std.proofs.lemmas.List.FromFn.{get_or-range_with_len, length-range_with_len}
use Rattle.std.proofs.lemmas.Option.{slice_get_past}
use Rattle.sim_base.specs.Packet.{Packet}
use Rattle.csma_dev.specs.declared.bus.Bus.{Bus}
use Rattle.round_core.specs.Laws.{IsSound}
use Rattle.round_core.specs.Opening.{opening}
use Rattle.round_core.specs.Order.{in_key_order, insert_each}
use Rattle.round_core.specs.Parts.{IsPartSound, Part, is_for, part_after, part_firings, part_next}
use Rattle.round_core.specs.Rounds.{below, plain_firings}
use Rattle.round_core.specs.World.{Event, Ready, after, after_next, fire, next, scheduled, without_first}
use Rattle.round_core.proofs.Commute.{ready-owed}
use Rattle.round_core.proofs.ListLaws.{all-map, filter-all}
use Rattle.round_core.proofs.OpeningLaws.{opening-sound}
use Rattle.round_core.proofs.PartSound.{part-sound}
use Rattle.node_step.specs.declared.loads.Load.{Load}
use Rattle.node_step.specs.Firing.{Text, bus_at, free}
use Rattle.node_step.specs.Node.{PlainNode}
use Rattle.node_step.specs.Part.{PlainPart, has, place_of}
use Rattle.node_rules.specs.Health.{health}
use Rattle.node_rules.specs.Rules.{rules}
use Rattle.node_rules.specs.Worlds.{event_of, node_at, node_or}
use Rattle.node_rules.proofs.RuleLaws.{lawful}
use Rattle.node_rules.specs.Shape.{Shape}
use Rattle.lp_run.specs.Lp.{IsWellIn, PlainLp, beside, here, made, nodes_of, own_group, part_of}
use Rattle.sim_world.specs.Opening.{OpensRuns}
use Rattle.sim_world.specs.World.{PlainWorld}
use Rattle.plain_kernel.specs.Run.{RunWorld, shape_in, start}

-- the part that has all nodes, in their order
abbrev pub whole : PlainWorld → PlainPart
whole w = record { places = range_with_len 0 (length w.nodes); nodes = w.nodes; lans = replicate w.lans free; limit = w.limit }

-- a group of all nodes that has fired nothing yet
abbrev pub group : PlainWorld → PlainLp
group w = made (whole w) (map event_of w.first)

module _ (w : PlainWorld) where
  abbrev count : ℕ
  count = length w.nodes

  known : (n : ℕ) → n < count → n < length (whole w).places
  known n low = let long = length-range_with_len 0 count in omega arith

  pub place-is : (n : ℕ) → n < count → place_of n (whole w) ≡ n
  place-is n low = let at = get_or-range_with_len 0 count n 0 low in omega arith

  pub has-node : (n : ℕ) → n < count → has n (whole w) ≡ true
  has-node n low =
      let here : place_of n (whole w) < count = let at = place-is n low in omega arith in
      rw (lt-ltb n (length (whole w).places) (known n low), lt-ltb (place_of n (whole w)) count here) refl

  has-no_node : (n : ℕ) → nat_lt n count ≡ false → has n (whole w) ≡ false
  has-no_node n past =
      let same : nat_lt n (length (whole w).places) ≡ false = ap (nat_lt n) (length-range_with_len 0 count) ∙ past in rw same refl

  same-node : (n : ℕ) → nodes_of (whole w) n ≡ node_at w.nodes n
  unfolding nodes_of
  same-node n = elim (cases_Bool (nat_lt n count)) [
    | inl t ↦ let low = ltb-true n count t in rw (has-node n low) (ap (λ (i : ℕ). node_or n (slice_get w.nodes i)) (place-is n low))
    | inr f ↦ rw (has-no_node n f) (ap (node_or n) (sym (slice_get_past w.nodes n (ltb-false n count f))))
  ]

  -- no frame has used a bus
  unused : (lans lan : ℕ) → bus_at (replicate lans free) lan ≡ free
  unused zero lan = refl
  unused (suc lans) zero = refl
  unused (suc lans) (suc lan) = unused lans lan

  -- as a part of the rounds, it is the world in which the run begins
  pub same-world : (part_of (group w)).world ≡ start w
  unfolding opening
  same-world i = record {
    nodes = λ n. same-node n i;
    lans = λ lan. unused w.lans lan i;
    pending = in_key_order (λ e. e.key) (map event_of w.first);
    fired = [];
  }

  own : (n : ℕ) → n < count → own_group (whole w) n ≡ 0
  own n low = rw (has-node n low) refl

  module _ (opens : OpensRuns w) where
    pub sound : IsSound (rules w.limit (shape_in w)) (health (shape_in w)) (start w)
    sound = opening-sound (rules w.limit (shape_in w)) (health (shape_in w)) (node_at w.nodes) (λ lan. free) (map event_of w.first) opens

    at_start : IsSound (rules w.limit (shape_in w)) (health (shape_in w)) (part_of (group w)).world
    at_start = subst (λ (x : RunWorld). IsSound (rules w.limit (shape_in w)) (health (shape_in w)) x) (sym same-world) sound

    pub group-sound : IsPartSound (rules w.limit (shape_in w)) (health (shape_in w)) (own_group (whole w)) 0 (part_of (group w))
    group-sound = record {
      health = at_start.health;
      rising = at_start.rising;
      own = all-map _ (λ (e : Event (Load Packet)). own_group (whole w) e.key.node.0 ≡ 0) (λ e ok. own e.key.node.0 ok.known) _ at_start.health.pending;
      counted = all-map _ _ (λ e low mine. low) _ at_start.counted;
    }

    either-node : (there : Bool) (node : PlainNode) → node ≡ cond there node node
    either-node true node = refl
    either-node false node = refl

    -- beside its own nodes it is the same
    same-beside : part_of (group w) ≡ beside (here (group w)) (nodes_of (whole w)) (part_of (group w))
    same-beside i = record {
      world = record {
        nodes = λ n. either-node (here (group w) n) (nodes_of (whole w) n) i;
        lans = (part_of (group w)).world.lans;
        pending = (part_of (group w)).world.pending;
        fired = (part_of (group w)).world.fired;
      };
      sent = (part_of (group w)).sent;
    }

    inside : (n : ℕ) → has n (whole w) ≡ true → n < count
    inside n h = elim (cases_Bool (nat_lt n count)) [
      | inl t ↦ ltb-true n count t
      | inr f ↦ absurd (let d : true ≡ false = sym h ∙ has-no_node n f in cc)
    ]

    pub well-in : IsWellIn (shape_in w) (group w)
    well-in = record {
      others = nodes_of (whole w);
      nodes = sym (length-range_with_len 0 count);
      lans = length-replicate w.lans free;
      apart = λ n m h k same. sym (place-is n (inside n h)) ∙ same ∙ place-is m (inside m k);
      sound = subst (λ (p : Part PlainNode Bus (Load Packet) Text). IsPartSound (rules w.limit (shape_in w)) (health (shape_in w)) (own_group (whole w)) 0 p)
          same-beside group-sound;
    }

    pub well : (shape : Shape) × IsWellIn shape (group w)
    well = (shape_in w, well-in)

    -- its firings are plain firings
    one-after : (end : ℕ) (p : Part PlainNode Bus (Load Packet) Text) (r : Ready PlainNode Bus (Load Packet) Text) →
        IsPartSound (rules w.limit (shape_in w)) (health (shape_in w)) (own_group (whole w)) 0 p → next (rules w.limit (shape_in w)) (below end) p.world ≡ Some r →
        (part_after (rules w.limit (shape_in w)) (own_group (whole w)) 0 end p r).world ≡ after (rules w.limit (shape_in w)) (below end) p.world r
    unfolding part_after after
    one-after end p r kept is =
        let events = scheduled r.event.key ((rules w.limit (shape_in w)).counter (p.world.nodes r.event.key.node.0)) r.effect.sends in
        let owed = ready-owed (rules w.limit (shape_in w)) (health (shape_in w)) (lawful w.limit (shape_in w)) (below end) p.world r kept.health is in
        let all = filter-all (is_for (own_group (whole w)) 0) events
        (all-map _ (λ (e : Event (Load Packet)). is_for (own_group (whole w)) 0 e ≡ true)
        (λ e ok. eq-eqb (own_group (whole w) e.key.node.0) 0 (own e.key.node.0 ok.known)) events owed.events_ok) in
        λ i. record (after (rules w.limit (shape_in w)) (below end) p.world r) {
          pending = insert_each (λ e. e.key) (all i) (without_first (below end) p.world.pending);
        }

    pub firings : (end n : ℕ) (p : Part PlainNode Bus (Load Packet) Text) →
        IsPartSound (rules w.limit (shape_in w)) (health (shape_in w)) (own_group (whole w)) 0 p →
        (part_firings (rules w.limit (shape_in w)) (own_group (whole w)) 0 end n p).world ≡ plain_firings (rules w.limit (shape_in w)) end n p.world
    unfolding part_firings plain_firings fire
    firings end zero p kept = refl
    firings end (suc n) p kept = go (firings end n) (next (rules w.limit (shape_in w)) (below end) p.world) refl
      where
        go : ((q : Part PlainNode Bus (Load Packet) Text) → IsPartSound (rules w.limit (shape_in w)) (health (shape_in w)) (own_group (whole w)) 0 q →
            (part_firings (rules w.limit (shape_in w)) (own_group (whole w)) 0 end n q).world ≡ plain_firings (rules w.limit (shape_in w)) end n q.world) →
            (o : Option (Ready PlainNode Bus (Load Packet) Text)) → next (rules w.limit (shape_in w)) (below end) p.world ≡ o →
            (part_firings (rules w.limit (shape_in w)) (own_group (whole w)) 0 end n (part_next (rules w.limit (shape_in w)) (own_group (whole w)) 0 end p o)).world
            ≡ plain_firings (rules w.limit (shape_in w)) end n (after_next (rules w.limit (shape_in w)) (below end) p.world o)
        go rest None is = rest p kept
        go rest (Some r) is = rest (part_after (rules w.limit (shape_in w)) (own_group (whole w)) 0 end p r)
            (part-sound (rules w.limit (shape_in w)) (health (shape_in w)) (lawful w.limit (shape_in w)) (own_group (whole w)) 0 end p r kept is)
            ∙ ap (plain_firings (rules w.limit (shape_in w)) end n) (one-after end p r kept is)
