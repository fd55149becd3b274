-- The nodes of other groups tell neither what a group fires next nor what it leaves.
use Rattle.std.proofs.Common.{◌≡◌, ℕ, ◌==◌, ◌+◌, ◌<◌, ◌≤◌, suc, List, ◌++◌, not, Bool, true, false, length, filter, refl, sym, ap, ◌∙◌, Some, None, Option, cond, subst, arith, inl, inr}
use Rattle.std.proofs.lemmas.Bool.{cases_Bool, eqb-true}
use Rattle.std.proofs.lemmas.List.Sums.{length-filter, count_by-le-length}
use Rattle.std.specs.List.{AllByRecursion}
use Rattle.sim_base.specs.Packet.{Packet}
use Rattle.csma_dev.specs.declared.bus.Bus.{Bus}
use Rattle.round_core.specs.Bound.{most_firings}
use Rattle.round_core.specs.Order.{insert_each}
use Rattle.round_core.specs.Parts.{Part, is_for, part_after}
use Rattle.round_core.specs.Rounds.{below}
use Rattle.round_core.specs.World.{Event, Ready, Rules, after, allowed, seen, first, next, ready, reaction, scheduled, without_first}
use Rattle.round_core.proofs.Ending.{length-insert_each, length-scheduled, length-without, room-spent}
use Rattle.round_core.proofs.ListLaws.{first-holds}
use Rattle.round_core.proofs.Settling.{next-found}
use Rattle.node_step.specs.declared.loads.Load.{Load}
use Rattle.node_step.specs.Firing.{Text}
use Rattle.node_step.specs.Node.{PlainNode}
use Rattle.lp_run.specs.Lp.{beside}

abbrev GroupPart : Type 0
GroupPart = Part PlainNode Bus (Load Packet) Text

module _ (rules : Rules PlainNode Bus (Load Packet) Text) (here : ℕ → Bool) (others : ℕ → PlainNode) where
  -- what is next is told by the nodes that are here, where all pending events are for these
  pub next-beside : (end : ℕ) (p : GroupPart) → AllByRecursion (λ e. here e.key.node.0 ≡ true) p.world.pending →
      next rules (below end) (beside here others p).world ≡ next rules (below end) p.world
  unfolding next reaction
  next-beside end p own = go (first (below end) p.world.pending) refl
    where
      go : (o : Option (Event (Load Packet))) → first (below end) p.world.pending ≡ o →
          ready rules (beside here others p).world o ≡ ready rules p.world o
      go None is = refl
      go (Some e) is =
          let at : here e.key.node.0 ≡ true = first-holds (below end) (λ x. here x.key.node.0 ≡ true) p.world.pending e own is in
          let reads : cond (here e.key.node.0) (p.world.nodes e.key.node.0) (others e.key.node.0) ≡ p.world.nodes e.key.node.0 = rw at refl in
          ap (λ (x : PlainNode). allowed e (rules.react e x (seen rules e.key.node.0 p.world.lans))) reads

  module _ (group_of : ℕ → ℕ) (g end : ℕ) (p : GroupPart) (r : Ready PlainNode Bus (Load Packet) Text)
      (at : here r.event.key.node.0 ≡ true) where
    abbrev target : ℕ
    target = r.event.key.node.0

    node-beside : (n : ℕ) → cond (n == target) r.effect.node (cond (here n) (p.world.nodes n) (others n))
        ≡ cond (here n) (cond (n == target) r.effect.node (p.world.nodes n)) (others n)
    node-beside n = elim (cases_Bool (here n)) [
      | inl yes_here ↦ rw yes_here refl
      | inr not_here ↦ elim (cases_Bool (n == target)) [
        | inl same ↦ absurd (let d : true ≡ false = sym at ∙ ap here (sym (eqb-true n target same)) ∙ not_here in cc)
        | inr other ↦ rw (not_here, other) refl
      ]
    ]

    same-count : rules.counter (cond (here target) (p.world.nodes target) (others target)) ≡ rules.counter (p.world.nodes target)
    same-count = rw at refl

    abbrev events : ℕ → List (Event (Load Packet))
    events count = scheduled r.event.key count r.effect.sends

    -- and so is what its firing leaves
    pub after-beside : part_after rules group_of g end (beside here others p) r ≡ beside here others (part_after rules group_of g end p r)
    unfolding part_after after
    after-beside i = record {
      world = record {
        nodes = λ n. node-beside n i;
        lans = (part_after rules group_of g end p r).world.lans;
        pending = insert_each (λ e. e.key) (filter (is_for group_of g) (events (same-count i))) (without_first (below end) p.world.pending);
        fired = (part_after rules group_of g end p r).world.fired;
      };
      sent = p.sent ++ filter (λ e. not (is_for group_of g e)) (events (same-count i));
    }

    -- a firing takes what it schedules from what its node may still schedule
    pub spends : (count : ℕ) (room : PlainNode → ℕ) → target < count →
        room r.effect.node + length r.effect.sends ≤ room (p.world.nodes target) → next rules (below end) p.world ≡ Some r →
        suc (most_firings count room (part_after rules group_of g end p r).world) ≤ most_firings count room p.world
    unfolding part_after after
    spends count room known spent_here is =
        let found = next-found rules (below end) p.world r is in
        let spent = room-spent room p.world.nodes target r.effect.node (length r.effect.sends) count known spent_here in
        let all = events (rules.counter (p.world.nodes target)) in
        let own = filter (is_for group_of g) all in
        let a = length-insert_each (λ (e : Event (Load Packet)). e.key) own (without_first (below end) p.world.pending) in
        let b = length-scheduled r.event.key (rules.counter (p.world.nodes target)) r.effect.sends in
        let c = length-without (below end) p.world.pending r.event found.event in
        let d : length own ≤ length all = omega (arith, length-filter (is_for group_of g) all, count_by-le-length (is_for group_of g) all) in
        omega arith
