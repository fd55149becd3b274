-- A part of the only group is the plain run; the first and the last of a kernel's rounds.
use Rattle.std.proofs.Common.{◌≡◌, ℕ, ◌≤◌, zero, suc, true, false, List, [], refl, ap, ◌∙◌, arith, inl, inr, Option, Some, None}
use Rattle.std.proofs.lemmas.Bool.{eq-eqb, le-ltb}
use Rattle.std.proofs.lemmas.List.{append-nil}
use Rattle.round_core.specs.Kernel.{IsNextRound}
use Rattle.round_core.specs.Laws.{Health, IsSound, IsLawful}
use Rattle.round_core.specs.Order.{insert_each}
use Rattle.round_core.specs.Parts.{IsIn, Part, is_for, part_after, part_next, part_firings, AreParts}
use Rattle.round_core.specs.Rounds.{Cut, Done, PlainEnds, below, plain_firings, windows, times_of}
use Rattle.round_core.specs.World.{Event, Firing, Rules, World, Ready, first, without_first, scheduled, next, after, after_next, fire, with_log}
use Rattle.round_core.proofs.ListLaws.{filter-all}
use Rattle.round_core.proofs.Members.{all-in, in-all, first-no, no-first}
use Rattle.round_core.proofs.KernelLaws.{comes-first, comes-last}

module _ {Node Lan Load Text : Type 0} (rules : Rules Node Lan Load Text) (group_of : ℕ → ℕ) (g end : ℕ) (one : (n : ℕ) → group_of n ≡ g) where
  one-after : (p : Part Node Lan Load Text) (r : Ready Node Lan Load Text) → (part_after rules group_of g end p r).world ≡ after rules (below end) p.world r
  unfolding part_after after
  one-after p r =
      let events = scheduled r.event.key (rules.counter (p.world.nodes r.event.key.node.0)) r.effect.sends in
      let all = filter-all (is_for group_of g) events (all-in (λ e. is_for group_of g e ≡ true) events (λ e i. eq-eqb (group_of e.key.node.0) g (one e.key.node.0))) in
      λ i. record (after rules (below end) p.world r) {
        pending = insert_each (λ e. e.key) (all i) (without_first (below end) p.world.pending);
      }

  one-next : (p : Part Node Lan Load Text) (o : Option (Ready Node Lan Load Text)) →
      (part_next rules group_of g end p o).world ≡ after_next rules (below end) p.world o
  one-next p None = refl
  one-next p (Some r) = one-after p r

  -- the firings of a part that has every node are plain firings
  pub one-group : (n : ℕ) (p : Part Node Lan Load Text) → (part_firings rules group_of g end n p).world ≡ plain_firings rules end n p.world
  unfolding part_firings plain_firings fire
  one-group zero p = refl
  one-group (suc n) p = one-group n (part_next rules group_of g end p (next rules (below end) p.world))
      ∙ ap (plain_firings rules end n) (one-next p (next rules (below end) p.world))

module _ {Node Lan Load Text : Type 0} (rules : Rules Node Lan Load Text) (ok : Health Node Lan Load) (lawful : IsLawful rules ok)
    (stop : ℕ) (start : World Node Lan Load Text) (cut : Cut) where
  -- where a kernel begins
  pub first-round : (parts : ℕ → Part Node Lan Load Text) → IsSound rules ok start → start.fired ≡ [] →
      ((end : ℕ) → AreParts rules cut.group_of end parts start) → IsNextRound rules ok stop cut start [] 0 0 parts
  first-round parts sound none are = record {
    world = start;
    comes = comes-first rules ok lawful stop start none sound;
    are = are;
    fills = record {
      above = all-in (λ e. 0 ≤ e.key.time.0) start.pending (λ e i. omega arith);
      count = λ more. omega arith;
    };
  }

  -- where it ends
  pub last-round : (written : List (Firing Text)) (rounds last : ℕ) (parts : ℕ → Part Node Lan Load Text)
      (now : IsNextRound rules ok stop cut start written rounds last parts) → ((g : ℕ) → first (below stop) (parts g).world.pending ≡ None) →
      PlainEnds rules stop start (Done (with_log written now.world)) × (rounds ≡ windows cut.end_of 0 (times_of written))
  last-round written rounds last parts now none = (
    comes-last rules ok lawful stop start written now.world now.comes (no-first (below stop) now.world.pending held),
    (let c = now.fills.count [] in let e = ap (λ l. windows cut.end_of 0 (times_of l)) (append-nil written) in omega arith),
  )
    where
      held : (x : Event Load) → IsIn x now.world.pending → below stop x.key ≡ false
      held x i = let there = ((now.are stop).pending x).0 i in elim there.1 [
        | inl own ↦ first-no (below stop) (parts there.0).world.pending (none there.0) x own
        | inr sent ↦ le-ltb x.key.time.0 stop (in-all (λ e. stop ≤ e.key.time.0) (parts there.0).sent ((now.are stop).late there.0) x sent)
      ]
