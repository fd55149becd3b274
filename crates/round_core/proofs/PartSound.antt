-- What a loop over a part's firings needs.
use Rattle.std.proofs.Common.{◌≡◌, ℕ, ◌<◌, ◌≤◌, zero, suc, ◌+◌, length, filter, refl, sym, ap, ◌∙◌, subst, arith, inl, Some}
use Rattle.std.proofs.lemmas.Bool.{eqb-true}
use Rattle.round_core.specs.World.{Event, Rules, World, Ready, scheduled, without_first, next, after}
use Rattle.round_core.specs.Rounds.{below}
use Rattle.round_core.specs.Laws.{Health, IsHealthy, IsSound, IsLawful}
use Rattle.round_core.specs.Parts.{Part, is_for, part_after, part_next, part_firings, AreParts, IsPartSound}
use Rattle.round_core.proofs.ListLaws.{all-map, all-insert_each, all-without, first-holds, rising-without, rising-scheduled_some, scheduled-counted}
use Rattle.round_core.proofs.Settling.{next-found, settled}
use Rattle.round_core.proofs.Commute.{settled-healthy, counter-target, counter-grows, ready-owed}
use Rattle.std.proofs.lemmas.List.Sums.{length-filter, count_by-le-length}
use Rattle.round_core.specs.Bound.{IsBounded, most_firings}
use Rattle.round_core.proofs.Ending.{room-spent, length-insert_each, length-scheduled, length-without}
use Rattle.round_core.proofs.Members.{in-all, all-in, filter-in}

module _ {Node Lan Load Text : Type 0} (rules : Rules Node Lan Load Text) (ok : Health Node Lan Load) (lawful : IsLawful rules ok)
    (group_of : ℕ → ℕ) (g end : ℕ) where
  pub part-healthy : (p : Part Node Lan Load Text) (r : Ready Node Lan Load Text) → IsHealthy ok p.world →
      next rules (below end) p.world ≡ Some r → IsHealthy ok (part_after rules group_of g end p r).world
  unfolding part_after settled
  part-healthy p r healthy is =
      let s = settled-healthy rules ok lawful (below end) p.world r healthy is in
      let owed = ready-owed rules ok lawful (below end) p.world r healthy is in
      record {
        nodes = s.nodes;
        lans = s.lans;
        pending = all-insert_each _ ok.event _ _
            (all-in ok.event _ (λ e i. in-all ok.event _ owed.events_ok e (filter-in (is_for group_of g) e _ i).0))
            (all-without ok.event (below end) p.world.pending healthy.pending);
      }

  pub part-spends : (count : ℕ) (room : Node → ℕ) (p : Part Node Lan Load Text) (r : Ready Node Lan Load Text) →
      IsBounded rules ok count room → IsHealthy ok p.world → next rules (below end) p.world ≡ Some r →
      suc (most_firings count room (part_after rules group_of g end p r).world) ≤ most_firings count room p.world
  unfolding part_after after
  part-spends count room p r bounded healthy is =
      let found = next-found rules (below end) p.world r is in
      let well = first-holds (below end) ok.event p.world.pending r.event healthy.pending found.event in
      let spent = room-spent room p.world.nodes r.event.key.node.0 r.effect.node (length r.effect.sends) count (bounded.target r.event well)
      (bounded.spent p.world r.event r.effect healthy well found.effect) in
      let events = scheduled r.event.key (rules.counter (p.world.nodes r.event.key.node.0)) r.effect.sends in
      let own = filter (is_for group_of g) events in
      let a = length-insert_each (λ (e : Event Load). e.key) own (without_first (below end) p.world.pending) in
      let b = length-scheduled r.event.key (rules.counter (p.world.nodes r.event.key.node.0)) r.effect.sends in
      let c = length-without (below end) p.world.pending r.event found.event in
      let d : length own ≤ length events = omega (arith, length-filter (is_for group_of g) events, count_by-le-length (is_for group_of g) events) in
      omega arith

  -- one more firing of a part
  pub part-more : (n : ℕ) (p : Part Node Lan Load Text) → (k : ℕ) ×
      (part_firings rules group_of g end k p ≡ part_next rules group_of g end (part_firings rules group_of g end n p)
      (next rules (below end) (part_firings rules group_of g end n p).world))
  unfolding part_firings
  part-more zero p = (1, refl)
  part-more (suc n) p =
      let rest = part-more n (part_next rules group_of g end p (next rules (below end) p.world)) in (suc rest.0, rest.1)

  -- a firing keeps a part sound
  pub part-sound : (p : Part Node Lan Load Text) (r : Ready Node Lan Load Text) → IsPartSound rules ok group_of g p →
      next rules (below end) p.world ≡ Some r → IsPartSound rules ok group_of g (part_after rules group_of g end p r)
  unfolding part_after settled after
  part-sound p r sound is =
      let target = r.event.key.node.0 in
      let count = rules.counter (p.world.nodes target) in
      let found = next-found rules (below end) p.world r is in
      let owed = ready-owed rules ok lawful (below end) p.world r sound.health is in
      let own_target : group_of target ≡ g = first-holds (below end) (λ e. group_of e.key.node.0 ≡ g) p.world.pending r.event sound.own found.event in
      let new_nodes : ℕ → Node = (settled rules (below end) p.world r).nodes in
      let Counted : Event Load → Type 0 = λ e. group_of e.key.by.0 ≡ g → e.key.count < rules.counter (new_nodes e.key.by.0) in
      record {
        health = part-healthy p r sound.health is;
        rising = rising-scheduled_some (is_for group_of g) r.event.key count r.effect.sends _ (rising-without (below end) p.world.pending sound.rising)
            (all-map _ _ (λ e h same. let P : ℕ → Type 0 = λ n. e.key.count < rules.counter (p.world.nodes n) in
            subst P same (h (ap group_of same ∙ own_target))) _ (all-without _ (below end) p.world.pending sound.counted));
        own = all-insert_each _ (λ e. group_of e.key.node.0 ≡ g) _ _
            (all-in (λ e. group_of e.key.node.0 ≡ g) _ (λ e i. eqb-true (group_of e.key.node.0) g (filter-in (is_for group_of g) e _ i).1))
            (all-without _ (below end) p.world.pending sound.own);
        counted = all-insert_each _ Counted _ _
            (all-in Counted _ (λ e i mine. let h = in-all (λ x. (x.key.by.0 ≡ target) × (x.key.count < count + length r.effect.sends)) _
            (scheduled-counted r.event.key count r.effect.sends) e (filter-in (is_for group_of g) e _ i).0 in
            let P : ℕ → Type 0 = λ n. e.key.count < rules.counter (new_nodes n) in
            let at_target : P target = let l = h.1 in let c = counter-target rules ok lawful (below end) p.world r owed.counted in omega arith in
            subst P (sym h.0) at_target))
            (all-map _ _ (λ e h mine. let old = h mine in
            let c = counter-grows rules ok lawful (below end) p.world r owed.counted e.key.by.0 in omega arith) _
            (all-without _ (below end) p.world.pending sound.counted));
      }

  -- the parts of a sound world are sound where they are healthy
  pub are-sound : (parts : ℕ → Part Node Lan Load Text) (w : World Node Lan Load Text) → IsSound rules ok w →
      AreParts rules group_of end parts w → IsHealthy ok (parts g).world → IsPartSound rules ok group_of g (parts g)
  are-sound parts w sound are health = record {
    health = health;
    rising = are.rising g;
    own = are.own g;
    counted = all-in (λ e. group_of e.key.by.0 ≡ g → e.key.count < rules.counter ((parts g).world.nodes e.key.by.0)) _ (λ e i mine.
        let counted = in-all (λ x. x.key.count < rules.counter (w.nodes x.key.by.0)) w.pending sound.counted e ((are.pending e).1 (g, inl i)) in
        let P : ℕ → Type 0 = λ x. (parts x).world.nodes e.key.by.0 ≡ w.nodes e.key.by.0 in
        let same = ap rules.counter (subst P mine (are.nodes e.key.by.0)) in omega arith);
  }
