-- What a group's part and the world find alike.
use Rattle.std.proofs.Common.{◌≡◌, ℕ, ◌≤◌, true, false, refl, sym, ap, ◌∙◌, subst, arith, inl, inr, ◌⊎◌, Option, Some, None}
use mathlib.Core.Path.{fun_ext}
use Rattle.std.proofs.lemmas.Bool.{cases_Bool}
use Rattle.std.proofs.lemmas.Bool.Decides.{nat_tests}
use Rattle.sim_base.specs.declared.key.Key.{Key}
use Rattle.round_core.specs.World.{Event, Rules, World, seen, reaction, first, allowed, ready, next}
use Rattle.round_core.specs.Rounds.{below, in_group}
use Rattle.round_core.specs.Laws.{Health, IsSound, IsLawful, KeepsLans, IsClosed}
use Rattle.round_core.specs.Parts.{IsIn, Part, AreParts}
use Rattle.round_core.proofs.ListLaws.{first-passes}
use Rattle.round_core.proofs.Commute.{in_group-true}
use Rattle.round_core.proofs.Members.{in-all, first-in, first-no, no-first, first-before, before-first}

pub group-test : (group_of : ℕ → ℕ) (end g : ℕ) (k : Key) → group_of k.node.0 ≡ g → below end k ≡ true → in_group group_of end g k ≡ true
group-test group_of end g k own low = grind (arith, nat_tests)

pub below-test : (group_of : ℕ → ℕ) (end g : ℕ) (k : Key) → in_group group_of end g k ≡ true → below end k ≡ true
below-test group_of end g k h = grind (arith, nat_tests)

pub not-late : (end : ℕ) (k : Key) → below end k ≡ true → end ≤ k.time.0 → ⊥
not-late end k h le = grind (arith, nat_tests)

module _ {Node Lan Load Text : Type 0} (rules : Rules Node Lan Load Text) (ok : Health Node Lan Load) (lawful : IsLawful rules ok)
    (group_of : ℕ → ℕ) (keeps : KeepsLans rules group_of) (from end : ℕ) (closed : IsClosed rules ok group_of from end) where
  -- an event of a group below the end stands in the group's own part
  pub part-has : (parts : ℕ → Part Node Lan Load Text) (w : World Node Lan Load Text) (g : ℕ) (e : Event Load) →
      AreParts rules group_of end parts w → IsIn e w.pending → group_of e.key.node.0 ≡ g → below end e.key ≡ true →
      IsIn e (parts g).world.pending
  part-has parts w g e are i own low = go ((are.pending e).0 i)
    where
      go : ((h : ℕ) × (IsIn e (parts h).world.pending ⊎ IsIn e (parts h).sent)) → IsIn e (parts g).world.pending
      go (h, inl there) = let P : ℕ → Type 0 = λ x. IsIn e (parts x).world.pending in
          subst P (sym (in-all (λ x. group_of x.key.node.0 ≡ h) _ (are.own h) e there) ∙ own) there
      go (h, inr sent) = absurd (not-late end e.key low (in-all (λ x. end ≤ x.key.time.0) _ (are.late h) e sent))

  -- a group's part and the world find the same event
  pub part-first : (parts : ℕ → Part Node Lan Load Text) (w : World Node Lan Load Text) (g : ℕ) → IsSound rules ok w →
      AreParts rules group_of end parts w → first (in_group group_of end g) w.pending ≡ first (below end) (parts g).world.pending
  part-first parts w g sound are = go (first (below end) (parts g).world.pending) refl
    where
      go : (o : Option (Event Load)) → first (below end) (parts g).world.pending ≡ o → first (in_group group_of end g) w.pending ≡ o
      go None none = no-first (in_group group_of end g) w.pending (λ x i. elim (cases_Bool (in_group group_of end g x.key)) [
        | inl t ↦ absurd (let low = below-test group_of end g x.key t in
            let f = first-no (below end) _ none x (part-has parts w g x are i (in_group-true group_of end g x.key t).0 low) in
            let d : true ≡ false = sym low ∙ f in cc)
        | inr f ↦ f
      ])
      go (Some e) is =
          let here = first-in (below end) _ e is in
          let low = first-passes (below end) _ e is in
          let own = in-all (λ x. group_of x.key.node.0 ≡ g) _ (are.own g) e here in
          before-first (in_group group_of end g) w.pending e sound.rising ((are.pending e).1 (g, inl here)) (group-test group_of end g e.key own low)
          (λ x i t. first-before (below end) _ e x (are.rising g) is
          (part-has parts w g x are i (in_group-true group_of end g x.key t).0 (below-test group_of end g x.key t)) (below-test group_of end g x.key t))

  pub part-nodes : (parts : ℕ → Part Node Lan Load Text) (w : World Node Lan Load Text) (g n : ℕ) →
      AreParts rules group_of end parts w → group_of n ≡ g → (parts g).world.nodes n ≡ w.nodes n
  part-nodes parts w g n are own = let P : ℕ → Type 0 = λ x. (parts x).world.nodes n ≡ w.nodes n in subst P own (are.nodes n)

  pub part-seen : (parts : ℕ → Part Node Lan Load Text) (w : World Node Lan Load Text) (g n : ℕ) →
      AreParts rules group_of end parts w → group_of n ≡ g → seen rules n (parts g).world.lans ≡ seen rules n w.lans
  unfolding seen
  part-seen parts w g n are own = fun_ext (λ l. elim (cases_Bool (rules.sits n l)) [
    | inl sits ↦ let P : ℕ → Type 0 = λ x. (parts x).world.lans l ≡ w.lans l in rw sits (ap Some (subst P own (are.lans n l sits)))
    | inr away ↦ rw away refl
  ])

  pub part-reaction : (parts : ℕ → Part Node Lan Load Text) (w : World Node Lan Load Text) (g : ℕ) (e : Event Load) →
      AreParts rules group_of end parts w → group_of e.key.node.0 ≡ g → reaction rules (parts g).world e ≡ reaction rules w e
  unfolding reaction
  part-reaction parts w g e are own =
      ap (λ x. rules.react e x (seen rules e.key.node.0 (parts g).world.lans)) (part-nodes parts w g e.key.node.0 are own)
      ∙ ap (rules.react e (w.nodes e.key.node.0)) (part-seen parts w g e.key.node.0 are own)

  -- what is to fire in a group's part is what is to fire in the group
  pub part-ready : (parts : ℕ → Part Node Lan Load Text) (w : World Node Lan Load Text) (g : ℕ) → IsSound rules ok w →
      AreParts rules group_of end parts w → next rules (below end) (parts g).world ≡ next rules (in_group group_of end g) w
  unfolding next
  part-ready parts w g sound are = go (first (below end) (parts g).world.pending) refl
    where
      go : (o : Option (Event Load)) → first (below end) (parts g).world.pending ≡ o →
          ready rules (parts g).world (first (below end) (parts g).world.pending) ≡ ready rules w (first (in_group group_of end g) w.pending)
      go None is = ap (ready rules (parts g).world) is ∙ sym (ap (ready rules w) (part-first parts w g sound are ∙ is))
      go (Some e) is = ap (ready rules (parts g).world) is
          ∙ ap (allowed e) (part-reaction parts w g e are (in-all (λ x. group_of x.key.node.0 ≡ g) _ (are.own g) e (first-in (below end) _ e is)))
          ∙ sym (ap (ready rules w) (part-first parts w g sound are ∙ is))
