-- The parts of a world, each firing its own events, make up what a list of groups leaves of the world.
use Rattle.std.proofs.Common.{◌≡◌, ℕ, ◌<◌, ◌≤◌, zero, suc, true, false, List, [], ◌∷◌, ◌++◌, refl, sym, ap, ◌∙◌, subst, arith, inl, inr, ◌⊎◌, Option, Some, None}
use Rattle.std.proofs.lemmas.Bool.{cases_lt, cases_Bool}
use Rattle.sim_base.specs.KeyOrder.{before}
use Rattle.round_core.specs.World.{Event, Rules, World, first, next, in_order, IsPast}
use Rattle.round_core.specs.Rounds.{below, in_group, group_firings, IsFull}
use Rattle.round_core.specs.Laws.{Health, IsSound, IsLawful, KeepsLans, IsClosed, BeginsAt}
use Rattle.round_core.specs.Parts.{IsIn, Part, part_firings, PartRuns, AreParts}
use Rattle.sim_base.proofs.KeyLaws.{before-trans}
use Rattle.round_core.proofs.ListLaws.{first-passes}
use Rattle.round_core.proofs.Settling.{settle, next-in_order}
use Rattle.round_core.proofs.Commute.{settle_all, settle_all-fits, in_order-firings, in_group-true}
use Rattle.round_core.proofs.Plain.{next-none}
use Rattle.round_core.proofs.Window.{in_order-past}
use Rattle.round_core.proofs.Members.{first-in, first-no, no-first, first-before, before-first}
use Rattle.round_core.proofs.PartEvents.{part-has, part-ready}
use Rattle.round_core.proofs.PartPlaces.{put_part, below_number, none-below, at-number, one-more, all-below}
use Rattle.round_core.proofs.PartFirings.{part-steps}

module _ {Node Lan Load Text : Type 0} (rules : Rules Node Lan Load Text) (ok : Health Node Lan Load) (lawful : IsLawful rules ok)
    (group_of : ℕ → ℕ) (keeps : KeepsLans rules group_of) (from end : ℕ) (closed : IsClosed rules ok group_of from end) where
  settle_all-append : (gs hs : List ℕ) (w : World Node Lan Load Text) →
      settle_all rules group_of end (gs ++ hs) w ≡ settle_all rules group_of end hs (settle_all rules group_of end gs w)
  unfolding settle_all
  settle_all-append [] hs w = refl
  settle_all-append (g ∷ gs) hs w = settle_all-append gs hs (settle rules (in_group group_of end g) w)

  -- the parts when the groups below a number have run
  parts-below : (news parts : ℕ → Part Node Lan Load Text) (w : World Node Lan Load Text) (count : ℕ) → BeginsAt rules ok from w →
      AreParts rules group_of end parts w → ((g : ℕ) → g < count → PartRuns rules group_of g end (parts g) (news g)) → (k : ℕ) → k ≤ count →
      (gs : List ℕ) × AreParts rules group_of end (below_number k news parts) (settle_all rules group_of end gs w)
  unfolding settle_all
  parts-below news parts w count fits are runs zero le = (
    [],
    let P : (ℕ → Part Node Lan Load Text) → Type 0 = λ x. AreParts rules group_of end x w in subst P (sym (none-below news parts)) are,
  )
  parts-below news parts w count fits are runs (suc k) le =
      let before_it = parts-below news parts w count fits are runs k (omega arith) in
      let mid = settle_all rules group_of end before_it.0 w in
      let run = runs k (omega arith) in
      let step = part-steps rules ok lawful group_of keeps from end closed run.steps (below_number k news parts) mid k
      (settle_all-fits rules ok lawful group_of keeps from end closed before_it.0 w fits) before_it.1 in
      let P : (ℕ → Part Node Lan Load Text) → Type 0 = λ x. AreParts rules group_of end x (settle_all rules group_of end step.0 mid) in
      let Q : World Node Lan Load Text → Type 0 = λ x. AreParts rules group_of end (below_number (suc k) news parts) x in (
        before_it.0 ++ step.0,
        subst Q (sym (settle_all-append before_it.0 step.0 w))
            (subst P (ap (λ x. put_part k x (below_number k news parts))
            (ap (part_firings rules group_of k end run.steps) (at-number k news parts) ∙ run.reached)
            ∙ one-more k news parts) step.1),
      )

  -- no group that no node is in has anything to fire
  beyond-quiet : (count g : ℕ) (w : World Node Lan Load Text) → ((n : ℕ) → group_of n < count) → count ≤ g →
      next rules (in_group group_of end g) w ≡ None
  beyond-quiet count g w within le = next-none rules (in_group group_of end g) w (no-first (in_group group_of end g) w.pending
      (λ x i. elim (cases_Bool (in_group group_of end g x.key)) [
        | inl t ↦ absurd (let own = (in_group-true group_of end g x.key t).0 in let low = within x.key.node.0 in omega arith)
        | inr f ↦ f
      ]))

  -- groups that each run their part to its end make up what some full list of groups leaves
  pub parts-run : (parts news : ℕ → Part Node Lan Load Text) (w : World Node Lan Load Text) (count : ℕ) → BeginsAt rules ok from w → IsPast w →
      AreParts rules group_of end parts w → ((n : ℕ) → group_of n < count) →
      ((g : ℕ) → g < count → PartRuns rules group_of g end (parts g) (news g)) → ((g : ℕ) → count ≤ g → news g ≡ parts g) →
      (gs : List ℕ) × IsFull rules group_of end gs w × AreParts rules group_of end news (in_order (group_firings rules group_of end gs w))
  parts-run parts news w count fits past are within runs rest =
      let all = parts-below news parts w count fits are runs count (omega arith) in
      let mid = settle_all rules group_of end all.0 w in
      let P : (ℕ → Part Node Lan Load Text) → Type 0 = λ x. AreParts rules group_of end x mid in
      let made : AreParts rules group_of end news mid = subst P (all-below count news parts rest) all.1 in
      let same : in_order (group_firings rules group_of end all.0 w) ≡ mid =
      in_order-firings rules ok lawful group_of keeps from end closed all.0 w ∙ ap (settle_all rules group_of end all.0) (in_order-past rules ok lawful w past) in
      let sound = (settle_all-fits rules ok lawful group_of keeps from end closed all.0 w fits).sound in
      let quiet : (g : ℕ) → next rules (in_group group_of end g) mid ≡ None = λ g. elim (cases_lt g count) [
        | inl lt ↦ sym (part-ready rules ok lawful group_of keeps from end closed news mid g sound made) ∙ (runs g lt).rests
        | inr le ↦ beyond-quiet count g mid within le
      ] in
      let Q : World Node Lan Load Text → Type 0 = λ x. AreParts rules group_of end news x in (
        all.0,
        (λ g. sym (next-in_order rules (in_group group_of end g) (group_firings rules group_of end all.0 w))
            ∙ ap (next rules (in_group group_of end g)) same ∙ quiet g),
        subst Q (sym same) made,
      )

  -- where no part has an event left below the end, nor has the world
  pub parts-empty : (parts : ℕ → Part Node Lan Load Text) (w : World Node Lan Load Text) → AreParts rules group_of end parts w →
      ((g : ℕ) → first (below end) (parts g).world.pending ≡ None) → first (below end) w.pending ≡ None
  parts-empty parts w are none = no-first (below end) w.pending (λ x i. elim (cases_Bool (below end x.key)) [
    | inl t ↦ absurd (let f = first-no (below end) _ (none (group_of x.key.node.0)) x (part-has rules ok lawful group_of keeps from end closed parts w (group_of x.key.node.0) x are i refl t) in
        let d : true ≡ false = sym t ∙ f in cc)
    | inr f ↦ f
  ])

  -- the least of what the parts have left below the end is the least that the world has
  pub parts-least : (parts : ℕ → Part Node Lan Load Text) (w : World Node Lan Load Text) (g : ℕ) (e : Event Load) → IsSound rules ok w →
      AreParts rules group_of end parts w → first (below end) (parts g).world.pending ≡ Some e →
      ((h : ℕ) (x : Event Load) → first (below end) (parts h).world.pending ≡ Some x → (x ≡ e) ⊎ (before e.key x.key ≡ true)) →
      first (below end) w.pending ≡ Some e
  parts-least parts w g e sound are is least =
      before-first (below end) w.pending e sound.rising ((are.pending e).1 (g, inl (first-in (below end) _ e is))) (first-passes (below end) _ e is)
      (λ x i t. go x t (group_of x.key.node.0) (part-has rules ok lawful group_of keeps from end closed parts w (group_of x.key.node.0) x are i refl t) (first (below end) (parts (group_of x.key.node.0)).world.pending) refl)
    where
      go : (x : Event Load) → below end x.key ≡ true → (h : ℕ) → IsIn x (parts h).world.pending → (o : Option (Event Load)) →
          first (below end) (parts h).world.pending ≡ o → (x ≡ e) ⊎ (before e.key x.key ≡ true)
      go x t h i None none = absurd (let f = first-no (below end) _ none x i in let d : true ≡ false = sym t ∙ f in cc)
      go x t h i (Some y) some = elim (first-before (below end) _ y x (are.rising h) some i t) [
        | inl same ↦ elim (least h y some) [ inl it ↦ inl (same ∙ it) | inr up ↦ inr (rw same up) ]
        | inr after_y ↦ elim (least h y some) [
          | inl it ↦ inr (rw (← it) after_y)
          | inr up ↦ inr (before-trans _ _ _ up after_y)
        ]
      ]
