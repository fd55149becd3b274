-- The plain run goes through a window as a full list of groups does.
use Rattle.std.proofs.Common.{◌≡◌, ℕ, zero, suc, Bool, true, false, List, [], ◌∷◌, refl, sym, ap, ◌∙◌, arith, inl, inr, Option, Some, None}
use Rattle.std.proofs.lemmas.Bool.{cases_Bool}
use Rattle.std.proofs.lemmas.Bool.Decides.{nat_tests}
use Rattle.sim_base.specs.declared.key.Key.{Key}
use Rattle.sim_base.specs.KeyOrder.{before, IsRising}
use Rattle.round_core.specs.Order.{insert_each}
use Rattle.round_core.specs.World.{Event, Reaction, Limit, Does, Rules, World, Ready, reaction, scheduled, first, without_first, allowed, ready, next, after, after_next, fire, Rests}
use Rattle.round_core.specs.Rounds.{below, in_group, group_firings, plain_firings}
use Rattle.sim_base.proofs.KeyLaws.{before-time}
use Rattle.round_core.proofs.ListLaws.{first-holds, first-passes}

-- the first event of a list in the order of keys that is below an end is its head
pub first-head : {Load : Type 0} (end : ℕ) (l : List (Event Load)) (e : Event Load) → IsRising (λ x. x.key) l →
    first (below end) l ≡ Some e → (rest : List (Event Load)) × (l ≡ e ∷ rest)
unfolding first
first-head end [] e rising is = absurd (let d : None ≡ Some e = is in cc)
first-head end (y ∷ ys) e rising is = elim (cases_Bool (below end y.key)) [
  | inl t ↦ let s : Some y ≡ Some e = rw t at is in let same : y ≡ e = cc in (ys, ap (λ x. x ∷ ys) same)
  | inr f ↦ absurd (too_late y.key e.key (first-holds (below end) (λ x. before y.key x.key ≡ true) ys e rising.0 (rw f at is)) f
      (first-passes (below end) ys e (rw f at is)))
]
  where
    too_late : (a b : Key) → before a b ≡ true → below end a ≡ false → below end b ≡ true → ⊥
    too_late a b h f t = let le = before-time a b h in grind (arith, nat_tests)

-- what passes one test passes another
abbrev pub Within : (Key → Bool) → (Key → Bool) → Type 0
Within q p = (k : Key) → q k ≡ true → p k ≡ true

fails-within : (p q : Key → Bool) → Within q p → (k : Key) → p k ≡ false → q k ≡ false
fails-within p q within k h = elim (cases_Bool (q k)) [ inl t ↦ absurd (let x = within k t in cc) | inr f ↦ f ]

pub first-none : {Load : Type 0} (p q : Key → Bool) → Within q p → (l : List (Event Load)) → first p l ≡ None → first q l ≡ None
unfolding first
first-none p q within [] is = refl
first-none p q within (y ∷ ys) is = elim (cases_Bool (p y.key)) [
  | inl t ↦ absurd (let d : Some y ≡ None = rw t at is in cc)
  | inr f ↦ let g = fails-within p q within y.key f in rw g (first-none p q within ys (rw f at is))
]

-- a narrower test finds what a wider one finds, where that passes it
pub first-narrow : {Load : Type 0} (p q : Key → Bool) → Within q p → (l : List (Event Load)) (e : Event Load) →
    first p l ≡ Some e → q e.key ≡ true → (first q l ≡ Some e) × (without_first q l ≡ without_first p l)
unfolding first without_first
first-narrow p q within [] e is passes = absurd (let d : None ≡ Some e = is in cc)
first-narrow p q within (y ∷ ys) e is passes = elim (cases_Bool (p y.key)) [
  | inl t ↦ let s : Some y ≡ Some e = rw t at is in let same : y ≡ e = cc in
      let qy : q y.key ≡ true = rw same passes in (rw qy s, rw (qy, t) refl)
  | inr f ↦ let g = fails-within p q within y.key f in
      let rest = first-narrow p q within ys e (rw f at is) passes in
      (rw g rest.0, rw (g, f) (ap (λ t. y ∷ t) rest.1))
]

pub first-of_head : {Load : Type 0} (test : Key → Bool) (e : Event Load) (rest : List (Event Load)) → test e.key ≡ true → first test (e ∷ rest) ≡ Some e
unfolding first
first-of_head test e rest h = rw h refl

pub next-none : {Node Lan Load Text : Type 0} (rules : Rules Node Lan Load Text) (test : Key → Bool) (w : World Node Lan Load Text) →
    first test w.pending ≡ None → next rules test w ≡ None
unfolding next
next-none rules test w is = ap (ready rules w) is

module _ {Node Lan Load Text : Type 0} (rules : Rules Node Lan Load Text) where
  pub fire-idle : (test : Key → Bool) (w : World Node Lan Load Text) → next rules test w ≡ None → fire rules test w ≡ w
  unfolding fire
  fire-idle test w h = ap (after_next rules test w) h

  pub fire-moves : (test : Key → Bool) (w : World Node Lan Load Text) (r : Ready Node Lan Load Text) → next rules test w ≡ Some r →
      fire rules test w ≡ after rules test w r
  unfolding fire
  fire-moves test w r h = ap (after_next rules test w) h

  -- firing by two tests that find the same event
  pub fire-same : (p q : Key → Bool) (w : World Node Lan Load Text) → first p w.pending ≡ first q w.pending →
      without_first p w.pending ≡ without_first q w.pending → fire rules p w ≡ fire rules q w
  unfolding fire next after
  fire-same p q w same rest =
      ap (λ o. after_next rules p w (ready rules w o)) same
      ∙ go (ready rules w (first q w.pending))
    where
      go : (o : Option (Ready Node Lan Load Text)) → after_next rules p w o ≡ after_next rules q w o
      go None = refl
      go (Some r) = ap (λ l. record (after rules p w r) {
        pending = insert_each (λ e. e.key) (scheduled r.event.key (rules.counter (w.nodes r.event.key.node.0)) r.effect.sends) l;
      }) rest

  -- the least event below an end is the least of its group
  pub fire-in_group : (group_of : ℕ → ℕ) (end : ℕ) (w : World Node Lan Load Text) (e : Event Load) → first (below end) w.pending ≡ Some e →
      fire rules (in_group group_of end (group_of e.key.node.0)) w ≡ fire rules (below end) w
  fire-in_group group_of end w e is =
      let q = in_group group_of end (group_of e.key.node.0) in
      let narrow = first-narrow (below end) q (λ k t. (in_group-below group_of end _ k t)) w.pending e is
      (own_group group_of end e.key (first-passes (below end) w.pending e is)) in
      fire-same q (below end) w (narrow.0 ∙ sym is) narrow.1
    where
      in_group-below : (group_of : ℕ → ℕ) (end g : ℕ) (k : Key) → in_group group_of end g k ≡ true → below end k ≡ true
      in_group-below group_of end g k t = grind (arith, nat_tests)

      own_group : (group_of : ℕ → ℕ) (end : ℕ) (k : Key) → below end k ≡ true → in_group group_of end (group_of k.node.0) k ≡ true
      own_group group_of end k t = grind (arith, nat_tests)

  -- the plain firings below an end are those of some list of groups
  pub plain-groups : (group_of : ℕ → ℕ) (end n : ℕ) (w : World Node Lan Load Text) →
      (gs : List ℕ) × (group_firings rules group_of end gs w ≡ plain_firings rules end n w)
  unfolding group_firings plain_firings
  plain-groups group_of end zero w = ([], refl)
  plain-groups group_of end (suc n) w = go (first (below end) w.pending) refl (plain-groups group_of end n (fire rules (below end) w))
    where
      go : (o : Option (Event Load)) → first (below end) w.pending ≡ o →
          ((gs : List ℕ) × (group_firings rules group_of end gs (fire rules (below end) w) ≡ plain_firings rules end n (fire rules (below end) w))) →
          (gs : List ℕ) × (group_firings rules group_of end gs w ≡ plain_firings rules end n (fire rules (below end) w))
      go None is rest = (rest.0, ap (group_firings rules group_of end rest.0) (sym (fire-idle (below end) w (next-none rules (below end) w is))) ∙ rest.1)
      go (Some e) is rest = (
        group_of e.key.node.0 ∷ rest.0,
        ap (group_firings rules group_of end rest.0) (fire-in_group group_of end w e is) ∙ rest.1,
      )

  pub plain-idle : (end n : ℕ) (w : World Node Lan Load Text) → Rests rules (below end) w → plain_firings rules end n w ≡ w
  unfolding plain_firings
  plain-idle end zero w rests = refl
  plain-idle end (suc n) w rests = ap (plain_firings rules end n) (fire-idle (below end) w rests) ∙ plain-idle end n w rests

  allowed-none : (e : Event Load) (answer : Reaction Node Lan Load Text) → allowed e answer ≡ None → answer ≡ Limit
  allowed-none e Limit h = refl
  allowed-none e (Does effect) h = absurd (let d : Some (record { event = e; effect = effect }) ≡ None = h in cc)

  -- an event that is found and not ready is refused
  pub stuck-refused : (test : Key → Bool) (w : World Node Lan Load Text) (e : Event Load) → first test w.pending ≡ Some e →
      next rules test w ≡ None → reaction rules w e ≡ Limit
  unfolding next
  stuck-refused test w e is rests =
      let h : ready rules w (Some e) ≡ None = sym (ap (ready rules w) is) ∙ rests in allowed-none e (reaction rules w e) h

  pub refused-next : (test : Key → Bool) (w : World Node Lan Load Text) (e : Event Load) → first test w.pending ≡ Some e →
      reaction rules w e ≡ Limit → next rules test w ≡ None
  unfolding next
  refused-next test w e is refused = ap (ready rules w) is ∙ ap (allowed e) refused
