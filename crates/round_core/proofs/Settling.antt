-- What a firing finds, and a world whose firings are kept in the order of their keys.
use Rattle.std.proofs.Common.{◌≡◌, Bool, List, [], ◌∷◌, ◌++◌, refl, ap, ◌∙◌, Option, Some, None}
use Rattle.sim_base.specs.declared.key.Key.{Key}
use Rattle.round_core.specs.Order.{insert_each, in_key_order}
use Rattle.sim_base.specs.KeyOrder.{insert_by}
use Rattle.round_core.specs.World.{Event, Firing, Reaction, Limit, Does, Rules, World, Ready, reaction, first, allowed, ready, next, after, after_next, fire, in_order}

-- what is ready is the first event that passes, and its target's effect
pub record Found {Node Lan Load Text : Type 0} (rules : Rules Node Lan Load Text) (test : Key → Bool)
    (w : World Node Lan Load Text) (r : Ready Node Lan Load Text) : Type 0 where
  pub event : first test w.pending ≡ Some r.event
  pub effect : reaction rules w r.event ≡ Does r.effect

module _ {Node Lan Load Text : Type 0} (rules : Rules Node Lan Load Text) where
  allowed-found : (e : Event Load) (answer : Reaction Node Lan Load Text) (r : Ready Node Lan Load Text) →
      allowed e answer ≡ Some r → (e ≡ r.event) × (answer ≡ Does r.effect)
  allowed-found e Limit r h = absurd (let d : None ≡ Some r = h in cc)
  allowed-found e (Does effect) r h =
      let s : Some (record { event = e; effect = effect }) ≡ Some r = h in
      let same : record { event = e; effect = effect } ≡ r = cc in
      (ap (λ (x : Ready Node Lan Load Text). x.event) same, ap (λ (x : Ready Node Lan Load Text). Does x.effect) same)

  pub next-found : (test : Key → Bool) (w : World Node Lan Load Text) (r : Ready Node Lan Load Text) →
      next rules test w ≡ Some r → Found rules test w r
  unfolding next
  next-found test w r h = go (first test w.pending) refl h
    where
      go : (o : Option (Event Load)) → first test w.pending ≡ o → ready rules w o ≡ Some r → Found rules test w r
      go None is k = absurd (let d : None ≡ Some r = k in cc)
      go (Some e) is k = let parts = allowed-found e (reaction rules w e) r k in
          record { event = is ∙ ap Some parts.0; effect = rw parts.0 at parts.1 }

  -- the world after a firing, with the firings so far kept in the order of their keys
  unfoldable pub settled : (Key → Bool) → World Node Lan Load Text → Ready Node Lan Load Text → World Node Lan Load Text
  unfolding after
  settled test w r = record (after rules test w r) {
    fired = insert_by (λ f. f.key) (record { key = r.event.key; texts = r.effect.texts }) w.fired;
  }

  abbrev pub settled_next : (Key → Bool) → World Node Lan Load Text → Option (Ready Node Lan Load Text) → World Node Lan Load Text
  settled_next test w None = w
  settled_next test w (Some r) = settled test w r

  unfoldable pub settle : (Key → Bool) → World Node Lan Load Text → World Node Lan Load Text
  settle test w = settled_next test w (next rules test w)

insert_each-append : {A : Type 0} (key_of : A → Key) (xs ys l : List A) →
    insert_each key_of (xs ++ ys) l ≡ insert_each key_of ys (insert_each key_of xs l)
unfolding insert_each
insert_each-append key_of [] ys l = refl
insert_each-append key_of (x ∷ xs) ys l = insert_each-append key_of xs ys (insert_by key_of x l)

module _ {Node Lan Load Text : Type 0} (rules : Rules Node Lan Load Text) where
  -- what is ready does not hang on the firings so far
  pub next-in_order : (test : Key → Bool) (w : World Node Lan Load Text) → next rules test (in_order w) ≡ next rules test w
  unfolding next reaction
  next-in_order test w = elim (first test w.pending) as (λ o. ready rules (in_order w) o ≡ ready rules w o) [ None ↦ refl | Some e ↦ refl ]

  pub in_order-after : (test : Key → Bool) (w : World Node Lan Load Text) (r : Ready Node Lan Load Text) →
      in_order (after rules test w r) ≡ settled rules test (in_order w) r
  unfolding settled after insert_each
  in_order-after test w r =
      let f : Firing Text = record { key = r.event.key; texts = r.effect.texts } in
      let e : in_key_order (λ x. x.key) (w.fired ++ f ∷ []) ≡ insert_by (λ x. x.key) f (in_key_order (λ x. x.key) w.fired) =
      insert_each-append (λ x. x.key) w.fired (f ∷ []) [] in
      λ i. record (after rules test w r) { fired = e i }

  -- firing, and then putting the firings so far in order, is settling the world whose firings are in order
  pub in_order-fire : (test : Key → Bool) (w : World Node Lan Load Text) → in_order (fire rules test w) ≡ settle rules test (in_order w)
  unfolding fire settle
  in_order-fire test w = rw (next-in_order test w) (
      elim (next rules test w) as (λ o. in_order (after_next rules test w o) ≡ settled_next rules test (in_order w) o) [
        | None ↦ refl
        | Some r ↦ in_order-after test w r
      ])

  pub settle-idle : (test : Key → Bool) (w : World Node Lan Load Text) → next rules test w ≡ None → settle rules test w ≡ w
  unfolding settle
  settle-idle test w h = ap (settled_next rules test w) h

  pub settle-moves : (test : Key → Bool) (w : World Node Lan Load Text) (r : Ready Node Lan Load Text) → next rules test w ≡ Some r →
      settle rules test w ≡ settled rules test w r
  unfolding settle
  settle-moves test w r h = ap (settled_next rules test w) h
