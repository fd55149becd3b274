-- A part's step in code is its step by the definitions.
use Rattle.std.proofs.Common.{◌≡◌, ℕ, ◌+◌, ◌<◌, zero, suc, List, [], ◌∷◌, ◌++◌, map, filter, not, set, refl, ap, ◌∙◌, sym, inl, inr, Option, Some, None, slice_get, unwrap_or, ◌==◌, if◌then◌else◌}
use Rattle.std.proofs.lemmas.Bool.{cases_Bool, eqb-true, eqb-false, eq-eqb, ne_eqb}
use Rattle.std.proofs.lemmas.List.{map-append, append-nil}
use Rattle.round_core.specs.Order.{insert_each}
use Rattle.sim_base.specs.KeyOrder.{insert_by}
use Rattle.round_core.specs.Parts.{is_for, part_after}
use Rattle.round_core.specs.Parts.{Part as GroupPart}
use Rattle.round_core.specs.Rounds.{below}
use Rattle.round_core.specs.World.{Event, Effect, Reaction, Does, Limit, Rules, World, allowed, ready, reaction, scheduled, without_first, next, after}
use Rattle.model_tokens.proofs.Heads.{head-first, head-without}
use Rattle.model_tokens.specs.Tokens.{event_of, firing_of, keeps, passes, react, token_rules}
use Rattle.model_tokens.specs.TokenParts.{world_of, part_by}
use Rattle.model_tokens.specs.declared.Link.{Link}
use Rattle.model_tokens.specs.declared.Token.{Token}

-- parts that agree in each field
same_part : {Node Lan Load Text : Type 0} (a b : GroupPart Node Lan Load Text) → ((n : ℕ) → a.world.nodes n ≡ b.world.nodes n) →
    ((l : ℕ) → a.world.lans l ≡ b.world.lans l) → a.world.pending ≡ b.world.pending → a.world.fired ≡ b.world.fired →
    a.sent ≡ b.sent → a ≡ b
same_part a b nodes lans pending fired sent = λ i. record {
  world = record { nodes = λ n. nodes n i; lans = λ l. lans l i; pending = pending i; fired = fired i };
  sent = sent i;
}

slice_get-set_same : (l : List ℕ) (n was x : ℕ) → slice_get l n ≡ Some was → slice_get (set l n x) n ≡ Some x
slice_get-set_same [] n was x h = absurd (let d : None ≡ Some was = h in cc)
slice_get-set_same (y ∷ ys) zero was x h = refl
slice_get-set_same (y ∷ ys) (suc n) was x h = slice_get-set_same ys n was x h

slice_get-set_other : (l : List ℕ) (n m x : ℕ) → (n ≡ m → ⊥) → slice_get (set l n x) m ≡ slice_get l m
slice_get-set_other [] n m x ne = refl
slice_get-set_other (y ∷ ys) zero zero x ne = absurd (ne refl)
slice_get-set_other (y ∷ ys) zero (suc m) x ne = refl
slice_get-set_other (y ∷ ys) (suc n) zero x ne = refl
slice_get-set_other (y ∷ ys) (suc n) (suc m) x ne = slice_get-set_other ys n m x (λ e. ne (ap suc e))

module _ (links : List Link) (allowance : ℕ) (counts : List ℕ) (fired : List Token) (end passed_on : ℕ) (t : Token) (rest : List Token)
    (low : t.key.time.0 < end) (at : slice_get counts t.key.node.0 ≡ Some passed_on) where
  abbrev rules : Rules (Option ℕ) ℕ ℕ ℕ
  rules = token_rules links allowance

  abbrev world : World (Option ℕ) ℕ ℕ ℕ
  world = world_of counts (t ∷ rest) fired

  next-by : (answer : Reaction (Option ℕ) ℕ ℕ ℕ) → react links allowance (event_of t) (Some passed_on) ≡ answer →
      next rules (below end) world ≡ allowed (event_of t) answer
  unfolding next reaction
  next-by answer is = ap (ready rules world) (head-first end t rest low)
      ∙ ap (allowed (event_of t)) (ap (react links allowance (event_of t)) at ∙ is)

  pub refused-step : react links allowance (event_of t) (Some passed_on) ≡ Limit → next rules (below end) world ≡ None
  refused-step is = next-by Limit is

  pub does-step : (effect : Effect (Option ℕ) ℕ ℕ ℕ) → react links allowance (event_of t) (Some passed_on) ≡ Does effect →
      next rules (below end) world ≡ Some (record { event = event_of t; effect = effect })
  does-step effect is = next-by (Does effect) is

  logged : map firing_of fired ++ firing_of t ∷ [] ≡ map firing_of (fired ++ t ∷ [])
  logged = sym (map-append firing_of fired (t ∷ []))

  kept-nodes : (n : ℕ) → slice_get counts n ≡ (if n == t.key.node.0 then Some passed_on else slice_get counts n)
  kept-nodes n = elim (cases_Bool (n == t.key.node.0)) [
    | inl same ↦ rw same (ap (slice_get counts) (eqb-true n t.key.node.0 same) ∙ at)
    | inr other ↦ rw other refl
  ]

  passed-nodes : (n : ℕ) → slice_get (set counts t.key.node.0 (passed_on + 1)) n
      ≡ (if n == t.key.node.0 then Some (passed_on + 1) else slice_get counts n)
  passed-nodes n = elim (cases_Bool (n == t.key.node.0)) [
    | inl same ↦ rw same (ap (slice_get (set counts t.key.node.0 (passed_on + 1))) (eqb-true n t.key.node.0 same)
        ∙ slice_get-set_same counts t.key.node.0 passed_on (passed_on + 1) at)
    | inr other ↦ rw other (slice_get-set_other counts t.key.node.0 n (passed_on + 1) (λ e. eqb-false n t.key.node.0 other (sym e)))
  ]

  -- the node keeps the token
  pub keep-step : (groups : ℕ → ℕ) (group : ℕ) (sent : List Token) →
      part_by counts rest sent (fired ++ t ∷ [])
      ≡ part_after rules groups group end (part_by counts (t ∷ rest) sent fired) (record { event = event_of t; effect = keeps passed_on t.hops })
  unfolding part_after after scheduled insert_each
  keep-step groups group sent = same_part _ _ kept-nodes (λ l. refl) (sym (head-without end t rest low)) (sym logged) (sym (append-nil (map event_of sent)))

  module _ (next_token : Token) (sent_at : next_token.key.sent ≡ t.key.time) (sender : next_token.key.by ≡ t.key.node)
      (count : next_token.key.count ≡ passed_on) where
    abbrev effect : Effect (Option ℕ) ℕ ℕ ℕ
    effect = passes passed_on t.hops (record { at = next_token.key.time.0; to = next_token.key.node.0; load = next_token.hops })

    news : scheduled t.key passed_on effect.sends ≡ event_of next_token ∷ []
    unfolding scheduled
    news = λ i. record {
      key = record { time = next_token.key.time; node = next_token.key.node; sent = sym sent_at i; by = sym sender i; count = sym count i };
      load = next_token.hops;
    } ∷ []

    counted : rules.counter (world.nodes t.key.node.0) ≡ passed_on
    counted = ap (λ (o : Option ℕ). unwrap_or o 0) at

    same-news : scheduled t.key (rules.counter (world.nodes t.key.node.0)) effect.sends ≡ event_of next_token ∷ []
    same-news = ap (λ (c : ℕ). scheduled t.key c effect.sends) counted ∙ news

    -- the node passes the token on within its group
    pub own-step : (groups : ℕ → ℕ) (group : ℕ) (sent pending : List Token) → groups next_token.key.node.0 ≡ group →
        map event_of pending ≡ insert_by (λ e. e.key) (event_of next_token) (map event_of rest) →
        part_by (set counts t.key.node.0 (passed_on + 1)) pending sent (fired ++ t ∷ [])
        ≡ part_after rules groups group end (part_by counts (t ∷ rest) sent fired) (record { event = event_of t; effect = effect })
    unfolding part_after after insert_each
    own-step groups group sent pending own put =
        let test = eq-eqb (groups next_token.key.node.0) group own in
        same_part _ _ passed-nodes (λ l. refl)
        (put ∙ sym (ap (λ (l : List (Event ℕ)). insert_each (λ e. e.key) (filter (is_for groups group) l) (without_first (below end) (map event_of (t ∷ rest)))) same-news
        ∙ rw test (ap (insert_by (λ (e : Event ℕ). e.key) (event_of next_token)) (head-without end t rest low))))
        (sym logged)
        (sym (ap (λ (l : List (Event ℕ)). map event_of sent ++ filter (λ e. not (is_for groups group e)) l) same-news
        ∙ rw test (append-nil (map event_of sent))))

    -- the node passes the token on to another group
    pub other-step : (groups : ℕ → ℕ) (group : ℕ) (sent : List Token) → (groups next_token.key.node.0 ≡ group → ⊥) →
        part_by (set counts t.key.node.0 (passed_on + 1)) rest (sent ++ next_token ∷ []) (fired ++ t ∷ [])
        ≡ part_after rules groups group end (part_by counts (t ∷ rest) sent fired) (record { event = event_of t; effect = effect })
    unfolding part_after after insert_each
    other-step groups group sent other =
        let test = ne_eqb (groups next_token.key.node.0) group other in
        same_part _ _ passed-nodes (λ l. refl)
        (sym (ap (λ (l : List (Event ℕ)). insert_each (λ e. e.key) (filter (is_for groups group) l) (without_first (below end) (map event_of (t ∷ rest)))) same-news
        ∙ rw test (head-without end t rest low)))
        (sym logged)
        (map-append event_of sent (next_token ∷ [])
        ∙ sym (ap (λ (l : List (Event ℕ)). map event_of sent ++ filter (λ e. not (is_for groups group e)) l) same-news ∙ rw test refl))
