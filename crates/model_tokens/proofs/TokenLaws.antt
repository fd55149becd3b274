-- The rules of the tokens are lawful, bounded, and look ahead.
use Rattle.std.proofs.Common.{◌≡◌, ℕ, ◌+◌, ◌-◌, ◌<◌, ◌≤◌, length, List, true, false, refl, subst, arith, inl, inr, ◌⊎◌, Option, Some, None, slice_get, nat_lt, ◌==◌}
use Rattle.std.proofs.lemmas.Bool.{cases_Bool, ltb-true}
use Rattle.std.specs.List.{AllByRecursion}
use Rattle.round_core.specs.Bound.{IsBounded}
use Rattle.round_core.specs.Laws.{Health, IsOwed, IsLawful}
use Rattle.round_core.specs.Lookahead.{LooksAhead, IsAhead, IsPositive}
use Rattle.round_core.specs.World.{Event, Effect, Limit, Does, Rules, reaction, scheduled}
use Rattle.model_tokens.specs.Tokens.{keeps, passes, over_link, react, token_rules, token_health, IsWell, group_of, room, IsCutBy, IsLong}
use Rattle.model_tokens.specs.declared.Link.{Link}
use Rattle.model_tokens.specs.declared.Net.{Net}

-- what a node's reaction can be
pub record Passes (links : List Link) (allowance : ℕ) (e : Event ℕ) (passed_on : ℕ) (effect : Effect (Option ℕ) ℕ ℕ ℕ) : Type 0 where
  pub link : Link
  pub at : slice_get links e.key.node.0 ≡ Some link
  pub may : passed_on < allowance
  pub does : passes passed_on e.load (record { at = e.key.time.0 + link.delay; to = link.to; load = e.load - 1 }) ≡ effect

pub record Reacts (links : List Link) (allowance : ℕ) (e : Event ℕ) (node : Option ℕ) (effect : Effect (Option ℕ) ℕ ℕ ℕ) : Type 0 where
  pub passed_on : ℕ
  pub was : node ≡ Some passed_on
  pub how : (keeps passed_on e.load ≡ effect) ⊎ Passes links allowance e passed_on effect

does-same : (a b : Effect (Option ℕ) ℕ ℕ ℕ) → Does a ≡ Does b → a ≡ b
does-same a b h = cc

limit-not : {A : Type 0} (b : Effect (Option ℕ) ℕ ℕ ℕ) → Limit ≡ Does b → A
limit-not b h = absurd (let d : Limit ≡ Does b = h in cc)

pub reacts : (links : List Link) (allowance : ℕ) (e : Event ℕ) (node : Option ℕ) (effect : Effect (Option ℕ) ℕ ℕ ℕ) →
    react links allowance e node ≡ Does effect → Reacts links allowance e node effect
reacts links allowance e None effect h = limit-not effect h
reacts links allowance e (Some passed_on) effect h = go (slice_get links e.key.node.0) refl h
  where
    go : (o : Option Link) → slice_get links e.key.node.0 ≡ o → over_link allowance e passed_on o ≡ Does effect →
        Reacts links allowance e (Some passed_on) effect
    go None is k = limit-not effect k
    go (Some link) is k = elim (cases_Bool (e.load == 0)) [
      | inl zero_hops ↦ record { passed_on = passed_on; was = refl; how = inl (does-same _ _ (rw zero_hops at k)) }
      | inr more ↦ elim (cases_Bool (nat_lt passed_on allowance)) [
        | inl may ↦ record {
          passed_on = passed_on;
          was = refl;
          how = inr (record {
            link = link;
            at = is;
            may = ltb-true passed_on allowance may;
            does = does-same _ _ (rw (more, may) at k);
          });
        }
        | inr not_more ↦ limit-not effect (rw (more, not_more) at k)
      ]
    ]

module _ (net : Net) (well : IsWell net) where
  abbrev rules : Rules (Option ℕ) ℕ ℕ ℕ
  rules = token_rules net.links.items net.allowance

  abbrev ok : Health (Option ℕ) ℕ ℕ
  ok = token_health net.links.items

  owed-at : (e : Event ℕ) (node : Option ℕ) (effect : Effect (Option ℕ) ℕ ℕ ℕ) → Reacts net.links.items net.allowance e node effect →
      IsOwed rules ok e node effect
  unfolding scheduled
  owed-at e node effect r = elim r.how [
    | inl kept ↦ subst P kept (record { later = tt; counted = rw r.was (omega arith); node_ok = tt; lans_ok = λ l sits. tt; events_ok = tt })
    | inr passed ↦ let link_ok = well.links e.key.node.0 passed.link passed.at in
        subst P passed.does (record {
          later = (let d = link_ok.1 in omega arith, tt);
          counted = rw r.was (omega arith);
          node_ok = tt;
          lans_ok = λ l sits. tt;
          events_ok = (link_ok.0, tt);
        })
  ]
    where
      P : Effect (Option ℕ) ℕ ℕ ℕ → Type 0
      P x = IsOwed rules ok e node x

  pub token-lawful : IsLawful rules ok
  unfolding reaction
  token-lawful = record {
    owed = λ w e effect healthy e_ok is. owed-at e (w.nodes e.key.node.0) effect
        (reacts net.links.items net.allowance e (w.nodes e.key.node.0) effect is);
  }

  pub token-bounded : IsBounded rules ok (length net.links.items) (room net.allowance)
  unfolding reaction
  token-bounded = record {
    target = λ e e_ok. e_ok;
    spent = λ w e effect healthy e_ok is. spent_at e (w.nodes e.key.node.0) effect
        (reacts net.links.items net.allowance e (w.nodes e.key.node.0) effect is);
  }
    where
      spent_at : (e : Event ℕ) (node : Option ℕ) (effect : Effect (Option ℕ) ℕ ℕ ℕ) → Reacts net.links.items net.allowance e node effect →
          room net.allowance effect.node + length effect.sends ≤ room net.allowance node
      spent_at e node effect r = let P : Effect (Option ℕ) ℕ ℕ ℕ → Type 0 = λ x. room net.allowance x.node + length x.sends ≤ room net.allowance node in
          elim r.how [
            | inl kept ↦ subst P kept (rw r.was (omega arith))
            | inr passed ↦ let may = passed.may in subst P passed.does (rw r.was (omega arith))
          ]

  pub token-ahead : (groups : List ℕ) (lookahead : Option ℕ) → IsPositive lookahead → IsCutBy net.links.items groups lookahead →
      LooksAhead rules ok (group_of groups) lookahead
  unfolding reaction
  token-ahead groups lookahead positive by_it = record {
    lans = λ n m l no. absurd (let d : false ≡ true = no in cc);
    positive = positive;
    ahead = λ w e effect healthy e_ok is. ahead_at e (w.nodes e.key.node.0) effect
        (reacts net.links.items net.allowance e (w.nodes e.key.node.0) effect is);
  }
    where
      long : (o : Option ℕ) (now delay : ℕ) → IsLong o delay → IsAhead o now (now + delay)
      long None now delay h = h
      long (Some l) now delay h = omega arith

      ahead_at : (e : Event ℕ) (node : Option ℕ) (effect : Effect (Option ℕ) ℕ ℕ ℕ) → Reacts net.links.items net.allowance e node effect →
          AllByRecursion (λ s. (group_of groups s.to ≡ group_of groups e.key.node.0) ⊎ IsAhead lookahead e.key.time.0 s.at) effect.sends
      ahead_at e was effect r =
          let P : Effect (Option ℕ) ℕ ℕ ℕ → Type 0 = λ x. AllByRecursion (λ s. (group_of groups s.to ≡ group_of groups e.key.node.0) ⊎ IsAhead lookahead e.key.time.0 s.at) x.sends in
          elim r.how [
            | inl kept ↦ subst P kept tt
            | inr passed ↦ subst P passed.does (
              elim (by_it e.key.node.0 passed.link passed.at) [
                | inl same ↦ inl same
                | inr far ↦ inr (long lookahead e.key.time.0 passed.link.delay far)
              ],
              tt,
            )
          ]
