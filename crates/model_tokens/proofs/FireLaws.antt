-- What the code of a firing leaves is a step of the part.
use Rattle.std.proofs.Common.{◌≡◌, ℕ, ◌+◌, ◌<◌, zero, suc, length, List, [], ◌∷◌, ◌++◌, map, set, Bool, true, false, refl, ap, ◌∙◌, sym, subst, arith, inl, inr, Option, Some, None, slice_get, get_or, ◌==◌}
use Rattle.std.specs.List.{AllByRecursion}
use Rattle.std.proofs.lemmas.Bool.{cases_Bool, eqb-true, eqb-false}
use Rattle.sim_base.specs.KeyOrder.{insert_by}
use Rattle.round_core.specs.World.{Event}
use Rattle.round_core.specs.Parts.{Part as GroupPart}
use Rattle.model_tokens.proofs.Heads.{head-first}
use Rattle.model_tokens.proofs.StepLaws.{refused-step, does-step, keep-step, own-step, other-step}
use Rattle.model_tokens.specs.Tokens.{event_of, keeps, passes, react, token_rules, reaction_of, IsNumbered}
use Rattle.model_tokens.specs.TokenParts.{part_by, IsStep}
use Rattle.model_tokens.specs.declared.Link.{Link}
use Rattle.model_tokens.specs.declared.Token.{Token}
use Rattle.model_tokens.specs.declared.Answer.TheVariants.{Refused, Kept, PassedOn}
use Rattle.model_tokens.specs.declared.Step.TheVariants.{Fired, Refused as RefusedStep}

split-head : (l : List Token) (t : Token) → slice_get l 0 ≡ Some t → (rest : List Token) × (l ≡ t ∷ rest)
split-head [] t h = absurd (let d : None ≡ Some t = h in cc)
split-head (y ∷ ys) t h = let s : Some y ≡ Some t = h in let same : y ≡ t = cc in (ys, ap (λ x. x ∷ ys) same)

pub read-at : (l : List ℕ) (n x : ℕ) → n < length l → x ≡ get_or l n x → slice_get l n ≡ Some x
read-at [] n x lt e = absurd (omega arith)
read-at (y ∷ ys) zero x lt e = ap Some (sym e)
read-at (y ∷ ys) (suc n) x lt e = read-at ys n x (omega arith) e

-- a first token in the order of their keys is well where the tokens are
pub head-well : (P : Event ℕ → Type 0) (l : List Token) (t : Token) → AllByRecursion P (map event_of l) → slice_get l 0 ≡ Some t → P (event_of t)
head-well P l t h is =
    let s = split-head l t is in
    let Q : List Token → Type 0 = λ x. AllByRecursion P (map event_of x) in (subst Q s.1 h).0

module _ (links : List Link) (allowance : ℕ) (groups : ℕ → ℕ) (group end passed_on : ℕ) (t : Token)
    (counts : List ℕ) (pending sent fired : List Token) (low : t.key.time.0 < end) (at : slice_get counts t.key.node.0 ≡ Some passed_on) where
  abbrev Steps : GroupPart (Option ℕ) ℕ ℕ ℕ → Type 0
  Steps new = IsStep (token_rules links allowance) groups group end (part_by counts pending sent fired) new Fired

  pub fire-refused : slice_get pending 0 ≡ Some t → react links allowance (event_of t) (Some passed_on) ≡ reaction_of Refused passed_on t →
      IsStep (token_rules links allowance) groups group end (part_by counts pending sent fired) (part_by counts pending sent fired) (RefusedStep t.key)
  fire-refused head is =
      let s = split-head pending t head in
      let P : List Token → Type 0 = λ l. IsStep (token_rules links allowance) groups group end (part_by counts l sent fired) (part_by counts l sent fired) (RefusedStep t.key) in
      subst P (sym s.1) (event_of t, head-first end t s.0 low, refl, refused-step links allowance counts fired end passed_on t s.0 low at is, refl)

  pub fire-kept : (counts' : List ℕ) (pending' sent' fired' : List Token) →
      react links allowance (event_of t) (Some passed_on) ≡ reaction_of Kept passed_on t →
      counts' ≡ counts → pending ≡ t ∷ pending' → sent' ≡ sent → fired' ≡ fired ++ t ∷ [] → Steps (part_by counts' pending' sent' fired')
  fire-kept counts' pending' sent' fired' is c p s f =
      let P : List Token → Type 0 = λ l. IsStep (token_rules links allowance) groups group end (part_by counts l sent fired) (part_by counts' pending' sent' fired') Fired in
      subst P (sym p) (
        _,
        does-step links allowance counts fired end passed_on t pending' low at (keeps passed_on t.hops) is,
        (λ i. part_by (c i) pending' (s i) (f i)) ∙ keep-step links allowance counts fired end passed_on t pending' low at groups group sent,
      )

  pub fire-passed : (next : Token) (own : Bool) (counts' : List ℕ) (rest pending' sent' fired' : List Token) →
      react links allowance (event_of t) (Some passed_on) ≡ reaction_of (PassedOn next) passed_on t →
      IsNumbered (PassedOn next) allowance passed_on t → own ≡ (groups next.key.node.0 == group) →
      counts' ≡ set counts t.key.node.0 (passed_on + 1) → pending ≡ t ∷ rest → fired' ≡ fired ++ t ∷ [] →
      (own ≡ true → (map event_of pending' ≡ insert_by (λ e. e.key) (event_of next) (map event_of rest)) × (sent' ≡ sent)) →
      (own ≡ false → (pending' ≡ rest) × (sent' ≡ sent ++ next ∷ [])) → Steps (part_by counts' pending' sent' fired')
  fire-passed next own counts' rest pending' sent' fired' is numbered test c p f when_own when_other =
      let P : List Token → Type 0 = λ l. IsStep (token_rules links allowance) groups group end (part_by counts l sent fired) (part_by counts' pending' sent' fired') Fired in
      subst P (sym p) (
        _,
        does-step links allowance counts fired end passed_on t rest low at (passes passed_on t.hops (record { at = next.key.time.0; to = next.key.node.0; load = next.hops })) is,
        elim (cases_Bool own) [
          | inl is_own ↦ let o = when_own is_own in
              (λ i. part_by (c i) pending' (o.1 i) (f i))
              ∙ own-step links allowance counts fired end passed_on t rest low at next numbered.0 numbered.1 numbered.2 groups group sent pending'
              (eqb-true (groups next.key.node.0) group (sym test ∙ is_own)) o.0
          | inr is_other ↦ let o = when_other is_other in
              (λ i. part_by (c i) (o.0 i) (o.1 i) (f i))
              ∙ other-step links allowance counts fired end passed_on t rest low at next numbered.0 numbered.1 numbered.2 groups group sent
              (eqb-false (groups next.key.node.0) group (sym test ∙ is_other))
        ],
      )
