-- The first of the tokens in the order of their keys.
use Rattle.std.proofs.Common.{◌≡◌, ℕ, ◌<◌, ◌≤◌, length, List, [], ◌∷◌, map, true, refl, arith, inl, inr, Some, None, get_or}
use Rattle.std.proofs.lemmas.Bool.{le-ltb, lt-ltb}
use Rattle.sim_base.specs.KeyOrder.{before, IsRising}
use Rattle.round_core.specs.Rounds.{below}
use Rattle.round_core.specs.World.{first, without_first}
use Rattle.sim_base.proofs.KeyLaws.{before-time}
use Rattle.round_core.proofs.Members.{in-all, no-first}
use Rattle.model_tokens.specs.Tokens.{event_of}
use Rattle.model_tokens.specs.declared.Token.{Token}

pub late-none : (end : ℕ) (t : Token) (rest : List Token) → end ≤ t.key.time.0 → IsRising (λ e. e.key) (map event_of (t ∷ rest)) →
    first (below end) (map event_of (t ∷ rest)) ≡ None
late-none end t rest late rising = no-first (below end) (map event_of (t ∷ rest)) (λ x i. elim i [
  | inl same ↦ rw same (le-ltb t.key.time.0 end late)
  | inr more ↦ let up = before-time t.key x.key (in-all (λ z. before t.key z.key ≡ true) (map event_of rest) rising.0 x more) in
      le-ltb x.key.time.0 end (omega arith)
])

pub empty-none : (end : ℕ) → first {Load = ℕ} (below end) [] ≡ None
unfolding first
empty-none end = refl

pub head-first : (end : ℕ) (t : Token) (rest : List Token) → t.key.time.0 < end → first (below end) (map event_of (t ∷ rest)) ≡ Some (event_of t)
unfolding first
head-first end t rest low = let h = lt-ltb t.key.time.0 end low in rw h refl

pub head-without : (end : ℕ) (t : Token) (rest : List Token) → t.key.time.0 < end →
    without_first (below end) (map event_of (t ∷ rest)) ≡ map event_of rest
unfolding without_first
head-without end t rest low = let h = lt-ltb t.key.time.0 end low in rw h refl

pub short-none : (end : ℕ) (l : List Token) → length l < 1 → first (below end) (map event_of l) ≡ None
short-none end [] h = empty-none end
short-none end (t ∷ ts) h = absurd (omega arith)

pub late-head : (end : ℕ) (l : List Token) (d : Token) → 1 ≤ length l → end ≤ (get_or l 0 d).key.time.0 → IsRising (λ e. e.key) (map event_of l) →
    first (below end) (map event_of l) ≡ None
late-head end [] d h late rising = absurd (omega arith)
late-head end (t ∷ ts) d h late rising = late-none end t ts late rising
