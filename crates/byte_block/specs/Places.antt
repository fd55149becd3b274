-- What two ranges of one block have in common.
use Rattle.std.specs.Prelude.{◌≡◌, ℕ, ◌+◌, ◌<◌, ◌≤◌, List}
use mathlib.Core.Option.{some}
use lib.ListN.{get_elem?}

-- no place is in both of two ranges, the first from `from` on and below `to`, the second from `from'` on and below `to'`
abbrev pub AreApart : ℕ → ℕ → ℕ → ℕ → Type 0
AreApart from to from' to' = (place : ℕ) → from ≤ place → place < to → from' ≤ place → place < to' → ⊥

-- bytes that lie from `from` on, and bytes that lie from `from'` on, are the same at each place that both have
abbrev pub Agree : ℕ → List ℕ → ℕ → List ℕ → Type 0
Agree from xs from' ys = (k l x y : ℕ) → from + k ≡ from' + l → get_elem? xs k ≡ some x → get_elem? ys l ≡ some y → x ≡ y
