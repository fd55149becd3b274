-- Sums over the views of a row.
use Rattle.std.proofs.Common.{◌≡◌, ◌≢◌, ℕ, zero, suc, ◌+◌, ◌≤◌, List, [], ◌∷◌, ◌++◌, sum_by, set, refl, sym, ap, arith}
use Rattle.std.proofs.lemmas.List.Sums.{sum_by-cons}
use mathlib.Core.Option.{some, some-injective, some-ne-none}
use lib.ListN.{get_elem?}

module _ {A : Type 0} (f : A → ℕ) where
  -- one view changes
  pub total_set : (l : List A) (i : ℕ) (v w : A) → get_elem? l i ≡ some v → sum_by f (set l i w) + f v ≡ sum_by f l + f w
  total_set [] i v w e = absurd (some-ne-none v (sym e))
  total_set (x ∷ xs) zero v w e =
      let same : f x ≡ f v = ap f (some-injective x v e) in
      let before : sum_by f (x ∷ xs) ≡ f x + sum_by f xs = sum_by-cons f x xs in
      let after : sum_by f (set (x ∷ xs) zero w) ≡ f w + sum_by f xs = sum_by-cons f w xs in
      omega (arith, same, before, after)
  total_set (x ∷ xs) (suc i) v w e =
      let rest = total_set xs i v w e in
      let before : sum_by f (x ∷ xs) ≡ f x + sum_by f xs = sum_by-cons f x xs in
      let after : sum_by f (set (x ∷ xs) (suc i) w) ≡ f x + sum_by f (set xs i w) = sum_by-cons f x (set xs i w) in
      omega (arith, rest, before, after)

  -- one view more
  pub total_push : (l : List A) (v : A) → sum_by f (l ++ v ∷ []) ≡ sum_by f l + f v
  total_push [] v =
      let last : sum_by f (v ∷ []) ≡ f v + 0 = sum_by-cons f v [] in
      omega (arith, last)
  total_push (x ∷ xs) v =
      let rest = total_push xs v in
      let before : sum_by f (x ∷ xs) ≡ f x + sum_by f xs = sum_by-cons f x xs in
      let after : sum_by f ((x ∷ xs) ++ v ∷ []) ≡ f x + sum_by f (xs ++ v ∷ []) = sum_by-cons f x (xs ++ v ∷ []) in
      omega (arith, rest, before, after)

  pub total_one : (l : List A) (i : ℕ) (v : A) → get_elem? l i ≡ some v → f v ≤ sum_by f l
  total_one [] i v e = absurd (some-ne-none v (sym e))
  total_one (x ∷ xs) zero v e =
      let same : f x ≡ f v = ap f (some-injective x v e) in
      let before : sum_by f (x ∷ xs) ≡ f x + sum_by f xs = sum_by-cons f x xs in
      omega (arith, same, before)
  total_one (x ∷ xs) (suc i) v e =
      let rest = total_one xs i v e in
      let before : sum_by f (x ∷ xs) ≡ f x + sum_by f xs = sum_by-cons f x xs in
      omega (arith, rest, before)

  pub total_two : (l : List A) (i j : ℕ) (v w : A) → i ≢ j → get_elem? l i ≡ some v → get_elem? l j ≡ some w → f v + f w ≤ sum_by f l
  total_two [] i j v w n e d = absurd (some-ne-none v (sym e))
  total_two (x ∷ xs) zero zero v w n e d = absurd (n refl)
  total_two (x ∷ xs) zero (suc j) v w n e d =
      let same : f x ≡ f v = ap f (some-injective x v e) in
      let rest = total_one xs j w d in
      let before : sum_by f (x ∷ xs) ≡ f x + sum_by f xs = sum_by-cons f x xs in
      omega (arith, same, rest, before)
  total_two (x ∷ xs) (suc i) zero v w n e d =
      let same : f x ≡ f w = ap f (some-injective x w d) in
      let rest = total_one xs i v e in
      let before : sum_by f (x ∷ xs) ≡ f x + sum_by f xs = sum_by-cons f x xs in
      omega (arith, same, rest, before)
  total_two (x ∷ xs) (suc i) (suc j) v w n e d =
      let rest = total_two xs i j v w (λ s. n (ap suc s)) e d in
      let before : sum_by f (x ∷ xs) ≡ f x + sum_by f xs = sum_by-cons f x xs in
      omega (arith, rest, before)

  -- all but one view have nothing
  pub total_none : (l : List A) → ((i : ℕ) (u : A) → get_elem? l i ≡ some u → f u ≡ 0) → sum_by f l ≡ 0
  total_none [] h = refl
  total_none (x ∷ xs) h =
      let first = h 0 x refl in
      let rest = total_none xs (λ i u e. h (suc i) u e) in
      let all : sum_by f (x ∷ xs) ≡ f x + sum_by f xs = sum_by-cons f x xs in
      omega (arith, first, rest, all)

  pub total_alone : (l : List A) (i : ℕ) (v : A) → get_elem? l i ≡ some v → ((j : ℕ) (u : A) → j ≢ i → get_elem? l j ≡ some u → f u ≡ 0) →
      sum_by f l ≡ f v
  total_alone [] i v e h = absurd (some-ne-none v (sym e))
  total_alone (x ∷ xs) zero v e h =
      let same : f x ≡ f v = ap f (some-injective x v e) in
      let rest = total_none xs (λ j u d. h (suc j) u (λ s. omega arith) d) in
      let all : sum_by f (x ∷ xs) ≡ f x + sum_by f xs = sum_by-cons f x xs in
      omega (arith, same, rest, all)
  total_alone (x ∷ xs) (suc i) v e h =
      let first = h zero x (λ s. omega arith) refl in
      let rest = total_alone xs i v e (λ j u ne d. h (suc j) u (λ s. ne (omega arith)) d) in
      let all : sum_by f (x ∷ xs) ≡ f x + sum_by f xs = sum_by-cons f x xs in
      omega (arith, first, rest, all)

module _ {A : Type 0} (f g : A → ℕ) where
  -- what is no more in each view is no more in all
  pub total_le : ((v : A) → f v ≤ g v) → (l : List A) → sum_by f l ≤ sum_by g l
  total_le h [] = omega arith
  total_le h (x ∷ xs) =
      let one = h x in
      let rest = total_le h xs in
      let left : sum_by f (x ∷ xs) ≡ f x + sum_by f xs = sum_by-cons f x xs in
      let right : sum_by g (x ∷ xs) ≡ g x + sum_by g xs = sum_by-cons g x xs in
      omega (arith, one, rest, left, right)
