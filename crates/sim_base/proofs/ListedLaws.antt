-- Numbers that rise, and a search among them.
use Rattle.std.proofs.Common.{◌≡◌, ◌⊎◌, ℕ, zero, suc, ◌<◌, ◌≤◌, ◌==◌, true, false, List, [], ◌∷◌, Result, Ok, Err, length, get_or, arith, is_ok, sym, inl, inr, ⊎_elim}
use Rattle.std.proofs.lemmas.Bool.{cases_lt}
use Rattle.std.proofs.lemmas.Bool.Decides.{nat_tests}
use Rattle.std.proofs.lemmas.List.Elements.{All-from_get_or}
use Rattle.std.proofs.lemmas.List.Folds.{list_any_at, list_any_none}
use Rattle.std.proofs.lemmas.List.Sorted.{searched}
use Rattle.std.specs.List.Sorted.{IsBinarySearchResult}
use Rattle.std.specs.Ordering.{nat_cmp}
use Rattle.std.specs.Result.{MatchResult}
use Rattle.sim_base.specs.Losses.{AreRisingAbove, is_listed}

above : (low : ℕ) (xs : List ℕ) (j : ℕ) → AreRisingAbove low xs → j < length xs → low < get_or xs j 0
above low [] j rise l = absurd (omega (arith, l))
above low (x ∷ xs) zero rise l = rise.0
above low (x ∷ xs) (suc j) rise l = let rest = above x xs j rise.1 (omega (arith, l)) in omega (arith, rest, rise.0)

rises : (low : ℕ) (xs : List ℕ) → AreRisingAbove low xs → (i j : ℕ) → i ≤ j → j < length xs → get_or xs i 0 ≤ get_or xs j 0
rises low [] rise i j le l = absurd (omega (arith, l))
rises low (x ∷ xs) rise zero zero le l = omega arith
rises low (x ∷ xs) rise zero (suc j) le l = let rest = above x xs j rise.1 (omega (arith, l)) in omega (arith, rest)
rises low (x ∷ xs) rise (suc i) zero le l = absurd (omega (arith, le))
rises low (x ∷ xs) rise (suc i) (suc j) le l = rises x xs rise.1 i j (omega (arith, le)) (omega (arith, l))

-- a search finds what is listed
pub search-finds : (xs : List ℕ) (n : ℕ) (r : Result ℕ ℕ) → AreRisingAbove 0 xs → IsBinarySearchResult (λ y. nat_cmp y n) xs r → is_ok r ≡ is_listed n xs
search-finds xs n r rise found = told r (searched xs n r found (rises 0 xs rise))
  where
    same : (a : ℕ) → a ≡ n → (a == n) ≡ true
    same a e = grind (arith, nat_tests)

    other : (a : ℕ) → (a < n) ⊎ (n < a) → (a == n) ≡ false
    other a (inl l) = grind (arith, nat_tests)
    other a (inr l) = grind (arith, nat_tests)

    told : (r : Result ℕ ℕ) → MatchResult r (λ i. (i < length xs) × (get_or xs i 0 ≡ n)) (λ i. (i ≤ length xs) × ((k : ℕ) → k < i → get_or xs k 0 < n) × ((k : ℕ) → i ≤ k → k < length xs → n < get_or xs k 0)) → is_ok r ≡ is_listed n xs
    told (Ok i) h = sym (list_any_at (λ y. y == n) xs i 0 h.0 (same (get_or xs i 0) h.1))
    told (Err i) h = sym (list_any_none (λ y. y == n) xs (All-from_get_or (λ y. (y == n) ≡ false) xs 0 (λ k l. other (get_or xs k 0) (⊎_elim (λ low. inl (h.1 k low)) (λ high. inr (h.2 k high l)) (cases_lt k i)))))
