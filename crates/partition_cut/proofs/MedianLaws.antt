-- The median of delays is the one that counting finds.
use Rattle.std.proofs.Common.{◌≡◌, ◌==◌, ℕ, zero, suc, ◌+◌, ◌-◌, ◌/◌, ◌<◌, ◌≤◌, ◌&&◌, nat_lt, Bool, true, false, not, cond, List, [], ◌∷◌, length, get_or, count_by, Option, Some, None, refl, sym, ap, ◌∙◌, subst, arith, inl, inr, slice_get, IsPermutation}
use Rattle.std.specs.List.{find, list_any}
use Rattle.std.proofs.lemmas.Bool.{cases_Bool, cases_lt, lt-ltb, le-ltb, eq-eqb}
use Rattle.std.proofs.lemmas.List.Folds.{list_any_at}
use Rattle.std.proofs.lemmas.List.Recursion.{is_count_by}
use Rattle.std.proofs.lemmas.List.Sorted.{IsNonDecreasingBy-from_sort, length_permutation, list_any-IsPermutation, sum_by-IsPermutation}
use Rattle.std.proofs.lemmas.Option.{get_or_from_slice_get, slice_get-get_or, slice_get_past, slice_get_within}
use Rattle.partition_cut.specs.AutoCut.{IsMedian}
use Rattle.partition_cut.specs.NamedCut.{is_median, median}

-- how many of the numbers are less than x
abbrev less : ℕ → List ℕ → ℕ
less x [] = 0
less x (y ∷ ys) = cond (nat_lt y x) (1 + less x ys) (less x ys)

-- each number is at least the one before it
abbrev Rises : ℕ → List ℕ → Type 0
Rises a [] = Unit {0}
Rises a (x ∷ xs) = (a ≤ x) × Rises x xs

less-none : (x a : ℕ) (xs : List ℕ) → x ≤ a → Rises a xs → less x xs ≡ 0
less-none x a [] low up = refl
less-none x a (y ∷ ys) low up = let t = le-ltb y x (omega (arith, up.0)) in rw t (less-none x y ys (omega (arith, up.0)) up.1)

rises-low : (a : ℕ) (xs : List ℕ) (k : ℕ) → Rises a xs → k < length xs → a ≤ get_or xs k 0
rises-low a [] k up lt = absurd (omega (arith, lt))
rises-low a (x ∷ xs) zero up lt = up.0
rises-low a (x ∷ xs) (suc k) up lt = omega (arith, up.0, rises-low x xs k up.1 (omega (arith, lt)))

all-high : (x a : ℕ) (xs : List ℕ) (k : ℕ) → Rises a xs → k < length xs → x ≤ a → nat_lt (get_or xs k 0) x ≡ false
all-high x a xs k up lt high = le-ltb (get_or xs k 0) x (omega (arith, high, rises-low a xs k up lt))

-- more than k of the numbers are less than x where the one at k is
less-behind : (x a : ℕ) (xs : List ℕ) (k : ℕ) → Rises a xs → k < length xs → nat_lt k (less x xs) ≡ nat_lt (get_or xs k 0) x
less-behind x a [] k up lt = absurd (omega (arith, lt))
less-behind x a (y ∷ ys) zero up lt = elim (cases_lt y x) [
  | inl low ↦ let t = lt-ltb y x low in rw t (lt-ltb 0 (1 + less x ys) (omega arith))
  | inr high ↦ let t = le-ltb y x high in let none = less-none x y ys high up.1 in rw (t, none) refl
]
less-behind x a (y ∷ ys) (suc k) up lt = elim (cases_lt y x) [
  | inl low ↦
      let t = lt-ltb y x low in
      let more : nat_lt (suc k) (1 + less x ys) ≡ nat_lt k (less x ys) = grind arith in
      rw t (more ∙ less-behind x y ys k up.1 (omega (arith, lt)))
  | inr high ↦
      let t = le-ltb y x high in
      let none = less-none x y ys high up.1 in
      let far = all-high x y ys k up.1 (omega (arith, lt)) high in rw (t, none, far) (le-ltb (suc k) 0 (omega arith))
]

rises-by : (a : ℕ) (xs : List ℕ) → ((k : ℕ) → k < length xs → a ≤ get_or xs k 0) → ((i j : ℕ) → i ≤ j → j < length xs → get_or xs i 0 ≤ get_or xs j 0) → Rises a xs
rises-by a [] low up = tt
rises-by a (x ∷ xs) low up = (
  low 0 (omega arith),
  rises-by x xs (λ k lt. up 0 (suc k) (omega arith) (omega (arith, lt))) (λ i j le lt. up (suc i) (suc j) (omega (arith, le)) (omega (arith, lt))),
)

counted-less : (x : ℕ) (xs : List ℕ) → less x xs ≡ count_by (λ other. nat_lt other x) xs
counted-less x xs = is_count_by (less x) (λ other. nat_lt other x) refl (λ y ys. refl) xs

not-less : (x y : ℕ) → nat_lt y (suc x) ≡ not (nat_lt x y)
not-less x y = elim (cases_lt x y) [
  | inl low ↦ le-ltb y (suc x) (omega (arith, low)) ∙ sym (ap not (lt-ltb x y low))
  | inr high ↦ lt-ltb y (suc x) (omega (arith, high)) ∙ sym (ap not (le-ltb x y high))
]

counted-up : (x : ℕ) (xs : List ℕ) → less (suc x) xs ≡ count_by (λ other. not (nat_lt x other)) xs
counted-up x xs = is_count_by (less (suc x)) (λ other. not (nat_lt x other)) refl
    (λ y ys. ap (λ b. cond b (1 + less (suc x) ys) (less (suc x) ys)) (not-less x y)) xs

both-ways : (x y : ℕ) → (not (nat_lt y x) && not (nat_lt x y)) ≡ (x == y)
both-ways x y = grind arith

find-same : (p q : ℕ → Bool) → ((x : ℕ) → p x ≡ q x) → (xs : List ℕ) → find p xs ≡ find q xs
find-same p q same [] = refl
find-same p q same (x ∷ xs) = ap (λ b. cond b (Some x) (find p xs)) (same x) ∙ ap (λ o. cond (q x) (Some x) o) (find-same p q same xs)

find-it : (d : ℕ) (xs : List ℕ) → list_any (λ x. x == d) xs ≡ true → find (λ x. x == d) xs ≡ Some d
find-it d [] there = cc
find-it d (x ∷ xs) there = grind (arith, find-it d xs)

-- a delay passes the test where it equals the one in the middle of the sorted delays
test-is : (delays sorted : List ℕ) (middle d x : ℕ) → IsPermutation delays sorted → (length delays - 1) / 2 ≡ middle → middle < length sorted
    → ((i j : ℕ) → i ≤ j → j < length sorted → get_or sorted i 0 ≤ get_or sorted j 0) → get_or sorted middle 0 ≡ d
    → is_median delays x ≡ (x == d)
test-is delays sorted middle d x permutes at inside up here =
    let rises = rises-by 0 sorted (λ k lt. omega arith) up in
    let few : count_by (λ other. nat_lt other x) delays ≡ less x sorted =
    sym (sum_by-IsPermutation (λ other. cond (nat_lt other x) 1 0) delays sorted permutes) ∙ sym (counted-less x sorted) in
    let many : count_by (λ other. not (nat_lt x other)) delays ≡ less (suc x) sorted =
    sym (sum_by-IsPermutation (λ other. cond (not (nat_lt x other)) 1 0) delays sorted permutes) ∙ sym (counted-up x sorted) in
    let low : nat_lt middle (less x sorted) ≡ nat_lt d x = less-behind x 0 sorted middle rises inside ∙ ap (λ y. nat_lt y x) here in
    let high : nat_lt middle (less (suc x) sorted) ≡ not (nat_lt x d) = less-behind (suc x) 0 sorted middle rises inside ∙ ap (λ y. nat_lt y (suc x)) here ∙ not-less x d in
    rw (at, few, many, low, high) (both-ways x d)

median-of : (delays sorted : List ℕ) (found : Option ℕ) → IsPermutation delays sorted → slice_get sorted ((length sorted - 1) / 2) ≡ found
    → ((i j : ℕ) → i ≤ j → j < length sorted → get_or sorted i 0 ≤ get_or sorted j 0) → found ≡ median delays
median-of [] sorted found permutes at up =
    sym at ∙ slice_get_past sorted ((length sorted - 1) / 2) (omega (arith, length_permutation [] sorted permutes))
median-of (y ∷ ys) sorted None permutes at up =
    let same = length_permutation (y ∷ ys) sorted permutes in
    let there = slice_get-get_or sorted ((length sorted - 1) / 2) 0 (omega (arith, same)) in
    absurd (let d : None ≡ Some (get_or sorted ((length sorted - 1) / 2) 0) = sym at ∙ there in cc)
median-of (y ∷ ys) sorted (Some d) permutes at up =
    let delays = y ∷ ys in
    let middle = (length sorted - 1) / 2 in
    let same : length sorted ≡ length delays = length_permutation delays sorted permutes in
    let inside = slice_get_within sorted middle d at in
    let here = get_or_from_slice_get sorted middle d 0 at in
    let there : list_any (λ x. x == d) delays ≡ true =
    list_any-IsPermutation (λ x. x == d) delays sorted permutes ∙ list_any_at (λ x. x == d) sorted middle 0 inside (eq-eqb _ _ here) in
    sym (find-same (is_median delays) (λ x. x == d) (λ x. test-is delays sorted middle d x permutes (ap (λ n. (n - 1) / 2) (sym same)) inside up here) delays
    ∙ find-it d delays there)

-- the median that a sort finds
pub median-found : (delays : List ℕ) (found : Option ℕ) → IsMedian delays found → found ≡ median delays
median-found delays found is =
    let rises = IsNonDecreasingBy-from_sort (λ (x : ℕ). x) is.sorted is.ordered in
    median-of delays is.sorted found is.permutes is.middle (λ i j le lt. rises i j 0 le lt)
