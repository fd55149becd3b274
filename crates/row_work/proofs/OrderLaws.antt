-- Lists in which each number stands once, and work in such an order.
use Rattle.std.proofs.Common.{◌≡◌, ◌⊎◌, ℕ, suc, Bool, true, false, cond, nat_lt, ◌+◌, ◌<◌, ◌≤◌, set, length-set, List, [], ◌∷◌, ◌++◌, length, Some, slice_get, get_or, refl, sym, ap, subst, ◌∙◌, inl, inr, arith}
use Rattle.std.proofs.lemmas.Bool.{cases_eq, cases_order, ltb-false, true≢false}
use Rattle.std.proofs.lemmas.List.{map-id}
use Rattle.std.proofs.lemmas.List.Edits.{Swapped, swapped_from_swap, length-swap}
use Rattle.std.proofs.lemmas.List.FromFn.{get_or-range_with_len, length-range_with_len, map-range_with_len_more}
use Rattle.std.proofs.lemmas.List.Sorted.{IsPermutation-keeps, IsPermutation-refl, IsPermutation-trans, IsStrictWeakOrder-flip, length_permutation, ranks_by}
use Rattle.std.proofs.lemmas.Option.{get_or_from_slice_get, slice_get-get_or, slice_get_within}
use Rattle.std.specs.List.{range_with_len, swap}
use Rattle.row_work.specs.Made.{AreMade}
use Rattle.row_work.specs.Order.{AreNumbers, ComesBefore, IsOrderOf, rank}
use Rattle.std.specs.Cmp.{IsStrictWeakOrder, nat_cmp_total}
use Rattle.std.specs.List.Sorted.{IsPermutation, IsSortedBy}
use Rattle.std.specs.Ordering.{is_lt, nat_cmp}
use Rattle.std.specs.declared.cmp.Ordering.TheVariants.{Less, Equal, Greater}
use Rattle.row_work.proofs.MadeLaws.{get-set_other, get-set_same}

-- no number stands at two places
abbrev Once : List ℕ → Type 0
Once xs = (j k : ℕ) → j < length xs → k < length xs → get_or xs j 0 ≡ get_or xs k 0 → j ≡ k

-- a number stands at some place
abbrev Stands : ℕ → List ℕ → Type 0
Stands n xs = (k : ℕ) × (k < length xs) × (get_or xs k 0 ≡ n)

-- all are below a count
abbrev Within : ℕ → List ℕ → Type 0
Within count xs = (k : ℕ) → k < length xs → get_or xs k 0 < count

-- where a place was before two were exchanged
abbrev Turn : ℕ → ℕ → ℕ → ℕ → Type 0
Turn a b j t = ((j ≡ a) × (t ≡ b)) ⊎ (((j ≡ b) × (t ≡ a)) ⊎ (((j ≡ a → ⊥) × (j ≡ b → ⊥)) × (t ≡ j)))

module _ (xs : List ℕ) (a b : ℕ) (a_in : a < length xs) (b_in : b < length xs) where
  swapped : Swapped (λ i. get_or xs i 0) (λ i. get_or (swap xs a b) i 0) a b
  swapped = swapped_from_swap xs (swap xs a b) a b 0 a_in b_in refl

  -- what stands at a place stood at its turn
  turn : (j : ℕ) → j < length xs → (t : ℕ) × (t < length xs) × (get_or (swap xs a b) j 0 ≡ get_or xs t 0) × Turn a b j t
  turn j j_in = elim (cases_eq j a) [
    | inl at ↦ (b, b_in, ap (λ i. get_or (swap xs a b) i 0) at ∙ swapped.0, inl (at, refl))
    | inr off ↦ elim (cases_eq j b) [
      | inl at ↦ (a, a_in, ap (λ i. get_or (swap xs a b) i 0) at ∙ swapped.1, inr (inl (at, refl)))
      | inr away ↦ (j, j_in, swapped.2 j off away, inr (inr ((off, away), refl)))
    ]
  ]

  turns-once : (j k t u : ℕ) → Turn a b j t → Turn a b k u → t ≡ u → j ≡ k
  turns-once j k t u (inl x) (inl y) same = omega (arith, x.0, y.0)
  turns-once j k t u (inl x) (inr (inl y)) same = omega (arith, x.0, x.1, y.0, y.1)
  turns-once j k t u (inl x) (inr (inr y)) same = absurd (y.0.1 (sym y.1 ∙ sym same ∙ x.1))
  turns-once j k t u (inr (inl x)) (inl y) same = omega (arith, x.0, x.1, y.0, y.1)
  turns-once j k t u (inr (inl x)) (inr (inl y)) same = omega (arith, x.0, y.0)
  turns-once j k t u (inr (inl x)) (inr (inr y)) same = absurd (y.0.0 (sym y.1 ∙ sym same ∙ x.1))
  turns-once j k t u (inr (inr x)) (inl y) same = absurd (x.0.1 (sym x.1 ∙ same ∙ y.1))
  turns-once j k t u (inr (inr x)) (inr (inl y)) same = absurd (x.0.0 (sym x.1 ∙ same ∙ y.1))
  turns-once j k t u (inr (inr x)) (inr (inr y)) same = omega (arith, x.1, y.1)

  once-swap : Once xs → Once (swap xs a b)
  once-swap once j k low lower same =
      let len = length-swap xs a b in
      let t = turn j (omega arith) in
      let u = turn k (omega arith) in
      turns-once j k t.0 u.0 t.3 u.3 (once t.0 u.0 t.1 u.1 (sym t.2 ∙ same ∙ u.2))

  within-swap : (count : ℕ) → Within count xs → Within count (swap xs a b)
  within-swap count within k low =
      let len = length-swap xs a b in
      let t = turn k (omega arith) in
      subst (λ n. n < count) (sym t.2) (within t.0 t.1)

stands-swap : (n : ℕ) (xs : List ℕ) (a b : ℕ) → a < length xs → b < length xs → Stands n xs → Stands n (swap xs a b)
stands-swap n xs a b a_in b_in stands =
    let len = length-swap xs a b in
    let moved = swapped xs a b a_in b_in in
    elim (cases_eq stands.0 a) [
      | inl at ↦ (b, omega arith, moved.1 ∙ ap (λ i. get_or xs i 0) (sym at) ∙ stands.2)
      | inr off ↦ elim (cases_eq stands.0 b) [
        | inl at ↦ (a, omega arith, moved.0 ∙ ap (λ i. get_or xs i 0) (sym at) ∙ stands.2)
        | inr away ↦ (stands.0, let low = stands.1 in omega arith, moved.2 stands.0 off away ∙ stands.2)
      ]
    ]

module _ (count : ℕ) (order : List ℕ) (numbers : AreNumbers count order) where
  pub numbers-length : length order ≡ count
  numbers-length = length_permutation (range_with_len 0 count) order numbers ∙ length-range_with_len 0 count

  once-places : Once order
  once-places = IsPermutation-keeps (range_with_len 0 count) Once
      (λ j k low lower same.
      let len = length-range_with_len 0 count in
      let at = get_or-range_with_len 0 count j 0 (omega arith) in
      let other = get_or-range_with_len 0 count k 0 (omega arith) in omega arith)
      (λ l i j low lower once. once-swap l i j low lower once) order numbers

  within-places : Within count order
  within-places = IsPermutation-keeps (range_with_len 0 count) (Within count)
      (λ k low.
      let len = length-range_with_len 0 count in
      let at = get_or-range_with_len 0 count k 0 (omega arith) in omega arith)
      (λ l i j low lower within. within-swap l i j low lower count within) order numbers

  -- each number stands somewhere: where its first place has gone
  pub everywhere : (n : ℕ) → n < count → (k : ℕ) × (slice_get order k ≡ Some n)
  everywhere n low =
      let found = IsPermutation-keeps (range_with_len 0 count) (Stands n) first (stands-swap n) order numbers in
      (found.0, slice_get-get_or order found.0 0 found.1 ∙ ap Some found.2)
    where
      first : Stands n (range_with_len 0 count)
      first = (n, let len = length-range_with_len 0 count in omega arith, get_or-range_with_len 0 count n 0 low ∙ omega arith)

  pub once : (j k n : ℕ) → slice_get order j ≡ Some n → slice_get order k ≡ Some n → j ≡ k
  once j k n at other =
      once-places j k (slice_get_within order j n at) (slice_get_within order k n other)
      (get_or_from_slice_get order j n 0 at ∙ sym (get_or_from_slice_get order k n 0 other))

  pub within : (k n : ℕ) → slice_get order k ≡ Some n → n < count
  within k n at = subst (λ m. m < count) (get_or_from_slice_get order k n 0 at) (within-places k (slice_get_within order k n at))

module _ {T : Type 0} where
  -- work that has come to a place of an order: the items before it are made, and the others are as they were
  pub record MadeAlong (Makes : ℕ → T → T → Type 0) (order : List ℕ) (old now : List T) (at : ℕ) : Type 0 where
    pub count : length now ≡ length old
    pub done : (k n : ℕ) (from : T) → k < at → slice_get order k ≡ Some n → slice_get old n ≡ Some from →
        (item : T) × (slice_get now n ≡ Some item) × Makes n from item
    pub rest : (k n : ℕ) → at ≤ k → slice_get order k ≡ Some n → slice_get now n ≡ slice_get old n

  module _ (Makes : ℕ → T → T → Type 0) (order : List ℕ) (old : List T) (numbers : AreNumbers (length old) order) where
    -- the item at the next place of the order is as it was
    pub along-there : (now : List T) (at place : ℕ) (x d : T) → MadeAlong Makes order old now at → slice_get order at ≡ Some place → x ≡ get_or now place d →
        (slice_get now place ≡ Some x) × (slice_get old place ≡ Some x)
    along-there now at place x d made there is =
        let low = within (length old) order numbers at place there in
        let same = made.count in
        let lies : slice_get now place ≡ Some x = slice_get-get_or now place d (omega arith) ∙ ap Some (sym is) in
        (lies, sym (made.rest at place (omega arith) there) ∙ lies)

    pub along-step : (now new : List T) (at place : ℕ) (from item : T) → MadeAlong Makes order old now at → slice_get order at ≡ Some place →
        slice_get now place ≡ Some from → Makes place from item → new ≡ set now place item → MadeAlong Makes order old new (at + 1)
    along-step now new at place from item made there is makes after = record { count = ap length after ∙ length-set now place item ∙ made.count; done = done; rest = rest }
      where
        same_at : slice_get new place ≡ Some item
        same_at = ap (λ l. slice_get l place) after ∙ get-set_same now place item (slice_get_within now place from is)

        apart : (k n : ℕ) → (k ≡ at → ⊥) → slice_get order k ≡ Some n → slice_get new n ≡ slice_get now n
        apart k n other stands = ap (λ l. slice_get l n) after
            ∙ get-set_other now place n item (λ same. other (once (length old) order numbers k at place (stands ∙ ap Some same) there))

        done : (k n : ℕ) (x : T) → k < at + 1 → slice_get order k ≡ Some n → slice_get old n ≡ Some x → (y : T) × (slice_get new n ≡ Some y) × Makes n x y
        done k n x lt stands was = elim (cases_eq k at) [
          | inl same ↦
              let number : n ≡ place = let s : Some n ≡ Some place = sym stands ∙ ap (slice_get order) same ∙ there in cc in
              let read : Some from ≡ Some x = sym is ∙ made.rest at place (omega arith) there ∙ ap (slice_get old) (sym number) ∙ was in
              let eq : from ≡ x = cc in
              (item, ap (slice_get new) number ∙ same_at, subst (λ (z : T). Makes n z item) eq (subst (λ (m : ℕ). Makes m from item) (sym number) makes))
          | inr other ↦
              let before = made.done k n x (omega arith) stands was in
              (before.0, apart k n other stands ∙ before.1, before.2)
        ]

        rest : (k n : ℕ) → at + 1 ≤ k → slice_get order k ≡ Some n → slice_get new n ≡ slice_get old n
        rest k n le stands = apart k n (λ same. omega arith) stands ∙ made.rest k n (omega arith) stands

    pub along-last : (now : List T) (at : ℕ) → length order ≤ at → MadeAlong Makes order old now at → AreMade Makes old now
    along-last now at past made = record {
      count = made.count;
      each = λ n from is.
          let place = everywhere (length old) order numbers n (slice_get_within old n from is) in
          made.done place.0 n from (let low = slice_get_within order place.0 n place.1 in omega arith) place.1 is;
    }

-- one whose rank isn't above another's and that isn't this one comes behind it
comes-before : (estimates : List ℕ) (a b : ℕ) → a < 4294967296 → b < 4294967296 → (a ≡ b → ⊥) → rank estimates b ≤ rank estimates a → ComesBefore estimates a b
comes-before estimates a b low lower apart le = elim (cases_order (get_or estimates a 0) (get_or estimates b 0)) [
  | inl same ↦ inr (same, elim (cases_order a b) [ inl eq ↦ absurd (apart eq) | inr other ↦ elim other [ inl lt ↦ lt | inr gt ↦ absurd (omega arith) ] ])
  | inr other ↦ elim other [ inl lt ↦ absurd (omega arith) | inr gt ↦ inl gt ]
]

-- what a sort tells of two ranks
rank-falls : (x y : ℕ) (less equal : Bool) → nat_lt x y ≡ less → is_lt (cond less Less (cond equal Equal Greater)) ≡ false → y ≤ x
rank-falls x y true equal is not = absurd (true≢false not)
rank-falls x y false equal is not = ltb-false x y is

-- what a sort compares numbers by
abbrev pub falls : List ℕ → ℕ → ℕ → Bool
falls estimates a b = is_lt (nat_cmp (rank estimates b) (rank estimates a))

pub falls-strictly : (estimates : List ℕ) → IsStrictWeakOrder (falls estimates)
falls-strictly estimates = IsStrictWeakOrder-flip (λ a b. is_lt (nat_cmp (rank estimates a) (rank estimates b))) (ranks_by nat_cmp_total (rank estimates))

pub in-order : (estimates order : List ℕ) → length estimates < 4294967296 → AreNumbers (length estimates) order → IsSortedBy (falls estimates) order →
    IsOrderOf estimates order
in-order estimates order few numbers sorted = record { numbers = numbers; before = before }
  where
    before : (k a b : ℕ) → slice_get order k ≡ Some a → slice_get order (suc k) ≡ Some b → ComesBefore estimates a b
    before k a b this next =
        let low = slice_get_within order (suc k) b next in
        let one : suc k ≡ k + 1 = omega arith in
        let high : get_or order (k + 1) a ≡ b = ap (λ n. get_or order n a) (sym one) ∙ get_or_from_slice_get order (suc k) b a next in
        let here : get_or order k a ≡ a = get_or_from_slice_get order k a a this in
        let not : falls estimates b a ≡ false = ap (λ n. falls estimates n a) (sym high) ∙ ap (falls estimates (get_or order (k + 1) a)) (sym here) ∙ sorted k a (omega arith) (omega arith) in
        comes-before estimates a b
        (let w = within (length estimates) order numbers k a this in omega arith) (let w = within (length estimates) order numbers (suc k) b next in omega arith)
        (λ same. let e = once (length estimates) order numbers k (suc k) b (this ∙ ap Some same) next in omega arith)
        (rank-falls (rank estimates a) (rank estimates b) _ _ refl not)

-- the numbers from 0 are each there once
pub numbers-so-far : (count : ℕ) → AreNumbers count (range_with_len 0 count)
numbers-so-far count = IsPermutation-refl (range_with_len 0 count)

pub numbers-more : (count : ℕ) → range_with_len 0 (count + 1) ≡ range_with_len 0 count ++ count ∷ []
numbers-more count =
    sym (map-id (range_with_len 0 (count + 1))) ∙ map-range_with_len_more (λ (n : ℕ). n) 0 count count (omega arith)
    ∙ ap (λ l. l ++ count ∷ []) (map-id (range_with_len 0 count))

pub numbers-moved : (count : ℕ) (order moved : List ℕ) → AreNumbers count order → IsPermutation order moved → AreNumbers count moved
numbers-moved count order moved numbers moves = IsPermutation-trans (range_with_len 0 count) order moved numbers moves
