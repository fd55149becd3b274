-- Lists in the order of keys.
use Rattle.std.proofs.Common.{◌≡◌, ◌≢◌, Bool, true, false, not, ◌||◌, List, [], ◌∷◌, refl, sym, ap, ◌∙◌, subst, inl, inr, ◌⊎◌}
use Rattle.std.proofs.lemmas.Bool.{cases_Bool}
use Rattle.std.proofs.lemmas.List.Elements.{All-from_recursion, recursion_from_All}
use Rattle.std.proofs.lemmas.List.Sorted.{All-permutation, IsPermutation-sym}
use Rattle.std.specs.List.{AllByRecursion, IsDistinct}
use Rattle.std.specs.List.Sorted.{IsPermutation}
use Rattle.sim_base.specs.declared.key.Key.{Key}
use Rattle.sim_base.specs.KeyOrder.{before, insert_by, IsRising}
use Rattle.sim_base.proofs.KeyLaws.{before-not_back, before-trans, before-total}
use Rattle.event_queue.specs.Heap.{in_order, ties}

-- ---- keys that differ

pub ties-flip : (a b : Key) → ties a b ≡ ties b a
ties-flip a b = flip (before a b) (before b a)
  where
    flip : (p q : Bool) → not (p || q) ≡ not (q || p)
    flip true true = refl
    flip true false = refl
    flip false true = refl
    flip false false = refl

pub ties-other : (a b : Key) → ties a b ≡ false → before a b ≡ false → before b a ≡ true
ties-other a b = other (before a b) (before b a)
  where
    other : (p q : Bool) → not (p || q) ≡ false → p ≡ false → q ≡ true
    other true q t e = cc
    other false true t e = refl
    other false false t e = cc

pub ties-differ : (a b : Key) → b ≢ a → ties a b ≡ false
ties-differ a b ne =
    differ (before a b) (before b a) (λ p q. ne (before-total b a q p))
  where
    differ : (p q : Bool) → (p ≡ false → q ≡ false → ⊥) → not (p || q) ≡ false
    differ true q h = refl
    differ false true h = refl
    differ false false h = absurd (h refl refl)

-- ---- what holds of each item

pub all-weaken : {A : Type 0} (P Q : A → Type 0) → ((x : A) → P x → Q x) → (xs : List A) → AllByRecursion P xs → AllByRecursion Q xs
all-weaken P Q w [] a = tt
all-weaken P Q w (x ∷ xs) a = (w x a.0, all-weaken P Q w xs a.1)

pub all-insert : {A : Type 0} (key : A → Key) (P : A → Type 0) (x : A) (ys : List A) → P x → AllByRecursion P ys →
    AllByRecursion P (insert_by key x ys)
unfolding insert_by
all-insert key P x [] p a = (p, tt)
all-insert key P x (y ∷ ys) p a = elim (cases_Bool (before (key x) (key y))) [
  | inl t ↦ rw t (p, a)
  | inr f ↦ rw f (a.0, all-insert key P x ys p a.1)
]

pub all-of_insert : {A : Type 0} (key : A → Key) (P : A → Type 0) (x : A) (ys : List A) → AllByRecursion P (insert_by key x ys) →
    P x × AllByRecursion P ys
unfolding insert_by
all-of_insert key P x [] a = (a.0, tt)
all-of_insert {A} key P x (y ∷ ys) a = elim (cases_Bool (before (key x) (key y))) [
  | inl t ↦ let b : AllByRecursion P (x ∷ y ∷ ys) = rw t at a in (b.0, b.1)
  | inr f ↦ let b : AllByRecursion P (y ∷ insert_by key x ys) = rw f at a in
      let r = all-of_insert key P x ys b.1 in (r.0, (b.0, r.1))
]

pub all-in_order : {A : Type 0} (key : A → Key) (P : A → Type 0) (xs : List A) → AllByRecursion P xs → AllByRecursion P (in_order key xs)
unfolding in_order
all-in_order key P [] a = tt
all-in_order key P (x ∷ xs) a = all-insert key P x (in_order key xs) a.0 (all-in_order key P xs a.1)

pub all-of_in_order : {A : Type 0} (key : A → Key) (P : A → Type 0) (xs : List A) → AllByRecursion P (in_order key xs) → AllByRecursion P xs
unfolding in_order
all-of_in_order key P [] a = tt
all-of_in_order key P (x ∷ xs) a =
    let r = all-of_insert key P x (in_order key xs) a in (r.0, all-of_in_order key P xs r.1)

-- ---- an item in its place

pub insert-first : {A : Type 0} (key : A → Key) (x : A) (ys : List A) → AllByRecursion (λ y. before (key x) (key y) ≡ true) ys →
    insert_by key x ys ≡ x ∷ ys
unfolding insert_by
insert-first key x [] a = refl
insert-first key x (y ∷ ys) a = rw a.0 refl

pub rising-insert : {A : Type 0} (key : A → Key) (x : A) (ys : List A) → IsRising key ys →
    AllByRecursion (λ y. ties (key x) (key y) ≡ false) ys → IsRising key (insert_by key x ys)
unfolding insert_by
rising-insert key x [] r a = (tt, tt)
rising-insert key x (y ∷ ys) r a = elim (cases_Bool (before (key x) (key y))) [
  | inl t ↦ rw t (
    (
      t,
      all-weaken (λ z. before (key y) (key z) ≡ true) (λ z. before (key x) (key z) ≡ true)
          (λ z h. before-trans (key x) (key y) (key z) t h) ys r.0,
    ),
    r,
  )
  | inr f ↦ rw f (
    all-insert key (λ z. before (key y) (key z) ≡ true) x ys (ties-other (key x) (key y) a.0 f) r.0,
    rising-insert key x ys r.1 a.1,
  )
]

pub rising-in_order : {A : Type 0} (key : A → Key) (xs : List A) → IsDistinct (λ a b. ties (key a) (key b)) xs →
    IsRising key (in_order key xs)
unfolding in_order IsDistinct
rising-in_order key [] d = tt
rising-in_order key (x ∷ xs) d =
    rising-insert key x (in_order key xs) (rising-in_order key xs d.1)
    (all-in_order key (λ y. ties (key x) (key y) ≡ false) xs d.0)

-- ---- rising lists with the same members are the same

abbrev IsIn : {A : Type 0} → A → List A → Type 0
IsIn x [] = ⊥
IsIn x (y ∷ ys) = (x ≡ y) ⊎ IsIn x ys

in-all : {A : Type 0} (P : A → Type 0) (xs : List A) → AllByRecursion P xs → (x : A) → IsIn x xs → P x
in-all P [] a x i = absurd i
in-all P (y ∷ ys) a x (inl same) = subst P (sym same) a.0
in-all P (y ∷ ys) a x (inr more) = in-all P ys a.1 x more

all-in : {A : Type 0} (P : A → Type 0) (xs : List A) → ((x : A) → IsIn x xs → P x) → AllByRecursion P xs
all-in P [] h = tt
all-in P (y ∷ ys) h = (h y (inl refl), all-in P ys (λ x i. h x (inr i)))

never_before_itself : (k : Key) → before k k ≡ true → ⊥
never_before_itself k h = let back = before-not_back k k h in let d : true ≡ false = sym h ∙ back in cc

first_same : {A : Type 0} (key : A → Key) (x y : A) (xs ys : List A) → IsRising key (x ∷ xs) → IsRising key (y ∷ ys) →
    IsIn x (y ∷ ys) → IsIn y (x ∷ xs) → x ≡ y
first_same key x y xs ys rx ry (inl same) j = same
first_same key x y xs ys rx ry (inr more) (inl same) = sym same
first_same key x y xs ys rx ry (inr more) (inr other) =
    let up = in-all (λ z. before (key y) (key z) ≡ true) ys ry.0 x more in
    let down = in-all (λ z. before (key x) (key z) ≡ true) xs rx.0 y other in
    absurd (never_before_itself (key y) (before-trans (key y) (key x) (key y) up down))

-- a member of a rising list other than its first stands in the rest
in_rest : {A : Type 0} (key : A → Key) (x y z : A) (xs ys : List A) → IsRising key (x ∷ xs) → x ≡ y → IsIn z xs → IsIn z (y ∷ ys) → IsIn z ys
in_rest {A} key x y z xs ys rx e i (inl same) =
    let up = in-all (λ w. before (key x) (key w) ≡ true) xs rx.0 z i in
    absurd (never_before_itself (key x) (subst (λ w. before (key x) (key w) ≡ true) (same ∙ sym e) up))
in_rest key x y z xs ys rx e i (inr more) = more

same_members : {A : Type 0} (key : A → Key) (xs ys : List A) → IsRising key xs → IsRising key ys →
    ((z : A) → IsIn z xs → IsIn z ys) → ((z : A) → IsIn z ys → IsIn z xs) → xs ≡ ys
same_members key [] [] rx ry to from = refl
same_members key [] (y ∷ ys) rx ry to from = absurd (from y (inl refl))
same_members key (x ∷ xs) [] rx ry to from = absurd (to x (inl refl))
same_members {A} key (x ∷ xs) (y ∷ ys) rx ry to from =
    let e = first_same key x y xs ys rx ry (to x (inl refl)) (from y (inl refl)) in
    let rest = same_members key xs ys rx.1 ry.1
    (λ z i. in_rest key x y z xs ys rx e i (to z (inr i)))
    (λ z i. in_rest key y x z ys xs ry (sym e) i (from z (inr i))) in
    ap (λ h. h ∷ xs) e ∙ ap (λ t. y ∷ t) rest

members : {A : Type 0} (key : A → Key) (xs ys : List A) → IsPermutation xs ys → (z : A) → IsIn z (in_order key xs) → IsIn z (in_order key ys)
members {A} key xs ys p z i =
    let P : A → Type 0 = λ w. IsIn w (in_order key ys) in
    in-all P (in_order key xs)
    (all-in_order key P xs
    (recursion_from_All P xs
    (All-permutation P ys xs (IsPermutation-sym xs ys p)
    (All-from_recursion P ys
    (all-of_in_order key P ys (all-in P (in_order key ys) (λ w j. j))))))) z i

-- the order doesn't tell how the items stood before
pub in_order-permutation : {A : Type 0} (key : A → Key) (xs ys : List A) → IsPermutation xs ys →
    IsDistinct (λ a b. ties (key a) (key b)) xs → IsDistinct (λ a b. ties (key a) (key b)) ys → in_order key xs ≡ in_order key ys
in_order-permutation key xs ys p dx dy =
    same_members key (in_order key xs) (in_order key ys) (rising-in_order key xs dx) (rising-in_order key ys dy)
    (members key xs ys p) (members key ys xs (IsPermutation-sym xs ys p))
