-- What stands in a list, and what the first event is that passes a test.
use Rattle.std.proofs.Common.{◌≡◌, filter, Bool, true, false, List, [], ◌∷◌, ◌++◌, refl, sym, ap, ◌∙◌, subst, inl, inr, ◌⊎◌, Some, None}
use Rattle.std.proofs.lemmas.Bool.{cases_Bool}
use Rattle.std.specs.List.{AllByRecursion}
use Rattle.sim_base.specs.declared.key.Key.{Key}
use Rattle.sim_base.specs.KeyOrder.{before, insert_by, IsRising}
use Rattle.round_core.specs.Order.{insert_each}
use Rattle.round_core.specs.Parts.{IsIn}
use Rattle.round_core.specs.World.{Event, first, without_first}
use Rattle.sim_base.proofs.KeyLaws.{before-not_back, before-trans}
use Rattle.round_core.proofs.ListLaws.{first-passes}

pub in-all : {A : Type 0} (P : A → Type 0) (l : List A) → AllByRecursion P l → (x : A) → IsIn x l → P x
in-all P [] h x i = absurd i
in-all P (y ∷ ys) h x (inl same) = subst P (sym same) h.0
in-all P (y ∷ ys) h x (inr more) = in-all P ys h.1 x more

pub all-in : {A : Type 0} (P : A → Type 0) (l : List A) → ((x : A) → IsIn x l → P x) → AllByRecursion P l
all-in P [] h = tt
all-in P (y ∷ ys) h = (h y (inl refl), all-in P ys (λ x i. h x (inr i)))

pub in-append_left : {A : Type 0} (x : A) (l m : List A) → IsIn x l → IsIn x (l ++ m)
in-append_left x [] m i = absurd i
in-append_left x (y ∷ ys) m (inl same) = inl same
in-append_left x (y ∷ ys) m (inr more) = inr (in-append_left x ys m more)

pub in-append_right : {A : Type 0} (x : A) (l m : List A) → IsIn x m → IsIn x (l ++ m)
in-append_right x [] m i = i
in-append_right x (y ∷ ys) m i = inr (in-append_right x ys m i)

pub in-append : {A : Type 0} (x : A) (l m : List A) → IsIn x (l ++ m) → IsIn x l ⊎ IsIn x m
in-append x [] m i = inr i
in-append x (y ∷ ys) m (inl same) = inl (inl same)
in-append x (y ∷ ys) m (inr more) = elim (in-append x ys m more) [ inl a ↦ inl (inr a) | inr b ↦ inr b ]

pub in-insert_self : {A : Type 0} (key_of : A → Key) (x : A) (l : List A) → IsIn x (insert_by key_of x l)
unfolding insert_by
in-insert_self key_of x [] = inl refl
in-insert_self key_of x (y ∷ ys) = elim (cases_Bool (before (key_of x) (key_of y))) [
  | inl t ↦ rw t (inl refl)
  | inr f ↦ rw f (inr (in-insert_self key_of x ys))
]

pub in-insert_other : {A : Type 0} (key_of : A → Key) (x z : A) (l : List A) → IsIn z l → IsIn z (insert_by key_of x l)
unfolding insert_by
in-insert_other key_of x z [] i = absurd i
in-insert_other key_of x z (y ∷ ys) i = elim (cases_Bool (before (key_of x) (key_of y))) [
  | inl t ↦ rw t (inr i)
  | inr f ↦ rw f (elim i [ inl same ↦ inl same | inr more ↦ inr (in-insert_other key_of x z ys more) ])
]

pub in-insert : {A : Type 0} (key_of : A → Key) (x z : A) (l : List A) → IsIn z (insert_by key_of x l) → (z ≡ x) ⊎ IsIn z l
unfolding insert_by
in-insert key_of x z [] (inl same) = inl same
in-insert key_of x z [] (inr none) = absurd none
in-insert {A} key_of x z (y ∷ ys) i = elim (cases_Bool (before (key_of x) (key_of y))) [
  | inl t ↦ let j : IsIn z (x ∷ y ∷ ys) = rw t at i in j
  | inr f ↦ let j : IsIn z (y ∷ insert_by key_of x ys) = rw f at i in
      elim j [ inl same ↦ inr (inl same) | inr more ↦ elim (in-insert key_of x z ys more) [ inl a ↦ inl a | inr b ↦ inr (inr b) ] ]
]

pub in-insert_each_new : {A : Type 0} (key_of : A → Key) (z : A) (xs l : List A) → IsIn z xs → IsIn z (insert_each key_of xs l)
unfolding insert_each
in-insert_each_new key_of z [] l i = absurd i
in-insert_each_new key_of z (x ∷ xs) l (inl same) =
    in-insert_each_old key_of z xs (insert_by key_of x l) (rw same (in-insert_self key_of x l))
  where
    in-insert_each_old : {A : Type 0} (key_of : A → Key) (z : A) (xs l : List A) → IsIn z l → IsIn z (insert_each key_of xs l)
    in-insert_each_old key_of z [] l i = i
    in-insert_each_old key_of z (x ∷ xs) l i = in-insert_each_old key_of z xs (insert_by key_of x l) (in-insert_other key_of x z l i)
in-insert_each_new key_of z (x ∷ xs) l (inr more) = in-insert_each_new key_of z xs (insert_by key_of x l) more

pub in-insert_each_old : {A : Type 0} (key_of : A → Key) (z : A) (xs l : List A) → IsIn z l → IsIn z (insert_each key_of xs l)
unfolding insert_each
in-insert_each_old key_of z [] l i = i
in-insert_each_old key_of z (x ∷ xs) l i = in-insert_each_old key_of z xs (insert_by key_of x l) (in-insert_other key_of x z l i)

pub in-insert_each : {A : Type 0} (key_of : A → Key) (z : A) (xs l : List A) → IsIn z (insert_each key_of xs l) → IsIn z xs ⊎ IsIn z l
unfolding insert_each
in-insert_each key_of z [] l i = inr i
in-insert_each key_of z (x ∷ xs) l i = elim (in-insert_each key_of z xs (insert_by key_of x l) i) [
  | inl a ↦ inl (inr a)
  | inr b ↦ elim (in-insert key_of x z l b) [ inl same ↦ inl (inl same) | inr old ↦ inr old ]
]

pub in-filter : {A : Type 0} (test : A → Bool) (x : A) (l : List A) → IsIn x l → test x ≡ true → IsIn x (filter test l)
in-filter test x [] i t = absurd i
in-filter test x (y ∷ ys) (inl same) t = let ty : test y ≡ true = rw same at t in rw ty (inl same)
in-filter test x (y ∷ ys) (inr more) t = elim (cases_Bool (test y)) [
  | inl a ↦ rw a (inr (in-filter test x ys more t))
  | inr b ↦ rw b (in-filter test x ys more t)
]

pub filter-in : {A : Type 0} (test : A → Bool) (x : A) (l : List A) → IsIn x (filter test l) → IsIn x l × (test x ≡ true)
filter-in test x [] i = absurd i
filter-in test x (y ∷ ys) i = elim (cases_Bool (test y)) [
  | inl a ↦ let j : IsIn x (y ∷ filter test ys) = rw a at i in
      elim j [ inl same ↦ (inl same, rw same a) | inr more ↦ let r = filter-in test x ys more in (inr r.0, r.1) ]
  | inr b ↦ let j : IsIn x (filter test ys) = rw b at i in let r = filter-in test x ys j in (inr r.0, r.1)
]

-- the first event that passes a test stands in the list
pub first-in : {Load : Type 0} (test : Key → Bool) (l : List (Event Load)) (e : Event Load) → first test l ≡ Some e → IsIn e l
unfolding first
first-in test [] e is = absurd (let d : None ≡ Some e = is in cc)
first-in test (y ∷ ys) e is = elim (cases_Bool (test y.key)) [
  | inl t ↦ let s : Some y ≡ Some e = rw t at is in let same : e ≡ y = cc in inl same
  | inr f ↦ inr (first-in test ys e (rw f at is))
]

-- no member passes where there is no first
pub first-no : {Load : Type 0} (test : Key → Bool) (l : List (Event Load)) → first test l ≡ None → (x : Event Load) → IsIn x l → test x.key ≡ false
unfolding first
first-no test [] none x i = absurd i
first-no test (y ∷ ys) none x i = elim (cases_Bool (test y.key)) [
  | inl t ↦ absurd (let d : Some y ≡ None = rw t at none in cc)
  | inr f ↦ elim i [ inl same ↦ rw same f | inr more ↦ first-no test ys (rw f at none) x more ]
]

pub no-first : {Load : Type 0} (test : Key → Bool) (l : List (Event Load)) → ((x : Event Load) → IsIn x l → test x.key ≡ false) → first test l ≡ None
unfolding first
no-first test [] h = refl
no-first test (y ∷ ys) h = rw (h y (inl refl)) (no-first test ys (λ x i. h x (inr i)))

-- the first of a rising list that passes a test comes before all others that do
pub first-before : {Load : Type 0} (test : Key → Bool) (l : List (Event Load)) (e x : Event Load) → IsRising (λ y. y.key) l →
    first test l ≡ Some e → IsIn x l → test x.key ≡ true → (x ≡ e) ⊎ (before e.key x.key ≡ true)
unfolding first
first-before test [] e x rising is i t = absurd i
first-before test (y ∷ ys) e x rising is i t = elim (cases_Bool (test y.key)) [
  | inl a ↦ let s : Some y ≡ Some e = rw a at is in let same : y ≡ e = cc in elim i [
    | inl here ↦ inl (here ∙ same)
    | inr more ↦ inr (rw (← same) (in-all (λ z. before y.key z.key ≡ true) ys rising.0 x more))
  ]
  | inr b ↦ elim i [
    | inl here ↦ absurd (let ty : test y.key ≡ true = rw here at t in let d : true ≡ false = sym ty ∙ b in cc)
    | inr more ↦ first-before test ys e x rising.1 (rw b at is) more t
  ]
]

-- a member that passes, and comes before all others that do, is the first
pub before-first : {Load : Type 0} (test : Key → Bool) (l : List (Event Load)) (e : Event Load) → IsRising (λ y. y.key) l →
    IsIn e l → test e.key ≡ true → ((x : Event Load) → IsIn x l → test x.key ≡ true → (x ≡ e) ⊎ (before e.key x.key ≡ true)) →
    first test l ≡ Some e
unfolding first
before-first test [] e rising i t h = absurd i
before-first test (y ∷ ys) e rising i t h = elim (cases_Bool (test y.key)) [
  | inl a ↦ elim (h y (inl refl) a) [
    | inl same ↦ rw a (ap Some same)
    | inr up ↦ elim i [
      | inl here ↦ rw a (ap Some (sym here))
      | inr more ↦ absurd (let back = before-not_back _ _ up in
          let down = in-all (λ z. before y.key z.key ≡ true) ys rising.0 e more in let d : true ≡ false = sym down ∙ back in cc)
    ]
  ]
  | inr b ↦ elim i [
    | inl here ↦ absurd (let ty : test y.key ≡ true = rw here at t in let d : true ≡ false = sym ty ∙ b in cc)
    | inr more ↦ rw b (before-first test ys e rising.1 more t (λ x j. h x (inr j)))
  ]
]

pub without-in : {Load : Type 0} (test : Key → Bool) (l : List (Event Load)) (x : Event Load) → IsIn x (without_first test l) → IsIn x l
unfolding without_first
without-in test [] x i = absurd i
without-in test (y ∷ ys) x i = elim (cases_Bool (test y.key)) [
  | inl a ↦ inr (let j : IsIn x ys = rw a at i in j)
  | inr b ↦ let j : IsIn x (y ∷ without_first test ys) = rw b at i in
      elim j [ inl same ↦ inl same | inr more ↦ inr (without-in test ys x more) ]
]

pub in-without : {Load : Type 0} (test : Key → Bool) (l : List (Event Load)) (e x : Event Load) → first test l ≡ Some e → IsIn x l →
    (x ≡ e) ⊎ IsIn x (without_first test l)
unfolding first without_first
in-without test [] e x is i = absurd i
in-without test (y ∷ ys) e x is i = elim (cases_Bool (test y.key)) [
  | inl a ↦ let s : Some y ≡ Some e = rw a at is in let same : y ≡ e = cc in
      elim i [ inl here ↦ inl (here ∙ same) | inr more ↦ inr (rw a more) ]
  | inr b ↦ elim i [
    | inl here ↦ inr (rw b (inl here))
    | inr more ↦ elim (in-without test ys e x (rw b at is) more) [ inl same ↦ inl same | inr left ↦ inr (rw b (inr left)) ]
  ]
]

irreflexive : (k : Key) → before k k ≡ true → ⊥
irreflexive k h = let back = before-not_back k k h in let d : true ≡ false = sym h ∙ back in cc

-- rising lists with the same members are the same
pub same-members : {A : Type 0} (key_of : A → Key) (xs ys : List A) → IsRising key_of xs → IsRising key_of ys →
    ((x : A) → IsIn x xs → IsIn x ys) → ((x : A) → IsIn x ys → IsIn x xs) → xs ≡ ys
same-members key_of [] [] rx ry to from = refl
same-members key_of [] (y ∷ ys) rx ry to from = absurd (from y (inl refl))
same-members key_of (x ∷ xs) [] rx ry to from = absurd (to x (inl refl))
same-members {A} key_of (x ∷ xs) (y ∷ ys) rx ry to from =
    let heads = head-same (to x (inl refl)) (from y (inl refl)) in
    ap (λ h. h ∷ xs) heads ∙ ap (λ t. y ∷ t) (same-members key_of xs ys rx.1 ry.1
    (λ z i. elim (to z (inr i)) [
      | inl same ↦ absurd (irreflexive (key_of x) (in-all (λ w. before (key_of x) (key_of w) ≡ true) xs rx.0 x (rw (heads ∙ sym same) i)))
      | inr more ↦ more
    ])
    (λ z i. elim (from z (inr i)) [
      | inl same ↦ absurd (irreflexive (key_of y) (in-all (λ w. before (key_of y) (key_of w) ≡ true) ys ry.0 y (rw (sym heads ∙ sym same) i)))
      | inr more ↦ more
    ]))
  where
    head-same : IsIn x (y ∷ ys) → IsIn y (x ∷ xs) → x ≡ y
    head-same (inl same) j = same
    head-same (inr i) (inl same) = sym same
    head-same (inr i) (inr j) = absurd (irreflexive (key_of x) (before-trans _ _ _
        (in-all (λ w. before (key_of x) (key_of w) ≡ true) xs rx.0 y j) (in-all (λ w. before (key_of y) (key_of w) ≡ true) ys ry.0 x i)))

-- the first that passes a test is no longer in a rising list without it
pub not-in-without : {Load : Type 0} (test : Key → Bool) (l : List (Event Load)) (e : Event Load) → IsRising (λ y. y.key) l →
    first test l ≡ Some e → IsIn e (without_first test l) → ⊥
unfolding first without_first
not-in-without test [] e rising is i = i
not-in-without {Load} test (y ∷ ys) e rising is i = elim (cases_Bool (test y.key)) [
  | inl a ↦ let s : Some y ≡ Some e = rw a at is in let same : y ≡ e = cc in
      let j : IsIn e ys = rw a at i in
      let Q : Event Load → Type 0 = λ z. before z.key e.key ≡ true in
      irreflexive e.key (subst Q same (in-all (λ z. before y.key z.key ≡ true) ys rising.0 e j))
  | inr b ↦ let j : IsIn e (y ∷ without_first test ys) = rw b at i in elim j [
    | inl here ↦ let t = first-test test ys e (rw b at is) in
        let ty : test y.key ≡ true = rw (← here) t in let d : true ≡ false = sym ty ∙ b in cc
    | inr more ↦ not-in-without test ys e rising.1 (rw b at is) more
  ]
]
  where
    first-test : {Load : Type 0} (test : Key → Bool) (l : List (Event Load)) (e : Event Load) → first test l ≡ Some e → test e.key ≡ true
    first-test test l e is = first-passes test l e is
