-- Lists in the order of keys: inserting, and taking out the first item that passes a test.
use Rattle.std.proofs.Common.{◌≡◌, ℕ, ◌<◌, suc, ◌+◌, length, append_assoc, filter, Bool, true, false, List, [], ◌∷◌, ◌++◌, refl, sym, ap, ◌∙◌, subst, arith, inl, inr, Some, None}
use Rattle.std.proofs.lemmas.Bool.{cases_Bool}
use Rattle.std.proofs.lemmas.List.{append-nil}
use Rattle.std.specs.List.{AllByRecursion}
use Rattle.sim_base.specs.declared.key.Key.{Key}
use Rattle.sim_base.specs.KeyOrder.{before, insert_by, IsRising}
use Rattle.round_core.specs.Order.{insert_each, in_key_order}
use Rattle.round_core.specs.World.{Event, Send, first, without_first, scheduled}
use Rattle.sim_base.proofs.KeyLaws.{before-not_back, before-up, before-total, before-chain}
use Rattle.round_core.proofs.InsertLaws.{insert_insert}

pub all-map : {A : Type 0} (P Q : A → Type 0) → ((x : A) → P x → Q x) → (xs : List A) → AllByRecursion P xs → AllByRecursion Q xs
all-map P Q f [] h = tt
all-map P Q f (x ∷ xs) h = (f x h.0, all-map P Q f xs h.1)

-- the keys of a list never fall
abbrev pub NeverFalls : {A : Type 0} → (A → Key) → List A → Type 0
NeverFalls key_of [] = Unit {0}
NeverFalls key_of (x ∷ xs) = AllByRecursion (λ y. before (key_of y) (key_of x) ≡ false) xs × NeverFalls key_of xs

pub never_falls : {A : Type 0} (key_of : A → Key) (l : List A) → IsRising key_of l → NeverFalls key_of l
never_falls key_of [] h = tt
never_falls key_of (x ∷ xs) h = (all-map _ _ (λ y b. before-not_back _ _ b) xs h.0, never_falls key_of xs h.1)

pub all-insert : {A : Type 0} (key_of : A → Key) (P : A → Type 0) (x : A) (l : List A) → P x → AllByRecursion P l →
    AllByRecursion P (insert_by key_of x l)
unfolding insert_by
all-insert key_of P x [] p h = (p, tt)
all-insert key_of P x (y ∷ ys) p h = elim (cases_Bool (before (key_of x) (key_of y))) [
  | inl e ↦ rw e (p, (h.0, h.1))
  | inr e ↦ rw e (h.0, all-insert key_of P x ys p h.1)
]

pub all-insert_each : {A : Type 0} (key_of : A → Key) (P : A → Type 0) (xs l : List A) → AllByRecursion P xs → AllByRecursion P l →
    AllByRecursion P (insert_each key_of xs l)
unfolding insert_each
all-insert_each key_of P [] l p h = h
all-insert_each key_of P (x ∷ xs) l p h = all-insert_each key_of P xs (insert_by key_of x l) p.1 (all-insert key_of P x l p.0 h)

pub falls-insert : {A : Type 0} (key_of : A → Key) (x : A) (l : List A) → NeverFalls key_of l → NeverFalls key_of (insert_by key_of x l)
unfolding insert_by
falls-insert key_of x [] h = (tt, tt)
falls-insert key_of x (y ∷ ys) h = elim (cases_Bool (before (key_of x) (key_of y))) [
  | inl e ↦ rw e ((before-not_back _ _ e, all-map _ _ (λ z k. before-chain _ _ _ (before-not_back _ _ e) k) ys h.0), h)
  | inr e ↦ rw e (all-insert key_of _ x ys e h.0, falls-insert key_of x ys h.1)
]

pub falls-insert_each : {A : Type 0} (key_of : A → Key) (xs l : List A) → NeverFalls key_of l → NeverFalls key_of (insert_each key_of xs l)
unfolding insert_each
falls-insert_each key_of [] l h = h
falls-insert_each key_of (x ∷ xs) l h = falls-insert_each key_of xs (insert_by key_of x l) (falls-insert key_of x l h)

pub all-without : {Load : Type 0} (P : Event Load → Type 0) (test : Key → Bool) (l : List (Event Load)) → AllByRecursion P l →
    AllByRecursion P (without_first test l)
unfolding without_first
all-without P test [] h = tt
all-without P test (y ∷ ys) h = elim (cases_Bool (test y.key)) [
  | inl e ↦ rw e h.1
  | inr e ↦ rw e (h.0, all-without P test ys h.1)
]

pub falls-without : {Load : Type 0} (test : Key → Bool) (l : List (Event Load)) → NeverFalls (λ e. e.key) l →
    NeverFalls (λ e. e.key) (without_first test l)
unfolding without_first
falls-without test [] h = tt
falls-without test (y ∷ ys) h = elim (cases_Bool (test y.key)) [
  | inl e ↦ rw e h.1
  | inr e ↦ rw e (all-without _ test ys h.0, falls-without test ys h.1)
]

pub rising-insert : {A : Type 0} (key_of : A → Key) (x : A) (l : List A) → IsRising key_of l →
    AllByRecursion (λ y. key_of x ≡ key_of y → ⊥) l → IsRising key_of (insert_by key_of x l)
unfolding insert_by
rising-insert key_of x [] h new = (tt, tt)
rising-insert key_of x (y ∷ ys) h new = elim (cases_Bool (before (key_of x) (key_of y))) [
  | inl e ↦ rw e ((e, all-map _ _ (λ z k. before-up _ _ _ e (before-not_back _ _ k)) ys h.0), h)
  | inr e ↦ rw e (all-insert key_of _ x ys (after-other _ _ e new.0) h.0, rising-insert key_of x ys h.1 new.1)
]
  where
    after-other : (a b : Key) → before a b ≡ false → (a ≡ b → ⊥) → before b a ≡ true
    after-other a b e ne = elim (cases_Bool (before b a)) [ inl t ↦ t | inr f ↦ absurd (ne (before-total a b e f)) ]

pub rising-without : {Load : Type 0} (test : Key → Bool) (l : List (Event Load)) → IsRising (λ e. e.key) l →
    IsRising (λ e. e.key) (without_first test l)
unfolding without_first
rising-without test [] h = tt
rising-without test (y ∷ ys) h = elim (cases_Bool (test y.key)) [
  | inl e ↦ rw e h.1
  | inr e ↦ rw e (all-without _ test ys h.0, rising-without test ys h.1)
]

-- each key of a sender is below a count
abbrev pub AreBelow : {Load : Type 0} → ℕ → ℕ → List (Event Load) → Type 0
AreBelow sender count l = AllByRecursion (λ e. e.key.by.0 ≡ sender → e.key.count < count) l

-- events that are numbered from a count on are new where all others of their sender are below it
pub rising-scheduled : {Load : Type 0} (key : Key) (count : ℕ) (sends : List (Send Load)) (l : List (Event Load)) →
    IsRising (λ e. e.key) l → AreBelow key.node.0 count l → IsRising (λ e. e.key) (insert_each (λ e. e.key) (scheduled key count sends) l)
unfolding scheduled insert_each
rising-scheduled key count [] l h under = h
rising-scheduled {Load} key count (s ∷ sends) l h under =
    let x : Event Load = record {
      key = record { time = record { 0 = s.at }; node = record { 0 = s.to }; sent = key.time; by = key.node; count = count };
      load = s.load;
    } in
    rising-scheduled key (suc count) sends (insert_by (λ e. e.key) x l)
    (rising-insert (λ e. e.key) x l h (all-map _ _ (λ y b same. is_new x.key y.key same b) l under))
    (all-insert (λ e. e.key) _ x l (λ e. omega arith) (all-map _ _ (λ y b same. let c = b same in omega arith) l under))
  where
    is_new : (a b : Key) → a ≡ b → (b.by.0 ≡ a.by.0 → b.count < a.count) → ⊥
    is_new a b same h = let c : a.count ≡ b.count = ap (λ (k : Key). k.count) same in
        let d = h (ap (λ (k : Key). k.by.0) (sym same)) in omega arith

pub scheduled-counted : {Load : Type 0} (key : Key) (count : ℕ) (sends : List (Send Load)) →
    AllByRecursion (λ e. (e.key.by.0 ≡ key.node.0) × (e.key.count < count + length sends)) (scheduled key count sends)
unfolding scheduled
scheduled-counted key count [] = tt
scheduled-counted key count (s ∷ sends) =
    ((refl, omega arith), all-map _ _ (λ e h. (h.0, let l = h.1 in omega arith)) _ (scheduled-counted key (suc count) sends))

pub first-insert : {Load : Type 0} (test : Key → Bool) (x : Event Load) (l : List (Event Load)) → test x.key ≡ false →
    first test (insert_by (λ e. e.key) x l) ≡ first test l
unfolding first insert_by
first-insert test x [] h = rw h refl
first-insert test x (y ∷ ys) h = elim (cases_Bool (before x.key y.key)) [
  | inl e ↦ simp (e, h)
  | inr e ↦ elim (cases_Bool (test y.key)) [
    | inl t ↦ simp (e, h, t)
    | inr t ↦ simp (e, h, t) (first-insert test x ys h)
  ]
]

pub first-insert_each : {Load : Type 0} (test : Key → Bool) (xs l : List (Event Load)) → AllByRecursion (λ x. test x.key ≡ false) xs →
    first test (insert_each (λ e. e.key) xs l) ≡ first test l
unfolding insert_each
first-insert_each test [] l h = refl
first-insert_each test (x ∷ xs) l h = first-insert_each test xs (insert_by (λ e. e.key) x l) h.1 ∙ first-insert test x l h.0

insert-front : {A : Type 0} (key_of : A → Key) (x : A) (l : List A) → AllByRecursion (λ y. before (key_of x) (key_of y) ≡ true) l →
    insert_by key_of x l ≡ x ∷ l
unfolding insert_by
insert-front key_of x [] h = refl
insert-front key_of x (y ∷ ys) h = rw h.0 refl

pub without-insert : {Load : Type 0} (test : Key → Bool) (x : Event Load) (l : List (Event Load)) → test x.key ≡ false →
    NeverFalls (λ e. e.key) l → without_first test (insert_by (λ e. e.key) x l) ≡ insert_by (λ e. e.key) x (without_first test l)
unfolding without_first insert_by
without-insert test x [] h r = rw h refl
without-insert test x (y ∷ ys) h r = elim (cases_Bool (before x.key y.key)) [
  | inl e ↦ elim (cases_Bool (test y.key)) [
    | inl t ↦ simp (e, h, t) (sym (insert-front (λ e. e.key) x ys (all-map _ _ (λ z k. before-up _ _ _ e k) ys r.0)))
    | inr t ↦ simp (e, h, t)
  ]
  | inr e ↦ elim (cases_Bool (test y.key)) [
    | inl t ↦ simp (e, h, t)
    | inr t ↦ simp (e, h, t) (ap (λ t. y ∷ t) (without-insert test x ys h r.1))
  ]
]

pub without-insert_each : {Load : Type 0} (test : Key → Bool) (xs l : List (Event Load)) → AllByRecursion (λ x. test x.key ≡ false) xs →
    NeverFalls (λ e. e.key) l → without_first test (insert_each (λ e. e.key) xs l) ≡ insert_each (λ e. e.key) xs (without_first test l)
unfolding insert_each
without-insert_each test [] l h r = refl
without-insert_each test (x ∷ xs) l h r =
    without-insert_each test xs (insert_by (λ e. e.key) x l) h.1 (falls-insert _ x l r)
    ∙ ap (insert_each (λ e. e.key) xs) (without-insert test x l h.0 r)

-- no key passes both tests
abbrev pub Apart : (Key → Bool) → (Key → Bool) → Type 0
Apart p q = (k : Key) → p k ≡ true → q k ≡ false

pub first-without : {Load : Type 0} (p q : Key → Bool) → Apart p q → (l : List (Event Load)) →
    first p (without_first q l) ≡ first p l
unfolding first without_first
first-without p q apart [] = refl
first-without p q apart (y ∷ ys) = elim (cases_Bool (p y.key)) [
  | inl e ↦ simp (e, apart y.key e)
  | inr e ↦ elim (cases_Bool (q y.key)) [
    | inl f ↦ simp (e, f)
    | inr f ↦ simp (e, f) (first-without p q apart ys)
  ]
]

pub without_without : {Load : Type 0} (p q : Key → Bool) → Apart p q → (l : List (Event Load)) →
    without_first p (without_first q l) ≡ without_first q (without_first p l)
unfolding without_first
without_without p q apart [] = refl
without_without p q apart (y ∷ ys) = elim (cases_Bool (p y.key)) [
  | inl e ↦ simp (e, apart y.key e)
  | inr e ↦ elim (cases_Bool (q y.key)) [
    | inl f ↦ simp (e, f)
    | inr f ↦ simp (e, f) (ap (λ t. y ∷ t) (without_without p q apart ys))
  ]
]

insert-insert_each : {A : Type 0} (key_of : A → Key) (x : A) (ys l : List A) → AllByRecursion (λ y. key_of x ≡ key_of y → ⊥) ys →
    insert_by key_of x (insert_each key_of ys l) ≡ insert_each key_of ys (insert_by key_of x l)
unfolding insert_each
insert-insert_each key_of x [] l h = refl
insert-insert_each key_of x (y ∷ ys) l h =
    insert-insert_each key_of x ys (insert_by key_of y l) h.1 ∙ ap (insert_each key_of ys) (insert_insert key_of x y l h.0)

pub insert_each_insert_each : {A : Type 0} (key_of : A → Key) (xs ys l : List A) →
    AllByRecursion (λ x. AllByRecursion (λ y. key_of x ≡ key_of y → ⊥) ys) xs →
    insert_each key_of xs (insert_each key_of ys l) ≡ insert_each key_of ys (insert_each key_of xs l)
unfolding insert_each
insert_each_insert_each key_of [] ys l h = refl
insert_each_insert_each key_of (x ∷ xs) ys l h =
    ap (insert_each key_of xs) (insert-insert_each key_of x ys l h.0)
    ∙ insert_each_insert_each key_of xs ys (insert_by key_of x l) h.1

pub first-holds : {Load : Type 0} (test : Key → Bool) (P : Event Load → Type 0) (l : List (Event Load)) (e : Event Load) →
    AllByRecursion P l → first test l ≡ Some e → P e
unfolding first
first-holds test P [] e h is = absurd (let d : None ≡ Some e = is in cc)
first-holds test P (y ∷ ys) e h is = elim (cases_Bool (test y.key)) [
  | inl t ↦ let s : Some y ≡ Some e = rw t at is in let same : y ≡ e = cc in subst P same h.0
  | inr t ↦ first-holds test P ys e h.1 (rw t at is)
]

pub first-passes : {Load : Type 0} (test : Key → Bool) (l : List (Event Load)) (e : Event Load) →
    first test l ≡ Some e → test e.key ≡ true
unfolding first
first-passes test [] e is = absurd (let d : None ≡ Some e = is in cc)
first-passes test (y ∷ ys) e is = elim (cases_Bool (test y.key)) [
  | inl t ↦ let s : Some y ≡ Some e = rw t at is in let same : y ≡ e = cc in rw (← same) t
  | inr t ↦ first-passes test ys e (rw t at is)
]

pub all-snoc : {A : Type 0} (P : A → Type 0) (l : List A) (x : A) → AllByRecursion P l → P x → AllByRecursion P (l ++ x ∷ [])
all-snoc P [] x h p = (p, tt)
all-snoc P (y ∷ ys) x h p = (h.0, all-snoc P ys x h.1 p)

pub rising-snoc : {A : Type 0} (key_of : A → Key) (l : List A) (x : A) → IsRising key_of l →
    AllByRecursion (λ y. before (key_of y) (key_of x) ≡ true) l → IsRising key_of (l ++ x ∷ [])
rising-snoc key_of [] x h b = (tt, tt)
rising-snoc key_of (y ∷ ys) x h b = (all-snoc _ ys x h.0 b.0, rising-snoc key_of ys x h.1 b.1)

insert-last : {A : Type 0} (key_of : A → Key) (l : List A) (x : A) → AllByRecursion (λ y. before (key_of y) (key_of x) ≡ true) l →
    insert_by key_of x l ≡ l ++ x ∷ []
unfolding insert_by
insert-last key_of [] x h = refl
insert-last key_of (y ∷ ys) x h = let late = before-not_back _ _ h.0 in rw late (ap (λ t. y ∷ t) (insert-last key_of ys x h.1))

all-swap : {A : Type 0} (key_of : A → Key) (l : List A) (x : A) (xs : List A) →
    AllByRecursion (λ y. AllByRecursion (λ z. before (key_of y) (key_of z) ≡ true) (x ∷ xs)) l →
    AllByRecursion (λ y. before (key_of y) (key_of x) ≡ true) l
all-swap key_of l x xs h = all-map _ _ (λ y a. a.0) l h

insert_each-last : {A : Type 0} (key_of : A → Key) (xs l : List A) → IsRising key_of xs →
    AllByRecursion (λ y. AllByRecursion (λ z. before (key_of y) (key_of z) ≡ true) xs) l → insert_each key_of xs l ≡ l ++ xs
unfolding insert_each
insert_each-last key_of [] l h b = sym (append-nil l)
insert_each-last key_of (x ∷ xs) l h b =
    ap (insert_each key_of xs) (insert-last key_of l x (all-swap key_of l x xs b))
    ∙ insert_each-last key_of xs (l ++ x ∷ []) h.1 (all-snoc _ l x (all-map _ _ (λ y a. a.1) l b) h.0)
    ∙ append_assoc l (x ∷ []) xs

-- a list whose keys rise is in the order of its keys
pub in_key_order-rising : {A : Type 0} (key_of : A → Key) (l : List A) → IsRising key_of l → in_key_order key_of l ≡ l
in_key_order-rising key_of l h = insert_each-last key_of l [] h tt

pub length-insert : {A : Type 0} (key_of : A → Key) (x : A) (l : List A) → length (insert_by key_of x l) ≡ suc (length l)
unfolding insert_by
length-insert key_of x [] = refl
length-insert key_of x (y ∷ ys) = elim (cases_Bool (before (key_of x) (key_of y))) [
  | inl t ↦ rw t refl
  | inr f ↦ rw f (ap suc (length-insert key_of x ys))
]

-- what comes after the head of a list goes in behind it
insert-behind : {A : Type 0} (key_of : A → Key) (x e : A) (l : List A) → before (key_of x) (key_of e) ≡ false →
    insert_by key_of x (e ∷ l) ≡ e ∷ insert_by key_of x l
unfolding insert_by
insert-behind key_of x e l h = rw h refl

pub insert_each-behind : {A : Type 0} (key_of : A → Key) (xs : List A) (e : A) (l : List A) →
    AllByRecursion (λ x. before (key_of x) (key_of e) ≡ false) xs → insert_each key_of xs (e ∷ l) ≡ e ∷ insert_each key_of xs l
unfolding insert_each
insert_each-behind key_of [] e l h = refl
insert_each-behind key_of (x ∷ xs) e l h =
    ap (insert_each key_of xs) (insert-behind key_of x e l h.0) ∙ insert_each-behind key_of xs e (insert_by key_of x l) h.1

pub without-behind : {Load : Type 0} (test : Key → Bool) (e : Event Load) (l : List (Event Load)) → test e.key ≡ false →
    without_first test (e ∷ l) ≡ e ∷ without_first test l
unfolding without_first
without-behind test e l h = rw h refl

pub first-behind : {Load : Type 0} (test : Key → Bool) (e : Event Load) (l : List (Event Load)) → test e.key ≡ false →
    first test (e ∷ l) ≡ first test l
unfolding first
first-behind test e l h = rw h refl

pub filter-insert : {A : Type 0} (key_of : A → Key) (test : A → Bool) (x : A) (l : List A) → test x ≡ false →
    filter test (insert_by key_of x l) ≡ filter test l
unfolding insert_by
filter-insert key_of test x [] h = rw h refl
filter-insert key_of test x (y ∷ ys) h = elim (cases_Bool (before (key_of x) (key_of y))) [
  | inl t ↦ rw (t, h) refl
  | inr f ↦ rw f (elim (cases_Bool (test y)) [
    | inl a ↦ rw a (ap (λ t. y ∷ t) (filter-insert key_of test x ys h))
    | inr b ↦ rw b (filter-insert key_of test x ys h)
  ])
]

pub filter-all : {A : Type 0} (test : A → Bool) (l : List A) → AllByRecursion (λ x. test x ≡ true) l → filter test l ≡ l
filter-all test [] h = refl
filter-all test (x ∷ xs) h = rw h.0 (ap (λ t. x ∷ t) (filter-all test xs h.1))

pub all-append : {A : Type 0} (P : A → Type 0) (xs ys : List A) → AllByRecursion P xs → AllByRecursion P ys → AllByRecursion P (xs ++ ys)
all-append P [] ys h k = k
all-append P (x ∷ xs) ys h k = (h.0, all-append P xs ys h.1 k)

-- the same, of those that pass a test
pub rising-scheduled_some : {Load : Type 0} (keep : Event Load → Bool) (key : Key) (count : ℕ) (sends : List (Send Load)) (l : List (Event Load)) →
    IsRising (λ e. e.key) l → AreBelow key.node.0 count l →
    IsRising (λ e. e.key) (insert_each (λ e. e.key) (filter keep (scheduled key count sends)) l)
unfolding scheduled insert_each
rising-scheduled_some keep key count [] l h under = h
rising-scheduled_some {Load} keep key count (s ∷ sends) l h under =
    elim (cases_Bool (keep x)) [
      | inl t ↦ rw t (rising-scheduled_some keep key (suc count) sends (insert_by (λ e. e.key) x l)
          (rising-insert (λ e. e.key) x l h (all-map _ _ (λ y b same. is_new x.key y.key same b) l under))
          (all-insert (λ e. e.key) _ x l (λ e. omega arith) up))
      | inr f ↦ rw f (rising-scheduled_some keep key (suc count) sends l h up)
    ]
  where
    x : Event Load
    x = record {
      key = record { time = record { 0 = s.at }; node = record { 0 = s.to }; sent = key.time; by = key.node; count = count };
      load = s.load;
    }

    is_new : (a b : Key) → a ≡ b → (b.by.0 ≡ a.by.0 → b.count < a.count) → ⊥
    is_new a b same h = let c : a.count ≡ b.count = ap (λ (k : Key). k.count) same in
        let d = h (ap (λ (k : Key). k.by.0) (sym same)) in omega arith

    up : AreBelow key.node.0 (suc count) l
    up = all-map _ _ (λ y b same. let c = b same in omega arith) l under
