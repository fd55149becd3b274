-- Numbers that were drawn, and their stages.
use Rattle.std.proofs.Common.{◌≡◌, ◌≢◌, ℕ, ◌+◌, ◌<◌, ◌≤◌, ◌==◌, List, [], ◌∷◌, ◌++◌, refl, sym, ap, ◌∙◌, subst, inl, inr, ◌⊎◌, arith, eq-eqb, if◌then◌else◌}
use Rattle.std.proofs.lemmas.Bool.Decides.{eqb_tells, nat_tests}
use Rattle.work_claims.specs.Drawn.{Draw, times, IsAt, moved, IsGiven, AllGiven, IsNew}
use Rattle.work_claims.specs.Rule.{once_below}
use Rattle.work_claims.specs.declared.view.Stage.{Stage}
use Rattle.work_claims.specs.declared.view.Stage.TheVariants.{Drawn, Open, Taken, Given}

-- ---- how often

pub once-more : (n counter len : ℕ) → counter < len → once_below n (counter + 1) len ≡ once_below n counter len + (if n == counter then 1 else 0)
once-more n counter len h = grind (arith, nat_tests)

pub once-past : (n counter len : ℕ) → len ≤ counter → once_below n (counter + 1) len ≡ once_below n counter len
once-past n counter len h = grind (arith, nat_tests)

pub once-at_most : (n counter len : ℕ) → once_below n counter len ≤ 1
once-at_most n counter len = grind (arith, nat_tests)

pub once-none : (n len : ℕ) → once_below n 0 len ≡ 0
once-none n len = grind (arith, nat_tests)

pub once-counter : (counter len : ℕ) → once_below counter counter len ≡ 0
once-counter counter len = grind (arith, nat_tests)

pub once-above : (n counter len : ℕ) → counter ≤ n → once_below n counter len ≡ 0
once-above n counter len h = grind (arith, nat_tests)

pub once-below : (n counter len : ℕ) → 1 ≤ once_below n counter len → (n < counter) × (n < len)
once-below n counter len h = (grind (arith, nat_tests), grind (arith, nat_tests))

pub once-drawn : (n counter len : ℕ) → n < len → len ≤ counter → once_below n counter len ≡ 1
once-drawn n counter len h k = grind (arith, nat_tests)

pub times-none : (T : Type 0) (n : ℕ) → times {T = T} n [] ≡ 0
unfolding times
times-none T n = refl

module _ {T : Type 0} where
  pub times-push : (n : ℕ) (ds : List (Draw T)) (d : Draw T) → times n (ds ++ d ∷ []) ≡ times n ds + (if n == d.0 then 1 else 0)
  unfolding times
  times-push n [] d = omega arith
  times-push n (e ∷ ds) d = let ih = times-push n ds d in omega (arith, ih)

  pub times-append : (n : ℕ) (ds es : List (Draw T)) → times n (ds ++ es) ≡ times n ds + times n es
  unfolding times
  times-append n [] es = omega arith
  times-append n (d ∷ ds) es = let ih = times-append n ds es in omega (arith, ih)

  pub times-moved : (n place : ℕ) (stage : Stage T) (ds : List (Draw T)) → times n (moved place stage ds) ≡ times n ds
  unfolding times moved
  times-moved n place stage [] = refl
  times-moved n place stage (d ∷ ds) =
      let ih = times-moved n place stage ds in
      elim (eqb_tells place d.0) [
        | inl e ↦ rw e.0 (rw e.1 (ap (λ k. (if n == d.0 then 1 else 0) + k) ih))
        | inr e ↦ rw e.0 (ap (λ k. (if n == d.0 then 1 else 0) + k) ih)
      ]

  pub times-at : (n : ℕ) (stage : Stage T) (ds : List (Draw T)) → IsAt ds n stage → 1 ≤ times n ds
  unfolding times
  times-at n stage [] at = absurd at
  times-at n stage (d ∷ ds) (inl is) =
      let same : n ≡ d.0 = sym (ap (λ (p : Draw T). p.0) is) in let yes = eq-eqb n d.0 same in rw yes (omega arith)
  times-at n stage (d ∷ ds) (inr more) = let ih = times-at n stage ds more in omega (arith, ih)

  pub new-from_times : (n : ℕ) (ds : List (Draw T)) → times n ds ≡ 0 → IsNew n ds
  unfolding times
  new-from_times n [] z = tt
  new-from_times n (d ∷ ds) z = (
    (λ same. let yes = eq-eqb n d.0 (sym same) in let one : ◌≡◌ {A = ℕ} (if n == d.0 then 1 else 0) 1 = rw yes refl in absurd (omega (arith, one, z))),
    new-from_times n ds (omega (arith, z)),
  )

  pub at-from_times : (n : ℕ) (ds : List (Draw T)) → 1 ≤ times n ds → (stage : Stage T) × IsAt ds n stage
  unfolding times
  at-from_times n [] h = absurd (omega arith)
  at-from_times n (d ∷ ds) h = elim (eqb_tells n d.0) [
    | inl e ↦ (d.1, inl (λ i. (sym e.1 i, d.1)))
    | inr e ↦ let none : ◌≡◌ {A = ℕ} (if n == d.0 then 1 else 0) 0 = rw e.0 refl in let r = at-from_times n ds (omega (arith, none, h)) in (r.0, inr r.1)
  ]

  -- ---- stages

  pub at-push : (ds : List (Draw T)) (d : Draw T) (n : ℕ) (stage : Stage T) → IsAt (ds ++ d ∷ []) n stage → IsAt ds n stage ⊎ (d ≡ (n, stage))
  at-push [] d n stage (inl is) = inr is
  at-push [] d n stage (inr none) = absurd none
  at-push (e ∷ ds) d n stage (inl is) = inl (inl is)
  at-push (e ∷ ds) d n stage (inr more) = elim (at-push ds d n stage more) [ inl a ↦ inl (inr a) | inr b ↦ inr b ]

  pub at-append : (ds es : List (Draw T)) (n : ℕ) (stage : Stage T) → IsAt (ds ++ es) n stage → IsAt ds n stage ⊎ IsAt es n stage
  at-append [] es n stage at = inr at
  at-append (d ∷ ds) es n stage (inl is) = inl (inl is)
  at-append (d ∷ ds) es n stage (inr more) = elim (at-append ds es n stage more) [ inl a ↦ inl (inr a) | inr b ↦ inr b ]

  -- where a number of a list with one moved number comes from
  abbrev FromMoved : ℕ → Stage T → List (Draw T) → ℕ → Stage T → Type 0
  FromMoved place to ds n stage = ((n ≡ place) × (stage ≡ to)) ⊎ ((n ≢ place) × IsAt ds n stage)

  later_in : (place : ℕ) (to : Stage T) (d : Draw T) (ds : List (Draw T)) (n : ℕ) (stage : Stage T) → FromMoved place to ds n stage → FromMoved place to (d ∷ ds) n stage
  later_in place to d ds n stage (inl a) = inl a
  later_in place to d ds n stage (inr b) = inr (b.0, inr b.1)

  moved_head : (place : ℕ) (to : Stage T) (d : Draw T) (ds : List (Draw T)) (n : ℕ) (stage : Stage T) (rest : Type 0) → (rest → FromMoved place to ds n stage) →
      ◌≡◌ {A = Draw T} (place, to) (n, stage) ⊎ rest → FromMoved place to (d ∷ ds) n stage
  moved_head place to d ds n stage rest go (inl is) = inl ((λ i. (sym is i).0), (λ i. (sym is i).1))
  moved_head place to d ds n stage rest go (inr more) = later_in place to d ds n stage (go more)

  kept_head : (place : ℕ) (to : Stage T) (d : Draw T) (ds : List (Draw T)) (n : ℕ) (stage : Stage T) (rest : Type 0) → (rest → FromMoved place to ds n stage) → place ≢ d.0 →
      (d ≡ (n, stage)) ⊎ rest → FromMoved place to (d ∷ ds) n stage
  kept_head place to d ds n stage rest go ne (inl is) = inr ((λ same. ne (sym same ∙ (λ i. (sym is i).0))), inl is)
  kept_head place to d ds n stage rest go ne (inr more) = later_in place to d ds n stage (go more)

  pub at-moved : (place : ℕ) (to : Stage T) (ds : List (Draw T)) (n : ℕ) (stage : Stage T) → IsAt (moved place to ds) n stage →
      ((n ≡ place) × (stage ≡ to)) ⊎ ((n ≢ place) × IsAt ds n stage)
  unfolding moved
  at-moved place to [] n stage at = absurd at
  at-moved place to (d ∷ ds) n stage at = elim (eqb_tells place d.0) [
    | inl e ↦ moved_head place to d ds n stage (IsAt (moved place to ds) n stage) (λ m. at-moved place to ds n stage m) (rw e.0 at at)
    | inr e ↦ kept_head place to d ds n stage (IsAt (moved place to ds) n stage) (λ m. at-moved place to ds n stage m) e.1 (rw e.0 at at)
  ]

  -- a number that was drawn moves to its new stage
  pub moved-at : (place : ℕ) (from to : Stage T) (ds : List (Draw T)) → IsAt ds place from → IsAt (moved place to ds) place to
  unfolding moved
  moved-at place from to [] at = absurd at
  moved-at place from to (d ∷ ds) (inl is) =
      let yes = eq-eqb place d.0 (sym (ap (λ (p : Draw T). p.0) is)) in rw yes (inl refl)
  moved-at place from to (d ∷ ds) (inr more) = inr (moved-at place from to ds more)

  pub moved-again : (place : ℕ) (first second : Stage T) (ds : List (Draw T)) → moved place second (moved place first ds) ≡ moved place second ds
  unfolding moved
  moved-again place first second [] = refl
  moved-again place first second (d ∷ ds) =
      let ih = moved-again place first second ds in
      elim (eqb_tells place d.0) [
        | inl e ↦ let self = eq-eqb place place refl in rw (e.0, self) (ap (λ l. (place, second) ∷ l) ih)
        | inr e ↦ rw (e.0, e.0) (ap (λ l. d ∷ l) ih)
      ]

  given-at : (ds : List (Draw T)) (n : ℕ) (stage : Stage T) → AllGiven ds → IsAt ds n stage → IsGiven stage
  given-at [] n stage g at = absurd at
  given-at (d ∷ ds) n stage g (inl is) = subst (λ (p : Draw T). IsGiven p.1) is g.0
  given-at (d ∷ ds) n stage g (inr more) = given-at ds n stage g.1 more

  item_given : (stage : Stage T) → IsGiven stage → (item : T) × (stage ≡ Given item)
  item_given (Given item) g = (item, refl)
  item_given Drawn g = absurd g
  item_given Open g = absurd g
  item_given Taken g = absurd g

  pub given-from_times : (n : ℕ) (ds : List (Draw T)) → AllGiven ds → 1 ≤ times n ds → (item : T) × IsAt ds n (Given item)
  given-from_times n ds g h =
      let a = at-from_times n ds h in
      let b = item_given a.0 (given-at ds n a.0 g a.1) in
      (b.0, subst (IsAt ds n) b.1 a.1)

  pub given-append : (ds es : List (Draw T)) → AllGiven ds → AllGiven es → AllGiven (ds ++ es)
  given-append [] es a b = b
  given-append (d ∷ ds) es a b = (a.0, given-append ds es a.1 b)
