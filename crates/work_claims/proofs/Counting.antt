-- How many numbers a pass drew: no more than there are below the counter, since it drew each once.
use Rattle.std.proofs.Common.{◌≡◌, ℕ, zero, suc, ◌+◌, ◌<◌, ◌≤◌, ◌==◌, List, [], ◌∷◌, length, arith, nat_lt, eq-eqb, if◌then◌else◌, refl, inl, inr}
use Rattle.std.proofs.lemmas.Bool.{cases_lt}
use Rattle.std.proofs.lemmas.Bool.Decides.{nat_tests}
use Rattle.work_claims.specs.Drawn.{Draw, times}

below-more : (x c : ℕ) → ◌≡◌ {A = ℕ} (if nat_lt x (suc c) then 1 else 0) ((if nat_lt x c then 1 else 0) + (if c == x then 1 else 0))
below-more x c = grind (arith, nat_tests)

below-one : (x c : ℕ) → x < c → ◌≡◌ {A = ℕ} (if nat_lt x c then 1 else 0) 1
below-one x c h = grind (arith, nat_tests)

below-none : (x : ℕ) → ◌≡◌ {A = ℕ} (if nat_lt x 0 then 1 else 0) 0
below-none x = grind (arith, nat_tests)

module _ {T : Type 0} where
  -- how often the numbers below a bound stand in a list
  times_below : ℕ → List (Draw T) → ℕ
  times_below zero ds = 0
  times_below (suc c) ds = times_below c ds + times c ds

times_below-none : (T : Type 0) (c : ℕ) → times_below {T = T} c [] ≡ 0
unfolding times_below times
times_below-none T zero = refl
times_below-none T (suc c) = let ih = times_below-none T c in omega (arith, ih)

module _ {T : Type 0} where
  times_below-cons : (c : ℕ) (d : Draw T) (ds : List (Draw T)) → times_below c (d ∷ ds) ≡ times_below c ds + (if nat_lt d.0 c then 1 else 0)
  unfolding times_below times
  times_below-cons zero d ds = let none = below-none d.0 in omega (arith, none)
  times_below-cons (suc c) d ds =
      let ih = times_below-cons c d ds in
      let more = below-more d.0 c in
      omega (arith, ih, more)

  head-low : (c : ℕ) (d : Draw T) (ds : List (Draw T)) → ((n : ℕ) → c ≤ n → times n (d ∷ ds) ≡ 0) → d.0 < c
  unfolding times
  head-low c d ds none = elim (cases_lt d.0 c) [
    | inl low ↦ low
    | inr high ↦
        let zero_times = none d.0 high in
        let yes = eq-eqb d.0 d.0 refl in
        let one : ◌≡◌ {A = ℕ} (if d.0 == d.0 then 1 else 0) 1 = rw yes refl in
        absurd (omega (arith, zero_times, one))
  ]

  rest-low : (c : ℕ) (d : Draw T) (ds : List (Draw T)) → ((n : ℕ) → c ≤ n → times n (d ∷ ds) ≡ 0) → (n : ℕ) → c ≤ n → times n ds ≡ 0
  unfolding times
  rest-low c d ds none n high = let all = none n high in omega (arith, all)

  length-low : (c : ℕ) (ds : List (Draw T)) → ((n : ℕ) → c ≤ n → times n ds ≡ 0) → length ds ≡ times_below c ds
  length-low c [] none = let zero_times = times_below-none T c in omega (arith, zero_times)
  length-low c (d ∷ ds) none =
      let ih = length-low c ds (rest-low c d ds none) in
      let one = below-one d.0 c (head-low c d ds none) in
      let all = times_below-cons c d ds in
      omega (arith, ih, one, all)

  times_below-once : (c : ℕ) (ds : List (Draw T)) → ((n : ℕ) → times n ds ≤ 1) → times_below c ds ≤ c
  unfolding times_below
  times_below-once zero ds once = omega arith
  times_below-once (suc c) ds once = let ih = times_below-once c ds once in let one = once c in omega (arith, ih, one)

  -- as many at most as there are numbers below the bound
  pub few-drawn : (c : ℕ) (ds : List (Draw T)) → ((n : ℕ) → times n ds ≤ 1) → ((n : ℕ) → c ≤ n → times n ds ≡ 0) → length ds ≤ c
  few-drawn c ds once none =
      let all = length-low c ds none in
      let most = times_below-once c ds once in
      omega (arith, all, most)
