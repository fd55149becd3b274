-- The first place of a list that passes a test.
use Rattle.std.proofs.Common.{◌≡◌, ℕ, ◌<◌, Bool, true, false, List, length, map, get_or, position, All, Some, None, refl, ap, ◌∙◌, arith, inl, inr}
use mathlib.Core.Path.{fun_ext}
use Rattle.std.proofs.lemmas.Bool.{lt-ltb, le-ltb, cases_lt}
use Rattle.std.proofs.lemmas.List.{length-map, get_or-map}
use Rattle.std.proofs.lemmas.List.Sums.{position_or_len_is, fails_before_first, passes_at_first}
use Rattle.std.specs.List.{position_or_len}

pub position-some : {X : Type 0} (p : X → Bool) (xs : List X) (i : ℕ) (d : X) → i < length xs →
    ((k : ℕ) → k < i → p (get_or xs k d) ≡ false) → p (get_or xs i d) ≡ true → position p xs ≡ Some i
position-some p xs i d lt fails passes =
    let e = position_or_len_is p xs i d (omega arith) fails (λ _. passes) in rw e (let t = lt-ltb i (length xs) lt in rw t refl)

pub position-none : {X : Type 0} (p : X → Bool) (xs : List X) (d : X) → ((k : ℕ) → k < length xs → p (get_or xs k d) ≡ false) →
    position p xs ≡ None
position-none p xs d fails =
    let e = position_or_len_is p xs (length xs) d (omega arith) fails (λ lt. absurd (omega arith)) in
    rw e (let t = le-ltb (length xs) (length xs) (omega arith) in rw t refl)

pub none-position : {X : Type 0} (p : X → Bool) (xs : List X) → position p xs ≡ None → All (λ x. p x ≡ false) xs
none-position p xs none k d lt = elim (cases_lt (position_or_len p xs) (length xs)) [
  | inl less ↦ absurd (let t = lt-ltb (position_or_len p xs) (length xs) less in let h : Some (position_or_len p xs) ≡ None = rw t at none in cc)
  | inr more ↦ fails_before_first p xs k d (omega arith)
]

-- a test of what a function gives
pub position-map : {X Y : Type 0} (p : Y → Bool) (f : X → Y) (xs : List X) (d : X) → position p (map f xs) ≡ position (λ x. p (f x)) xs
position-map p f xs d = elim (cases_lt n (length xs)) [
  | inl less ↦ position-some p (map f xs) n (f d) (let l = length-map xs f in omega arith)
      (λ k lt. ap p (get_or-map f xs k d (f d) (omega arith)) ∙ fails_before_first (λ x. p (f x)) xs k d lt)
      (ap p (get_or-map f xs n d (f d) less) ∙ passes_at_first (λ x. p (f x)) xs d less)
      ∙ (let t = lt-ltb n (length xs) less in rw t refl)
  | inr more ↦ position-none p (map f xs) (f d) (λ k lt. let l = length-map xs f in
      ap p (get_or-map f xs k d (f d) (omega arith)) ∙ fails_before_first (λ x. p (f x)) xs k d (omega arith))
      ∙ (let t = le-ltb n (length xs) more in rw t refl)
]
  where
    n : ℕ
    n = position_or_len (λ x. p (f x)) xs

pub position-same : {X : Type 0} (p q : X → Bool) (xs : List X) → ((x : X) → p x ≡ q x) → position p xs ≡ position q xs
position-same p q xs same = ap (λ t. position t xs) (fun_ext same)
