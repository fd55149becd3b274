-- The numbers that a pass drew, each with how far the pass is with the item there.
use Rattle.std.specs.List.{AllByRecursion}
use Rattle.std.specs.Prelude.{◌≡◌, ◌≢◌, ℕ, ◌+◌, ◌==◌, ◌⊎◌, List, [], ◌∷◌, if◌then◌else◌}
use Rattle.work_claims.specs.declared.view.Stage.{Stage}
use Rattle.work_claims.specs.declared.view.Stage.TheVariants.{Drawn, Open, Taken, Given}

-- a number, and how far the pass is with it
abbrev pub Draw : Type 0 → Type 0
Draw T = ℕ × Stage T

module _ {T : Type 0} where
  -- how often a number stands among those drawn
  unfoldable pub times : ℕ → List (Draw T) → ℕ
  times n [] = 0
  times n (d ∷ ds) = (if n == d.0 then 1 else 0) + times n ds

  -- a number was drawn, and is at this stage
  abbrev pub IsAt : List (Draw T) → ℕ → Stage T → Type 0
  IsAt [] n stage = ⊥
  IsAt (d ∷ ds) n stage = (d ≡ (n, stage)) ⊎ IsAt ds n stage

  -- a number moves on to another stage
  unfoldable pub moved : ℕ → Stage T → List (Draw T) → List (Draw T)
  moved n stage [] = []
  moved n stage (d ∷ ds) = (if n == d.0 then (n, stage) else d) ∷ moved n stage ds

  -- an item was given back
  abbrev pub IsGiven : Stage T → Type 0
  IsGiven (Given item) = Unit {0}
  IsGiven Drawn = ⊥
  IsGiven Open = ⊥
  IsGiven Taken = ⊥

  -- at every number that was drawn an item was given back
  abbrev pub AllGiven : List (Draw T) → Type 0
  AllGiven ds = AllByRecursion (λ d. IsGiven d.1) ds

  -- a number is not among those drawn
  abbrev pub IsNew : ℕ → List (Draw T) → Type 0
  IsNew n ds = AllByRecursion (λ d. d.0 ≢ n) ds
