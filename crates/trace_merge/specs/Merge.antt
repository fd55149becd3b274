-- The lines of groups, merged into one list.
use Rattle.std.specs.List.{AllByRecursion}
use Rattle.std.specs.Prelude.{ℕ, ◌≡◌, ◌≢◌, ◌⊎◌, ◌↔◌, Bool, true, false, List, [], ◌∷◌, ◌++◌, Option, Some, None}
use Rattle.sim_base.specs.declared.key.Key.{Key}
use Rattle.sim_base.specs.KeyOrder.{before, earlier, numbers}
use Rattle.pkt_face.specs.declared.line.Line.{Line}
use Rattle.round_core.specs.Parts.{IsIn}

-- where a line stands: at its key, and there by its index
abbrev pub place : {P : Type 0} → Line P → List ℕ
place l = numbers l.key ++ l.index ∷ []

-- each line comes before all that follow
abbrev pub LinesRise : {P : Type 0} → List (Line P) → Type 0
LinesRise [] = Unit {0}
LinesRise (x ∷ xs) = AllByRecursion (λ y. earlier (place x) (place y) ≡ true) xs × LinesRise xs

-- a line stands in one of some lists
abbrev pub IsInSome : {P : Type 0} → Line P → List (List (Line P)) → Type 0
IsInSome l [] = ⊥
IsInSome l (g ∷ gs) = IsIn l g ⊎ IsInSome l gs

-- lists in which each line comes before all that follow, no two of which have a line at one place
abbrev pub AreGroups : {P : Type 0} → List (List (Line P)) → Type 0
AreGroups [] = Unit {0}
AreGroups {P} (g ∷ gs) = LinesRise g × ((x y : Line P) → IsIn x g → IsInSome y gs → place x ≢ place y) × AreGroups gs

-- whether a line comes before a key, where one is given
abbrev pub is_below : {P : Type 0} → Option Key → Line P → Bool
is_below None l = true
is_below (Some limit) l = before l.key limit

-- the lines of all groups in their order, or those of them that come before a key
pub record IsMerged {P : Type 0} (groups : List (List (Line P))) (limit : Option Key) (lines : List (Line P)) : Type 0 where
  pub rise : LinesRise lines
  pub members : (l : Line P) → IsIn l lines ↔ (IsInSome l groups × (is_below limit l ≡ true))

-- the lines of two lists in their order
pub record AreMergedTwo {P : Type 0} (first second lines : List (Line P)) : Type 0 where
  pub rise : LinesRise lines
  pub members : (l : Line P) → IsIn l lines ↔ (IsIn l first ⊎ IsIn l second)

-- whether the first line of one list comes before that of another
abbrev pub leads : {P : Type 0} → List (Line P) → List (Line P) → Bool
leads [] ys = false
leads (x ∷ xs) [] = true
leads (x ∷ xs) (y ∷ ys) = earlier (place x) (place y)

-- of two lists or more, the first two are merged and stand behind the others; fewer stay
abbrev pub HasMergedFront : {P : Type 0} → List (List (Line P)) → List (List (Line P)) → Type 0
HasMergedFront {P} (first ∷ second ∷ others) new = (merged : List (Line P)) × AreMergedTwo first second merged × (new ≡ others ++ merged ∷ [])
HasMergedFront old new = new ≡ old
