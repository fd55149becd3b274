-- The lines of firings, in the order of their keys and indices.
use Rattle.std.specs.List.{AllByRecursion}
use Rattle.std.specs.Prelude.{◌≡◌, ℕ, suc, Bool, true, List, [], ◌∷◌, ◌++◌, flat_map, ◌↔◌}
use Rattle.sim_base.specs.declared.key.Key.{Key}
use Rattle.sim_base.specs.KeyOrder.{earlier, numbers}
use Rattle.round_core.specs.Parts.{IsIn, Part}
use Rattle.round_core.specs.World.{Firing}

-- a line, with its place among those of its firing
pub record Line (Text : Type 0) : Type 0 where
  pub key : Key
  pub index : ℕ
  pub text : Text

-- the texts of a firing as lines, numbered from an index on
abbrev pub numbered : {Text : Type 0} → Key → ℕ → List Text → List (Line Text)
numbered key index [] = []
numbered key index (text ∷ texts) = record { key = key; index = index; text = text } ∷ numbered key (suc index) texts

-- the lines of firings
abbrev pub lines_of : {Text : Type 0} → List (Firing Text) → List (Line Text)
lines_of fired = flat_map (λ f. numbered f.key 0 f.texts) fired

-- whether a line comes before another: by their keys, and then by their indices
unfoldable pub line_before : {Text : Type 0} → Line Text → Line Text → Bool
line_before a b = earlier (numbers a.key ++ a.index ∷ []) (numbers b.key ++ b.index ∷ [])

-- each line comes before all that follow
abbrev pub LinesRise : {Text : Type 0} → List (Line Text) → Type 0
LinesRise [] = Unit {0}
LinesRise (x ∷ xs) = AllByRecursion (λ y. line_before x y ≡ true) xs × LinesRise xs

-- the lines of all parts, in the order of their keys and indices
pub record AreMergedLines {Node Lan Load Text : Type 0} (parts : ℕ → Part Node Lan Load Text) (lines : List (Line Text)) : Type 0 where
  pub rise : LinesRise lines
  pub members : (l : Line Text) → IsIn l lines ↔ ((g : ℕ) × IsIn l (lines_of (parts g).world.fired))
