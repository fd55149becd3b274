-- The rule that the counter, the places and all passes' views of a row keep. Word 0 is the counter, and slot n holds the
-- item of place n, or nothing while a pass has it.
use Rattle.std.specs.Prelude.{◌≡◌, ℕ, ◌+◌, ◌<◌, ◌≤◌, ◌^◌, true, false, List, [], ◌∷◌, length, sum_by, nat_lt, if◌then◌else◌, Option, Some, None}
use mathlib.Core.Option.{some, none}
use mathlib.Core.Option as logic
use lib.ListN.{get_elem?}
use Rattle.atomic_table.specs.Table.{State}
use Rattle.work_claims.specs.Drawn.{times, IsAt}
use Rattle.work_claims.specs.declared.view.Stage.{Stage}
use Rattle.work_claims.specs.declared.view.Stage.TheVariants.{Drawn, Open, Taken, Given}
use Rattle.work_claims.specs.declared.view.Opening.{Opening}
use Rattle.work_claims.specs.declared.view.View.{View}

-- 1 for a number below the counter and below the length
abbrev pub once_below : ℕ → ℕ → ℕ → ℕ
once_below n counter len = if nat_lt n counter then (if nat_lt n len then 1 else 0) else 0

module _ {T : Type 0} where
  abbrev pub items_of : Opening T → List T
  items_of o = o.items.value.items

  -- the view of the first pass, before it deals out the others
  abbrev pub first_view : Opening T → View T
  first_view o = record { items = items_of o; passes = o.passes; keeps = true; parts = o.passes; past = false; drawn = [] }

  -- what is added up over all views: the parts, those that drew past the end, the keepers of the list, and how often a
  -- number was drawn
  abbrev pub parts_of : View T → ℕ
  parts_of v = v.parts

  abbrev pub past_parts : View T → ℕ
  past_parts v = if v.past then v.parts else 0

  abbrev pub keepers : View T → ℕ
  keepers v = if v.keeps then 1 else 0

  abbrev pub times_of : ℕ → View T → ℕ
  times_of n v = times n v.drawn

  -- what lies at a place by the stage of its number
  abbrev pub Lies : List T → ℕ → Stage T → logic.Option (logic.Option (Option T)) → Type 0
  Lies items n Drawn home = (item : T) × (get_elem? items n ≡ some item) × (home ≡ some (some (Some item)))
  Lies items n Open home = home ≡ some none
  Lies items n Taken home = home ≡ some (some None)
  Lies items n (Given item) home = home ≡ some (some (Some item))

  -- what holds of one view: a view with no part has drawn nothing and keeps nothing, one with parts knows the row, one that
  -- drew past the end found the counter there, and at each place that it drew lies what its stage says
  pub record FitsRow (o : Opening T) (counter : ℕ) (homes : List (logic.Option (Option T))) (v : View T) : Type 0 where
    pub idle : v.parts ≡ 0 → (v.drawn ≡ []) × (v.keeps ≡ false)
    pub made : 0 < v.parts → (v.items ≡ items_of o) × (v.passes ≡ o.passes)
    pub past : v.past ≡ true → length (items_of o) ≤ counter
    pub held : (n : ℕ) (stage : Stage T) → IsAt v.drawn n stage → Lies (items_of o) n stage (get_elem? homes n)

  -- Every number below the counter and below the length stands in exactly one view, a place whose number isn't drawn has
  -- the item that the row was made with, and the counter is past the length by no more than the parts that drew past it.
  pub record KeepsRow (o : Opening T) (s : State (Option T) (View T)) : Type 0 where
    pub counter : ℕ
    pub words : s.words ≡ counter ∷ []
    pub homes : length s.homes ≡ length (items_of o)
    pub short : length (items_of o) < 2 ^ 31
    pub few : o.passes ≤ 64
    pub parts : sum_by parts_of s.views ≡ o.passes
    pub keeper : sum_by keepers s.views ≡ 1
    pub end : counter ≤ length (items_of o) + sum_by past_parts s.views
    pub once : (n : ℕ) → sum_by (times_of n) s.views ≡ once_below n counter (length (items_of o))
    pub left : (n : ℕ) (item : T) → counter ≤ n → get_elem? (items_of o) n ≡ some item → get_elem? s.homes n ≡ some (some (Some item))
    pub each : (i : ℕ) (v : View T) → get_elem? s.views i ≡ some v → FitsRow o counter s.homes v
