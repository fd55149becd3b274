-- What each step on a row's table tells the pass that takes it.
use Rattle.std.specs.Prelude.{◌≡◌, ℕ, ◌+◌, ◌-◌, ◌<◌, ◌≤◌, ◌||◌, true, false, List, [], ◌∷◌, ◌++◌, length, Option, Some, None}
use mathlib.Core.Option.{some}
use lib.ListN.{get_elem?}
use Rattle.atomic_table.specs.Table.{Me, Step}
use Rattle.work_claims.specs.Drawn.{Draw, IsAt, IsNew, moved}
use Rattle.work_claims.specs.declared.view.Stage.{Stage}
use Rattle.work_claims.specs.declared.view.Stage.TheVariants.{Drawn, Open, Taken, Given}
use Rattle.work_claims.specs.declared.view.View.{View}

-- a pass's view, and the places that are open to it
abbrev pub Seated : Type 0 → Type 0
Seated T = Me (Option T) (View T)

module _ {T : Type 0} where
  abbrev pub with_drawn : List (Draw T) → View T → View T
  with_drawn ds v = record { items = v.items; passes = v.passes; keeps = v.keeps; parts = v.parts; past = v.past; drawn = ds }

  abbrev pub with_past : View T → View T
  with_past v = record { items = v.items; passes = v.passes; keeps = v.keeps; parts = v.parts; past = true; drawn = v.drawn }

  -- a number in the row is new to the pass, which has drawn no more numbers than come before it, and joins its numbers; any
  -- other shows that the row is drawn out
  pub record DrawsNumber (st : Step (Option T)) (m : Seated T) (found : ℕ) (m' : Seated T) : Type 0 where
    pub within : found < length m.0.items → IsNew found m.0.drawn × (length m.0.drawn ≤ found) × (m' ≡ (with_drawn (m.0.drawn ++ (found, Drawn) ∷ []) m.0, m.1))
    pub beyond : length m.0.items ≤ found → m' ≡ (with_past m.0, m.1)

  -- the place is open, with the item that the row was made with, or with nothing where the pass has that item
  pub record Opened (place : ℕ) (m m' : Seated T) : Type 0 where
    pub lay : Option T
    pub after : m' ≡ (with_drawn (moved place Open m.0.drawn) m.0, (place, lay) ∷ m.1)
    pub drawn : IsAt m.0.drawn place Drawn → (item : T) × (get_elem? m.0.items place ≡ some item) × (lay ≡ Some item)
    pub taken : IsAt m.0.drawn place Taken → lay ≡ None

  abbrev pub OpensPlace : ℕ → Step (Option T) → Seated T → ℕ → Seated T → Type 0
  OpensPlace place st m found m' = Opened place m m'

  -- the stage of a number at whose place this lies after the call
  abbrev pub stage_by : Option T → Stage T
  stage_by None = Taken
  stage_by (Some item) = Given item

  -- the place is closed again
  abbrev pub Shut : ℕ → Seated T → Seated T → Type 0
  Shut place m m' = (lies : Option T) → m.1 ≡ (place, lies) ∷ [] → m' ≡ (with_drawn (moved place (stage_by lies) m.0.drawn) m.0, [])

  abbrev pub ClosesPlace : ℕ → Step (Option T) → Seated T → ℕ → Seated T → Type 0
  ClosesPlace place st m found m' = Shut place m m'

  -- a view with parts to deal out, after one of them went to a new pass
  abbrev pub dealing_view : View T → View T
  dealing_view v = record { items = v.items; passes = v.passes; keeps = v.keeps; parts = v.parts - 1; past = v.past; drawn = v.drawn }

  abbrev pub dealt_view : View T → View T
  dealt_view v = record { items = v.items; passes = v.passes; keeps = false; parts = 1; past = false; drawn = [] }

  -- two views made one, and what is left of the second
  abbrev pub joined_view : View T → View T → View T
  joined_view v w = record { items = v.items; passes = v.passes; keeps = v.keeps || w.keeps; parts = v.parts + w.parts; past = v.past || w.past; drawn = w.drawn ++ v.drawn }

  abbrev pub spent_view : View T
  spent_view = record { items = []; passes = 0; keeps = false; parts = 0; past = false; drawn = [] }
