-- The events that a group holds, seen as those of the rounds.
use Rattle.std.specs.List.{AllByRecursion}
use Rattle.std.specs.Prelude.{◌≢◌, List, [], ◌∷◌, Option, None, Some}
use Rattle.sim_base.specs.declared.key.Key.{Key}
use Rattle.round_core.specs.World.{Event}

-- a key and a load of a queue, as an event
abbrev pub pending_event : {T Load : Type 0} → (T → Load) → Key × T → Event Load
pending_event seen held = record { key = held.0; load = seen held.1 }

-- no event of a list has this key
abbrev pub HasNoKey : {Load : Type 0} → Key → List (Event Load) → Type 0
HasNoKey key events = AllByRecursion (λ e. e.key ≢ key) events

-- events whose keys differ from one another and from those of other events
abbrev pub AreNew : {Load : Type 0} → List (Event Load) → List (Event Load) → Type 0
AreNew [] others = Unit {0}
AreNew (e ∷ events) others = HasNoKey e.key others × HasNoKey e.key events × AreNew events others

-- the key of the first event
abbrev pub first_key : {Load : Type 0} → List (Event Load) → Option Key
first_key [] = None
first_key (e ∷ events) = Some e.key
