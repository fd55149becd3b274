-- Pending events: pairs of a key and a load, in the order of their keys.
use Rattle.std.specs.List.{AllByRecursion}
use Rattle.std.specs.Prelude.{◌≢◌, ◌≤◌, List, [], ◌∷◌, Option, Some, None}
use Rattle.sim_base.specs.declared.key.Key.{Key}
use Rattle.sim_base.specs.declared.time.Time.{Time}

module _ {Load : Type 0} where
  -- the key of an event
  abbrev pub key_of : Key × Load → Key
  key_of event = event.0

  -- no event has this key
  abbrev pub IsNew : Key → List (Key × Load) → Type 0
  IsNew key events = AllByRecursion (λ event. event.0 ≢ key) events

  -- no event comes before an end
  abbrev pub NoneBelow : Time → List (Key × Load) → Type 0
  NoneBelow end events = AllByRecursion (λ event. end.0 ≤ event.0.time.0) events

  -- the key of the first event
  abbrev pub first_key : List (Key × Load) → Option Key
  first_key [] = None
  first_key (event ∷ events) = Some event.0
