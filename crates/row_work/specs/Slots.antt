-- Items in slots by their numbers.
use Rattle.std.specs.Prelude.{◌≡◌, ℕ, ◌<◌, List, Option, Some, length, slice_get}

module _ {T : Type 0} where
  -- each slot has an item
  abbrev pub IsFilled : List (Option T) → Type 0
  IsFilled slots = (n : ℕ) → n < length slots → (item : T) × (slice_get slots n ≡ Some (Some item))

  -- at each place of an order, the item of the slot that it names
  abbrev pub AreAt : List ℕ → List (Option T) → List T → Type 0
  AreAt order slots items = (k n : ℕ) (item : T) → slice_get order k ≡ Some n → slice_get slots n ≡ Some (Some item) → slice_get items k ≡ Some item

  -- each item of a row lies in the slot that an order names
  abbrev pub LieAt : List ℕ → List T → List (Option T) → Type 0
  LieAt order items slots = (k n : ℕ) (item : T) → slice_get order k ≡ Some n → slice_get items k ≡ Some item → slice_get slots n ≡ Some (Some item)
