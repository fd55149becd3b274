-- What stands under each number, as at each node.
use Rattle.std.specs.Prelude.{ℕ, ◌==◌, List, [], ◌∷◌, ◌++◌, filter, map, slice_index_or, slice_set}
use Rattle.std.specs.List.{flat_map, range_with_len}

-- the items under a number, in their order
abbrev pub under : {A : Type 0} → (A → ℕ) → ℕ → List A → List A
under number_of n items = filter (λ item. number_of item == n) items

-- those under each of so many numbers
abbrev pub grouped : {A : Type 0} → (A → ℕ) → ℕ → List A → List (List A)
grouped number_of count items = map (λ n. under number_of n items) (range_with_len 0 count)

-- one more item under a number
abbrev pub with_item : {A : Type 0} → ℕ → A → List (List A) → List (List A)
with_item n item groups = slice_set groups n (slice_index_or groups n [] ++ item ∷ [])

-- those under all numbers, one number after the other
abbrev pub joined : {A : Type 0} → List (List A) → List A
joined groups = flat_map (λ there. there) groups
