-- The parts that a packet is made of: what becomes of them where bytes are cut and packets are joined.
use Rattle.std.specs.Prelude.{ℕ, ◌≡◌, ◌+◌, ◌-◌, ◌<◌, ◌==◌, ◌&&◌, min, nat_lt, Bool, false, if◌then◌else◌, List, [], ◌∷◌, length, sum_by, filter, slice_get}
use Rattle.std.specs.Option.{option_map_or}
use Rattle.sim_base.specs.declared.item.Item.{Item}
use Rattle.sim_base.specs.declared.item.Kind.{Kind}
use Rattle.sim_base.specs.Kind.{same_kind}

-- how many bytes are left of an item
abbrev pub left : Item → ℕ
left i = i.size - i.cut_front - i.cut_back

-- something is left of an item
abbrev pub IsLeft : Item → Type 0
IsLeft i = i.cut_front + i.cut_back < i.size

abbrev pub is_left : Item → Bool
is_left i = nat_lt 0 (left i)

abbrev pub total_left : List Item → ℕ
total_left items = sum_by left items

abbrev pub whole_item : Kind → ℕ → Item
whole_item kind n = record { kind = kind; size = n; cut_front = 0; cut_back = 0 }

-- one whole item of n bytes, or none where n is 0
abbrev pub whole : Kind → ℕ → List Item
whole kind n = if n == 0 then [] else whole_item kind n ∷ []

-- an item is whole, of this kind and of n bytes, and n is not 0
abbrev pub is_whole : Kind → ℕ → Item → Bool
is_whole kind n i =
    nat_lt 0 n && (same_kind i.kind kind && (i.size == n && (i.cut_front == 0 && i.cut_back == 0)))

abbrev pub first_is_whole : Kind → ℕ → List Item → Bool
first_is_whole kind n items = option_map_or (is_whole kind n) (slice_get items 0) false

abbrev pub last_is_whole : Kind → ℕ → List Item → Bool
last_is_whole kind n items = option_map_or (is_whole kind n) (slice_get items (length items - 1)) false

-- an item of which only the bytes from a up to b stay
abbrev pub cut_item : ℕ → ℕ → Item → Item
cut_item a b i = record i { cut_front = i.cut_front + min a (left i); cut_back = i.cut_back + (left i - b) }

-- the same for items that stand one behind the other
abbrev pub cut_each : ℕ → ℕ → List Item → List Item
cut_each a b [] = []
cut_each a b (i ∷ items) = cut_item a b i ∷ cut_each (a - left i) (b - left i) items

-- the items on the bytes from a up to b: one with no byte there vanishes
abbrev pub cut_items : ℕ → ℕ → List Item → List Item
cut_items a b items = filter is_left (cut_each a b items)

-- the second item goes on inside the first one's part exactly where the first one ends
abbrev pub goes_on : Item → Item → Bool
goes_on i j = same_kind i.kind j.kind && (i.size == j.size && i.size - i.cut_back == j.cut_front)

-- the items of two packets, one behind the other: two halves of one part become one item
abbrev pub join_items : List Item → List Item → List Item
join_items [] later = later
join_items (i ∷ []) [] = i ∷ []
join_items (i ∷ []) (j ∷ later) = if goes_on i j then record i { cut_back = j.cut_back } ∷ later else i ∷ j ∷ later
join_items (i ∷ k ∷ items) later = i ∷ join_items (k ∷ items) later

-- no item goes on in the next one
abbrev pub StandApart : List Item → Type 0
StandApart [] = Unit
StandApart (i ∷ []) = Unit
StandApart (i ∷ j ∷ items) = (goes_on i j ≡ false) × StandApart (j ∷ items)
