-- How a heap of entries, beside the keys at their places, stands for a list in the order of keys.
use Rattle.std.specs.BinaryHeap.{IsHeap}
use Rattle.std.specs.List.{AllByRecursion, IsDistinct}
use Rattle.std.specs.Ordering.{nat_cmp, ordering_then}
use Rattle.std.specs.Prelude.{ℕ, ◌≡◌, ◌≢◌, ◌<◌, ◌≤◌, Bool, not, List, [], ◌∷◌, length, map, slice_index_or, ◌||◌}
use Rattle.std.specs.declared.cmp.Ordering.{Ordering}
use Rattle.sim_base.specs.declared.key.Key.{Key}
use Rattle.sim_base.specs.KeyOrder.{before, insert_by}
use Rattle.event_queue.specs.Pending.{key_of}
use Rattle.event_queue.specs.declared.heap.Entry.{Entry}

-- the items of a list, put into their places one by one
unfoldable pub in_order : {A : Type 0} → (A → Key) → List A → List A
in_order key [] = []
in_order key (x ∷ xs) = insert_by key x (in_order key xs)

-- neither of two keys comes before the other
abbrev pub ties : Key → Key → Bool
ties a b = not (before a b || before b a)

-- the order of two keys, number by number
abbrev pub key_cmp : Key → Key → Ordering
key_cmp a b =
    ordering_then (nat_cmp a.time.0 b.time.0)
    (ordering_then (nat_cmp a.node.0 b.node.0)
    (ordering_then (nat_cmp a.sent.0 b.sent.0)
    (ordering_then (nat_cmp a.by.0 b.by.0) (nat_cmp a.count b.count))))

-- what a place holds that has no key
abbrev pub no_key : Key
no_key = record { time = record { 0 = 0 }; node = record { 0 = 0 }; sent = record { 0 = 0 }; by = record { 0 = 0 }; count = 0 }

abbrev pub key_at : List Key → ℕ → Key
key_at keys place = slice_index_or keys place no_key

-- the key now stands at the place, and the others where they stood
pub record IsNoted (old new : List Key) (key : Key) (place : ℕ) : Type 0 where
  pub there : key_at new place ≡ key
  pub others : (p : ℕ) → p ≢ place → p < length old → key_at new p ≡ key_at old p
  pub inside : place < length new
  pub longer : length old ≤ length new

module _ (keys : List Key) where
  -- the entry's place has a key, whose time the entry has
  abbrev pub IsTimed : Entry → Type 0
  IsTimed e = (e.place < length keys) × (e.time ≡ (key_at keys e.place).time.0)

  -- the key of an entry, and its place
  abbrev pub entry_of : Entry → Key × ℕ
  entry_of e = (key_at keys e.place, e.place)

  -- a heap's entries in the order of their keys
  abbrev pub entries_in_order : List Entry → List (Key × ℕ)
  entries_in_order entries = in_order key_of (map entry_of entries)

  -- the heap's order, whose greatest entry has the least key
  abbrev pub entry_cmp : Entry → Entry → Ordering
  entry_cmp a b = key_cmp (key_at keys b.place) (key_at keys a.place)

  abbrev pub tied : Entry → Entry → Bool
  tied a b = ties (key_at keys a.place) (key_at keys b.place)

  -- the entries are a heap, each has its key's time, and no two have the same key
  pub record IsHeapOfKeys (entries : List Entry) : Type 0 where
    pub heap : IsHeap entry_cmp entries
    pub timed : AllByRecursion IsTimed entries
    pub distinct : IsDistinct tied entries
