-- A heap of entries beside their keys, before and after a change.
use Rattle.std.proofs.Common.{◌≡◌, ◌≢◌, ℕ, zero, suc, ◌<◌, true, false, List, [], ◌∷◌, ◌++◌, ◌+◌, length, get_or, map, Some, refl, sym, ap, subst, ◌∙◌, arith}
use Rattle.std.proofs.lemmas.List.{nil_from_length, get_or_default}
use Rattle.std.proofs.lemmas.List.Elements.{All-from_recursion, recursion_from_All}
use Rattle.std.proofs.lemmas.List.Sorted.{All-permutation, IsPermutation-map, IsPermutation-refl}
use Rattle.std.proofs.lemmas.Map.Keys.{IsDistinct-IsPermutation}
use Rattle.std.specs.BinaryHeap.{IsHeap, IsUpperBound}
use Rattle.std.specs.List.{AllByRecursion, IsDistinct, swap_remove}
use Rattle.std.specs.List.Sorted.{IsPermutation}
use Rattle.std.specs.Ordering.{is_lt}
use Rattle.core.proofs.slice.Lists.{again}
use Rattle.std_alloc.specs.BinaryHeap.{lt_by_cmp}
use Rattle.std_alloc.specs.BinaryHeap.Sift.{SiftsUp, RestoresHeap}
use Rattle.std_alloc.proofs.HeapSift.{empty, greatest, pushed, popped}
use Rattle.std_alloc.proofs.Permutation.{same, back, to_front, under, taken_at, every_shuffled}
use Rattle.sim_base.specs.declared.key.Key.{Key}
use Rattle.sim_base.specs.KeyOrder.{before, insert_by, IsRising}
use Rattle.event_queue.specs.Pending.{key_of, first_key, IsNew}
use Rattle.event_queue.specs.Heap.{no_key, key_at, entry_of, in_order, entries_in_order, ties, tied, key_cmp, entry_cmp, IsTimed, IsNoted, IsHeapOfKeys}
use Rattle.event_queue.specs.declared.heap.Entry.{Entry}
use Rattle.event_queue.proofs.InOrder.{ties-flip, ties-other, ties-differ, all-weaken, all-in_order, all-of_in_order, insert-first, rising-in_order, in_order-permutation}
use Rattle.event_queue.proofs.KeyOrdering.{key_cmp-before, entry_cmp-total}

-- what holds of each entry holds in any order
pub all-permutation : {A : Type 0} (P : A → Type 0) (xs ys : List A) → IsPermutation xs ys → AllByRecursion P xs → AllByRecursion P ys
all-permutation P xs ys p a = recursion_from_All P ys (All-permutation P xs ys p (All-from_recursion P xs a))

-- what holds of each entry holds at each index
pub all-at : {A : Type 0} (P : A → Type 0) (xs : List A) (i : ℕ) (d : A) → AllByRecursion P xs → i < length xs → P (get_or xs i d)
all-at P [] i d a h = absurd (omega (arith, h))
all-at P (x ∷ xs) zero d a h = a.0
all-at P (x ∷ xs) (suc i) d a h = all-at P xs i d a.1 (omega (arith, h))

-- the key that was read at a place
pub key-read : (keys : List Key) (place : ℕ) (key : Key) → key ≡ get_or keys place key → place < length keys → key_at keys place ≡ key
key-read keys place key is inside = sym (is ∙ get_or_default keys place key no_key inside)

module _ (keys : List Key) where
  all-of_map : (P : Key × ℕ → Type 0) (xs : List Entry) → AllByRecursion P (map (entry_of keys) xs) → AllByRecursion (λ x. P (entry_of keys x)) xs
  all-of_map P [] a = tt
  all-of_map P (x ∷ xs) a = (a.0, all-of_map P xs a.1)

  all-map : (P : Key × ℕ → Type 0) (xs : List Entry) → AllByRecursion (λ x. P (entry_of keys x)) xs → AllByRecursion P (map (entry_of keys) xs)
  all-map P [] a = tt
  all-map P (x ∷ xs) a = (a.0, all-map P xs a.1)

  distinct-map : (xs : List Entry) → IsDistinct (tied keys) xs → IsDistinct (λ a b. ties (key_of a) (key_of b)) (map (entry_of keys) xs)
  unfolding IsDistinct
  distinct-map [] d = tt
  distinct-map (x ∷ xs) d = (all-map (λ y. ties (key_at keys x.place) (key_of y) ≡ false) xs d.0, distinct-map xs d.1)

  distinct-permutation : (xs ys : List Entry) → IsPermutation xs ys → IsDistinct (tied keys) xs → IsDistinct (tied keys) ys
  distinct-permutation xs ys p d = IsDistinct-IsPermutation (tied keys) (λ a b. ties-flip (key_at keys a.place) (key_at keys b.place)) xs ys p d

  -- heaps of the same entries stand for the same list
  same_entries : (xs ys : List Entry) → IsPermutation xs ys → IsDistinct (tied keys) xs → entries_in_order keys xs ≡ entries_in_order keys ys
  same_entries xs ys p d =
      in_order-permutation key_of (map (entry_of keys) xs) (map (entry_of keys) ys) (IsPermutation-map (entry_of keys) xs ys p) (distinct-map xs d)
      (distinct-map ys (distinct-permutation xs ys p d))

  distinct-more : (x : Entry) (xs : List Entry) → IsNew (key_at keys x.place) (entries_in_order keys xs) → IsDistinct (tied keys) xs → IsDistinct (tied keys) (x ∷ xs)
  unfolding IsDistinct
  distinct-more x xs new d = (
    all-weaken (λ y. (key_at keys y.place) ≢ (key_at keys x.place)) (λ y. tied keys x y ≡ false) (λ y ne. ties-differ (key_at keys x.place) (key_at keys y.place) ne) xs
        (all-of_map (λ y. y.0 ≢ (key_at keys x.place)) xs (all-of_in_order key_of (λ y. y.0 ≢ (key_at keys x.place)) (map (entry_of keys) xs) new)),
    d,
  )

  pub rising-entries : (xs : List Entry) → IsHeapOfKeys keys xs → IsRising key_of (entries_in_order keys xs)
  rising-entries xs h = rising-in_order key_of (map (entry_of keys) xs) (distinct-map xs h.distinct)

  -- a heap with one entry more, under a new key
  pub heap-pushed : (x : Entry) (xs ys : List Entry) → IsHeapOfKeys keys xs → IsTimed keys x → IsNew (key_at keys x.place) (entries_in_order keys xs) →
      IsPermutation (x ∷ xs) ys → IsHeap (entry_cmp keys) ys → IsHeapOfKeys keys ys
  heap-pushed x xs ys h timed new p heap =
      record { heap = heap; timed = all-permutation (IsTimed keys) (x ∷ xs) ys p (timed, h.timed); distinct = distinct-permutation (x ∷ xs) ys p (distinct-more x xs new h.distinct) }

  pub entries-pushed : (x : Entry) (xs ys : List Entry) → IsHeapOfKeys keys xs → IsNew (key_at keys x.place) (entries_in_order keys xs) →
      IsPermutation (x ∷ xs) ys → entries_in_order keys ys ≡ insert_by key_of (entry_of keys x) (entries_in_order keys xs)
  unfolding in_order
  entries-pushed x xs ys h new p = sym (same_entries (x ∷ xs) ys p (distinct-more x xs new h.distinct))

  -- a heap without an entry
  pub heap-popped : (x : Entry) (xs ys : List Entry) → IsHeapOfKeys keys xs → IsPermutation xs (x ∷ ys) → IsHeap (entry_cmp keys) ys → IsHeapOfKeys keys ys
  unfolding IsDistinct
  heap-popped x xs ys h p heap = record { heap = heap; timed = (all-permutation (IsTimed keys) xs (x ∷ ys) p h.timed).1; distinct = (distinct-permutation xs (x ∷ ys) p h.distinct).1 }

  least_key : (x : Entry) (ys : List Entry) → AllByRecursion (λ y. tied keys x y ≡ false) ys → IsUpperBound (entry_cmp keys) x ys →
      AllByRecursion (λ y. before (key_at keys x.place) (key_at keys y.place) ≡ true) ys
  least_key x [] d u = tt
  least_key x (y ∷ ys) d u =
      (ties-other (key_at keys y.place) (key_at keys x.place) (ties-flip (key_at keys y.place) (key_at keys x.place) ∙ d.0) (sym (key_cmp-before (key_at keys y.place) (key_at keys x.place)) ∙ u.0), least_key x ys d.1 u.1)

  -- the greatest entry of the heap is the first entry
  pub entries-popped : (x : Entry) (xs ys : List Entry) → IsHeapOfKeys keys xs → IsPermutation xs (x ∷ ys) → IsUpperBound (entry_cmp keys) x ys →
      entries_in_order keys xs ≡ entry_of keys x ∷ entries_in_order keys ys
  unfolding in_order IsDistinct
  entries-popped x xs ys h p u =
      let d = distinct-permutation xs (x ∷ ys) p h.distinct in
      same_entries xs (x ∷ ys) p h.distinct
      ∙ insert-first key_of (entry_of keys x) (entries_in_order keys ys)
      (all-in_order key_of (λ y. before (key_at keys x.place) (key_of y) ≡ true) (map (entry_of keys) ys)
      (all-map (λ y. before (key_at keys x.place) (key_of y) ≡ true) ys (least_key x ys d.0 u)))

  pub heap-empty : (xs : List Entry) → xs ≡ [] → IsHeapOfKeys keys xs
  unfolding IsDistinct
  heap-empty xs e = record { heap = empty (entry_cmp-total keys) xs e; timed = rw e tt; distinct = rw e tt }

  pub no_entries : (xs : List Entry) → length xs ≡ 0 → entries_in_order keys xs ≡ []
  unfolding in_order
  no_entries xs e = ap (entries_in_order keys) (nil_from_length xs e)

  -- the entry on top
  pub top_entry : (x : Entry) (xs : List Entry) → IsHeapOfKeys keys xs → x ≡ get_or xs 0 x → IsUpperBound (entry_cmp keys) x xs
  top_entry x xs h is = greatest (entry_cmp-total keys) xs x is h.heap

  -- the top of the heap has the key of the first entry
  pub top_key : (x : Entry) (xs : List Entry) → IsHeapOfKeys keys xs → 0 < length xs → x ≡ get_or xs 0 x → IsUpperBound (entry_cmp keys) x xs →
      first_key (entries_in_order keys xs) ≡ Some (key_at keys x.place)
  top_key x [] h some is u = absurd (omega arith)
  top_key x (y ∷ ys) h some is u =
      ap first_key (entries-popped y (y ∷ ys) ys h (IsPermutation-refl (y ∷ ys)) (subst (λ z. IsUpperBound (entry_cmp keys) z (y ∷ ys)) is u).1)
      ∙ ap (λ z. Some (key_at keys z.place)) (sym is)

-- The keys change at a place that no entry has.
module _ (old new : List Key) (key : Key) (place : ℕ) (noted : IsNoted old new key place) where
  abbrev Elsewhere : Entry → Type 0
  Elsewhere e = (e.place ≢ place) × (e.place < length old)

  same_key : (e : Entry) → Elsewhere e → key_at new e.place ≡ key_at old e.place
  same_key e h = noted.others e.place h.0 h.1

  elsewhere : (xs : List Entry) → AllByRecursion (λ e. e.1 ≢ place) (map (entry_of old) xs) → AllByRecursion (IsTimed old) xs → AllByRecursion Elsewhere xs
  elsewhere [] free timed = tt
  elsewhere (x ∷ xs) free timed = ((free.0, timed.0.0), elsewhere xs free.1 timed.1)

  same_map : (xs : List Entry) → AllByRecursion Elsewhere xs → map (entry_of new) xs ≡ map (entry_of old) xs
  same_map [] a = refl
  same_map (x ∷ xs) a = (λ i. (same_key x a.0 i, x.place) ∷ same_map xs a.1 i)

  still_timed : (xs : List Entry) → AllByRecursion Elsewhere xs → AllByRecursion (IsTimed old) xs → AllByRecursion (IsTimed new) xs
  still_timed [] a t = tt
  still_timed (x ∷ xs) a t =
      let far = noted.longer in
      ((omega (arith, far, t.0.0), t.0.1 ∙ ap (λ (k : Key). k.time.0) (sym (same_key x a.0))), still_timed xs a.1 t.1)

  same_cmp : (x y : Entry) → Elsewhere x → Elsewhere y → entry_cmp new x y ≡ entry_cmp old x y
  same_cmp x y a b = (λ i. key_cmp (same_key y b i) (same_key x a i))

  still_heap : (xs : List Entry) → AllByRecursion Elsewhere xs → IsHeap (entry_cmp old) xs → IsHeap (entry_cmp new) xs
  unfolding IsHeap
  still_heap xs a h p k d low first last inside =
      ap is_lt (same_cmp (get_or xs p d) (get_or xs k d) (all-at Elsewhere xs p d a (omega (arith, first, inside))) (all-at Elsewhere xs k d a inside))
      ∙ h p k d low first last inside

  still_distinct : (xs : List Entry) → AllByRecursion Elsewhere xs → IsDistinct (tied old) xs → IsDistinct (tied new) xs
  unfolding IsDistinct
  still_distinct [] a d = tt
  still_distinct (x ∷ xs) a d = (still_apart xs a.1 d.0, still_distinct xs a.1 d.1)
    where
      still_apart : (ys : List Entry) → AllByRecursion Elsewhere ys → AllByRecursion (λ y. tied old x y ≡ false) ys → AllByRecursion (λ y. tied new x y ≡ false) ys
      still_apart [] b d = tt
      still_apart (y ∷ ys) b d = ((λ i. ties (same_key x a.0 i) (same_key y b.0 i)) ∙ d.0, still_apart ys b.1 d.1)

  module _ (xs : List Entry) (free : AllByRecursion (λ e. e.1 ≢ place) (entries_in_order old xs)) (h : IsHeapOfKeys old xs) where
    apart : AllByRecursion Elsewhere xs
    apart = elsewhere xs (all-of_in_order key_of (λ e. e.1 ≢ place) (map (entry_of old) xs) free) h.timed

    pub heap-noted : IsHeapOfKeys new xs
    heap-noted = record { heap = still_heap xs apart h.heap; timed = still_timed xs apart h.timed; distinct = still_distinct xs apart h.distinct }

    pub entries-noted : entries_in_order new xs ≡ entries_in_order old xs
    entries-noted = ap (in_order key_of) (same_map xs apart)

-- an entry is put behind a heap, and rises
module _ (keys : List Key) (xs ys : List Entry) (x : Entry) (h : IsHeapOfKeys keys xs) (timed : IsTimed keys x) (is : ys ≡ xs ++ x ∷ []) where
  put : IsPermutation (x ∷ xs) ys
  put = again (x ∷ xs) (xs ++ x ∷ []) ys (same _ ys is) (back _ _ (to_front xs x))

  pub put-timed : AllByRecursion (IsTimed keys) ys
  put-timed = all-permutation (IsTimed keys) (x ∷ xs) ys put (timed, h.timed)

  module _ (zs : List Entry) (new : IsNew (key_at keys x.place) (entries_in_order keys xs)) (p : IsPermutation ys zs) (at : ℕ) (last : at ≡ length xs) (long : length zs ≡ at + 1) (rises : SiftsUp (entry_cmp keys) ys at zs) where
    risen : IsPermutation (x ∷ xs) zs
    risen = again (x ∷ xs) ys zs p put

    pub heap-risen : IsHeapOfKeys keys zs
    heap-risen = heap-pushed keys x xs zs h timed new risen (pushed (entry_cmp keys) (entry_cmp-total keys) xs (x ∷ []) ys zs at last is long rises h.heap)

    pub entries-risen : entries_in_order keys zs ≡ insert_by key_of (entry_of keys x) (entries_in_order keys xs)
    entries-risen = entries-pushed keys x xs zs h new risen

-- the top is taken off a heap, which is mended
module _ (keys : List Key) (xs ys : List Entry) (x : Entry) (h : IsHeapOfKeys keys xs) (some : 0 < length xs) (first : x ≡ get_or xs 0 x) (rest : ys ≡ swap_remove xs 0 x) where
  taken : IsPermutation xs (x ∷ ys)
  taken = again xs _ (x ∷ ys) (same _ (x ∷ ys) (ap (λ l. x ∷ l) rest)) (taken_at xs 0 x some first)

  both_timed : AllByRecursion (IsTimed keys) (x ∷ ys)
  both_timed = all-permutation (IsTimed keys) xs (x ∷ ys) taken h.timed

  pub top-timed : IsTimed keys x
  top-timed = both_timed.0

  pub rest-timed : AllByRecursion (IsTimed keys) ys
  rest-timed = both_timed.1

  module _ (zs : List Entry) (p : IsPermutation ys zs) (counted : length ys + 1 ≡ length xs) (mends : RestoresHeap (entry_cmp keys) ys 1 (length ys) zs) where
    moved : IsPermutation xs (x ∷ zs)
    moved = again xs (x ∷ ys) (x ∷ zs) (under x ys zs p) taken

    order : IsHeap (entry_cmp keys) zs × IsUpperBound (entry_cmp keys) x xs
    order = popped (entry_cmp keys) (entry_cmp-total keys) xs ys zs x (length ys) counted first rest mends h.heap

    pub heap-mended : IsHeapOfKeys keys zs
    heap-mended = heap-popped keys x xs zs h moved order.0

    pub entries-mended : entries_in_order keys xs ≡ entry_of keys x ∷ entries_in_order keys zs
    entries-mended = entries-popped keys x xs zs h moved (every_shuffled (λ y. lt_by_cmp (entry_cmp keys) x y ≡ false) xs (x ∷ zs) moved order.1).1
