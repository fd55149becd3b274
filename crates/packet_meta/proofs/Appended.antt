-- The items that come of appending in place.
use Rattle.std.proofs.Common.{ℕ, ◌≡◌, ◌+◌, ◌-◌, ◌<◌, true, List, ◌++◌, length, take, drop, get_or, Some, sym, subst, ap, ◌∙◌, arith, length-drop, length-append}
use Rattle.std.specs.Prelude.{slice_get, All, OnOk, OnErr, Result, Ok, Err}
use Rattle.std.specs.List.{refill}
use Rattle.std.proofs.Math.ListN.{set, length-set}
use Rattle.std.proofs.lemmas.List.{take_all, take_at, get_or_default}
use Rattle.std.proofs.lemmas.Option.{slice_get_within}
use Rattle.sim_base.specs.declared.item.Item.{Item}
use Rattle.sim_base.specs.Items.{join_items, goes_on, IsLeft}
use Rattle.smallvec.specs.SmallVec.{SmallVec}
use Rattle.pkt_face.proofs.JoinedItems.{join_items-in_place, join_items-by_write}

module _ (front back : List Item) (x y : Item) (last : slice_get front (length front - 1) ≡ Some x) (first : slice_get back 0 ≡ Some y) (on : goes_on x y ≡ true) where
  -- the write that makes one item of two halves, into a list that shows what ext has
  pub appended-by_write : (ext shown : List Item) (k : ℕ) (d : Item) → ext ≡ front ++ take (length back - 1) (drop 1 back) → shown ≡ ext → k ≡ length front - 1
      → refill (length ext) ext (set shown k (record (get_or shown k d) { cut_back = y.cut_back })) ≡ join_items front back
  appended-by_write ext shown k d made same at =
      let n = length front - 1 in
      let cut_to : Item → Item = λ i. record i { cut_back = y.cut_back } in
      let written : List Item = set shown k (cut_to (get_or shown k d)) in
      let within : n < length front = slice_get_within front n x last in
      let long = ap length made ∙ length-append front (take (length back - 1) (drop 1 back)) in
      let r = get_or ext n d in
      take_at written _ _ (length-set shown k (cut_to (get_or shown k d)) ∙ ap length same)
      ∙ ap (λ xs. set xs k (cut_to (get_or xs k d))) same ∙ ap (λ j. set ext j (cut_to (get_or ext j d))) at
      ∙ join_items-by_write front back ext x y r last first on made (get_or_default ext n d r (omega arith))

  -- the list is one shorter than both together
  pub length-appended : length front + length (take (length back - 1) (drop 1 back)) ≡ length (join_items front back)
  length-appended =
      let n = length front - 1 in
      let joined : Item = record x { cut_back = y.cut_back } in
      let all = take_all (length back - 1) (drop 1 back) (omega (arith, length-drop 1 back)) in
      ap (λ xs. length front + length xs) all ∙ sym (length-append front (drop 1 back)) ∙ sym (length-set (front ++ drop 1 back) n joined)
      ∙ sym (ap length (join_items-in_place front back x y last first on))

-- whether the call went through or left the items, something is left of each
pub left-appended : {T E : Type 0} (r : Result T E) (old new : SmallVec Item) (joined : List Item) → OnOk r (new.items ≡ joined) → OnErr r (new ≡ old) → All IsLeft joined → All IsLeft old.items → All IsLeft new.items
left-appended (Ok u) old new joined ok err after before = subst (All IsLeft) (sym ok) after
left-appended (Err e) old new joined ok err after before = let P : SmallVec Item → Type 0 = λ v. All IsLeft v.items in subst P (sym err) before
