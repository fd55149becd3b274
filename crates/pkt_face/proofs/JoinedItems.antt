-- The items of two packets, by the last one of the first and the first one of the second.
use Rattle.std.proofs.Common.{◌≡◌, ◌+◌, ◌-◌, ◌<◌, true, false, List, [], ◌∷◌, ◌++◌, length, take, drop, get_or, Some, None, refl, sym, ap, ◌∙◌, arith, length-drop}
use Rattle.std.specs.Prelude.{slice_get}
use Rattle.std.proofs.Math.ListN.{set}
use Rattle.std.proofs.lemmas.List.{take_more, take_all, append_assoc, append-nil, set_at, length-take-le, get_or_append_left}
use Rattle.std.proofs.lemmas.Option.{slice_get_within, slice_get-get_or, get_or_from_slice_get}
use Rattle.sim_base.specs.declared.item.Item.{Item}
use Rattle.sim_base.specs.Items.{join_items, goes_on}
use Rattle.sim_base.proofs.JoinLaws.{join_items-nil, join_items-on, join_items-off}

last_apart : {X : Type 0} (xs : List X) (x : X) → slice_get xs (length xs - 1) ≡ Some x → xs ≡ take (length xs - 1) xs ++ (x ∷ [])
last_apart xs x last =
    let n = length xs - 1 in
    let within : n < length xs = slice_get_within xs n x last in
    sym (take_all (n + 1) xs (omega arith)) ∙ take_more xs n x within
    ∙ ap (λ y. take n xs ++ (y ∷ [])) (get_or_from_slice_get xs n x x last)

first_apart : {X : Type 0} (xs : List X) (x : X) → slice_get xs 0 ≡ Some x → xs ≡ x ∷ drop 1 xs
first_apart [] x first = absurd (cc)
first_apart (y ∷ xs) x first = let same : y ≡ x = cc in ap (λ z. z ∷ xs) same

none_last : {X : Type 0} (xs : List X) → slice_get xs (length xs - 1) ≡ None → xs ≡ []
none_last [] none = refl
none_last (x ∷ xs) none =
    let some = slice_get-get_or (x ∷ xs) (length (x ∷ xs) - 1) x (omega arith) in absurd (cc)

none_first : {X : Type 0} (xs : List X) → slice_get xs 0 ≡ None → xs ≡ []
none_first [] none = refl
none_first (x ∷ xs) none = absurd (cc)

-- two halves become one item, in the last one's place
pub join_items-in_place : (front back : List Item) (x y : Item) → slice_get front (length front - 1) ≡ Some x → slice_get back 0 ≡ Some y → goes_on x y ≡ true → join_items front back ≡ set (front ++ drop 1 back) (length front - 1) (record x { cut_back = y.cut_back })
join_items-in_place front back x y last first on =
    let n = length front - 1 in
    let before = take n front in
    let later = drop 1 back in
    let joined : Item = record x { cut_back = y.cut_back } in
    let within : n < length front = slice_get_within front n x last in
    let long : length before ≡ n = length-take-le n front (omega arith) in
    ap (λ xs. join_items xs back) (last_apart front x last) ∙ ap (join_items (before ++ (x ∷ []))) (first_apart back y first)
    ∙ join_items-on before later x y on
    ∙ sym (ap (λ xs. set (xs ++ later) n joined) (last_apart front x last) ∙ ap (λ xs. set xs n joined) (append_assoc before (x ∷ []) later) ∙ set_at before x later joined n long)

-- any other items only stand one behind the other
pub join_items-apart : (front back : List Item) (x y : Item) → slice_get front (length front - 1) ≡ Some x → slice_get back 0 ≡ Some y → goes_on x y ≡ false → join_items front back ≡ front ++ back
join_items-apart front back x y last first off =
    let before = take (length front - 1) front in
    ap (λ xs. join_items xs back) (last_apart front x last) ∙ ap (join_items (before ++ (x ∷ []))) (first_apart back y first)
    ∙ join_items-off before (drop 1 back) x y off
    ∙ sym (ap (λ xs. xs ++ back) (last_apart front x last) ∙ ap (λ xs. (before ++ (x ∷ [])) ++ xs) (first_apart back y first))

pub join_items-none_before : (front back : List Item) → slice_get front (length front - 1) ≡ None → join_items front back ≡ front ++ back
join_items-none_before front back none = let e = none_last front none in ap (λ xs. join_items xs back) e ∙ sym (ap (λ xs. xs ++ back) e)

pub join_items-none_behind : (front back : List Item) → slice_get back 0 ≡ None → join_items front back ≡ front ++ back
join_items-none_behind front back none =
    let e = none_first back none in
    ap (join_items front) e ∙ join_items-nil front ∙ sym (ap (λ xs. front ++ xs) e ∙ append-nil front)

-- the same, by a write to the last item of the first, which was read as r
pub join_items-by_write : (front back items : List Item) (x y r : Item) → slice_get front (length front - 1) ≡ Some x → slice_get back 0 ≡ Some y → goes_on x y ≡ true → items ≡ front ++ take (length back - 1) (drop 1 back) → r ≡ get_or items (length front - 1) r → set items (length front - 1) (record r { cut_back = y.cut_back }) ≡ join_items front back
join_items-by_write front back items x y r last first on made read =
    let n = length front - 1 in
    let later = drop 1 back in
    let cut_to : Item → Item = λ i. record i { cut_back = y.cut_back } in
    let within : n < length front = slice_get_within front n x last in
    let all : items ≡ front ++ later = made ∙ ap (λ xs. front ++ xs) (take_all (length back - 1) later (omega (arith, length-drop 1 back))) in
    let same : r ≡ x = read ∙ ap (λ xs. get_or xs n r) all ∙ get_or_append_left front later r n within ∙ get_or_from_slice_get front n x r last in
    ap (λ i. set items n (cut_to i)) same ∙ ap (λ xs. set xs n (cut_to x)) all ∙ sym (join_items-in_place front back x y last first on)
