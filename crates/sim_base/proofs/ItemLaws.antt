-- Laws of the parts that a packet is made of.
use Rattle.std.proofs.Common.{ℕ, ◌≡◌, ◌+◌, ◌-◌, ◌<◌, ◌≤◌, min, List, [], ◌∷◌, ◌++◌, refl, sym, ap, ◌∙◌, subst, arith, cond, ⊎_elim, length, get_or, take, drop}
use Rattle.std.proofs.Math.ListN.{set}
use Rattle.std.proofs.lemmas.List.{append_assoc, drop_more, take_more_set, drop-set-lt}
use Rattle.std.specs.List.{filter, All}
use Rattle.std.proofs.lemmas.List.Elements.{All-head, All-tail, All-nil, All-cons, All-drop, filter-append}
use Rattle.std.proofs.lemmas.List.Sums.{sum_by-append, sum_by-cons}
use Rattle.std.proofs.lemmas.Bool.{cases_lt, cases_eq, lt-ltb, le-ltb, eq-eqb, ne_eqb, cond-true, cond-false}
use Rattle.sim_base.specs.declared.item.Item.{Item}
use Rattle.sim_base.specs.declared.item.Kind.{Kind}
use Rattle.sim_base.specs.Items.{left, IsLeft, is_left, total_left, whole_item, whole, cut_item, cut_each, cut_items}
use Rattle.sim_base.proofs.ListLaws.{filter-passes, filter-fails}

-- items of the same kind and size with the same cuts are the same
pub same_item : (i j : Item) → i.kind ≡ j.kind → i.size ≡ j.size → i.cut_front ≡ j.cut_front → i.cut_back ≡ j.cut_back → i ≡ j
same_item i j k s f b =
    let by_kind : Kind → Item = λ x. record { kind = x; size = i.size; cut_front = i.cut_front; cut_back = i.cut_back } in
    let by_size : ℕ → Item = λ x. record { kind = j.kind; size = x; cut_front = i.cut_front; cut_back = i.cut_back } in
    let by_front : ℕ → Item = λ x. record { kind = j.kind; size = j.size; cut_front = x; cut_back = i.cut_back } in
    let by_back : ℕ → Item = λ x. record { kind = j.kind; size = j.size; cut_front = j.cut_front; cut_back = x } in
    ap by_kind k ∙ ap by_size s ∙ ap by_front f ∙ ap by_back b

pub total_left-cons : (i : Item) (is : List Item) → total_left (i ∷ is) ≡ left i + total_left is
total_left-cons i is = sum_by-cons left i is

pub total_left-append : (is js : List Item) → total_left (is ++ js) ≡ total_left is + total_left js
total_left-append is js = sum_by-append left is js

whole-none : (kind : Kind) → whole kind 0 ≡ []
whole-none kind = refl

pub whole-some : (kind : Kind) (n : ℕ) → 0 < n → whole kind n ≡ whole_item kind n ∷ []
whole-some kind n some = cond-false _ _ _ (ne_eqb n 0 (λ none. omega arith))

-- what holds of no item, and of a whole item of n bytes where n isn't 0, holds of `whole`
pub whole_cases : (P : List Item → Type 0) (kind : Kind) (n : ℕ) → (n ≡ 0 → P []) → (0 < n → P (whole_item kind n ∷ [])) → P (whole kind n)
whole_cases P kind n none some =
    ⊎_elim (λ (at : n ≡ 0). subst P (sym (cond-true _ _ _ (eq-eqb n 0 at))) (none at))
    (λ (at : n ≡ 0 → ⊥). let above : 0 < n = omega arith in subst P (sym (whole-some kind n above)) (some above))
    (cases_eq n 0)

pub total_left-whole : (kind : Kind) (n : ℕ) → total_left (whole kind n) ≡ n
total_left-whole kind n = whole_cases (λ is. total_left is ≡ n) kind n (λ at. sym at) (λ above. omega arith)

pub All-whole : (kind : Kind) (n : ℕ) → All IsLeft (whole kind n)
All-whole kind n =
    whole_cases (All IsLeft) kind n (λ at. All-nil IsLeft) (λ above. All-cons IsLeft _ [] (omega arith) (All-nil IsLeft))

-- equal heads and equal rests, behind the same filter
same_kept : (i j : Item) (is js : List Item) → i ≡ j → filter is_left is ≡ filter is_left js → filter is_left (i ∷ is) ≡ filter is_left (j ∷ js)
same_kept i j is js e r =
    ap (λ x. filter is_left (x ∷ is)) e ∙ (let kept : List Item → List Item = λ xs. cond (is_left j) (j ∷ xs) xs in ap kept r)

cut_each-append : (a b : ℕ) (is js : List Item) → cut_each a b (is ++ js) ≡ cut_each a b is ++ cut_each (a - total_left is) (b - total_left is) js
cut_each-append a b [] js =
    let at_a : a ≡ a - 0 = omega arith in
    let at_b : b ≡ b - 0 = omega arith in
    ap (λ x. cut_each x b js) at_a ∙ ap (λ x. cut_each (a - 0) x js) at_b
cut_each-append a b (i ∷ is) js =
    let rest = cut_each-append (a - left i) (b - left i) is js in
    let total = total_left-cons i is in
    let at_a : a - left i - total_left is ≡ a - total_left (i ∷ is) = omega arith in
    let at_b : b - left i - total_left is ≡ b - total_left (i ∷ is) = omega arith in
    ap (λ xs. cut_item a b i ∷ xs)
    (rest ∙ ap (λ x. cut_each (a - left i) (b - left i) is ++ cut_each x (b - left i - total_left is) js) at_a
    ∙ ap (λ x. cut_each (a - left i) (b - left i) is ++ cut_each (a - total_left (i ∷ is)) x js) at_b)

-- a cut of items that stand one behind the other
pub cut_items-append : (a b : ℕ) (is js : List Item) → cut_items a b (is ++ js) ≡ cut_items a b is ++ cut_items (a - total_left is) (b - total_left is) js
cut_items-append a b is js = ap (filter is_left) (cut_each-append a b is js) ∙ filter-append is_left (cut_each a b is) _

-- where all bytes stay
pub cut_items-all : (b : ℕ) (is : List Item) → All IsLeft is → total_left is ≤ b → cut_items 0 b is ≡ is
cut_items-all b [] all enough = refl
cut_items-all b (i ∷ is) all enough =
    let here : IsLeft i = All-head IsLeft i is all in
    let total = total_left-cons i is in
    let same : cut_item 0 b i ≡ i = same_item _ _ refl refl (omega arith) (omega arith) in
    let at_front : 0 - left i ≡ 0 = omega arith in
    let rest = cut_items-all (b - left i) is (All-tail IsLeft i is all) (omega arith) in
    same_kept (cut_item 0 b i) i (cut_each (0 - left i) (b - left i) is) (cut_each 0 (b - left i) is) same (ap (λ x. cut_items x (b - left i) is) at_front)
    ∙ filter-passes is_left i (cut_each 0 (b - left i) is) (lt-ltb 0 (left i) (omega arith)) ∙ ap (λ xs. i ∷ xs) rest

-- where all bytes are cut off in front
pub cut_items-none : (a b : ℕ) (is : List Item) → total_left is ≤ a → cut_items a b is ≡ []
cut_items-none a b [] past = refl
cut_items-none a b (i ∷ is) past =
    let total = total_left-cons i is in
    filter-fails is_left (cut_item a b i) (cut_each (a - left i) (b - left i) is) (le-ltb 0 _ (omega arith)) ∙ cut_items-none (a - left i) (b - left i) is (omega arith)

-- where no byte stays
pub cut_items-end : (a : ℕ) (is : List Item) → cut_items a 0 is ≡ []
cut_items-end a [] = refl
cut_items-end a (i ∷ is) =
    let at_end : 0 - left i ≡ 0 = omega arith in
    filter-fails is_left (cut_item a 0 i) (cut_each (a - left i) (0 - left i) is) (le-ltb 0 _ (omega arith))
    ∙ ap (λ x. cut_items (a - left i) x is) at_end ∙ cut_items-end (a - left i) is

-- what is left has a byte
pub All-cut_items : (a b : ℕ) (is : List Item) → All IsLeft (cut_items a b is)
All-cut_items a b [] = All-nil IsLeft
All-cut_items a b (i ∷ is) =
    let part = cut_item a b i in
    let later = cut_each (a - left i) (b - left i) is in
    let rest = All-cut_items (a - left i) (b - left i) is in
    ⊎_elim
    (λ (full : 0 < left part).
    subst (All IsLeft) (sym (filter-passes is_left part later (lt-ltb 0 (left part) full))) (All-cons IsLeft part (filter is_left later) (omega arith) rest))
    (λ (bare : left part ≤ 0). subst (All IsLeft) (sym (filter-fails is_left part later (le-ltb 0 (left part) bare))) rest)
    (cases_lt 0 (left part))

-- items with no byte left count for nothing
total_left-filter : (is : List Item) → total_left (filter is_left is) ≡ total_left is
total_left-filter [] = refl
total_left-filter (i ∷ is) =
    let rest = total_left-filter is in
    let before = total_left-cons i is in
    let after = total_left-cons i (filter is_left is) in
    ⊎_elim
    (λ (full : 0 < left i). ap total_left (filter-passes is_left i is (lt-ltb 0 (left i) full)) ∙ omega arith)
    (λ (bare : left i ≤ 0). ap total_left (filter-fails is_left i is (le-ltb 0 (left i) bare)) ∙ omega arith)
    (cases_lt 0 (left i))

left-cut_item : (a b : ℕ) (i : Item) → a ≤ b → left (cut_item a b i) ≡ min b (left i) - a
left-cut_item a b i order = omega arith

-- a range of places over l places, and over t more behind them
range_over_both : (a b l t : ℕ) → a ≤ b → (min b l - a) + (min (b - l) t - (a - l)) ≡ min b (l + t) - a
range_over_both a b l t order = omega arith

total_left-cut_each : (a b : ℕ) (is : List Item) → a ≤ b → total_left (cut_each a b is) ≡ min b (total_left is) - a
total_left-cut_each a b [] order = omega arith
total_left-cut_each a b (i ∷ is) order =
    let later = cut_each (a - left i) (b - left i) is in
    total_left-cons (cut_item a b i) later
    ∙ ap (λ n. n + total_left later) (left-cut_item a b i order)
    ∙ ap (λ n. (min b (left i) - a) + n) (total_left-cut_each (a - left i) (b - left i) is (omega arith))
    ∙ range_over_both a b (left i) (total_left is) order ∙ ap (λ n. min b n - a) (sym (total_left-cons i is))

pub total_left-cut_items : (a b : ℕ) (is : List Item) → a ≤ b → total_left (cut_items a b is) ≡ min b (total_left is) - a
total_left-cut_items a b is order = total_left-filter (cut_each a b is) ∙ total_left-cut_each a b is order

-- cutting an item twice
cut_item-cut_item : (a b c d : ℕ) (i : Item) → c ≤ d → a + d ≤ b → cut_item c d (cut_item a b i) ≡ cut_item (a + c) (a + d) i
cut_item-cut_item a b c d i order inside =
    let l = left i in
    let kept : left (cut_item a b i) ≡ min b l - a = left-cut_item a b i (omega arith) in
    let front : min a l + min c (min b l - a) ≡ min (a + c) l = omega (arith, order, inside) in
    let back : (l - b) + ((min b l - a) - d) ≡ l - (a + d) = omega (arith, order, inside) in
    same_item _ _ refl refl
    (ap (λ n. i.cut_front + min a l + min c n) kept ∙ omega (arith, front))
    (ap (λ n. i.cut_back + (l - b) + (n - d)) kept ∙ omega (arith, back))

-- places behind l places, and in a range of them
after_range : (a b d l : ℕ) → a + d ≤ b → (a - l) + (d - (min b l - a)) ≡ (a + d) - l
after_range a b d l inside = omega arith

within_rest : (a b d l : ℕ) → a + d ≤ b → (a - l) + (d - (min b l - a)) ≤ b - l
within_rest a b d l inside = omega arith

cut_each-cut_each : (a b c d : ℕ) (is : List Item) → c ≤ d → a + d ≤ b → cut_each c d (cut_each a b is) ≡ cut_each (a + c) (a + d) is
cut_each-cut_each a b c d [] order inside = refl
cut_each-cut_each a b c d (i ∷ is) order inside =
    let l = left i in
    let later = cut_each (a - l) (b - l) is in
    let kept : left (cut_item a b i) ≡ min b l - a = left-cut_item a b i (omega arith) in
    let front : (a - l) + (c - (min b l - a)) ≡ (a + c) - l = after_range a b c l (omega arith) in
    let back : (a - l) + (d - (min b l - a)) ≡ (a + d) - l = after_range a b d l inside in
    let rest =
    cut_each-cut_each (a - l) (b - l) (c - (min b l - a)) (d - (min b l - a)) is (omega (arith, order)) (within_rest a b d l inside) in
    ap (λ x. x ∷ cut_each (c - left (cut_item a b i)) (d - left (cut_item a b i)) later) (cut_item-cut_item a b c d i order inside)
    ∙ ap (λ xs. cut_item (a + c) (a + d) i ∷ xs)
    (ap (λ n. cut_each (c - n) (d - n) later) kept ∙ rest
    ∙ ap (λ n. cut_each n ((a - l) + (d - (min b l - a))) is) front ∙ ap (λ n. cut_each ((a + c) - l) n is) back)

-- items with no byte left don't matter for a cut
cut_items-filter : (a b : ℕ) (is : List Item) → cut_items a b (filter is_left is) ≡ cut_items a b is
cut_items-filter a b [] = refl
cut_items-filter a b (i ∷ is) =
    ⊎_elim
    (λ (full : 0 < left i).
    ap (cut_items a b) (filter-passes is_left i is (lt-ltb 0 (left i) full))
    ∙ same_kept (cut_item a b i) (cut_item a b i) (cut_each (a - left i) (b - left i) (filter is_left is)) (cut_each (a - left i) (b - left i) is) refl
    (cut_items-filter (a - left i) (b - left i) is))
    (λ (bare : left i ≤ 0).
    let at_a : a - left i ≡ a = omega (arith, bare) in
    let at_b : b - left i ≡ b = omega (arith, bare) in
    ap (cut_items a b) (filter-fails is_left i is (le-ltb 0 (left i) bare))
    ∙ cut_items-filter a b is
    ∙ sym (filter-fails is_left (cut_item a b i) (cut_each (a - left i) (b - left i) is) (le-ltb 0 (left (cut_item a b i)) (omega arith))
    ∙ ap (λ n. cut_items n (b - left i) is) at_a ∙ ap (λ n. cut_items a n is) at_b))
    (cases_lt 0 (left i))

-- cutting twice
pub cut_items-cut_items : (a b c d : ℕ) (is : List Item) → c ≤ d → a + d ≤ b → cut_items c d (cut_items a b is) ≡ cut_items (a + c) (a + d) is
cut_items-cut_items a b c d is order inside =
    cut_items-filter c d (cut_each a b is) ∙ ap (filter is_left) (cut_each-cut_each a b c d is order inside)

-- an item that a loop has not come to yet is as it was
pub IsLeft-rest : (xs ys : List Item) (i : ℕ) (d : Item) → drop i ys ≡ drop i xs → i < length ys → All IsLeft xs → IsLeft (get_or ys i d)
IsLeft-rest xs ys i d same within all =
    let rest : All IsLeft (drop i ys) = subst (All IsLeft) (sym same) (All-drop IsLeft i xs all) in
    All-head IsLeft (get_or ys i d) (drop (i + 1) ys) (subst (All IsLeft) (drop_more ys i d within) rest)

-- one more item of a cut in place
pub cut_each_in_place : (a b : ℕ) (ys done : List Item) (i : ℕ) (d : Item) → i < length ys → take i ys ++ cut_each a b (drop i ys) ≡ done → take (i + 1) (set ys i (cut_item a b (get_or ys i d))) ++ cut_each (a - left (get_or ys i d)) (b - left (get_or ys i d)) (drop (i + 1) (set ys i (cut_item a b (get_or ys i d)))) ≡ done
cut_each_in_place a b ys done i d within before =
    let x = get_or ys i d in
    let y = cut_item a b x in
    let later = cut_each (a - left x) (b - left x) (drop (i + 1) ys) in
    ap (λ xs. xs ++ cut_each (a - left x) (b - left x) (drop (i + 1) (set ys i y))) (take_more_set ys i y within)
    ∙ ap (λ xs. (take i ys ++ (y ∷ [])) ++ cut_each (a - left x) (b - left x) xs) (drop-set-lt (i + 1) ys i y (omega arith))
    ∙ append_assoc (take i ys) (y ∷ []) later
    ∙ ap (λ xs. take i ys ++ cut_each a b xs) (sym (drop_more ys i d within)) ∙ before
