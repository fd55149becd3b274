-- Numbering the groups of labels by their least node.
use Rattle.std.proofs.Common.{◌≡◌, ◌≢◌, ◌==◌, ℕ, zero, suc, ◌<◌, ◌≤◌, ◌+◌, List, [], ◌∷◌, ◌++◌, length, map, take, get_or, cond, sum_by, if◌then◌else◌, refl, sym, ap, ◌∙◌, arith, inl, inr}
use Rattle.std.specs.List.{range_with_len}
use Rattle.std.proofs.lemmas.Bool.{cases_eq, cases_lt, eq-eqb, ne_eqb}
use Rattle.std.proofs.lemmas.List.{get_or-map, get_or-take, length-take-le, map-append, take_more}
use Rattle.std.proofs.lemmas.List.FromFn.{length-range_with_len}
use Rattle.std.proofs.lemmas.List.Sums.{sum_by_push, count_by-le-length}
use Rattle.partition_cut.specs.AutoCut.{AreSettled, rank}

pub range-push : (a n : ℕ) → range_with_len a (suc n) ≡ range_with_len a n ++ (a + n) ∷ []
range-push a zero = let e : a ≡ a + 0 = omega arith in ap (λ x. x ∷ []) e
range-push a (suc n) =
    let e : a + 1 + n ≡ a + suc n = omega arith in
    ap (λ t. a ∷ t) (range-push (a + 1) n ∙ ap (λ x. range_with_len (a + 1) n ++ x ∷ []) e)

-- one more node at the end
pub range-more : (xs : List ℕ) (n : ℕ) → xs ≡ range_with_len 0 n → xs ++ n ∷ [] ≡ range_with_len 0 (n + 1)
range-more xs n e =
    let s : suc n ≡ n + 1 = omega arith in
    let z : n ≡ 0 + n = omega arith in
    ap (λ l. l ++ n ∷ []) e ∙ ap (λ k. range_with_len 0 n ++ k ∷ []) z ∙ sym (range-push 0 n) ∙ ap (range_with_len 0) s

abbrev counts : List ℕ → ℕ → ℕ
counts labels k = cond (get_or labels k 0 == k) 1 0

rank-step : (labels : List ℕ) (k : ℕ) → rank labels (suc k) ≡ rank labels k + counts labels k
rank-step labels k =
    let z : 0 + k ≡ k = omega arith in
    ap (sum_by (counts labels)) (range-push 0 k) ∙ sum_by_push (counts labels) (range_with_len 0 k) (0 + k)
    ∙ ap (λ x. rank labels k + counts labels x) z

pub own-step : (labels : List ℕ) (k : ℕ) → get_or labels k 0 ≡ k → rank labels (suc k) ≡ rank labels k + 1
own-step labels k own = rank-step labels k ∙ (let t = eq-eqb (get_or labels k 0) k own in rw t refl)

pub other-step : (labels : List ℕ) (k : ℕ) → get_or labels k 0 ≢ k → rank labels (suc k) ≡ rank labels k
other-step labels k other =
    let e : rank labels (suc k) ≡ rank labels k + 0 = rank-step labels k ∙ (let f = ne_eqb (get_or labels k 0) k other in rw f refl) in
    omega arith

pub rank-grows : (labels : List ℕ) (n m : ℕ) → n ≤ m → rank labels n ≤ rank labels m
rank-grows labels n zero le = let e : n ≡ 0 = omega arith in let same = ap (rank labels) e in omega arith
rank-grows labels n (suc m) le = elim (cases_lt m n) [
  | inl less ↦ let e : n ≡ suc m = omega arith in let same = ap (rank labels) e in omega arith
  | inr more ↦ let rest = rank-grows labels n m more in let step = rank-step labels m in omega arith
]

pub rank-less : (labels : List ℕ) (n m : ℕ) → get_or labels n 0 ≡ n → n < m → rank labels n < rank labels m
rank-less labels n m own less =
    let step = own-step labels n own in let rest = rank-grows labels (suc n) m (omega arith) in omega arith

pub rank-le : (labels : List ℕ) (n : ℕ) → rank labels n ≤ n
rank-le labels n =
    let c = count_by-le-length (λ k. get_or labels k 0 == k) (range_with_len 0 n) in
    let l = length-range_with_len 0 n in omega arith

-- nodes that have their own labels and one rank are one
pub rank-same : (labels : List ℕ) (n m : ℕ) → get_or labels n 0 ≡ n → get_or labels m 0 ≡ m → rank labels n ≡ rank labels m → n ≡ m
rank-same labels n m n_own m_own same = elim (cases_lt n m) [
  | inl less ↦ absurd (let r = rank-less labels n m n_own less in omega arith)
  | inr more ↦ elim (cases_lt m n) [
    | inl less ↦ absurd (let r = rank-less labels m n m_own less in omega arith)
    | inr le ↦ omega arith
  ]
]

-- the count of groups, with one more node
pub next-more : (labels : List ℕ) (i next : ℕ) → next ≡ rank labels i → (if get_or labels i 0 == i then next + 1 else next) ≡ rank labels (i + 1)
next-more labels i next e = elim (cases_eq (get_or labels i 0) i) [
  | inl own ↦
      let t = eq-eqb (get_or labels i 0) i own in
      let step = own-step labels i own in
      let s = ap (rank labels) one in rw t (omega arith)
  | inr other ↦
      let f = ne_eqb (get_or labels i 0) i other in
      let step = other-step labels i other in
      let s = ap (rank labels) one in rw f (omega arith)
]
  where
    one : suc i ≡ i + 1
    one = omega arith

-- the number of a node's group is the rank of its label
number-is : (labels numbers : List ℕ) (i : ℕ) → i < length labels → AreSettled labels → numbers ≡ map (rank labels) (take i labels) →
    (if get_or labels i 0 == i then rank labels i else get_or numbers (get_or labels i 0) 0) ≡ rank labels (get_or labels i 0)
number-is labels numbers i lt settled e = elim (cases_eq (get_or labels i 0) i) [
  | inl own ↦ let t = eq-eqb (get_or labels i 0) i own in rw t (ap (rank labels) (sym own))
  | inr other ↦
      let f = ne_eqb (get_or labels i 0) i other in
      let le = (settled i lt).0 in
      let l = length-take-le i labels (omega arith) in
      let label = get_or labels i 0 in
      rw f (
      ap (λ (xs : List ℕ). get_or xs label 0) e
      ∙ get_or-map (rank labels) (take i labels) label 0 0 (omega arith)
      ∙ ap (rank labels) (get_or-take i labels label 0 (omega arith) ∙ (settled i lt).1))
]

-- the numbers, with one more node
pub numbers-more : (labels numbers : List ℕ) (i next number : ℕ) → i < length labels → AreSettled labels →
    numbers ≡ map (rank labels) (take i labels) → next ≡ rank labels i →
    number ≡ (if get_or labels i 0 == i then next else get_or numbers (get_or labels i 0) 0) →
    numbers ++ number ∷ [] ≡ map (rank labels) (take (i + 1) labels)
numbers-more labels numbers i next number lt settled e is n =
    let made : number ≡ rank labels (get_or labels i 0) =
    n ∙ ap (λ x. if get_or labels i 0 == i then x else get_or numbers (get_or labels i 0) 0) is ∙ number-is labels numbers i lt settled e in
    ap (λ (xs : List ℕ). xs ++ number ∷ []) e ∙ ap (λ x. map (rank labels) (take i labels) ++ x ∷ []) made
    ∙ sym (map-append (rank labels) (take i labels) (get_or labels i 0 ∷ [])) ∙ ap (map (rank labels)) (sym (take_more labels i 0 lt))
