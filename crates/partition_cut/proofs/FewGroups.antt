-- Groups that hold each node once are no more than the nodes.
use Rattle.std.proofs.Common.{◌≡◌, ◌≢◌, ◌==◌, ℕ, zero, suc, ◌<◌, ◌≤◌, ◌+◌, List, [], ◌∷◌, length, count_by, sum_by, All, cond, refl, ap, ◌∙◌, arith, inl, inr}
use mathlib.Core.Path.{fun_ext}
use Rattle.std.specs.List.{range_with_len}
use Rattle.std.proofs.lemmas.Bool.{eq-eqb, ne_eqb, cases_eq}
use Rattle.std.proofs.lemmas.List.Elements.{All-head, All-tail}
use Rattle.std.proofs.lemmas.List.FromFn.{length-range_with_len, get_or-range_with_len}
use Rattle.std.proofs.lemmas.List.Sums.{sum_by-cons, sum_by-le}
use Rattle.partition_cut.specs.Refusal.{places}

sum_by-plus : {X : Type 0} (f g : X → ℕ) (xs : List X) → sum_by (λ x. f x + g x) xs ≡ sum_by f xs + sum_by g xs
sum_by-plus f g [] = refl
sum_by-plus f g (x ∷ xs) =
    let all = sum_by-cons (λ y. f y + g y) x xs in let a = sum_by-cons f x xs in let b = sum_by-cons g x xs in
    let rest = sum_by-plus f g xs in omega arith

-- a node stands once among nodes in their order, from its own on or before
none-of : (m a n : ℕ) → m < a → sum_by (λ node. cond (m == node) 1 0) (range_with_len a n) ≡ 0
none-of m a zero lt = refl
none-of m a (suc n) lt =
    let e = sum_by-cons (λ node. cond (m == node) 1 0) a (range_with_len (a + 1) n) in
    let rest = none-of m (a + 1) n (omega arith) in
    let here : cond {A = ℕ} (m == a) 1 0 ≡ 0 = (let f = ne_eqb m a (λ same. absurd (omega arith)) in rw f refl) in omega arith

one-of : (m a n : ℕ) → a ≤ m → m < a + n → sum_by (λ node. cond (m == node) 1 0) (range_with_len a n) ≡ 1
one-of m a zero low lt = absurd (omega arith)
one-of m a (suc n) low lt =
    let e = sum_by-cons (λ node. cond (m == node) 1 0) a (range_with_len (a + 1) n) in
    elim (cases_eq m a) [
      | inl same ↦
          let here : cond {A = ℕ} (m == a) 1 0 ≡ 1 = (let t = eq-eqb m a same in rw t refl) in
          let rest = none-of m (a + 1) n (omega arith) in omega arith
      | inr other ↦
          let here : cond {A = ℕ} (m == a) 1 0 ≡ 0 = (let f = ne_eqb m a other in rw f refl) in
          let rest = one-of m (a + 1) n (let ne : m ≢ a = other in omega arith) (omega arith) in omega arith
    ]

-- a group's members, counted node by node
pub group-total : (n : ℕ) (group : List ℕ) → All (λ member. member < n) group →
    sum_by (λ node. count_by (λ member. member == node) group) (range_with_len 0 n) ≡ length group
group-total n [] low = sum-zero (range_with_len 0 n)
  where
    sum-zero : (xs : List ℕ) → sum_by (λ x. 0) xs ≡ 0
    sum-zero [] = refl
    sum-zero (x ∷ xs) = let e = sum_by-cons (λ y. 0) x xs in let rest = sum-zero xs in omega arith
group-total n (m ∷ ms) low =
    let here : m < n = All-head (λ member. member < n) m ms low in
    let first = one-of m 0 n (omega arith) (omega arith) in
    let rest = group-total n ms (All-tail (λ member. member < n) m ms low) in
    let split = sum_by-plus (λ node. cond (m == node) 1 0) (λ node. count_by (λ member. member == node) ms) (range_with_len 0 n) in
    ap (λ (f : ℕ → ℕ). sum_by f (range_with_len 0 n)) (fun_ext (λ node. sum_by-cons (λ member. cond (member == node) 1 0) m ms))
    ∙ (omega arith)

-- all members of groups, counted node by node
groups-total : (n : ℕ) (groups : List (List ℕ)) → All (λ group. (0 < length group) × All (λ member. member < n) group) groups →
    sum_by (places groups) (range_with_len 0 n) ≡ sum_by length groups
groups-total n [] low = group-total n [] (λ k d lt. absurd (omega arith))
groups-total n (group ∷ groups) low =
    let P : List ℕ → Type 0 = λ g. (0 < length g) × All (λ member. member < n) g in
    let first = group-total n group (All-head P group groups low).1 in
    let rest = groups-total n groups (All-tail P group groups low) in
    let split = sum_by-plus (λ node. count_by (λ member. member == node) group) (places groups) (range_with_len 0 n) in
    let e = sum_by-cons length group groups in
    ap (λ (f : ℕ → ℕ). sum_by f (range_with_len 0 n)) (fun_ext (λ node. sum_by-cons (count_by (λ member. member == node)) group groups))
    ∙ (omega arith)

filled : (n : ℕ) (groups : List (List ℕ)) → All (λ group. (0 < length group) × All (λ member. member < n) group) groups →
    length groups ≤ sum_by length groups
filled n [] low = omega arith
filled n (group ∷ groups) low =
    let P : List ℕ → Type 0 = λ g. (0 < length g) × All (λ member. member < n) g in
    let first = (All-head P group groups low).0 in
    let rest = filled n groups (All-tail P group groups low) in
    let e = sum_by-cons length group groups in omega arith

pub few-groups : (n : ℕ) (groups : List (List ℕ)) → All (λ group. (0 < length group) × All (λ member. member < n) group) groups →
    ((node : ℕ) → node < n → places groups node ≡ 1) → length groups ≤ n
few-groups n groups low once =
    let most = sum_by-le (places groups) 1 (range_with_len 0 n) (λ k d lt.
    let l = length-range_with_len 0 n in
    let e = ap (places groups) (get_or-range_with_len 0 n k d (omega arith)) in
    let o = once (0 + k) (omega arith) in omega arith) in
    let l = length-range_with_len 0 n in
    let all = groups-total n groups low in
    let least = filled n groups low in
    omega arith
