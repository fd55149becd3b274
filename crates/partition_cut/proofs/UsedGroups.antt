-- Each group of a cut holds a node.
use Rattle.std.proofs.Common.{◌≡◌, ◌==◌, ℕ, zero, suc, ◌<◌, ◌≤◌, ◌+◌, Bool, true, false, List, [], ◌∷◌, length, map, get_or, cond, if◌then◌else◌, count_by, sum_by, fold, All, refl, sym, ap, ◌∙◌, arith, inl, inr}
use Rattle.std.specs.List.{Any, enumerate_from, list_any, range_with_len}
use Rattle.std.proofs.lemmas.Bool.{cases_Bool, cases_eq, cases_lt, eq-eqb}
use Rattle.std.proofs.lemmas.List.FromFn.{length-map-range_with_len, get_or-map-range_with_len, length-range_with_len}
use Rattle.std.proofs.lemmas.List.{get_or-map}
use Rattle.std.proofs.lemmas.List.Sums.{sum_by-cons, get_or-le-sum_by}
use Rattle.partition_cut.specs.declared.network.Shape.{Shape}
use Rattle.partition_cut.specs.AutoCut.{rank}
use Rattle.partition_cut.specs.Refusal.{group_in, groups_of, places}
use Rattle.partition_cut.proofs.CountLaws.{held-by}
use Rattle.partition_cut.proofs.RankLaws.{other-step, own-step}

-- a test that no element passes counts none, and the other way round
none-counted : {A : Type 0} (test : A → Bool) (xs : List A) → count_by test xs ≡ 0 → list_any test xs ≡ false
none-counted test [] none = refl
none-counted test (x ∷ xs) none =
    let e = sum_by-cons (λ y. cond (test y) 1 0) x xs in
    elim (cases_Bool (test x)) [
      | inl passes ↦ absurd (let one : cond {A = ℕ} (test x) 1 0 ≡ 1 = rw passes refl in omega arith)
      | inr fails ↦ rw fails (none-counted test xs (omega arith))
    ]

some-counted : {A : Type 0} (test : A → Bool) (xs : List A) → 0 < count_by test xs → list_any test xs ≡ true
some-counted test [] some = absurd (omega arith)
some-counted test (x ∷ xs) some =
    let e = sum_by-cons (λ y. cond (test y) 1 0) x xs in
    elim (cases_Bool (test x)) [
      | inl passes ↦ rw passes refl
      | inr fails ↦ let z : cond {A = ℕ} (test x) 1 0 ≡ 0 = rw fails refl in rw fails (some-counted test xs (omega arith))
    ]

abbrev members : ℕ → List ℕ → ℕ
members node group = count_by (λ member. member == node) group

-- a node that stands in no group leaves the number that was held
held-none : (node held n : ℕ) (groups : List (List ℕ)) → places groups node ≡ 0 →
    fold (held-by node) held (enumerate_from n groups) ≡ held
held-none node held n [] none = refl
held-none node held n (group ∷ groups) none =
    let e = sum_by-cons (members node) group groups in
    let f = none-counted (λ member. member == node) group (omega arith) in
    let step : held-by node held (n, group) ≡ held = rw f refl in
    ap (λ h. fold (held-by node) h (enumerate_from (n + 1) groups)) step ∙ held-none node held (n + 1) groups (omega arith)

-- a node that stands once has the number of its group
held-once : (node held n : ℕ) (groups : List (List ℕ)) (g : ℕ) → places groups node ≡ 1 → g < length groups →
    0 < members node (get_or groups g []) → fold (held-by node) held (enumerate_from n groups) ≡ n + g
held-once node held n [] g once lt some = absurd (omega arith)
held-once node held n (group ∷ groups) zero once lt some =
    let e = sum_by-cons (members node) group groups in
    let t = some-counted (λ member. member == node) group some in
    let step : held-by node held (n, group) ≡ n = rw t refl in
    ap (λ h. fold (held-by node) h (enumerate_from (n + 1) groups)) step ∙ held-none node n (n + 1) groups (omega arith) ∙ omega arith
held-once node held n (group ∷ groups) (suc g) once lt some =
    let e = sum_by-cons (members node) group groups in
    let least = get_or-le-sum_by (members node) groups g [] (omega arith) in
    let f = none-counted (λ member. member == node) group (omega arith) in
    let step : held-by node held (n, group) ≡ held = rw f refl in
    ap (λ h. fold (held-by node) h (enumerate_from (n + 1) groups)) step ∙ held-once node held (n + 1) groups g (omega arith) (omega arith) some ∙ omega arith

-- the first of a list is counted
first-counted : (group : List ℕ) → 0 < length group → 0 < members (get_or group 0 0) group
first-counted [] some = some
first-counted (m ∷ group) some =
    let e = sum_by-cons (λ member. cond (member == m) 1 0) m group in
    let one : cond {A = ℕ} (m == m) 1 0 ≡ 1 = (let t = eq-eqb m m refl in rw t refl) in omega arith

-- groups that aren't empty, and in which each node stands once, are all used
pub used-groups : (shape : Shape) (groups : List (List ℕ)) (numbers : List ℕ) → numbers ≡ groups_of shape groups →
    All (λ group. (0 < length group) × All (λ node. node < shape.nodes) group) groups →
    ((node : ℕ) → node < shape.nodes → places groups node ≡ 1) →
    (g : ℕ) → g < length groups → Any (λ k. k ≡ g) numbers
used-groups shape groups numbers e full once g lt = (
  node,
  g,
  (let l = length-map-range_with_len (group_in groups) 0 shape.nodes in let n = ap length e in let low = node_in in omega arith),
  ap (λ (xs : List ℕ). get_or xs node g) e
      ∙ get_or-map-range_with_len (group_in groups) 0 shape.nodes node node g node_in (omega arith)
      ∙ held-once node 0 0 groups g (once node node_in) lt (first-counted (get_or groups g []) (full g [] lt).0) ∙ omega arith,
  refl,
)
  where
    node : ℕ
    node = get_or (get_or groups g []) 0 0

    node_in : node < shape.nodes
    node_in = (full g [] lt).1 0 0 (full g [] lt).0

-- each rank below that of all nodes is that of a node with its own label
ranked : (labels : List ℕ) (n g : ℕ) → g < rank labels n → (k : ℕ) × (k < n) × (get_or labels k 0 ≡ k) × (rank labels k ≡ g)
ranked labels zero g lt = absurd (omega arith)
ranked labels (suc n) g lt = elim (cases_lt g (rank labels n)) [
  | inl less ↦ let r = ranked labels n g less in (r.0, omega arith, r.2, r.3)
  | inr more ↦ elim (cases_eq (get_or labels n 0) n) [
    | inl own ↦ let step = own-step labels n own in (n, omega arith, own, omega arith)
    | inr other ↦ absurd (let step = other-step labels n other in omega arith)
  ]
]

-- numbers by rank are all used
pub used-ranks : (labels numbers : List ℕ) → numbers ≡ map (rank labels) labels → length numbers ≡ length labels →
    (g : ℕ) → g < rank labels (length labels) → Any (λ k. k ≡ g) numbers
used-ranks labels numbers e count g lt =
    let r = ranked labels (length labels) g lt in (
      r.0,
      g,
      (let low = r.1 in omega arith),
      ap (λ (xs : List ℕ). get_or xs r.0 g) e ∙ get_or-map (rank labels) labels r.0 0 g r.1 ∙ ap (rank labels) r.2 ∙ r.3,
      refl,
    )
