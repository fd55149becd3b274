-- Trees of nodes: shorter ways up, joined trees, and labels in the place of parents.
use Rattle.std.proofs.Common.{◌≡◌, ◌≢◌, ℕ, ◌<◌, ◌≤◌, ◌+◌, List, length, get_or, set, min, max, refl, sym, ap, ◌∙◌, subst, arith, inl, inr}
use Rattle.std.specs.List.{range_with_len}
use Rattle.std.proofs.lemmas.Bool.{cases_eq, cases_lt}
use Rattle.std.proofs.lemmas.List.{ext_get_or, length-set, get_or-set_same, get_or-set_other}
use Rattle.std.proofs.lemmas.List.FromFn.{length-range_with_len}
use Rattle.partition_cut.specs.AutoCut.{joined}
use Rattle.partition_cut.specs.Forest.{AreParents, LeadTo}
use Rattle.partition_cut.proofs.JoinLaws.{joined-at, length-joined, range-at, replaced, replaced-there, replaced-other}

-- a node that gets a parent no greater than itself
pub lower-parent : (parents : List ℕ) (n low : ℕ) → AreParents parents → n < length parents → low ≤ n →
    AreParents (set parents n low)
lower-parent parents n low below n_in le k k_in = let l = length-set parents n low in elim (cases_eq k n) [
  | inl same ↦
      let e : get_or (set parents n low) k 0 ≡ low = ap (λ i. get_or (set parents n low) i 0) same ∙ get_or-set_same parents n low 0 n_in in
      omega arith
  | inr other ↦
      let e = get_or-set_other parents n k low 0 other in
      let h = below k (omega arith) in
      omega arith
]

-- a node that gets a parent of the same label, and isn't its own parent then where it wasn't before
pub other-parent : (parents labels : List ℕ) (n next : ℕ) → LeadTo parents labels → n < length parents →
    get_or labels next 0 ≡ get_or labels n 0 → (next ≡ n → get_or labels n 0 ≡ n) → LeadTo (set parents n next) labels
other-parent parents labels n next lead n_in same own = let l = length-set parents n next in record {
  each = (let e = lead.each in omega arith);
  step = λ k k_in. elim (cases_eq k n) [
    | inl is ↦
        let e : get_or (set parents n next) k 0 ≡ next = ap (λ i. get_or (set parents n next) i 0) is ∙ get_or-set_same parents n next 0 n_in in
        ap (λ i. get_or labels i 0) e ∙ same ∙ ap (λ i. get_or labels i 0) (sym is)
    | inr other ↦
        ap (λ i. get_or labels i 0) (get_or-set_other parents n k next 0 other) ∙ lead.step k (omega arith)
  ];
  root = λ k k_in its. elim (cases_eq k n) [
    | inl is ↦
        let e : get_or (set parents n next) k 0 ≡ next = ap (λ i. get_or (set parents n next) i 0) is ∙ get_or-set_same parents n next 0 n_in in
        ap (λ i. get_or labels i 0) is ∙ own (sym e ∙ its ∙ is) ∙ sym is
    | inr other ↦ lead.root k (omega arith) (sym (get_or-set_other parents n k next 0 other) ∙ its)
  ];
}

-- the greater and the lesser of two roots are roots
own-both : (labels : List ℕ) (p q : ℕ) → get_or labels p 0 ≡ p → get_or labels q 0 ≡ q →
    (get_or labels (max p q) 0 ≡ max p q) × (get_or labels (min p q) 0 ≡ min p q)
own-both labels p q p_own q_own = let R : ℕ → Type 0 = λ n. get_or labels n 0 ≡ n in elim (cases_lt p q) [
  | inl less ↦ (let e : q ≡ max p q = omega arith in subst R e q_own, let e : p ≡ min p q = omega arith in subst R e p_own)
  | inr more ↦ (let e : p ≡ max p q = omega arith in subst R e p_own, let e : q ≡ min p q = omega arith in subst R e q_own)
]

-- a label in another's place
replace-roots : (parents labels new : List ℕ) (high low : ℕ) → AreParents parents → LeadTo parents labels → high < length parents → low ≤ high →
    get_or labels high 0 ≡ high → get_or labels low 0 ≡ low → length new ≡ length labels →
    ((n : ℕ) → n < length labels → get_or new n 0 ≡ replaced high low (get_or labels n 0)) → LeadTo (set parents high low) new
replace-roots parents labels new high low below lead high_in le high_own low_own same made =
    let each = lead.each in
    let l = length-set parents high low in
    let at_low : get_or new low 0 ≡ low = made low (omega arith) ∙ ap (replaced high low) low_own ∙ lesser in
    let at_high : get_or new high 0 ≡ low = made high (omega arith) ∙ replaced-there high low (get_or labels high 0) high_own in
    let parent : (k : ℕ) → k ≡ high → get_or (set parents high low) k 0 ≡ low =
    λ k is. ap (λ i. get_or (set parents high low) i 0) is ∙ get_or-set_same parents high low 0 high_in in
    record {
      each = omega arith;
      step = λ k k_in. elim (cases_eq k high) [
        | inl is ↦ ap (λ i. get_or new i 0) (parent k is) ∙ at_low ∙ sym at_high ∙ ap (λ i. get_or new i 0) (sym is)
        | inr other ↦
            let h = below k (omega arith) in
            ap (λ i. get_or new i 0) (get_or-set_other parents high k low 0 other)
            ∙ made (get_or parents k 0) (omega arith) ∙ ap (replaced high low) (lead.step k (omega arith)) ∙ sym (made k (omega arith))
      ];
      root = λ k k_in its. elim (cases_eq k high) [
        | inl is ↦ ap (λ i. get_or new i 0) is ∙ at_high ∙ sym (parent k is) ∙ its
        | inr other ↦
            let own_k = lead.root k (omega arith) (sym (get_or-set_other parents high k low 0 other) ∙ its) in
            made k (omega arith) ∙ ap (replaced high low) own_k ∙ replaced-other high low k other
      ];
    }
  where
    lesser : replaced high low low ≡ low
    lesser = elim (cases_eq low high) [
      | inl e ↦ replaced-there high low low e
      | inr ne ↦ replaced-other high low low ne
    ]

-- two roots, of which the lesser becomes the parent of the greater
pub join-roots : (parents labels : List ℕ) (a b first second : ℕ) → AreParents parents → LeadTo parents labels →
    first ≡ get_or labels a 0 → second ≡ get_or labels b 0 → get_or labels first 0 ≡ first → get_or labels second 0 ≡ second →
    first < length parents → second < length parents → LeadTo (set parents (max first second) (min first second)) (joined labels (a, b))
join-roots parents labels a b first second below lead first_is second_is first_own second_own first_in second_in =
    let own = own-both labels first second first_own second_own in
    let P : ℕ → ℕ → Type 0 = λ x y. (n : ℕ) → n < length labels → get_or (joined labels (a, b)) n 0 ≡ replaced (max x y) (min x y) (get_or labels n 0) in
    let Q : ℕ → Type 0 = λ x. P x second in
    replace-roots parents labels (joined labels (a, b)) (max first second) (min first second) below lead (omega arith) (omega arith) own.0 own.1
    (length-joined labels (a, b))
    (subst Q (sym first_is) (subst (P (get_or labels a 0)) (sym second_is) (λ n n_in. joined-at labels a b n n_in)))

-- each node is its own parent at first
pub range-parents : (n : ℕ) → AreParents (range_with_len 0 n)
range-parents n k k_in =
    let l = length-range_with_len 0 n in
    let e = range-at n k (omega arith) in
    omega arith

pub range-leads : (n : ℕ) → LeadTo (range_with_len 0 n) (range_with_len 0 n)
range-leads n = record {
  each = refl;
  step = λ k k_in.
      let l = length-range_with_len 0 n in
      ap (λ i. get_or (range_with_len 0 n) i 0) (range-at n k (omega arith));
  root = λ k k_in its. its;
}

-- the nodes before one have their labels, and the others still have their parents
abbrev pub AreLabelled : List ℕ → List ℕ → ℕ → Type 0
AreLabelled old new node = (k : ℕ) → k < length old →
    (node ≤ k → get_or new k 0 ≡ get_or old k 0)
    × (k < node → (labels : List ℕ) → LeadTo old labels → get_or new k 0 ≡ get_or labels k 0)

pub label-more : (old new : List ℕ) (node : ℕ) → length new ≡ length old → AreParents old → node < length old → AreLabelled old new node →
    AreLabelled old (set new node (get_or new (get_or new node 0) 0)) (node + 1)
label-more old new node same below node_in so k k_in =
    let here = (so node node_in).0 (omega arith) in
    let le = below node node_in in
    let next = get_or new (get_or new node 0) 0 in
    let parent = get_or old node 0 in (
      λ more.
          let ne : k ≢ node = (λ e. absurd (omega arith)) in
          get_or-set_other new node k next 0 ne ∙ (so k k_in).0 (omega arith),
      λ less labels lead. elim (cases_eq k node) [
        | inl is ↦
            ap (λ i. get_or (set new node next) i 0) is
            ∙ get_or-set_same new node next 0 (omega arith)
            ∙ ap (λ i. get_or new i 0) here
            ∙ elim (cases_eq parent node) [
              | inl own ↦ ap (λ i. get_or new i 0) own ∙ here ∙ own ∙ sym (lead.root node node_in own)
              | inr other ↦ (so parent (omega arith)).1 (omega arith) labels lead ∙ lead.step node node_in
            ]
            ∙ ap (λ i. get_or labels i 0) (sym is)
        | inr other ↦ get_or-set_other new node k next 0 other ∙ (so k k_in).1 (omega arith) labels lead
      ],
    )

pub all-labelled : (old new labels : List ℕ) (node : ℕ) → length new ≡ length old → length old ≤ node → AreLabelled old new node →
    LeadTo old labels → new ≡ labels
all-labelled old new labels node same le so lead =
    ext_get_or 0 new labels (same ∙ sym lead.each) (λ k k_in. (so k (omega arith)).1 (omega arith) labels lead)

-- a node that lies above another, where the parents still lead to the same labels
pub record IsAbove (old parents : List ℕ) (node at : ℕ) : Type 0 where
  pub each : length parents ≡ length old
  pub below : AreParents parents
  pub at_in : at < length parents
  pub leads : (labels : List ℕ) → LeadTo old labels → LeadTo parents labels × (get_or labels at 0 ≡ get_or labels node 0)

pub goes-up : (old parents : List ℕ) (node at above : ℕ) → IsAbove old parents node at → above ≡ get_or parents (get_or parents at 0) 0 →
    IsAbove old (set parents at above) node above
goes-up old parents node at above is above_is =
    let first = is.below at is.at_in in
    let second = is.below (get_or parents at 0) (let k = is.at_in in omega arith) in
    let at_in = is.at_in in
    let each = is.each in
    let l = length-set parents at above in
    record {
      each = omega arith;
      below = lower-parent parents at above is.below at_in (omega arith);
      at_in = omega arith;
      leads = λ labels lead.
          let h = is.leads labels lead in
          let same : get_or labels above 0 ≡ get_or labels at 0 = ap (λ n. get_or labels n 0) above_is
          ∙ h.0.step (get_or parents at 0) (omega arith) ∙ h.0.step at at_in in
          (other-parent parents labels at above h.0 at_in same (λ e. h.0.root at at_in (omega arith)), same ∙ h.1);
    }

pub root-found : (old parents : List ℕ) (node at : ℕ) → IsAbove old parents node at → get_or parents at 0 ≡ at →
    (labels : List ℕ) → LeadTo old labels → LeadTo parents labels × (at ≡ get_or labels node 0) × (get_or labels at 0 ≡ at)
root-found old parents node at is own labels lead =
    let h = is.leads labels lead in
    let r = h.0.root at is.at_in own in
    (h.0, sym r ∙ h.1, r)
