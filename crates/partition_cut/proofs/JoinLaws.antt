-- Joining pairs of nodes gives one label to nodes exactly where a walk joins them.
use Rattle.std.proofs.Common.{◌≡◌, ◌≢◌, ◌==◌, ℕ, ◌<◌, List, [], ◌∷◌, length, get_or, fold, min, max, All, Contains, if◌then◌else◌, refl, sym, ap, ◌∙◌, subst, arith, inl, inr, ◌⊎◌}
use Rattle.std.specs.List.{AllByRecursion, range_with_len}
use Rattle.std.proofs.lemmas.Bool.{cases_eq, cases_lt, eq-eqb, ne_eqb}
use Rattle.std.proofs.lemmas.List.{length-map, get_or-map}
use Rattle.std.proofs.lemmas.List.Elements.{All-from_recursion, All-contains}
use Rattle.std.proofs.lemmas.List.FromFn.{length-range_with_len, get_or-range_with_len}
use Rattle.partition_cut.specs.AutoCut.{AreSettled, Walk, joined}
use Rattle.partition_cut.specs.AutoCut.Walk.{Stays, Goes, Comes}

pub walk-append : (pairs : List (ℕ × ℕ)) (n m k : ℕ) → Walk pairs n m → Walk pairs m k → Walk pairs n k
walk-append pairs n m k Stays more = more
walk-append pairs n m k (Goes {m = next} has walk) more = Goes {n = n} {m = next} {k = k} has (walk-append pairs next m k walk more)
walk-append pairs n m k (Comes {m = next} has walk) more = Comes {n = n} {m = next} {k = k} has (walk-append pairs next m k walk more)

-- one label in another's place
abbrev pub replaced : ℕ → ℕ → ℕ → ℕ
replaced high low label = if label == high then low else label

pub replaced-there : (high low label : ℕ) → label ≡ high → replaced high low label ≡ low
replaced-there high low label e = let t = eq-eqb label high e in rw t refl

pub replaced-other : (high low label : ℕ) → label ≢ high → replaced high low label ≡ label
replaced-other high low label ne = let f = ne_eqb label high ne in rw f refl

pub length-joined : (labels : List ℕ) (pair : ℕ × ℕ) → length (joined labels pair) ≡ length labels
length-joined labels pair = length-map labels (replaced (max (get_or labels pair.0 0) (get_or labels pair.1 0)) (min (get_or labels pair.0 0) (get_or labels pair.1 0)))

pub joined-at : (labels : List ℕ) (a b i : ℕ) → i < length labels →
    get_or (joined labels (a, b)) i 0 ≡ replaced (max (get_or labels a 0) (get_or labels b 0)) (min (get_or labels a 0) (get_or labels b 0)) (get_or labels i 0)
joined-at labels a b i lt =
    get_or-map (replaced (max (get_or labels a 0) (get_or labels b 0)) (min (get_or labels a 0) (get_or labels b 0))) labels i 0 0 lt

-- nodes of one label have a walk between them
abbrev pub HaveWalks : List (ℕ × ℕ) → List ℕ → Type 0
HaveWalks pairs labels = (i j : ℕ) → i < length labels → j < length labels → get_or labels i 0 ≡ get_or labels j 0 → Walk pairs i j

-- two labels, of which one is put in the other's place, that become one
two-labels : (high low p q : ℕ) → replaced high low p ≡ replaced high low q →
    (p ≡ q) ⊎ (((p ≡ high) × (q ≡ low)) ⊎ ((p ≡ low) × (q ≡ high)))
two-labels high low p q e = elim (cases_eq p high) [
  | inl p_is ↦ elim (cases_eq q high) [
    | inl q_is ↦ inl (p_is ∙ sym q_is)
    | inr q_not ↦ inr (inl (p_is, sym (replaced-other high low q q_not) ∙ sym e ∙ replaced-there high low p p_is))
  ]
  | inr p_not ↦ elim (cases_eq q high) [
    | inl q_is ↦ inr (inr (sym (replaced-other high low p p_not) ∙ e ∙ replaced-there high low q q_is, q_is))
    | inr q_not ↦ inl (sym (replaced-other high low p p_not) ∙ e ∙ replaced-other high low q q_not)
  ]
]

-- the greater and the lesser of two numbers are these two
greater-lesser : (x y p q : ℕ) → p ≡ max x y → q ≡ min x y → ((p ≡ x) × (q ≡ y)) ⊎ ((p ≡ y) × (q ≡ x))
greater-lesser x y p q e d = elim (cases_lt x y) [
  | inl less ↦ inr (omega arith, omega arith)
  | inr more ↦ inl (omega arith, omega arith)
]

pub joined-walks : (pairs : List (ℕ × ℕ)) (labels : List ℕ) (a b : ℕ) → a < length labels → b < length labels →
    Contains pairs (a, b) → HaveWalks pairs labels → HaveWalks pairs (joined labels (a, b))
joined-walks pairs labels a b a_in b_in has walks i j i_in j_in same =
    let l = length-joined labels (a, b) in
    let x = get_or labels a 0 in
    let y = get_or labels b 0 in
    let i_low : i < length labels = omega arith in
    let j_low : j < length labels = omega arith in
    let e = sym (joined-at labels a b i i_low) ∙ same ∙ joined-at labels a b j j_low in
    let over : (p q : ℕ) → p < length labels → q < length labels → get_or labels p 0 ≡ max x y → get_or labels q 0 ≡ min x y → Walk pairs p q =
    λ p q p_in q_in high low. elim (greater-lesser x y (get_or labels p 0) (get_or labels q 0) high low) [
      | inl is ↦ walk-append pairs p a q (walks p a p_in a_in is.0) (Goes {n = a} {m = b} {k = q} has (walks b q b_in q_in (sym is.1)))
      | inr is ↦ walk-append pairs p b q (walks p b p_in b_in is.0) (Comes {n = b} {m = a} {k = q} has (walks a q a_in q_in (sym is.1)))
    ] in
    let back : (p q : ℕ) → p < length labels → q < length labels → get_or labels p 0 ≡ min x y → get_or labels q 0 ≡ max x y → Walk pairs p q =
    λ p q p_in q_in low high. elim (greater-lesser x y (get_or labels q 0) (get_or labels p 0) high low) [
      | inl is ↦ walk-append pairs p b q (walks p b p_in b_in is.1) (Comes {n = b} {m = a} {k = q} has (walks a q a_in q_in (sym is.0)))
      | inr is ↦ walk-append pairs p a q (walks p a p_in a_in is.1) (Goes {n = a} {m = b} {k = q} has (walks b q b_in q_in (sym is.0)))
    ] in
    elim (two-labels (max x y) (min x y) (get_or labels i 0) (get_or labels j 0) e) [
      | inl old ↦ walks i j i_low j_low old
      | inr new ↦ elim new [
        | inl is ↦ over i j i_low j_low is.0 is.1
        | inr is ↦ back i j i_low j_low is.0 is.1
      ]
    ]

-- one label stays one
joined-same : (labels : List ℕ) (a b i j : ℕ) → i < length labels → j < length labels → get_or labels i 0 ≡ get_or labels j 0 →
    get_or (joined labels (a, b)) i 0 ≡ get_or (joined labels (a, b)) j 0
joined-same labels a b i j i_in j_in same =
    joined-at labels a b i i_in
    ∙ ap (replaced (max (get_or labels a 0) (get_or labels b 0)) (min (get_or labels a 0) (get_or labels b 0))) same
    ∙ sym (joined-at labels a b j j_in)

-- the labels of a pair become one
both-low : (x y : ℕ) → replaced (max x y) (min x y) x ≡ replaced (max x y) (min x y) y
both-low x y = elim (cases_lt x y) [
  | inl less ↦
      let low : x ≡ min x y = omega arith in
      let ne : x ≢ max x y = (λ e. absurd (omega arith)) in
      let high : y ≡ max x y = omega arith in
      replaced-other (max x y) (min x y) x ne ∙ low ∙ sym (replaced-there (max x y) (min x y) y high)
  | inr more ↦
      let high : x ≡ max x y = omega arith in
      elim (cases_eq y x) [
        | inl same ↦ ap (replaced (max x y) (min x y)) (sym same)
        | inr other ↦
            let low : min x y ≡ y = omega arith in
            let ne : y ≢ max x y = (λ e. other (omega arith)) in
            replaced-there (max x y) (min x y) x high ∙ low ∙ sym (replaced-other (max x y) (min x y) y ne)
      ]
]

abbrev pub AreIn : ℕ → List (ℕ × ℕ) → Type 0
AreIn n pairs = AllByRecursion (λ pair. (pair.0 < n) × (pair.1 < n)) pairs

pub length-fold : (pairs : List (ℕ × ℕ)) (labels : List ℕ) → length (fold joined labels pairs) ≡ length labels
length-fold [] labels = refl
length-fold (pair ∷ pairs) labels = length-fold pairs (joined labels pair) ∙ length-joined labels pair

fold-same : (pairs : List (ℕ × ℕ)) (labels : List ℕ) (i j : ℕ) → i < length labels → j < length labels →
    get_or labels i 0 ≡ get_or labels j 0 → get_or (fold joined labels pairs) i 0 ≡ get_or (fold joined labels pairs) j 0
fold-same [] labels i j i_in j_in same = same
fold-same (pair ∷ pairs) labels i j i_in j_in same =
    let l = length-joined labels pair in
    fold-same pairs (joined labels pair) i j (omega arith) (omega arith) (joined-same labels pair.0 pair.1 i j i_in j_in same)

pub fold-pairs : (pairs : List (ℕ × ℕ)) (labels : List ℕ) → AreIn (length labels) pairs →
    AllByRecursion (λ pair. get_or (fold joined labels pairs) pair.0 0 ≡ get_or (fold joined labels pairs) pair.1 0) pairs
fold-pairs [] labels low = tt
fold-pairs (pair ∷ pairs) labels low =
    let l = length-joined labels pair in
    let P : ℕ → Type 0 = λ n. AreIn n pairs in (
      fold-same pairs (joined labels pair) pair.0 pair.1 (omega (arith, low.0.0)) (omega (arith, low.0.1))
          (joined-at labels pair.0 pair.1 pair.0 low.0.0 ∙ both-low (get_or labels pair.0 0) (get_or labels pair.1 0)
          ∙ sym (joined-at labels pair.0 pair.1 pair.1 low.0.1)),
      fold-pairs pairs (joined labels pair) (subst P (sym l) low.1),
    )

-- nodes that a walk joins have one label
pub walk-same : (pairs : List (ℕ × ℕ)) (labels : List ℕ) → AreIn (length labels) pairs → (n m : ℕ) → Walk pairs n m →
    get_or (fold joined labels pairs) n 0 ≡ get_or (fold joined labels pairs) m 0
walk-same pairs labels low n m walk = go n m walk
  where
    all : All (λ pair. get_or (fold joined labels pairs) pair.0 0 ≡ get_or (fold joined labels pairs) pair.1 0) pairs
    all = All-from_recursion (λ pair. get_or (fold joined labels pairs) pair.0 0 ≡ get_or (fold joined labels pairs) pair.1 0) pairs
        (fold-pairs pairs labels low)

    go : (a b : ℕ) → Walk pairs a b → get_or (fold joined labels pairs) a 0 ≡ get_or (fold joined labels pairs) b 0
    go a b Stays = refl
    go a b (Goes {m = next} has rest) =
        All-contains (λ pair. get_or (fold joined labels pairs) pair.0 0 ≡ get_or (fold joined labels pairs) pair.1 0) pairs (a, next) all has
        ∙ go next b rest
    go a b (Comes {m = next} has rest) =
        sym (All-contains (λ pair. get_or (fold joined labels pairs) pair.0 0 ≡ get_or (fold joined labels pairs) pair.1 0) pairs (next, a) all has)
        ∙ go next b rest

pub fold-walks : (all pairs : List (ℕ × ℕ)) (labels : List ℕ) → AreIn (length labels) pairs → AllByRecursion (Contains all) pairs →
    HaveWalks all labels → HaveWalks all (fold joined labels pairs)
fold-walks all [] labels low has walks = walks
fold-walks all (pair ∷ pairs) labels low has walks =
    let l = length-joined labels pair in
    let P : ℕ → Type 0 = λ n. AreIn n pairs in
    fold-walks all pairs (joined labels pair) (subst P (sym l) low.1) has.1
    (joined-walks all labels pair.0 pair.1 low.0.0 low.0.1 has.0 walks)

-- joining keeps labels settled
pub joined-settled : (labels : List ℕ) (a b : ℕ) → a < length labels → b < length labels → AreSettled labels → AreSettled (joined labels (a, b))
joined-settled labels a b a_in b_in settled i i_in =
    let l = length-joined labels (a, b) in
    let x = get_or labels a 0 in
    let y = get_or labels b 0 in
    let i_low : i < length labels = omega arith in
    let label_low = (settled i i_low).0 in
    let a_low = (settled a a_in).0 in
    let b_low = (settled b b_in).0 in
    let at = joined-at labels a b i i_low in
    let own : get_or labels (min x y) 0 ≡ min x y = own-lesser labels x y (settled a a_in).1 (settled b b_in).1 in
    let kept : (n : ℕ) → n < length labels → get_or labels n 0 ≡ n → replaced (max x y) (min x y) n ≡ n → get_or (joined labels (a, b)) n 0 ≡ n =
    λ n n_in n_own same. joined-at labels a b n n_in ∙ ap (replaced (max x y) (min x y)) n_own ∙ same in
    elim (cases_eq (get_or labels i 0) (max x y)) [
      | inl is ↦
          let e : get_or (joined labels (a, b)) i 0 ≡ min x y = at ∙ replaced-there (max x y) (min x y) (get_or labels i 0) is in (
            omega arith,
            ap (λ n. get_or (joined labels (a, b)) n 0) e ∙ kept (min x y) (omega arith) own (replaced-lesser x y) ∙ sym e,
          )
      | inr other ↦
          let e : get_or (joined labels (a, b)) i 0 ≡ get_or labels i 0 = at ∙ replaced-other (max x y) (min x y) (get_or labels i 0) other in (
            omega arith,
            ap (λ n. get_or (joined labels (a, b)) n 0) e
                ∙ kept (get_or labels i 0) (omega arith) (settled i i_low).1 (replaced-other (max x y) (min x y) (get_or labels i 0) other)
                ∙ sym e,
          )
    ]
  where
    own-lesser : (ls : List ℕ) (p q : ℕ) → get_or ls p 0 ≡ p → get_or ls q 0 ≡ q → get_or ls (min p q) 0 ≡ min p q
    own-lesser ls p q p_own q_own = let P : ℕ → Type 0 = λ n. get_or ls n 0 ≡ n in elim (cases_lt p q) [
      | inl less ↦ let e : p ≡ min p q = omega arith in subst P e p_own
      | inr more ↦ let e : q ≡ min p q = omega arith in subst P e q_own
    ]

    replaced-lesser : (p q : ℕ) → replaced (max p q) (min p q) (min p q) ≡ min p q
    replaced-lesser p q = elim (cases_eq (min p q) (max p q)) [
      | inl e ↦ replaced-there (max p q) (min p q) (min p q) e
      | inr ne ↦ replaced-other (max p q) (min p q) (min p q) ne
    ]

pub fold-settled : (pairs : List (ℕ × ℕ)) (labels : List ℕ) → AreIn (length labels) pairs → AreSettled labels → AreSettled (fold joined labels pairs)
fold-settled [] labels low settled = settled
fold-settled (pair ∷ pairs) labels low settled =
    let l = length-joined labels pair in
    let P : ℕ → Type 0 = λ n. AreIn n pairs in
    fold-settled pairs (joined labels pair) (subst P (sym l) low.1) (joined-settled labels pair.0 pair.1 low.0.0 low.0.1 settled)

pub range-at : (n i : ℕ) → i < n → get_or (range_with_len 0 n) i 0 ≡ i
range-at n i lt = let e = get_or-range_with_len 0 n i 0 lt in omega arith

pub range-settled : (n : ℕ) → AreSettled (range_with_len 0 n)
range-settled n i lt =
    let l = length-range_with_len 0 n in
    let e = range-at n i (omega arith) in
    (omega arith, ap (λ k. get_or (range_with_len 0 n) k 0) e)

pub range-walks : (pairs : List (ℕ × ℕ)) (n : ℕ) → HaveWalks pairs (range_with_len 0 n)
range-walks pairs n i j i_in j_in same =
    let l = length-range_with_len 0 n in
    let a = range-at n i (omega arith) in
    let b = range-at n j (omega arith) in
    let e : i ≡ j = omega arith in
    let P : ℕ → Type 0 = λ k. Walk pairs i k in subst P e Stays
