-- What labels that joining gives say of the cut that is numbered by them.
use Rattle.std.proofs.Common.{◌≡◌, ◌≢◌, ℕ, ◌<◌, ◌≤◌, ◌-◌, ◌/◌, true, false, nat_lt, List, length, map, get_or, Contains, fold, flat_map, filter, All, Option, Some, None, ◌↔◌, sym, ap, ◌∙◌, subst, arith, inl, inr}
use Rattle.std.specs.List.{AllByRecursion}
use Rattle.std.proofs.lemmas.Bool.{cases_Bool, cases_lt, lt-ltb, ltb-true}
use Rattle.std.proofs.lemmas.List.{length-map, get_or-map}
use Rattle.std.proofs.lemmas.List.Elements.{All-from_recursion, All-contains_itself, filter_passes, recursion_from_All}
use Rattle.std.proofs.lemmas.List.FromFn.{length-range_with_len}
use Rattle.std.proofs.lemmas.List.Sorted.{All-permutation}
use Rattle.std.proofs.lemmas.Option.{get_or_from_slice_get, slice_get_within}
use Rattle.partition_cut.specs.declared.network.Shape.{Shape}
use Rattle.partition_cut.specs.AllowedCut.{IsAllowed}
use Rattle.partition_cut.specs.AutoCut.{AreSettled, IsLeast, IsMedian, Walk, is_kept, joined, pairs_of, pairs_of_lan, pairs_of_links, positive_delays, rank}
use Rattle.partition_cut.specs.Network.{IsShape, Link, group_at, node_lists, nodes_of}
use Rattle.partition_cut.proofs.JoinLaws.{AreIn, HaveWalks, fold-pairs, fold-settled, fold-walks, length-fold, range-settled, range-walks, walk-same}
use Rattle.partition_cut.proofs.PairLaws.{append-rec, filter-rec, flat-rec, map-rec, pairs-in}
use Rattle.partition_cut.proofs.RankLaws.{rank-le, rank-less, rank-same}

-- a link that isn't kept takes some time
unkept-positive : (links : List Link) (threshold : Option ℕ) → IsMedian (positive_delays links) threshold → (link : Link) →
    is_kept threshold link ≡ false → 0 < link.2.0
unkept-positive links None median link cut = absurd (let d : true ≡ false = cut in cc)
unkept-positive links (Some least) median link cut =
    let middle = (length median.sorted - 1) / 2 in
    let all = All-permutation (λ delay. nat_lt 0 delay ≡ true) (positive_delays links) median.sorted median.permutes
    (filter_passes (nat_lt 0) (map (λ (l : Link). l.2.0) links)) in
    let within = slice_get_within median.sorted middle least median.middle in
    let at = get_or_from_slice_get median.sorted middle least 0 median.middle in
    let passes : nat_lt 0 least ≡ true = sym (ap (nat_lt 0) at) ∙ all middle 0 within in
    let positive = ltb-true 0 least passes in
    elim (cases_lt link.2.0 least) [
      | inl less ↦ absurd (let t = lt-ltb link.2.0 least less in let d : true ≡ false = sym t ∙ cut in cc)
      | inr more ↦ omega arith
    ]

module _ (shape : Shape) (threshold : Option ℕ) (is : IsShape shape) where
  abbrev pub pairs : List (ℕ × ℕ)
  pairs = pairs_of threshold shape

  abbrev pub labels : List ℕ
  labels = fold joined (nodes_of shape) pairs

  low : AreIn (length (nodes_of shape)) pairs
  low = let P : ℕ → Type 0 = λ n. AreIn n pairs in
      subst P (sym (length-range_with_len 0 shape.nodes)) (pairs-in shape threshold is)

  pub length-labels : length labels ≡ shape.nodes
  length-labels = length-fold pairs (nodes_of shape) ∙ length-range_with_len 0 shape.nodes

  pub labels-settled : AreSettled labels
  labels-settled = fold-settled pairs (nodes_of shape) low (range-settled shape.nodes)

  labels-walks : HaveWalks pairs labels
  labels-walks = fold-walks pairs pairs (nodes_of shape) low
      (recursion_from_All (Contains pairs) pairs (All-contains_itself pairs)) (range-walks pairs shape.nodes)

  module _ (numbers : List ℕ) (numbered : numbers ≡ map (rank labels) labels) where
    at : (k d : ℕ) → k < shape.nodes → get_or numbers k d ≡ rank labels (get_or labels k 0)
    at k d lt = ap (λ (xs : List ℕ). get_or xs k d) numbered
        ∙ get_or-map (rank labels) labels k 0 d (let l = length-labels in omega arith)

    same-label : (n m : ℕ) → n < shape.nodes → m < shape.nodes → get_or labels n 0 ≡ get_or labels m 0 →
        group_at numbers n ≡ group_at numbers m
    same-label n m n_in m_in same = at n 0 n_in ∙ ap (rank labels) same ∙ sym (at m 0 m_in)

    pub groups-joined : (n m : ℕ) → n < shape.nodes → m < shape.nodes → (group_at numbers n ≡ group_at numbers m) ↔ Walk pairs n m
    groups-joined n m n_in m_in =
        let l = length-labels in
        let n_low : n < length labels = omega arith in
        let m_low : m < length labels = omega arith in (
          λ same. labels-walks n m n_low m_low
              (rank-same labels (get_or labels n 0) (get_or labels m 0) (labels-settled n n_low).1 (labels-settled m m_low).1
              (sym (at n 0 n_in) ∙ same ∙ at m 0 m_in)),
          λ walk. same-label n m n_in m_in (walk-same pairs (nodes_of shape) low n m walk),
        )

    least-own : (k : ℕ) → k < shape.nodes → IsLeast (group_at numbers) k → get_or labels k 0 ≡ k
    least-own k lt least =
        let l = length-labels in
        let k_low : k < length labels = omega arith in
        let le = (labels-settled k k_low).0 in
        elim (cases_lt (get_or labels k 0) k) [
          | inl less ↦ absurd (least (get_or labels k 0) less
              (same-label (get_or labels k 0) k (omega arith) lt (labels-settled k k_low).1))
          | inr more ↦ omega arith
        ]

    pub groups-numbered : (n m : ℕ) → n < m → m < shape.nodes → IsLeast (group_at numbers) n → IsLeast (group_at numbers) m →
        group_at numbers n < group_at numbers m
    groups-numbered n m less m_in n_least m_least =
        let n_own = least-own n (omega arith) n_least in
        let m_own = least-own m m_in m_least in
        let a = at n 0 (omega arith) ∙ ap (rank labels) n_own in
        let b = at m 0 m_in ∙ ap (rank labels) m_own in
        let r = rank-less labels n m n_own less in
        omega arith

    pub length-numbers : length numbers ≡ shape.nodes
    length-numbers = ap length numbered ∙ length-map labels (rank labels) ∙ length-labels

    pub numbers-below : All (λ number. number < rank labels (length labels)) numbers
    numbers-below k d lt =
        let l = length-labels in
        let n = length-numbers in
        let k_low : k < length labels = omega arith in
        let le = (labels-settled k k_low).0 in
        let e = at k d (omega arith) in
        let r = rank-less labels (get_or labels k 0) (length labels) (labels-settled k k_low).1 (omega arith) in
        omega arith

    pub few-numbers : rank labels (length labels) ≤ shape.nodes
    few-numbers = let r = rank-le labels (length labels) in let l = length-labels in omega arith

    abbrev SameLabels : ℕ × ℕ → Type 0
    SameLabels pair = get_or labels pair.0 0 ≡ get_or labels pair.1 0

    lan-together : (lan : List ℕ) → All (λ node. node < shape.nodes) lan → AllByRecursion SameLabels (pairs_of_lan lan) →
        All (λ a. All (λ b. group_at numbers a ≡ group_at numbers b) lan) lan
    lan-together lan all same k d lt k' d' lt' =
        let each : All (λ node. get_or labels (get_or lan 0 0) 0 ≡ get_or labels node 0) lan =
        All-from_recursion (λ node. get_or labels (get_or lan 0 0) 0 ≡ get_or labels node 0) lan
        (map-rec SameLabels (λ node. (get_or lan 0 0, node)) lan same) in
        same-label (get_or lan k d) (get_or lan k' d') (all k d lt) (all k' d' lt') (sym (each k d lt) ∙ each k' d' lt')

    pub groups-allowed : IsMedian (positive_delays shape.links.items) threshold → IsAllowed shape (group_at numbers)
    groups-allowed median =
        let both = append-rec SameLabels (pairs_of_links threshold shape.links.items) (flat_map pairs_of_lan (node_lists shape.lans.items))
        (fold-pairs pairs (nodes_of shape) low) in
        let lans = All-from_recursion (λ lan. AllByRecursion SameLabels (pairs_of_lan lan)) (node_lists shape.lans.items)
        (flat-rec SameLabels pairs_of_lan (node_lists shape.lans.items) both.1) in
        let kept = All-from_recursion (λ (link : Link). is_kept threshold link ≡ true → SameLabels (link.0, link.1)) shape.links.items
        (filter-rec (λ (link : Link). SameLabels (link.0, link.1)) (is_kept threshold) shape.links.items
        (map-rec SameLabels (λ (link : Link). (link.0, link.1)) (filter (is_kept threshold) shape.links.items) both.0)) in
        record {
          lans = λ k d lt. lan-together (get_or (node_lists shape.lans.items) k d) (is.lans k d lt) (lans k d lt);
          links = λ k d lt apart. delayed (get_or shape.links.items k d) (is.links k d lt) (kept k d lt) apart;
        }
      where
        delayed : (link : Link) → (link.0 < shape.nodes) × (link.1 < shape.nodes) → (is_kept threshold link ≡ true → SameLabels (link.0, link.1)) →
            group_at numbers link.0 ≢ group_at numbers link.1 → 0 < link.2.0
        delayed link ends same apart = elim (cases_Bool (is_kept threshold link)) [
          | inl t ↦ absurd (apart (same-label link.0 link.1 ends.0 ends.1 (same t)))
          | inr f ↦ unkept-positive shape.links.items threshold median link f
        ]
