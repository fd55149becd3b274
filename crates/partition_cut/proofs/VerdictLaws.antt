-- When groups are refused, and what holds of those that are not.
use Rattle.std.proofs.Common.{◌≡◌, ◌≢◌, ◌==◌, ◌&&◌, ℕ, zero, suc, ◌<◌, ◌≤◌, ◌+◌, ◌-◌, Bool, true, false, not, List, [], ◌∷◌, length, map, get_or, take, position, All, min, nat_lt, Option, Some, None, option_map, refl, sym, ap, ◌∙◌, arith, inl, inr, ◌↔◌}
use Rattle.std.specs.List.{list_any}
use Rattle.std.specs.Option.{option_or}
use Rattle.std.proofs.lemmas.Bool.{cases_Bool, cases_eq, cases_lt, eq-eqb, ne_eqb, lt-ltb, le-ltb}
use Rattle.std.proofs.lemmas.List.{take_all}
use Rattle.std.proofs.lemmas.List.Folds.{list_any_at, list_any_none}
use Rattle.std.proofs.lemmas.List.FromFn.{length-range_with_len, get_or-range_with_len, length-map-range_with_len, get_or-map-range_with_len}
use Rattle.partition_cut.specs.declared.network.Shape.{Shape}
use Rattle.partition_cut.specs.declared.verdict.CutBad.{CutBad}
use Rattle.partition_cut.specs.declared.verdict.CutBad.TheVariants.{Twice, Missing, Lan, ZeroDelay}
use Rattle.partition_cut.specs.AllowedCut.{IsAllowed, is_apart, is_cut}
use Rattle.partition_cut.specs.Network.{Link, group_at, node_lists, nodes_of}
use Rattle.partition_cut.specs.Refusal.{AreAllowed, first_refusal, refusal_in, place_refusal, network_refusal, groups_of, group_in, places}
use Rattle.partition_cut.proofs.CountLaws.{group_in-more}
use Rattle.partition_cut.proofs.Positions.{position-none, none-position, position-map, position-same}

pub or-none : {A : Type 0} (a b : Option A) → option_or a b ≡ None → (a ≡ None) × (b ≡ None)
or-none None b h = (refl, h)
or-none (Some x) b h = absurd (let d : Some x ≡ None = h in cc)

pub none-or : {A : Type 0} (a b : Option A) → a ≡ None → b ≡ None → option_or a b ≡ None
none-or None b h k = k
none-or (Some x) b h k = h

pub map-none : {A B : Type 0} (f : A → B) (o : Option A) → option_map f o ≡ None → o ≡ None
map-none f None h = refl
map-none f (Some x) h = absurd (let d : Some (f x) ≡ None = h in cc)

twice-test : (x : ℕ) → (min 2 x == 2) ≡ nat_lt 1 x
twice-test x = elim (cases_lt 1 x) [
  | inl more ↦ let e : min 2 x ≡ 2 = omega arith in eq-eqb (min 2 x) 2 e ∙ sym (lt-ltb 1 x more)
  | inr less ↦ let ne : min 2 x ≢ 2 = (λ e. absurd (omega arith)) in ne_eqb (min 2 x) 2 ne ∙ sym (le-ltb 1 x less)
]

none-test : (x : ℕ) → (min 2 x == 0) ≡ (x == 0)
none-test x = elim (cases_eq x 0) [
  | inl e ↦ let m : min 2 x ≡ 0 = omega arith in eq-eqb (min 2 x) 0 m ∙ sym (eq-eqb x 0 e)
  | inr ne ↦ let m : min 2 x ≢ 0 = (λ e. ne (omega arith)) in ne_eqb (min 2 x) 0 m ∙ sym (ne_eqb x 0 ne)
]

-- counts that stop at two tell the first refusal for where nodes stand
pub counts-refuse : (shape : Shape) (groups : List (List ℕ)) (counts : List ℕ) →
    counts ≡ map (λ node. min 2 (places groups node)) (nodes_of shape) →
    option_or (option_map Twice (position (λ count. count == 2) counts)) (option_map Missing (position (λ count. count == 0) counts))
    ≡ place_refusal shape groups
counts-refuse shape groups counts e =
    let f : ℕ → ℕ = λ node. min 2 (places groups node) in
    let twice = ap (position (λ count. count == 2)) e ∙ position-map (λ count. count == 2) f (nodes_of shape) 0
    ∙ position-same (λ node. f node == 2) (λ node. nat_lt 1 (places groups node)) (nodes_of shape) (λ node. twice-test (places groups node)) in
    let missing = ap (position (λ count. count == 0)) e ∙ position-map (λ count. count == 0) f (nodes_of shape) 0
    ∙ position-same (λ node. f node == 0) (λ node. places groups node == 0) (nodes_of shape) (λ node. none-test (places groups node)) in
    ap (λ (o : Option ℕ). option_or (option_map Twice o) (option_map Missing (position (λ count. count == 0) counts))) twice
    ∙ ap (λ (o : Option ℕ). option_or (option_map Twice (position (λ node. nat_lt 1 (places groups node)) (nodes_of shape))) (option_map Missing o)) missing

-- where no place is refused, each node stands once
pub placed-once : (shape : Shape) (groups : List (List ℕ)) → place_refusal shape groups ≡ None →
    (node : ℕ) → node < shape.nodes → places groups node ≡ 1
placed-once shape groups none node lt =
    let both = or-none (option_map Twice (position (λ n. nat_lt 1 (places groups n)) (nodes_of shape)))
    (option_map Missing (position (λ n. places groups n == 0) (nodes_of shape))) none in
    let l = length-range_with_len 0 shape.nodes in
    let at : get_or (nodes_of shape) node 0 ≡ node = (let e = get_or-range_with_len 0 shape.nodes node 0 lt in omega arith) in
    let few = none-position (λ n. nat_lt 1 (places groups n)) (nodes_of shape) (map-none Twice _ both.0) node 0 (omega arith) in
    let some = none-position (λ n. places groups n == 0) (nodes_of shape) (map-none Missing _ both.1) node 0 (omega arith) in
    let few_here : nat_lt 1 (places groups node) ≡ false = sym (ap (λ n. nat_lt 1 (places groups n)) at) ∙ few in
    let some_here : (places groups node == 0) ≡ false = sym (ap (λ n. places groups n == 0) at) ∙ some in
    elim (cases_lt 1 (places groups node)) [
      | inl more ↦ absurd (let t = lt-ltb 1 (places groups node) more in let d : true ≡ false = sym t ∙ few_here in cc)
      | inr less ↦ elim (cases_eq (places groups node) 0) [
        | inl e ↦ absurd (let t = eq-eqb (places groups node) 0 e in let d : true ≡ false = sym t ∙ some_here in cc)
        | inr ne ↦ omega arith
      ]
    ]

-- nodes that each stand once are not refused
once-placed : (shape : Shape) (groups : List (List ℕ)) → ((node : ℕ) → node < shape.nodes → places groups node ≡ 1) →
    place_refusal shape groups ≡ None
once-placed shape groups once =
    let here : (k : ℕ) → k < length (nodes_of shape) → places groups (get_or (nodes_of shape) k 0) ≡ 1 = λ k lt.
    (let l = length-range_with_len 0 shape.nodes in
    ap (places groups) (get_or-range_with_len 0 shape.nodes k 0 (omega arith)) ∙ once (0 + k) (omega arith)) in
    none-or (option_map Twice (position (λ n. nat_lt 1 (places groups n)) (nodes_of shape)))
    (option_map Missing (position (λ n. places groups n == 0) (nodes_of shape)))
    (ap (option_map Twice) (position-none (λ n. nat_lt 1 (places groups n)) (nodes_of shape) 0 (λ k lt. ap (nat_lt 1) (here k lt))))
    (ap (option_map Missing) (position-none (λ n. places groups n == 0) (nodes_of shape) 0 (λ k lt. ap (λ x. x == 0) (here k lt))))

not_eq-false : (a b : ℕ) → not (a == b) ≡ false → a ≡ b
not_eq-false a b h = elim (cases_eq a b) [
  | inl e ↦ e
  | inr ne ↦ absurd (let f = ne_eqb a b ne in let d : true ≡ false = sym (ap not f) ∙ h in cc)
]

-- a list that is not apart has its nodes in one group
apart-false : (g : ℕ → ℕ) (lan : List ℕ) → is_apart g lan ≡ false → All (λ a. All (λ b. g a ≡ g b) lan) lan
apart-false g lan none k d lt k' d' lt' = here k d lt ∙ sym (here k' d' lt')
  where
    test : ℕ → Bool
    test node = not (g node == g (get_or lan 0 0))

    here : (i : ℕ) (e : ℕ) → i < length lan → g (get_or lan i e) ≡ g (get_or lan 0 0)
    here i e less = elim (cases_Bool (not (g (get_or lan i e) == g (get_or lan 0 0)))) [
      | inl t ↦ absurd (let any = list_any_at (λ node. not (g node == g (get_or lan 0 0))) lan i e less t in
          let d : true ≡ false = sym any ∙ none in cc)
      | inr f ↦ not_eq-false _ _ f
    ]

false-apart : (g : ℕ → ℕ) (lan : List ℕ) → All (λ a. All (λ b. g a ≡ g b) lan) lan → is_apart g lan ≡ false
false-apart g lan all = list_any_none (λ node. not (g node == g (get_or lan 0 0))) lan
    (λ k d lt. ap not (eq-eqb (g (get_or lan k d)) (g (get_or lan 0 0)) (all k d lt 0 0 (omega arith))))

-- what is not refused for its LANs and links is allowed
pub network-allowed : (shape : Shape) (g : ℕ → ℕ) → network_refusal shape g ≡ None → IsAllowed shape g
network-allowed shape g none =
    let both = or-none (option_map Lan (position (is_apart g) (node_lists shape.lans.items)))
    (option_map ZeroDelay (position (λ link. is_cut g link && (link.2.0 == 0)) shape.links.items)) none in
    let lans = none-position (is_apart g) (node_lists shape.lans.items) (map-none Lan _ both.0) in
    let links = none-position (λ link. is_cut g link && (link.2.0 == 0)) shape.links.items (map-none ZeroDelay _ both.1) in
    record {
      lans = λ k d lt. apart-false g (get_or (node_lists shape.lans.items) k d) (lans k d lt);
      links = λ k d lt apart. delayed (get_or shape.links.items k d) apart (links k d lt);
    }
  where
    delayed : (link : Link) → g link.0 ≢ g link.1 → (is_cut g link && (link.2.0 == 0)) ≡ false → 0 < link.2.0
    delayed link apart false_test = elim (cases_eq link.2.0 0) [
      | inl e ↦ absurd (let f = ne_eqb (g link.0) (g link.1) apart in let t = eq-eqb link.2.0 0 e in
          let d : true ≡ false = rw (f, t) at false_test in cc)
      | inr ne ↦ omega arith
    ]

allowed-network : (shape : Shape) (g : ℕ → ℕ) → IsAllowed shape g → network_refusal shape g ≡ None
allowed-network shape g is =
    none-or (option_map Lan (position (is_apart g) (node_lists shape.lans.items)))
    (option_map ZeroDelay (position (λ link. is_cut g link && (link.2.0 == 0)) shape.links.items))
    (ap (option_map Lan) (position-none (is_apart g) (node_lists shape.lans.items) []
    (λ k lt. false-apart g (get_or (node_lists shape.lans.items) k []) (is.lans k [] lt))))
    (ap (option_map ZeroDelay) (position-none (λ link. is_cut g link && (link.2.0 == 0)) shape.links.items (0, 0, record { 0 = 0 })
    (λ k lt. passed (get_or shape.links.items k (0, 0, record { 0 = 0 })) (is.links k (0, 0, record { 0 = 0 }) lt))))
  where
    passed : (link : Link) → (g link.0 ≢ g link.1 → 0 < link.2.0) → (is_cut g link && (link.2.0 == 0)) ≡ false
    passed link h = elim (cases_eq (g link.0) (g link.1)) [
      | inl same ↦ let t = eq-eqb (g link.0) (g link.1) same in rw t refl
      | inr apart ↦
          let f = ne_eqb (g link.0) (g link.1) apart in
          let some = h apart in
          let z = ne_eqb link.2.0 0 (λ e. absurd (omega arith)) in rw (f, z) refl
    ]

pub refusal-exact : (shape : Shape) (groups : List (List ℕ)) → (first_refusal shape groups ≡ None) ↔ AreAllowed shape groups
unfolding refusal_in
refusal-exact shape groups = (
  λ none. (let both = or-none (place_refusal shape groups) (network_refusal shape (group_at (groups_of shape groups))) none in record {
    once = placed-once shape groups both.0;
    allowed = network-allowed shape (group_at (groups_of shape groups)) both.1;
  }),
  λ is. none-or (place_refusal shape groups) (network_refusal shape (group_at (groups_of shape groups)))
      (once-placed shape groups is.once) (allowed-network shape (group_at (groups_of shape groups)) is.allowed),
)

-- the number of a node's group is below the number of groups
group_in-front : (groups : List (List ℕ)) (node i : ℕ) → suc i ≤ length groups → group_in (take (suc i) groups) node < suc i
group_in-front groups node zero le =
    let e = group_in-more groups 0 node (omega arith) in
    elim (cases_Bool (list_any (λ member. member == node) (get_or groups 0 []))) [
      | inl t ↦ let h = rw t at e in omega arith
      | inr f ↦ let h = rw f at e in omega arith
    ]
group_in-front groups node (suc i) le =
    let s : suc i + 1 ≡ suc (suc i) = omega arith in
    let e = ap (λ n. group_in (take n groups) node) (sym s) ∙ group_in-more groups (suc i) node (omega arith) in
    let rest = group_in-front groups node i (omega arith) in
    elim (cases_Bool (list_any (λ member. member == node) (get_or groups (suc i) []))) [
      | inl t ↦ let h = rw t at e in omega arith
      | inr f ↦ let h = rw f at e in omega arith
    ]

group_in-below : (groups : List (List ℕ)) (node : ℕ) → 0 < length groups → group_in groups node < length groups
group_in-below groups node some =
    let front = group_in-front groups node (length groups - 1) (omega arith) in
    let all = ap (λ l. group_in l node) (take_all (suc (length groups - 1)) groups (omega arith)) in omega arith

some-group : (groups : List (List ℕ)) (node : ℕ) → places groups node ≡ 1 → 0 < length groups
some-group [] node once = absurd (let z : 0 ≡ 1 = once in omega arith)
some-group (group ∷ groups) node once = omega arith

-- the numbers of groups in which each node stands are below the number of groups
pub numbers-within : (shape : Shape) (groups : List (List ℕ)) (numbers : List ℕ) → numbers ≡ groups_of shape groups →
    place_refusal shape groups ≡ None → All (λ number. number < length groups) numbers
numbers-within shape groups numbers e none k d lt =
    let l = ap length e ∙ length-map-range_with_len (group_in groups) 0 shape.nodes in
    let at = ap (λ (xs : List ℕ). get_or xs k d) e
    ∙ get_or-map-range_with_len (group_in groups) 0 shape.nodes k k d (omega arith) (omega arith) in
    let low = group_in-below groups k (some-group groups k (placed-once shape groups none k (omega arith))) in omega arith

-- a refusal for where nodes stand is the first refusal
pub refused-places : (shape : Shape) (groups : List (List ℕ)) (counts items : List ℕ) (bad : CutBad) →
    items ≡ map (λ node. min 2 (places groups node)) (nodes_of shape) → counts ≡ items →
    Some bad ≡ option_or (option_map Twice (position (λ count. count == 2) counts)) (option_map Missing (position (λ count. count == 0) counts)) →
    first_refusal shape groups ≡ Some bad
unfolding refusal_in
refused-places shape groups counts items bad e same h =
    ap (λ (o : Option CutBad). option_or o (network_refusal shape (group_at (groups_of shape groups))))
    (sym (counts-refuse shape groups counts (same ∙ e)) ∙ sym h)

-- a refusal for LANs and links is the first where nodes stand well
pub refused-network : (shape : Shape) (groups : List (List ℕ)) (numbers items : List ℕ) (o : Option CutBad) →
    place_refusal shape groups ≡ None → items ≡ groups_of shape groups → numbers ≡ items → o ≡ network_refusal shape (group_at numbers) →
    first_refusal shape groups ≡ o
unfolding refusal_in
refused-network shape groups numbers items o none e same h =
    ap (λ (p : Option CutBad). option_or p (network_refusal shape (group_at (groups_of shape groups)))) none
    ∙ ap (λ (l : List ℕ). network_refusal shape (group_at l)) (sym e ∙ sym same) ∙ sym h
