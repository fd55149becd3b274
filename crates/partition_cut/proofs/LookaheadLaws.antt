-- The least delay of links between groups, link by link.
use Rattle.std.proofs.Common.{◌≡◌, ◌≢◌, ℕ, ◌<◌, ◌≤◌, ◌+◌, List, [], ◌∷◌, ◌++◌, length, get_or, take, Any, min, Option, Some, None, refl, sym, ap, subst, arith, inl, inr}
use Rattle.std.proofs.lemmas.Bool.{cases_eq, cases_lt, eq-eqb, ne_eqb}
use Rattle.std.proofs.lemmas.List.{take_more}
use Rattle.std.proofs.lemmas.List.Elements.{All-push, All-weaker, Contains-append_left}
use Rattle.std.proofs.lemmas.List.Quantifiers.{Any-push}
use Rattle.sim_base.specs.declared.time.Time.{Time}
use Rattle.partition_cut.specs.AllowedCut.{IsLookahead, least_with_link, sooner_of}
use Rattle.partition_cut.specs.Network.{Link}

abbrev time : ℕ → Time
time n = record { 0 = n }

any-left : (P : Link → Type 0) (xs ys : List Link) → Any P xs → Any P (xs ++ ys)
any-left P xs ys (k, x, lt, is, p) = let c = Contains-append_left xs ys x (k, lt, is) in (c.0, x, c.1, c.2, p)

-- one more link within a group
together : (g : ℕ → ℕ) (links : List Link) (link : Link) (least : Option Time) → g link.0 ≡ g link.1 → IsLookahead g links least →
    IsLookahead g (links ++ link ∷ []) least
together g links link None same is = All-push (λ l. g l.0 ≡ g l.1) links link is same
together g links link (Some least) same is = (
  any-left _ links (link ∷ []) is.0,
  All-push (λ l. g l.0 ≢ g l.1 → least.0 ≤ l.2.0) links link is.1 (λ ne. absurd (ne same)),
)

-- one more link between two groups
nearer : (g : ℕ → ℕ) (links : List Link) (link : Link) (least : Option Time) → g link.0 ≢ g link.1 → IsLookahead g links least →
    IsLookahead g (links ++ link ∷ []) (Some (sooner_of least link.2))
nearer g links link None apart is = (
  Any-push (λ l. (g l.0 ≢ g l.1) × (l.2 ≡ link.2)) links link (apart, refl),
  All-push (λ l. g l.0 ≢ g l.1 → link.2.0 ≤ l.2.0) links link
      (All-weaker (λ l. g l.0 ≡ g l.1) (λ l. g l.0 ≢ g l.1 → link.2.0 ≤ l.2.0) (λ l same ne. absurd (ne same)) links is) (λ _. omega arith),
)
nearer g links link (Some least) apart is = (
  elim (cases_lt least.0 link.2.0) [
    | inl less ↦
        let m : least.0 ≡ min least.0 link.2.0 = omega arith in
        let P : Time → Type 0 = λ t. Any (λ l. (g l.0 ≢ g l.1) × (l.2 ≡ t)) (links ++ link ∷ []) in
        subst P (ap time m) (any-left _ links (link ∷ []) is.0)
    | inr more ↦
        let m : link.2.0 ≡ min least.0 link.2.0 = omega arith in
        Any-push (λ l. (g l.0 ≢ g l.1) × (l.2 ≡ time (min least.0 link.2.0))) links link (apart, ap time m)
  ],
  All-push (λ l. g l.0 ≢ g l.1 → min least.0 link.2.0 ≤ l.2.0) links link
      (All-weaker (λ l. g l.0 ≢ g l.1 → least.0 ≤ l.2.0) (λ l. g l.0 ≢ g l.1 → min least.0 link.2.0 ≤ l.2.0) (λ l low ne. let h = low ne in omega arith) links is.1) (λ _. omega arith),
)

lookahead-push : (g : ℕ → ℕ) (links : List Link) (link : Link) (least : Option Time) → IsLookahead g links least →
    IsLookahead g (links ++ link ∷ []) (least_with_link g least link)
lookahead-push g links link least is = elim (cases_eq (g link.0) (g link.1)) [
  | inl same ↦ let t = eq-eqb (g link.0) (g link.1) same in rw t (together g links link least same is)
  | inr apart ↦ let f = ne_eqb (g link.0) (g link.1) apart in rw f (nearer g links link least apart is)
]

-- one more link of a list
pub lookahead-more : (g : ℕ → ℕ) (links : List Link) (i : ℕ) (d : Link) (least : Option Time) → i < length links →
    IsLookahead g (take i links) least → IsLookahead g (take (i + 1) links) (least_with_link g least (get_or links i d))
lookahead-more g links i d least lt is =
    let P : List Link → Type 0 = λ l. IsLookahead g l (least_with_link g least (get_or links i d)) in
    subst P (sym (take_more links i d lt)) (lookahead-push g (take i links) (get_or links i d) least is)
