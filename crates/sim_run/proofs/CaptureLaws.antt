-- Captures are listed by node and interface, each interface once.
use Rattle.std.proofs.Common.{◌≡◌, ℕ, zero, suc, ◌+◌, ◌<◌, ◌≤◌, false, List, [], ◌∷◌, ◌++◌, length, drop, get_or, Some, None, refl, ap, sym, ◌∙◌, arith, inl, inr, add-one, drop-cons}
use Rattle.std.proofs.lemmas.Bool.{cases_Bool, ne_eqb}
use Rattle.std.proofs.lemmas.Bool.Decides.{eqb_tells}
use Rattle.std.specs.List.{AllByRecursion}
use Rattle.scenario_form.specs.declared.scenario.Scenario.{Scenario}
use Rattle.sim_run.specs.declared.captures.Face.{Face}
use Rattle.sim_run.specs.declared.captures.Capture.{Capture}
use Rattle.sim_run.specs.Captures.{AreApart, captures_from, captures_below, faces_of, is_of}

pub all-map : {A : Type 0} (P Q : A → Type 0) → ((x : A) → P x → Q x) → (xs : List A) → AllByRecursion P xs → AllByRecursion Q xs
all-map P Q f [] h = tt
all-map P Q f (x ∷ xs) h = (f x h.0, all-map P Q f xs h.1)

pub all-append : {A : Type 0} (P : A → Type 0) (xs ys : List A) → AllByRecursion P xs → AllByRecursion P ys → AllByRecursion P (xs ++ ys)
all-append P [] ys h more = more
all-append P (x ∷ xs) ys h more = (h.0, all-append P xs ys h.1 more)

-- a capture at this node, and not before this interface
abbrev IsAbove : ℕ → ℕ → Capture → Type 0
IsAbove node iface c = (c.node.0 ≡ node) × (iface ≤ c.iface)

from_above : (node iface : ℕ) (faces : List Face) → AllByRecursion (IsAbove node iface) (captures_from node iface faces)
from_above node iface [] = tt
from_above node iface (f ∷ faces) =
    let later : AllByRecursion (IsAbove node iface) (captures_from node (iface + 1) faces) =
    all-map (IsAbove node (iface + 1)) (IsAbove node iface) (λ c above. (above.0, omega (arith, above.1))) _ (from_above node (iface + 1) faces) in
    elim (cases_Bool f.captured) [ inl e ↦ rw e ((refl, omega arith), later) | inr e ↦ rw e later ]

-- a capture of another interface
pub not_of : (node iface : ℕ) (c : Capture) → (c.node.0 ≡ node → c.iface ≡ iface → ⊥) → is_of node iface c ≡ false
not_of node iface c other =
    elim (eqb_tells c.node.0 node) [ inl same ↦ rw same.0 (ne_eqb c.iface iface (other same.1)) | inr apart ↦ rw apart.0 refl ]

from_apart : (node iface : ℕ) (faces : List Face) → AreApart (captures_from node iface faces)
from_apart node iface [] = tt
from_apart node iface (f ∷ faces) =
    let others : AllByRecursion (λ c. is_of node iface c ≡ false) (captures_from node (iface + 1) faces) =
    all-map (IsAbove node (iface + 1)) (λ c. is_of node iface c ≡ false)
    (λ c above. not_of node iface c (λ same_node same_iface. omega (arith, above.1, same_iface)))
    _ (from_above node (iface + 1) faces) in
    elim (cases_Bool f.captured) [
      | inl e ↦ rw e (others, from_apart node (iface + 1) faces)
      | inr e ↦ rw e (from_apart node (iface + 1) faces)
    ]

apart-append : (n : ℕ) (xs ys : List Capture) → AllByRecursion (λ c. c.node.0 < n) xs → AllByRecursion (IsAbove n 0) ys
    → AreApart xs → AreApart ys → AreApart (xs ++ ys)
apart-append n [] ys low here apart more = more
apart-append n (x ∷ xs) ys low here apart more = (
  all-append _ xs ys apart.0
      (all-map (IsAbove n 0) (λ c. is_of x.node.0 x.iface c ≡ false)
      (λ c at. not_of x.node.0 x.iface c (λ same_node same_iface. omega (arith, at.0, same_node, low.0)))
      ys here),
  apart-append n xs ys low.1 here apart.1 more,
)

below_node : (s : Scenario) (n : ℕ) → AllByRecursion (λ c. c.node.0 < n) (captures_below s n)
below_node s zero = tt
below_node s (suc n) =
    all-append (λ c. c.node.0 < suc n) (captures_below s n) (captures_from n 0 (faces_of s n))
    (all-map (λ c. c.node.0 < n) (λ c. c.node.0 < suc n) (λ c low. omega (arith, low)) _ (below_node s n))
    (all-map (IsAbove n 0) (λ c. c.node.0 < suc n) (λ c at. omega (arith, at.0)) _ (from_above n 0 (faces_of s n)))

-- no interface is listed twice
pub captures-apart : (s : Scenario) (n : ℕ) → AreApart (captures_below s n)
captures-apart s zero = tt
captures-apart s (suc n) =
    apart-append n (captures_below s n) (captures_from n 0 (faces_of s n)) (below_node s n) (from_above n 0 (faces_of s n))
    (captures-apart s n) (from_apart n 0 (faces_of s n))

-- the first of the interfaces that are left
pub captures_from-drop : (node i : ℕ) (faces : List Face) (f : Face) → i < length faces → f ≡ get_or faces i f
    → captures_from node i (drop i faces) ≡ captures_from node i (f ∷ drop (i + 1) faces)
captures_from-drop node i faces f within is =
    ap (captures_from node i) (drop-cons faces i f within ∙ ap (λ g. g ∷ drop (suc i) faces) (sym is) ∙ ap (λ n. f ∷ drop n faces) (sym (add-one i)))

-- what is found isn't nowhere
pub found_nowhere : (place : ℕ) → Some place ≡ None → ⊥
found_nowhere place found = cc
