-- The pairs of nodes that stay together, link by link and LAN by LAN.
use Rattle.std.proofs.Common.{◌≡◌, ℕ, ◌<◌, ◌+◌, Bool, true, false, List, [], ◌∷◌, ◌++◌, length, map, filter, take, get_or, fold, flat_map, All, Option, if◌then◌else◌, refl, sym, ap, ◌∙◌, arith, inl, inr}
use Rattle.std.specs.List.{AllByRecursion}
use Rattle.std.proofs.lemmas.Bool.{cases_Bool}
use Rattle.std.proofs.lemmas.Grind.{flat_map-append}
use Rattle.std.proofs.lemmas.List.{append-nil, map-append, take_more}
use Rattle.std.proofs.lemmas.List.Elements.{recursion_from_All}
use Rattle.std.proofs.lemmas.List.Sums.{fold-append, fold_push}
use Rattle.partition_cut.specs.declared.network.Shape.{Shape}
use Rattle.partition_cut.specs.AutoCut.{is_kept, joined, pairs_of, pairs_of_lan, pairs_of_links}
use Rattle.partition_cut.specs.Network.{IsShape, Link, node_lists}
use Rattle.partition_cut.proofs.JoinLaws.{AreIn}

links-push : (threshold : Option ℕ) (labels : List ℕ) (links : List Link) (link : Link) →
    fold joined labels (pairs_of_links threshold (links ++ link ∷ []))
    ≡ (if is_kept threshold link then joined (fold joined labels (pairs_of_links threshold links)) (link.0, link.1)
    else fold joined labels (pairs_of_links threshold links))
links-push threshold labels [] link = elim (cases_Bool (is_kept threshold link)) [
  | inl t ↦ rw t refl
  | inr f ↦ rw f refl
]
links-push threshold labels (first ∷ links) link = elim (cases_Bool (is_kept threshold first)) [
  | inl t ↦ rw t (links-push threshold (joined labels (first.0, first.1)) links link)
  | inr f ↦ rw f (links-push threshold labels links link)
]

pub links-more : (threshold : Option ℕ) (labels : List ℕ) (links : List Link) (i : ℕ) (d : Link) → i < length links →
    (if is_kept threshold (get_or links i d)
    then joined (fold joined labels (pairs_of_links threshold (take i links))) ((get_or links i d).0, (get_or links i d).1)
    else fold joined labels (pairs_of_links threshold (take i links)))
    ≡ fold joined labels (pairs_of_links threshold (take (i + 1) links))
links-more threshold labels links i d lt =
    sym (ap (λ l. fold joined labels (pairs_of_links threshold l)) (take_more links i d lt) ∙ links-push threshold labels (take i links) (get_or links i d))

-- the pairs of a LAN, one member more
pub lan-more : (labels : List ℕ) (first : ℕ) (lan : List ℕ) (i : ℕ) → i < length lan →
    joined (fold joined labels (map (λ node. (first, node)) (take i lan))) (first, get_or lan i 0)
    ≡ fold joined labels (map (λ node. (first, node)) (take (i + 1) lan))
lan-more labels first lan i lt =
    let pair : ℕ → ℕ × ℕ = λ node. (first, node) in
    sym (ap (λ l. fold joined labels (map pair l)) (take_more lan i 0 lt)
    ∙ ap (fold joined labels) (map-append pair (take i lan) (get_or lan i 0 ∷ []))
    ∙ fold_push joined labels (map pair (take i lan)) (first, get_or lan i 0))

-- the pairs of LANs, one LAN more
pub lans-more : (labels : List ℕ) (lans : List (List ℕ)) (i : ℕ) → i < length lans →
    fold joined (fold joined labels (flat_map pairs_of_lan (take i lans))) (pairs_of_lan (get_or lans i []))
    ≡ fold joined labels (flat_map pairs_of_lan (take (i + 1) lans))
lans-more labels lans i lt =
    let lan = get_or lans i [] in
    sym (ap (λ l. fold joined labels (flat_map pairs_of_lan l)) (take_more lans i [] lt)
    ∙ ap (fold joined labels) (flat_map-append pairs_of_lan (take i lans) (lan ∷ []) ∙ ap (λ l. flat_map pairs_of_lan (take i lans) ++ l) (append-nil (pairs_of_lan lan)))
    ∙ fold-append joined labels (flat_map pairs_of_lan (take i lans)) (pairs_of_lan lan))

-- what holds of each element of a list that is made of others
rec-append : {A : Type 0} (P : A → Type 0) (xs ys : List A) → AllByRecursion P xs → AllByRecursion P ys → AllByRecursion P (xs ++ ys)
rec-append P [] ys h k = k
rec-append P (x ∷ xs) ys h k = (h.0, rec-append P xs ys h.1 k)

pub append-rec : {A : Type 0} (P : A → Type 0) (xs ys : List A) → AllByRecursion P (xs ++ ys) → AllByRecursion P xs × AllByRecursion P ys
append-rec P [] ys h = (tt, h)
append-rec P (x ∷ xs) ys h = let rest = append-rec P xs ys h.1 in ((h.0, rest.0), rest.1)

pub flat-rec : {A B : Type 0} (P : B → Type 0) (f : A → List B) (xs : List A) → AllByRecursion P (flat_map f xs) →
    AllByRecursion (λ x. AllByRecursion P (f x)) xs
flat-rec P f [] h = tt
flat-rec P f (x ∷ xs) h = let both = append-rec P (f x) (flat_map f xs) h in (both.0, flat-rec P f xs both.1)

rec-flat : {A B : Type 0} (P : B → Type 0) (f : A → List B) (xs : List A) → AllByRecursion (λ x. AllByRecursion P (f x)) xs →
    AllByRecursion P (flat_map f xs)
rec-flat P f [] h = tt
rec-flat P f (x ∷ xs) h = rec-append P (f x) (flat_map f xs) h.0 (rec-flat P f xs h.1)

pub map-rec : {A B : Type 0} (P : B → Type 0) (f : A → B) (xs : List A) → AllByRecursion P (map f xs) → AllByRecursion (λ x. P (f x)) xs
map-rec P f [] h = tt
map-rec P f (x ∷ xs) h = (h.0, map-rec P f xs h.1)

rec-map : {A B : Type 0} (P : B → Type 0) (f : A → B) (xs : List A) → AllByRecursion (λ x. P (f x)) xs → AllByRecursion P (map f xs)
rec-map P f [] h = tt
rec-map P f (x ∷ xs) h = (h.0, rec-map P f xs h.1)

rec-weaker : {A : Type 0} (P Q : A → Type 0) (xs : List A) → ((x : A) → P x → Q x) → AllByRecursion P xs → AllByRecursion Q xs
rec-weaker P Q [] h all = tt
rec-weaker P Q (x ∷ xs) h all = (h x all.0, rec-weaker P Q xs h all.1)

rec-filter : {A : Type 0} (P : A → Type 0) (p : A → Bool) (xs : List A) → AllByRecursion P xs → AllByRecursion P (filter p xs)
rec-filter P p [] h = tt
rec-filter P p (x ∷ xs) h = elim (cases_Bool (p x)) [
  | inl t ↦ rw t (h.0, rec-filter P p xs h.1)
  | inr f ↦ rw f (rec-filter P p xs h.1)
]

pub filter-rec : {A : Type 0} (P : A → Type 0) (p : A → Bool) (xs : List A) → AllByRecursion P (filter p xs) →
    AllByRecursion (λ x. p x ≡ true → P x) xs
filter-rec P p [] h = tt
filter-rec P p (x ∷ xs) h = elim (cases_Bool (p x)) [
  | inl t ↦ let k = rw t at h in ((λ _. k.0), filter-rec P p xs k.1)
  | inr f ↦ let k = rw f at h in ((λ t. absurd (let d : true ≡ false = sym t ∙ f in cc)), filter-rec P p xs k)
]

lan-in : (n : ℕ) (lan : List ℕ) → All (λ node. node < n) lan → AreIn n (pairs_of_lan lan)
lan-in n lan all = rec-map (λ pair. (pair.0 < n) × (pair.1 < n)) (λ node. (get_or lan 0 0, node)) lan
    (recursion_from_All (λ node. (get_or lan 0 0 < n) × (node < n)) lan (λ k d lt. (all 0 0 (omega arith), all k d lt)))

-- the pairs of a shape are pairs of its nodes
pub pairs-in : (shape : Shape) (threshold : Option ℕ) → IsShape shape → AreIn shape.nodes (pairs_of threshold shape)
pairs-in shape threshold is =
    let P : ℕ × ℕ → Type 0 = λ pair. (pair.0 < shape.nodes) × (pair.1 < shape.nodes) in
    rec-append P (pairs_of_links threshold shape.links.items) (flat_map pairs_of_lan (node_lists shape.lans.items))
    (rec-map P (λ (link : Link). (link.0, link.1)) (filter (is_kept threshold) shape.links.items)
    (rec-filter (λ (link : Link). (link.0 < shape.nodes) × (link.1 < shape.nodes)) (is_kept threshold) shape.links.items
    (recursion_from_All (λ (link : Link). (link.0 < shape.nodes) × (link.1 < shape.nodes)) shape.links.items is.links)))
    (rec-flat P pairs_of_lan (node_lists shape.lans.items)
    (rec-weaker (λ lan. All (λ node. node < shape.nodes) lan) (λ lan. AreIn shape.nodes (pairs_of_lan lan)) (node_lists shape.lans.items)
    (λ lan all. lan-in shape.nodes lan all)
    (recursion_from_All (λ lan. All (λ node. node < shape.nodes) lan) (node_lists shape.lans.items) is.lans)))
