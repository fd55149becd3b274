-- What holds of each item of a list.
use Rattle.std.proofs.Common.{◌≡◌, ℕ, zero, suc, List, [], ◌∷◌, ◌++◌, fold, map, None, Some, slice_get, refl, subst}
use Rattle.std.proofs.lemmas.Option.{same_Some}
use Rattle.std.specs.List.{AllByRecursion, flat_map}

pub each-map : {A : Type 0} (P Q : A → Type 0) → ((x : A) → P x → Q x) → (xs : List A) → AllByRecursion P xs → AllByRecursion Q xs
each-map P Q step [] h = tt
each-map P Q step (x ∷ xs) h = (step x h.0, each-map P Q step xs h.1)

pub each-append : {A : Type 0} (P : A → Type 0) (xs ys : List A) → AllByRecursion P xs → AllByRecursion P ys → AllByRecursion P (xs ++ ys)
each-append P [] ys h hs = hs
each-append P (x ∷ xs) ys h hs = (h.0, each-append P xs ys h.1 hs)

pub each-over : {A B : Type 0} (P : B → Type 0) (f : A → B) (xs : List A) → AllByRecursion (λ x. P (f x)) xs → AllByRecursion P (map f xs)
each-over P f [] h = tt
each-over P f (x ∷ xs) h = (h.0, each-over P f xs h.1)

pub each-flat : {A B : Type 0} (P : B → Type 0) (Q : A → Type 0) (f : A → List B) → ((x : A) → Q x → AllByRecursion P (f x)) →
    (xs : List A) → AllByRecursion Q xs → AllByRecursion P (flat_map f xs)
each-flat P Q f step [] h = tt
each-flat P Q f step (x ∷ xs) h = each-append P (f x) (flat_map f xs) (step x h.0) (each-flat P Q f step xs h.1)

pub each-at : {A : Type 0} (P : A → Type 0) (xs : List A) (k : ℕ) (x : A) → AllByRecursion P xs → slice_get xs k ≡ Some x → P x
each-at P [] k x h at = absurd (let d : None ≡ Some x = at in cc)
each-at P (y ∷ ys) zero x h at = subst P (same_Some y x at) h.0
each-at P (y ∷ ys) (suc k) x h at = each-at P ys k x h.1 at

-- an item of a list
abbrev pub IsAmong : {A : Type 0} → A → List A → Type 0
IsAmong x xs = (k : ℕ) × (slice_get xs k ≡ Some x)

pub each-among : {A : Type 0} (xs : List A) → AllByRecursion (λ x. IsAmong x xs) xs
each-among [] = tt
each-among (x ∷ xs) = ((0, refl), each-map (λ y. IsAmong y xs) (λ y. IsAmong y (x ∷ xs)) (λ y h. (suc h.0, h.1)) xs (each-among xs))

pub fold-each : {A B : Type 0} (K : B → Type 0) (P : A → Type 0) (f : B → A → B) → ((b : B) (a : A) → P a → K b → K (f b a)) →
    (acts : List A) (b : B) → AllByRecursion P acts → K b → K (fold f b acts)
fold-each K P f step [] b h k = k
fold-each K P f step (a ∷ acts) b h k = fold-each K P f step acts (f b a) h.1 (step b a h.0 k)

pub each-under : {A : Type 0} (ok : Type 0) (P : A → Type 0) (xs : List A) → (ok → AllByRecursion P xs) → AllByRecursion (λ x. ok → P x) xs
each-under ok P [] h = tt
each-under ok P (x ∷ xs) h = ((λ o. (h o).0), each-under ok P xs (λ o. (h o).1))
