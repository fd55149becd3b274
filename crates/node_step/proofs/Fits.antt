-- What holds of each act holds when they are turned round, and when the last is taken.
use Rattle.std.proofs.Common.{◌≡◌, List, [], ◌∷◌, ◌++◌, map, fold, reverse, All, Some, sym, ap, ◌∙◌, refl}
use Rattle.std.proofs.lemmas.List.{map-append, reverse-append, reverse-reverse}
use Rattle.layer_words.specs.Acts.{Appends}
use Rattle.layer_words.proofs.InOrder.{fold_last}
use Rattle.std.proofs.lemmas.List.Elements.{All-nil, All-head, All-tail, All-push, All-pop, All-same}

All-reverse : {X : Type 0} (P : X → Type 0) (xs : List X) → All P xs → All P (reverse xs)
All-reverse P [] h = h
All-reverse P (x ∷ xs) h =
    All-same P (reverse (x ∷ xs)) (reverse xs ++ x ∷ []) (reverse-append (x ∷ []) xs) (All-push P (reverse xs) x (All-reverse P xs (All-tail P x xs h)) (All-head P x xs h))

map-reverse : {A X : Type 0} (see : A → X) (xs : List A) → map see (reverse xs) ≡ reverse (map see xs)
map-reverse see [] = refl
map-reverse see (x ∷ xs) =
    ap (map see) (reverse-append (x ∷ []) xs) ∙ map-append see (reverse xs) (x ∷ []) ∙ ap (λ ys. ys ++ see x ∷ []) (map-reverse see xs) ∙ sym (reverse-append (see x ∷ []) (map see xs))

pub fit-reverse : {A X : Type 0} (P : X → Type 0) (see : A → X) (xs ys : List A) → ys ≡ reverse xs → All P (map see xs) → All P (map see ys)
fit-reverse P see xs ys turned h =
    All-same P (map see ys) (reverse (map see xs)) (ap (map see) turned ∙ map-reverse see xs) (All-reverse P (map see xs) h)

pub fit-pop : {A X : Type 0} (P : X → Type 0) (see : A → X) (xs ys : List A) (x : A) → xs ≡ ys ++ x ∷ [] → All P (map see xs) → All P (map see ys) × P (see x)
fit-pop P see xs ys x last h = All-pop P (map see xs) (map see ys) (Some (see x)) (ap (map see) last ∙ map-append see ys (x ∷ [])) h

-- acts that were turned round lead where they led
pub leads-reverse : {A B C : Type 0} (f : B → C → B) (see : A → C) (b : B) (xs ys : List A) → ys ≡ reverse xs → fold f b (map see (reverse ys)) ≡ fold f b (map see xs)
leads-reverse f see b xs ys turned = ap (λ zs. fold f b (map see zs)) (ap reverse turned ∙ reverse-reverse xs)

-- the last of them is carried out first
pub leads-pop : {A B C : Type 0} (f : B → C → B) (see : A → C) (b next end : B) (xs ys : List A) (x : A) → xs ≡ ys ++ x ∷ [] → next ≡ f b (see x) → fold f b (map see (reverse xs)) ≡ end → fold f next (map see (reverse ys)) ≡ end
leads-pop f see b next end xs ys x last is leads =
    ap (λ c. fold f c (map see (reverse ys))) is ∙ sym (fold_last f see b ys x) ∙ ap (λ zs. fold f b (map see (reverse zs))) (sym last) ∙ leads

-- acts that were put into an empty list fit where they fit in the table
pub fit-made : {A X : Type 0} (P : X → Type 0) (see : A → X) (old new : List A) (acts : List X) → old ≡ [] → Appends see old new acts → All P acts → All P (map see new)
fit-made P see old new acts none made h = All-same P (map see new) acts (made ∙ ap (λ xs. map see xs ++ acts) none) h

-- of no act all holds
pub fit-none : {A X : Type 0} (P : X → Type 0) (see : A → X) (xs : List A) → xs ≡ [] → All P (map see xs)
fit-none P see xs none = All-same P (map see xs) [] (ap (map see) none) (All-nil P)
