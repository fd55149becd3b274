-- Acts that are turned round and then taken from the end are carried out in their order.
use Rattle.std.proofs.Common.{◌≡◌, List, [], ◌∷◌, ◌++◌, map, reverse, fold, refl, sym, ap, ◌∙◌, append_assoc}
use Rattle.std.specs.List.{flat_map}
use Rattle.std.proofs.lemmas.List.{reverse-append, reverse-reverse}

-- folds

pub folds-reverse : {A B C D : Type 0} (f : B → D → B) (kind : C → D) (see : A → C) (b : B) (xs ys : List A) → ys ≡ reverse xs →
    fold f b (map kind (map see (reverse ys))) ≡ fold f b (map kind (map see xs))
folds-reverse f kind see b xs ys turned = ap (λ zs. fold f b (map kind (map see zs))) (ap reverse turned ∙ reverse-reverse xs)

folds-last : {A B C D : Type 0} (f : B → D → B) (kind : C → D) (see : A → C) (b : B) (ys : List A) (x : A) →
    fold f b (map kind (map see (reverse (ys ++ x ∷ [])))) ≡ fold f (f b (kind (see x))) (map kind (map see (reverse ys)))
folds-last f kind see b ys x = rw (reverse-append ys (x ∷ [])) refl

pub folds-pop : {A B C D : Type 0} (f : B → D → B) (kind : C → D) (see : A → C) (b next end : B) (xs ys : List A) (x : A) →
    xs ≡ ys ++ x ∷ [] → next ≡ f b (kind (see x)) →
    fold f b (map kind (map see (reverse xs))) ≡ end → fold f next (map kind (map see (reverse ys))) ≡ end
folds-pop f kind see b next end xs ys x last is leads =
    ap (λ c. fold f c (map kind (map see (reverse ys)))) is
    ∙ sym (folds-last f kind see b ys x)
    ∙ ap (λ zs. fold f b (map kind (map see (reverse zs)))) (sym last)
    ∙ leads

-- lists of what is asked for

pub asks-reverse : {A B C D : Type 0} (f : D → List B) (kind : C → D) (see : A → C) (before : List B) (xs ys : List A) → ys ≡ reverse xs →
    before ++ flat_map f (map kind (map see (reverse ys))) ≡ before ++ flat_map f (map kind (map see xs))
asks-reverse f kind see before xs ys turned =
    ap (λ zs. before ++ flat_map f (map kind (map see zs))) (ap reverse turned ∙ reverse-reverse xs)

asks-last : {A B C D : Type 0} (f : D → List B) (kind : C → D) (see : A → C) (ys : List A) (x : A) →
    flat_map f (map kind (map see (reverse (ys ++ x ∷ [])))) ≡ f (kind (see x)) ++ flat_map f (map kind (map see (reverse ys)))
asks-last f kind see ys x = rw (reverse-append ys (x ∷ [])) refl

pub asks-pop : {A B C D : Type 0} (f : D → List B) (kind : C → D) (see : A → C) (before next end : List B) (xs ys : List A) (x : A) →
    xs ≡ ys ++ x ∷ [] → next ≡ before ++ f (kind (see x)) →
    before ++ flat_map f (map kind (map see (reverse xs))) ≡ end → next ++ flat_map f (map kind (map see (reverse ys))) ≡ end
asks-pop f kind see before next end xs ys x last is leads =
    ap (λ c. c ++ flat_map f (map kind (map see (reverse ys)))) is
    ∙ append_assoc before (f (kind (see x))) (flat_map f (map kind (map see (reverse ys))))
    ∙ ap (λ c. before ++ c) (sym (asks-last f kind see ys x))
    ∙ ap (λ zs. before ++ flat_map f (map kind (map see (reverse zs)))) (sym last)
    ∙ leads
