-- Where a token is put among others.
use Rattle.std.proofs.Common.{◌≡◌, ℕ, ◌≤◌, suc, length, List, [], ◌∷◌, ◌++◌, take, drop, map, Bool, true, false, refl, ap, ◌∙◌, sym, arith, inl, inr, nat_lt, cond, Some, None}
use Rattle.std.proofs.lemmas.Bool.{cases_Bool, ltb-false}
use Rattle.std.proofs.lemmas.Grind.{common_steps}
use Rattle.std.specs.List.{position, position_or_len}
use Rattle.sim_base.specs.KeyOrder.{before, insert_by}
use Rattle.model_tokens.specs.Tokens.{event_of}
use Rattle.model_tokens.specs.declared.Token.{Token}

place : Token → List Token → ℕ
place x xs = position_or_len (λ t. before x.key t.key) xs

place-none : (x : Token) → place x [] ≡ 0
unfolding place
place-none x = refl

place-here : (x y : Token) (ys : List Token) → before x.key y.key ≡ true → place x (y ∷ ys) ≡ 0
unfolding place
place-here x y ys h = rw h refl

place-past : (x y : Token) (ys : List Token) → before x.key y.key ≡ false → place x (y ∷ ys) ≡ suc (place x ys)
unfolding place
place-past x y ys h = rw h (omega arith)

placed : (x : Token) (xs : List Token) → map event_of (take (place x xs) xs ++ x ∷ drop (place x xs) xs) ≡ insert_by (λ e. e.key) (event_of x) (map event_of xs)
unfolding insert_by
placed x [] = rw (place-none x) refl
placed x (y ∷ ys) = elim (cases_Bool (before x.key y.key)) [
  | inl h ↦ rw (place-here x y ys h, h) refl
  | inr h ↦ rw (place-past x y ys h, h) (ap (λ t. event_of y ∷ t) (placed x ys))
]

place-le : (x : Token) (xs : List Token) → place x xs ≤ length xs
place-le x [] = rw (place-none x) (omega arith)
place-le x (y ∷ ys) = elim (cases_Bool (before x.key y.key)) [
  | inl h ↦ rw (place-here x y ys h) (omega arith)
  | inr h ↦ let le = place-le x ys in rw (place-past x y ys h) (omega arith)
]

pub found-place : (x : Token) (xs : List Token) (at : ℕ) → position (λ t. before x.key t.key) xs ≡ Some at →
    map event_of (take at xs ++ x ∷ drop at xs) ≡ insert_by (λ e. e.key) (event_of x) (map event_of xs)
unfolding place
found-place x xs at is = go (nat_lt (place x xs) (length xs)) refl is
  where
    go : (b : Bool) → nat_lt (place x xs) (length xs) ≡ b → cond b (Some (place x xs)) None ≡ Some at →
        map event_of (take at xs ++ x ∷ drop at xs) ≡ insert_by (λ e. e.key) (event_of x) (map event_of xs)
    go true t h = let s : Some (place x xs) ≡ Some at = h in let same : place x xs ≡ at = cc in
        ap (λ (i : ℕ). map event_of (take i xs ++ x ∷ drop i xs)) (sym same) ∙ placed x xs
    go false f h = absurd (let d : None ≡ Some at = h in cc)

pub no-place : (x : Token) (xs : List Token) → position (λ t. before x.key t.key) xs ≡ None →
    map event_of (xs ++ x ∷ []) ≡ insert_by (λ e. e.key) (event_of x) (map event_of xs)
unfolding place
no-place x xs is = go (nat_lt (place x xs) (length xs)) refl is
  where
    go : (b : Bool) → nat_lt (place x xs) (length xs) ≡ b → cond b (Some (place x xs)) None ≡ None →
        map event_of (xs ++ x ∷ []) ≡ insert_by (λ e. e.key) (event_of x) (map event_of xs)
    go true t h = absurd (let d : Some (place x xs) ≡ None = h in cc)
    go false f h = let low = ltb-false (place x xs) (length xs) f in let le = place-le x xs in
        let all : place x xs ≡ length xs = omega arith in
        let e : take (place x xs) xs ++ x ∷ drop (place x xs) xs ≡ xs ++ x ∷ [] = rw all (grind (arith, common_steps)) in
        ap (map event_of) (sym e) ∙ placed x xs
