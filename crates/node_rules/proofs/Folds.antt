-- What each step of a fold keeps is kept, and what stands in a list after a change at one place.
use Rattle.std.proofs.Common.{◌≡◌, ℕ, ◌<◌, zero, suc, List, [], ◌∷◌, All, length, None, Some, slice_get, refl, ap, arith}
use Rattle.std.specs.Prelude.{fold, slice_set}
use Rattle.std.proofs.lemmas.List.Elements.{All-head, All-tail}

pub fold-keeps : {A B : Type 0} (K : B → Type 0) (P : A → Type 0) (f : B → A → B) → ((b : B) (a : A) → P a → K b → K (f b a)) →
    (acts : List A) (b : B) → All P acts → K b → K (fold f b acts)
fold-keeps K P f step [] b h k = k
fold-keeps K P f step (a ∷ acts) b h k =
    fold-keeps K P f step acts (f b a) (All-tail P a acts h) (step b a (All-head P a acts h) k)

pub fold-keeps_all : {A B : Type 0} (K : B → Type 0) (f : B → A → B) → ((b : B) (a : A) → K b → K (f b a)) →
    (acts : List A) (b : B) → K b → K (fold f b acts)
fold-keeps_all K f step [] b k = k
fold-keeps_all K f step (a ∷ acts) b k = fold-keeps_all K f step acts (f b a) (step b a k)

pub slice_get-some : {A : Type 0} (xs : List A) (i : ℕ) → i < length xs → (x : A) × (slice_get xs i ≡ Some x)
slice_get-some [] i lt = absurd (omega arith)
slice_get-some (x ∷ xs) zero lt = (x, refl)
slice_get-some (x ∷ xs) (suc i) lt = slice_get-some xs i (omega arith)

pub slice_get-set_same : {A : Type 0} (xs : List A) (i : ℕ) (was x : A) → slice_get xs i ≡ Some was → slice_get (slice_set xs i x) i ≡ Some x
slice_get-set_same [] i was x h = absurd (let d : None ≡ Some was = h in cc)
slice_get-set_same (y ∷ ys) zero was x h = refl
slice_get-set_same (y ∷ ys) (suc i) was x h = slice_get-set_same ys i was x h

pub slice_get-set_other : {A : Type 0} (xs : List A) (i j : ℕ) (x : A) → (i ≡ j → ⊥) → slice_get (slice_set xs i x) j ≡ slice_get xs j
slice_get-set_other [] i j x ne = refl
slice_get-set_other (y ∷ ys) zero zero x ne = absurd (ne refl)
slice_get-set_other (y ∷ ys) zero (suc j) x ne = refl
slice_get-set_other (y ∷ ys) (suc i) zero x ne = refl
slice_get-set_other (y ∷ ys) (suc i) (suc j) x ne = slice_get-set_other ys i j x (λ e. ne (ap suc e))
