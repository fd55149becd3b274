-- Lists made of the numbers of nodes.
use Rattle.std.proofs.Common.{◌≡◌, ℕ, zero, suc, ◌+◌, ◌<◌, List, [], ◌∷◌, ◌++◌, map, refl, sym, ap, ◌∙◌, arith, append_assoc}
use Rattle.std.specs.List.{range_with_len, flat_map}
use Rattle.std.proofs.lemmas.List.{map-id, append-nil}
use Rattle.std.proofs.lemmas.List.FromFn.{map-range_with_len_more}

-- one number more
pub range-more : (n : ℕ) → range_with_len 0 (n + 1) ≡ range_with_len 0 n ++ n ∷ []
range-more n =
    sym (map-id (range_with_len 0 (n + 1))) ∙ map-range_with_len_more (λ (k : ℕ). k) 0 n n (omega arith)
    ∙ ap (λ ns. ns ++ n ∷ []) (map-id (range_with_len 0 n))

flat_map-push : {A : Type 0} (f : ℕ → List A) (ns : List ℕ) (n : ℕ) → flat_map f (ns ++ n ∷ []) ≡ flat_map f ns ++ f n
flat_map-push f [] n = append-nil (f n)
flat_map-push f (m ∷ ns) n = ap (λ xs. f m ++ xs) (flat_map-push f ns n) ∙ sym (append_assoc (f m) (flat_map f ns) (f n))

pub flat_map-more : {A : Type 0} (f : ℕ → List A) (n : ℕ) → flat_map f (range_with_len 0 (n + 1)) ≡ flat_map f (range_with_len 0 n) ++ f n
flat_map-more f n = ap (flat_map f) (range-more n) ∙ flat_map-push f (range_with_len 0 n) n

pub map-more : {A : Type 0} (f : ℕ → A) (n : ℕ) → map f (range_with_len 0 (n + 1)) ≡ map f (range_with_len 0 n) ++ f n ∷ []
map-more f n = map-range_with_len_more f 0 n n (omega arith)

-- functions that agree at these numbers
pub map-same : {A : Type 0} (f g : ℕ → A) (from count : ℕ) → ((n : ℕ) → n < from + count → f n ≡ g n) → map f (range_with_len from count) ≡ map g (range_with_len from count)
map-same f g from zero same = refl
map-same f g from (suc count) same =
    ap (λ x. x ∷ map f (range_with_len (from + 1) count)) (same from (omega arith))
    ∙ ap (λ xs. g from ∷ xs) (map-same f g (from + 1) count (λ n lt. same n (omega (arith, lt))))

pub flat_map-same : {A : Type 0} (f g : ℕ → List A) (from count : ℕ) → ((n : ℕ) → n < from + count → f n ≡ g n)
    → flat_map f (range_with_len from count) ≡ flat_map g (range_with_len from count)
flat_map-same f g from zero same = refl
flat_map-same f g from (suc count) same =
    ap (λ x. x ++ flat_map f (range_with_len (from + 1) count)) (same from (omega arith))
    ∙ ap (λ xs. g from ++ xs) (flat_map-same f g (from + 1) count (λ n lt. same n (omega (arith, lt))))
