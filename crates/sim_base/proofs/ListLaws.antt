-- Laws of filters that the laws of tags and items stand on.
use Rattle.std.proofs.Common.{ℕ, ◌≡◌, ◌+◌, ◌<◌, Bool, true, false, List, ◌∷◌, ◌++◌, length, map, take, drop, get_or, arith}
use Rattle.std.proofs.Math.ListN.{set}
use Rattle.std.proofs.lemmas.List.{get_or_default}
use Rattle.std.proofs.lemmas.List.Edits.{map_over_more}
use Rattle.std.specs.List.{filter}
use Rattle.std.proofs.lemmas.Bool.{cond-true, cond-false}

pub filter-passes : {X : Type 0} (p : X → Bool) (x : X) (xs : List X) → p x ≡ true → filter p (x ∷ xs) ≡ x ∷ filter p xs
filter-passes p x xs h = cond-true (p x) (x ∷ filter p xs) (filter p xs) h

pub filter-fails : {X : Type 0} (p : X → Bool) (x : X) (xs : List X) → p x ≡ false → filter p (x ∷ xs) ≡ filter p xs
filter-fails p x xs h = cond-false (p x) (x ∷ filter p xs) (filter p xs) h

-- one more place of a map in place
pub map_in_place : {X : Type 0} (f : X → X) (xs ys : List X) (i : ℕ) (d : X) → i < length ys → length ys ≡ length xs → ys ≡ map f (take i xs) ++ drop i xs → set ys i (f (get_or ys i d)) ≡ map f (take (i + 1) xs) ++ drop (i + 1) xs
map_in_place f xs ys i d within same done =
    map_over_more f xs ys i (get_or ys i d) (omega arith) done (get_or_default ys i d (get_or ys i d) within)
