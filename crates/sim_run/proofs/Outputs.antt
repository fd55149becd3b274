-- Whole writes, piece by piece.
use Rattle.std.proofs.Common.{◌≡◌, ℕ, zero, suc, ◌+◌, List, [], ◌∷◌, ◌++◌, take, drop, Option, Some, None, Ok, Err, refl, ap, sym, ◌∙◌, append_assoc, append-nil, arith}
use Rattle.std.proofs.lemmas.List.{take-append-drop, drop-take, take-take}
use Rattle.outside.specs.declared.store.File.{File}
use Rattle.outside.specs.declared.store.StoreStop.{StoreStop}
use Rattle.outside.specs.Store.{append_to, Grows}
use Rattle.outside.specs.Streams.{Writes}
use Rattle.outside.proofs.Files.{append_to-none}
use Rattle.sim_run.specs.Output.{HasGot, HasGotPrefix}
use Rattle.sim_run.specs.Growth.{HasGrown, HasGrownPartly}

take_twice : (at n : ℕ) (xs : List ℕ) → take at (take (at + n) xs) ≡ take at xs
take_twice at n xs = take-take at (at + n) xs (omega arith)

take_take : (at n : ℕ) (xs : List ℕ) → take at xs ++ take n (drop at xs) ≡ take (at + n) xs
take_take at n xs =
    let whole = take-append-drop at (take (at + n) xs) in
    rw (drop-take, take_twice at n xs) at whole

take_drop : (n : ℕ) (xs : List ℕ) → xs ≡ take n xs ++ drop n xs
take_drop n xs = sym (take-append-drop n xs)

append_to-append : (place : ℕ) (a b : List ℕ) (files : List File) → append_to place b (append_to place a files) ≡ append_to place (a ++ b) files
append_to-append place a b [] = refl
append_to-append zero a b (f ∷ files) = ap (λ (bytes : List ℕ). record { name = f.name; bytes = bytes } ∷ files) (append_assoc f.bytes a b)
append_to-append (suc place) a b (f ∷ files) = ap (λ fs. f ∷ fs) (append_to-append place a b files)

pub grown-start : (before : Option (List File)) (place : ℕ) → HasGrown before before place []
grown-start None place = tt
grown-start (Some files) place = ap Some (sym (append_to-none files place))

pub grown-more : (before mid after : Option (List File)) (place at n : ℕ) (bytes piece : List ℕ) → piece ≡ drop at bytes
    → HasGrown before mid place (take at bytes) → Grows {E = StoreStop} mid after (Ok n) place piece → HasGrown before after place (take (at + n) bytes)
grown-more None mid after place at n bytes piece is grown grows = tt
grown-more (Some files) mid after place at n bytes piece is grown grows =
    (rw (grown, is) at grows) ∙ ap Some (append_to-append place (take at bytes) (take n (drop at bytes)) files ∙ ap (λ p. append_to place p files) (take_take at n bytes))

pub grown-stopped : (before mid after : Option (List File)) (place at : ℕ) (bytes piece : List ℕ) (stop : StoreStop) → piece ≡ drop at bytes
    → HasGrown before mid place (take at bytes) → Grows mid after (Err stop) place piece → HasGrownPartly before after place bytes
grown-stopped None mid after place at bytes piece stop is grown grows = (0, tt)
grown-stopped (Some files) mid after place at bytes piece stop is grown grows =
    let (n, more) = rw (grown, is) at grows in (
      at + n,
      more ∙ ap Some (append_to-append place (take at bytes) (take n (drop at bytes)) files ∙ ap (λ p. append_to place p files) (take_take at n bytes)),
    )

pub got-start : (before : Option (List ℕ)) → HasGot before before []
got-start None = tt
got-start (Some got) = ap Some (sym (append-nil got))

pub got-more : (before mid after : Option (List ℕ)) (at n : ℕ) (bytes piece : List ℕ) → piece ≡ drop at bytes
    → HasGot before mid (take at bytes) → Writes {E = StoreStop} mid after (Ok n) piece → HasGot before after (take (at + n) bytes)
got-more None mid after at n bytes piece is got writes = tt
got-more (Some g) mid after at n bytes piece is got writes =
    (rw (got, is) at writes) ∙ ap Some (append_assoc g (take at bytes) (take n (drop at bytes)) ∙ ap (λ p. g ++ p) (take_take at n bytes))

pub got-stopped : (before mid after : Option (List ℕ)) (at : ℕ) (bytes piece : List ℕ) (stop : StoreStop) → piece ≡ drop at bytes
    → HasGot before mid (take at bytes) → Writes mid after (Err stop) piece → HasGotPrefix before after bytes
got-stopped None mid after at bytes piece stop is got writes = ([], (bytes, refl), tt)
got-stopped (Some g) mid after at bytes piece stop is got writes =
    let (n, more) = rw (got, is) at writes in (
      take (at + n) bytes,
      (drop (at + n) bytes, take_drop (at + n) bytes),
      more ∙ ap Some (append_assoc g (take at bytes) (take n (drop at bytes)) ∙ ap (λ p. g ++ p) (take_take at n bytes)),
    )
