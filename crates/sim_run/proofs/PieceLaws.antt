-- Files that grow by pieces.
use Rattle.std.proofs.Common.{◌≡◌, ℕ, zero, suc, ◌+◌, ◌<◌, ◌≤◌, ◌^◌, min, nat_lt, Bool, true, false, ◌||◌, List, [], ◌∷◌, ◌++◌, length, take, drop, get_or, Option, Some, None, refl, ap, sym, ◌∙◌, subst, append-nil, zero-add, arith}
use Rattle.std.proofs.lemmas.Bool.{ltb-false, le-ltb}
use Rattle.std.proofs.lemmas.List.{take-append-drop, take_more, length-take-le}
use Rattle.outside.specs.declared.store.File.{File}
use Rattle.outside.specs.Store.{append_to}
use Rattle.sim_run.specs.Growth.{HasGrown, HasGrownPartly}
use Rattle.sim_run.specs.Pieces.{with_pieces, grown_from, HasGrownFrom, AreFronts, HasGrownByFronts, takes_no_more}

with_pieces-push : (pieces : List (List ℕ)) (piece : List ℕ) (files : List File)
    → with_pieces (pieces ++ piece ∷ []) files ≡ append_to (length pieces) piece (with_pieces pieces files)
with_pieces-push [] piece [] = refl
with_pieces-push [] piece (f ∷ files) = refl
with_pieces-push (p ∷ pieces) piece [] = refl
with_pieces-push (p ∷ pieces) piece (f ∷ files) =
    ap (λ (fs : List File). record { name = f.name; bytes = f.bytes ++ p } ∷ fs) (with_pieces-push pieces piece files)

grown_from-push : (first : ℕ) (pieces : List (List ℕ)) (piece : List ℕ) (files : List File)
    → grown_from first (pieces ++ piece ∷ []) files ≡ append_to (first + length pieces) piece (grown_from first pieces files)
grown_from-push zero pieces piece files =
    with_pieces-push pieces piece files ∙ ap (λ n. append_to n piece (with_pieces pieces files)) (sym (zero-add (length pieces)))
grown_from-push (suc first) pieces piece [] = refl
grown_from-push (suc first) pieces piece (f ∷ files) =
    let next : suc (first + length pieces) ≡ suc first + length pieces = omega arith in
    ap (λ (fs : List File). f ∷ fs) (grown_from-push first pieces piece files)
    ∙ ap (λ n. append_to n piece (f ∷ grown_from first pieces files)) next

pub grown_from-none : (first : ℕ) (files : List File) → grown_from first [] files ≡ files
grown_from-none zero files = refl
grown_from-none (suc first) [] = refl
grown_from-none (suc first) (f ∷ files) = ap (λ (fs : List File). f ∷ fs) (grown_from-none first files)

-- no piece was put yet
pub grown-none : (files : Option (List File)) (first : ℕ) → HasGrownFrom files files first []
grown-none None first = tt
grown-none (Some files) first = ap Some (sym (grown_from-none first files))

grown-push : (before mid after : Option (List File)) (first : ℕ) (pieces : List (List ℕ)) (piece : List ℕ)
    → HasGrownFrom before mid first pieces → HasGrown mid after (first + length pieces) piece → HasGrownFrom before after first (pieces ++ piece ∷ [])
grown-push None mid after first pieces piece grown more = tt
grown-push (Some files) mid after first pieces piece grown more =
    (rw grown at more) ∙ ap Some (sym (grown_from-push first pieces piece files))

-- one more piece was put
pub grown-more : (before mid after : Option (List File)) (first place : ℕ) (pieces : List (List ℕ)) → place < length pieces
    → HasGrownFrom before mid first (take place pieces) → HasGrown mid after (first + place) (get_or pieces place [])
    → HasGrownFrom before after first (take (place + 1) pieces)
grown-more before mid after first place pieces within grown more =
    let so_far : length (take place pieces) ≡ place = length-take-le place pieces (omega arith) in
    subst (λ ps. HasGrownFrom before after first ps) (sym (take_more pieces place [] within))
    (grown-push before mid after first (take place pieces) (get_or pieces place []) grown
    (subst (λ n. HasGrown mid after (first + n) (get_or pieces place [])) (sym so_far) more))

cut_fronts : (pieces : List (List ℕ)) (place n : ℕ) → place < length pieces
    → AreFronts (take place pieces ++ take n (get_or pieces place []) ∷ []) pieces
cut_fronts [] place n within = absurd (omega arith)
cut_fronts (p ∷ pieces) zero n within = ((drop n p, sym (take-append-drop n p)), tt)
cut_fronts (p ∷ pieces) (suc place) n within = (([], sym (append-nil p)), cut_fronts pieces place n (omega arith))

-- a piece stopped
pub grown-stopped : (before mid after : Option (List File)) (first place : ℕ) (pieces : List (List ℕ)) → place < length pieces
    → HasGrownFrom before mid first (take place pieces) → HasGrownPartly mid after (first + place) (get_or pieces place [])
    → HasGrownByFronts before after first pieces
grown-stopped before mid after first place pieces within grown partly =
    let (n, more) = partly in
    let so_far : length (take place pieces) ≡ place = length-take-le place pieces (omega arith) in (
      take place pieces ++ take n (get_or pieces place []) ∷ [],
      cut_fronts pieces place n within,
      grown-push before mid after first (take place pieces) (take n (get_or pieces place [])) grown
          (subst (λ m. HasGrown mid after (first + m) (take n (get_or pieces place []))) (sym so_far) more),
    )

both_false : (a b : Bool) → (a || b) ≡ false → (a ≡ false) × (b ≡ false)
both_false true b e = cc
both_false false b e = (refl, e)

-- what takes more has not failed, and there is a file for each capture
pub goes_on : (failed : Bool) (first count made : ℕ) → takes_no_more failed first count made ≡ false
    → (failed ≡ false) × (first + count ≤ made) × (first + count ≤ 2 ^ 64)
goes_on failed first count made e =
    let parts = both_false failed (nat_lt (min made (2 ^ 64)) (first + count)) e in
    let within : first + count ≤ min made (2 ^ 64) = ltb-false (min made (2 ^ 64)) (first + count) parts.1 in
    (parts.0, omega (arith, within), omega (arith, within))

-- it still takes more, where no more files are needed
pub goes_on-still : (failed : Bool) (first count was made : ℕ) → made ≡ was → takes_no_more failed first count was ≡ false
    → takes_no_more false first count made ≡ false
goes_on-still failed first count was made same e =
    subst (λ m. takes_no_more false first count m ≡ false) (sym same)
    (both_false failed (nat_lt (min was (2 ^ 64)) (first + count)) e).1

-- it takes more at first, where there is a file for each capture
pub goes_on-new : (first count made : ℕ) → first + count ≤ made → first + count ≤ 2 ^ 64 → takes_no_more false first count made ≡ false
goes_on-new first count made there numbered = le-ltb (min made (2 ^ 64)) (first + count) (omega arith)
