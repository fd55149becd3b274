-- A file that grows in a list of files.
use Rattle.std.proofs.Common.{◌≡◌, ℕ, zero, suc, ◌<◌, List, [], ◌∷◌, ◌++◌, length, get_or, slice_set, refl, ap, ◌∙◌, arith, append-nil}
use Rattle.outside.specs.declared.store.File.{File}
use Rattle.outside.specs.Store.{append_to}

-- a write of the file at the place, with more bytes
pub append_to-set : (files : List File) (place : ℕ) (file : File) (piece bytes : List ℕ) → place < length files → file ≡ get_or files place file
    → bytes ≡ file.bytes ++ piece → slice_set files place (record { name = file.name; bytes = bytes }) ≡ append_to place piece files
append_to-set [] place file piece bytes within is more = absurd (omega arith)
append_to-set (f ∷ files) zero file piece bytes within is more =
    ap (λ (b : List ℕ). record { name = file.name; bytes = b } ∷ files) more
    ∙ ap (λ (g : File). record { name = g.name; bytes = g.bytes ++ piece } ∷ files) is
append_to-set (f ∷ files) (suc place) file piece bytes within is more =
    ap (λ fs. f ∷ fs) (append_to-set files place file piece bytes (omega arith) is more)

-- nothing more
pub append_to-none : (files : List File) (place : ℕ) → append_to place [] files ≡ files
append_to-none [] place = refl
append_to-none (f ∷ files) zero = ap (λ (b : List ℕ). record { name = f.name; bytes = b } ∷ files) (append-nil f.bytes)
append_to-none (f ∷ files) (suc place) = ap (λ fs. f ∷ fs) (append_to-none files place)

pub length-append_to : (files : List File) (place : ℕ) (piece : List ℕ) → length (append_to place piece files) ≡ length files
length-append_to [] place piece = refl
length-append_to (f ∷ files) zero piece = refl
length-append_to (f ∷ files) (suc place) piece = ap suc (length-append_to files place piece)
