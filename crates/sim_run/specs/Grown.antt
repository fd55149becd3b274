-- Files to which nothing is added are as before.
use Rattle.std.specs.Prelude.{◌≡◌, ℕ, zero, suc, Bool, List, [], ◌∷◌, ◌++◌, Option, None, Some, refl}
use Rattle.std.proofs.Common.{ap, sym, ◌∙◌, append-nil}
use Rattle.outside.specs.declared.store.File.{File}
use Rattle.sim_run.specs.declared.traces.Trace.{Trace}
use Rattle.sim_run.specs.Pieces.{with_pieces, grown_from, written_pieces, AreFronts, HasGrownFrom, HaveWritten}

with_pieces-empty : (traces : List Trace) (files : List File) → with_pieces (written_pieces traces []) files ≡ files
with_pieces-empty [] files = refl
with_pieces-empty (t ∷ traces) [] = refl
with_pieces-empty (t ∷ traces) (f ∷ files) =
    let head : (bytes : List ℕ) → bytes ≡ f.bytes → record { name = f.name; bytes = bytes } ∷ with_pieces (written_pieces traces []) files ≡ f ∷ with_pieces (written_pieces traces []) files =
    λ bytes e. ap (λ (b : List ℕ). record { name = f.name; bytes = b } ∷ with_pieces (written_pieces traces []) files) e in
    head (f.bytes ++ []) (append-nil f.bytes) ∙ ap (λ fs. f ∷ fs) (with_pieces-empty traces files)

grown_from-empty : (first : ℕ) (traces : List Trace) (files : List File) → grown_from first (written_pieces traces []) files ≡ files
grown_from-empty zero traces files = with_pieces-empty traces files
grown_from-empty (suc first) traces [] = refl
grown_from-empty (suc first) traces (f ∷ files) = ap (λ fs. f ∷ fs) (grown_from-empty first traces files)

-- pieces are fronts of themselves
pub whole_fronts : (pieces : List (List ℕ)) → AreFronts pieces pieces
whole_fronts [] = tt
whole_fronts (p ∷ pieces) = (([], sym (append-nil p)), whole_fronts pieces)

-- what doesn't grow has grown by nothing
pub written-none : (failed : Bool) (traces : List Trace) (first : ℕ) (files : Option (List File)) → HaveWritten failed traces first files files []
written-none failed traces first files = record {
  pieces = written_pieces traces [];
  grown = elim files as (λ o. HasGrownFrom o o first (written_pieces traces [])) [ None ↦ tt | Some fs ↦ ap Some (sym (grown_from-empty first traces fs)) ];
  fronts = whole_fronts (written_pieces traces []);
  whole = λ going. refl;
}
