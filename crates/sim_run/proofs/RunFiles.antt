-- The files of a run, from those that were made to those that have grown.
use Rattle.std.proofs.Common.{◌≡◌, ℕ, suc, ◌<◌, ◌≤◌, List, [], ◌∷◌, ◌++◌, map, length, Option, Some, None, refl, ap, sym, ◌∙◌, subst, append_assoc, append-nil, arith}
use Rattle.std.proofs.lemmas.Grind.{flat_map-append}
use Rattle.sim_base.specs.Packet.{Packet}
use Rattle.pkt_face.specs.declared.line.Line.{Line}
use Rattle.outside.specs.declared.store.File.{File}
use Rattle.outside.specs.Store.{empty_file}
use Rattle.sim_run.specs.declared.traces.Trace.{Trace}
use Rattle.sim_run.specs.Traces.{trace_file, trace_files, trace_head, trace_name, written, written_by}
use Rattle.sim_run.specs.Growth.{HasNewFiles}
use Rattle.sim_run.specs.Output.{HasFiles, HasFilePrefixes, AreCut}
use Rattle.sim_run.specs.Pieces.{with_pieces, grown_from, HasGrownFrom, AreFronts, written_pieces, HasGrownByFronts}
use Rattle.sim_run.proofs.PieceLaws.{grown_from-none}

grown_from-behind : (files own : List File) (pieces : List (List ℕ)) → grown_from (length files) pieces (files ++ own) ≡ files ++ with_pieces pieces own
grown_from-behind [] own pieces = refl
grown_from-behind (f ∷ files) own pieces = ap (λ (fs : List File). f ∷ fs) (grown_from-behind files own pieces)

length-with_pieces : (pieces : List (List ℕ)) (own : List File) → length (with_pieces pieces own) ≡ length own
length-with_pieces [] own = refl
length-with_pieces (p ∷ pieces) [] = refl
length-with_pieces (p ∷ pieces) (f ∷ own) = ap suc (length-with_pieces pieces own)

new-grown : (files own : List File) (first : ℕ) (pieces : List (List ℕ)) → length pieces ≤ length own → (0 < length own → first ≡ length files)
    → grown_from first pieces (files ++ own) ≡ files ++ with_pieces pieces own
new-grown files [] first [] few at = grown_from-none first (files ++ [])
new-grown files [] first (p ∷ pieces) few at = absurd (omega (arith, few))
new-grown files (f ∷ own) first pieces few at =
    ap (λ n. grown_from n pieces (files ++ f ∷ own)) (at (omega arith)) ∙ grown_from-behind files (f ∷ own) pieces

-- new files that grow
pub new_files-grown : (before mid after : Option (List File)) (first : ℕ) (own : List File) (pieces : List (List ℕ)) → length pieces ≤ length own
    → HasNewFiles before mid first own → HasGrownFrom mid after first pieces → HasNewFiles before after first (with_pieces pieces own)
new_files-grown None mid after first own pieces few new grown = tt
new_files-grown (Some files) mid after first own pieces few new grown = (
  λ some. new.0 (subst (λ n. 0 < n) (length-with_pieces pieces own) some),
  (rw new.1 at grown) ∙ ap Some (new-grown files own first pieces few new.0),
)

-- no file is new yet
pub nothing-new : (files : Option (List File)) (first : ℕ) → HasNewFiles files files first []
nothing-new None first = tt
nothing-new (Some files) first = (λ some. absurd (omega (arith, some)), ap Some (sym (append-nil files)))

pub new_files-are : (before after : Option (List File)) (first : ℕ) (own : List File) → HasNewFiles before after first own → HasFiles before after own
new_files-are None after first own new = tt
new_files-are (Some files) after first own new = new.1

fronts-few : (fronts pieces : List (List ℕ)) → AreFronts fronts pieces → length fronts ≤ length pieces
fronts-few [] pieces cut = omega arith
fronts-few (f ∷ fronts) [] cut = absurd cut
fronts-few (f ∷ fronts) (p ∷ pieces) cut = omega (arith, fronts-few fronts pieces cut.1)

-- ---- empty files, and their heads

-- the files before their heads
abbrev pub empty_files : List Trace → List File
empty_files traces = map (λ t. empty_file (trace_name t)) traces

-- the heads, as pieces
abbrev pub heads : List Trace → List (List ℕ)
heads traces = map trace_head traces

length-empty : (traces : List Trace) → length (heads traces) ≡ length (empty_files traces)
length-empty [] = refl
length-empty (t ∷ traces) = ap suc (length-empty traces)

with_heads : (traces : List Trace) → with_pieces (heads traces) (empty_files traces) ≡ trace_files traces []
with_heads [] = refl
with_heads (t ∷ traces) =
    ap (λ (bytes : List ℕ). record { name = trace_name t; bytes = bytes } ∷ with_pieces (heads traces) (empty_files traces)) (sym (append-nil (trace_head t)))
    ∙ ap (λ (fs : List File). trace_file [] t ∷ fs) (with_heads traces)

-- the heads are put into the empty files
pub with_heads-made : (before mid after : Option (List File)) (first : ℕ) (traces : List Trace) → HasNewFiles before mid first (empty_files traces)
    → HasGrownFrom mid after first (heads traces) → HasNewFiles before after first (trace_files traces [])
with_heads-made before mid after first traces new grown =
    subst (λ fs. HasNewFiles before after first fs) (with_heads traces)
    (new_files-grown before mid after first (empty_files traces) (heads traces) (omega (arith, length-empty traces)) new grown)

empty_files_cut : (traces : List Trace) (lines : List (Line Packet)) → AreCut (empty_files traces) (trace_files traces lines)
empty_files_cut [] lines = tt
empty_files_cut (t ∷ traces) lines = (refl, (trace_head t ++ written t lines, refl), empty_files_cut traces lines)

head_fronts_cut : (traces : List Trace) (lines : List (Line Packet)) (fronts : List (List ℕ)) → AreFronts fronts (heads traces)
    → AreCut (with_pieces fronts (empty_files traces)) (trace_files traces lines)
head_fronts_cut traces lines [] cut = empty_files_cut traces lines
head_fronts_cut [] lines (front ∷ fronts) cut = absurd cut
head_fronts_cut (t ∷ traces) lines (front ∷ fronts) cut =
    let (rest, whole) = cut.0 in (
      refl,
      (rest ++ written t lines, ap (λ head. head ++ written t lines) whole ∙ append_assoc front rest (written t lines)),
      head_fronts_cut traces lines fronts cut.1,
    )

-- all files were made, and no head was put
pub empty-cut : (before after : Option (List File)) (first : ℕ) (traces : List Trace) (lines : List (Line Packet))
    → HasNewFiles before after first (empty_files traces) → HasFilePrefixes before after (trace_files traces lines)
empty-cut before after first traces lines new =
    (empty_files traces, empty_files_cut traces lines, new_files-are before after first (empty_files traces) new)

-- some files were made, and no head was put
pub made-cut : (before after : Option (List File)) (first : ℕ) (traces more : List Trace) (lines : List (Line Packet))
    → HasNewFiles before after first (empty_files traces) → HasFilePrefixes before after (trace_files (traces ++ more) lines)
made-cut before after first traces more lines new = (
  empty_files traces,
  first_cut traces,
  new_files-are before after first (empty_files traces) new,
)
  where
    first_cut : (ts : List Trace) → AreCut (empty_files ts) (trace_files (ts ++ more) lines)
    first_cut [] = tt
    first_cut (t ∷ ts) = (refl, (trace_head t ++ written t lines, refl), first_cut ts)

-- the heads are put in part
pub heads-cut : (before mid after : Option (List File)) (first : ℕ) (traces : List Trace) (lines : List (Line Packet))
    → HasNewFiles before mid first (empty_files traces) → HasGrownByFronts mid after first (heads traces)
    → HasFilePrefixes before after (trace_files traces lines)
heads-cut before mid after first traces lines new partly =
    let (fronts, cut, grown) = partly in
    let few : length fronts ≤ length (empty_files traces) = omega (arith, fronts-few fronts (heads traces) cut, length-empty traces) in (
      with_pieces fronts (empty_files traces),
      head_fronts_cut traces lines fronts cut,
      new_files-are before after first _ (new_files-grown before mid after first (empty_files traces) fronts few new grown),
    )

-- ---- what lines save

length-written : (traces : List Trace) (lines others : List (Line Packet)) → length (written_pieces traces lines) ≡ length (trace_files traces others)
length-written [] lines others = refl
length-written (t ∷ traces) lines others = ap suc (length-written traces lines others)

with_saved : (traces : List Trace) (lines : List (Line Packet)) → with_pieces (written_pieces traces lines) (trace_files traces []) ≡ trace_files traces lines
with_saved [] lines = refl
with_saved (t ∷ traces) lines =
    ap (λ (head : List ℕ). record { name = trace_name t; bytes = head ++ written t lines } ∷ with_pieces (written_pieces traces lines) (trace_files traces []))
    (append-nil (trace_head t))
    ∙ ap (λ (fs : List File). trace_file lines t ∷ fs) (with_saved traces lines)

-- the run's lines are put
pub run-files : (before mid after : Option (List File)) (first : ℕ) (traces : List Trace) (lines : List (Line Packet))
    → HasNewFiles before mid first (trace_files traces []) → HasGrownFrom mid after first (written_pieces traces lines)
    → HasFiles before after (trace_files traces lines)
run-files before mid after first traces lines new grown =
    subst (λ fs. HasFiles before after fs) (with_saved traces lines)
    (new_files-are before after first _
    (new_files-grown before mid after first (trace_files traces []) (written_pieces traces lines) (omega (arith, length-written traces lines [])) new grown))

saved_front : (t : Trace) (lines rest : List (Line Packet)) → written t (lines ++ rest) ≡ written t lines ++ written t rest
saved_front t lines rest = flat_map-append (written_by t) lines rest

heads_cut_whole : (traces : List Trace) (lines : List (Line Packet)) → AreCut (trace_files traces []) (trace_files traces lines)
heads_cut_whole [] lines = tt
heads_cut_whole (t ∷ traces) lines =
    (refl, (written t lines, ap (λ head. head ++ written t lines) (sym (append-nil (trace_head t)))), heads_cut_whole traces lines)

saved_fronts_cut : (traces : List Trace) (lines rest : List (Line Packet)) (fronts : List (List ℕ)) → AreFronts fronts (written_pieces traces lines)
    → AreCut (with_pieces fronts (trace_files traces [])) (trace_files traces (lines ++ rest))
saved_fronts_cut traces lines rest [] cut = heads_cut_whole traces (lines ++ rest)
saved_fronts_cut [] lines rest (front ∷ fronts) cut = absurd cut
saved_fronts_cut (t ∷ traces) lines rest (front ∷ fronts) cut =
    let (more, whole) = cut.0 in
    let all : written t (lines ++ rest) ≡ front ++ (more ++ written t rest) =
    saved_front t lines rest ∙ ap (λ bytes. bytes ++ written t rest) whole ∙ append_assoc front more (written t rest) in
    let head = trace_head t in (
      refl,
      (
        more ++ written t rest,
        ap (λ bytes. head ++ bytes) all ∙ sym (append_assoc head front (more ++ written t rest))
            ∙ ap (λ h. (h ++ front) ++ (more ++ written t rest)) (sym (append-nil head)),
      ),
      saved_fronts_cut traces lines rest fronts cut.1,
    )

-- lines that begin those of the run are put, in part
pub run-cut : (before mid after : Option (List File)) (first : ℕ) (traces : List Trace) (lines rest : List (Line Packet)) (fronts : List (List ℕ))
    → HasNewFiles before mid first (trace_files traces []) → HasGrownFrom mid after first fronts → AreFronts fronts (written_pieces traces lines)
    → HasFilePrefixes before after (trace_files traces (lines ++ rest))
run-cut before mid after first traces lines rest fronts new grown cut =
    let few : length fronts ≤ length (trace_files traces []) =
    omega (arith, fronts-few fronts (written_pieces traces lines) cut, length-written traces lines []) in (
      with_pieces fronts (trace_files traces []),
      saved_fronts_cut traces lines rest fronts cut,
      new_files-are before after first _ (new_files-grown before mid after first (trace_files traces []) fronts few new grown),
    )
