-- What is put behind the files of a run, one piece for each trace.
use Rattle.std.specs.Prelude.{◌≡◌, ℕ, zero, suc, ◌+◌, ◌^◌, min, Bool, false, nat_lt, ◌||◌, List, [], ◌∷◌, ◌++◌, map, Option, None, Some}
use Rattle.std.specs.Borrow.{GName}
use Rattle.sim_base.specs.Packet.{Packet}
use Rattle.pkt_face.specs.declared.line.Line.{Line}
use Rattle.outside.specs.declared.store.File.{File}
use Rattle.sim_run.specs.declared.traces.Trace.{Trace}
use Rattle.sim_run.specs.Traces.{written}
use Rattle.sim_run.specs.Output.{IsPrefix}

-- traces, and what is to be put behind the file of each
pub record PlainPieces : Type 0 where
  pub traces : List Trace
  pub pieces : List (List ℕ)

-- what these lines write, for each trace
abbrev pub written_pieces : List Trace → List (Line Packet) → List (List ℕ)
written_pieces traces lines = map (λ t. written t lines) traces

-- ---- files that grow by pieces

-- files with pieces behind the first of them
abbrev pub with_pieces : List (List ℕ) → List File → List File
with_pieces [] files = files
with_pieces (piece ∷ pieces) [] = []
with_pieces (piece ∷ pieces) (f ∷ files) = record { name = f.name; bytes = f.bytes ++ piece } ∷ with_pieces pieces files

-- files with pieces behind those from a place on
abbrev pub grown_from : ℕ → List (List ℕ) → List File → List File
grown_from zero pieces files = with_pieces pieces files
grown_from (suc first) pieces [] = []
grown_from (suc first) pieces (f ∷ files) = f ∷ grown_from first pieces files

-- the files of a store have grown so, where it tells them
abbrev pub HasGrownFrom : Option (List File) → Option (List File) → ℕ → List (List ℕ) → Type 0
HasGrownFrom None after first pieces = Unit {0}
HasGrownFrom (Some files) after first pieces = after ≡ Some (grown_from first pieces files)

-- the first of some pieces, each cut to a front
abbrev pub AreFronts : List (List ℕ) → List (List ℕ) → Type 0
AreFronts [] pieces = Unit {0}
AreFronts (front ∷ fronts) [] = ⊥
AreFronts (front ∷ fronts) (piece ∷ pieces) = IsPrefix front piece × AreFronts fronts pieces

-- the files have grown by fronts of these pieces
abbrev pub HasGrownByFronts : Option (List File) → Option (List File) → ℕ → List (List ℕ) → Type 0
HasGrownByFronts before after first pieces = (fronts : List (List ℕ)) × AreFronts fronts pieces × HasGrownFrom before after first fronts

-- ---- what a writer of traces has put

-- what it was made with: a store, the number of the first file there, and the traces
pub record Made : Type 0 where
  pub store : GName
  pub first : ℕ
  pub traces : List Trace

-- it takes no more: a put has failed, or the store hasn't a file for each trace
abbrev pub takes_no_more : Bool → ℕ → ℕ → ℕ → Bool
takes_no_more failed first count made = failed || nat_lt (min made (2 ^ 64)) (first + count)

-- the files from a place on have grown by what these lines write; where a put has failed, by fronts of that
pub record HaveWritten (failed : Bool) (traces : List Trace) (first : ℕ) (before after : Option (List File)) (lines : List (Line Packet)) : Type 0 where
  pub pieces : List (List ℕ)
  pub grown : HasGrownFrom before after first pieces
  pub fronts : AreFronts pieces (written_pieces traces lines)
  pub whole : failed ≡ false → pieces ≡ written_pieces traces lines
