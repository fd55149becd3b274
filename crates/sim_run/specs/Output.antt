-- What stores and sinks have after a run, where they tell it.
use Rattle.std.specs.Prelude.{◌≡◌, ℕ, List, [], ◌∷◌, ◌++◌, Option, Some, None}
use Rattle.outside.specs.declared.store.File.{File}

-- one list begins another
abbrev pub IsPrefix : List ℕ → List ℕ → Type 0
IsPrefix front whole = (rest : List ℕ) × (whole ≡ front ++ rest)

-- the sink has got the piece
abbrev pub HasGot : Option (List ℕ) → Option (List ℕ) → List ℕ → Type 0
HasGot None after piece = Unit {0}
HasGot (Some got) after piece = after ≡ Some (got ++ piece)

-- the sink has got a front of the piece
abbrev pub HasGotPrefix : Option (List ℕ) → Option (List ℕ) → List ℕ → Type 0
HasGotPrefix before after piece = (front : List ℕ) × IsPrefix front piece × HasGot before after front

-- these files were added
abbrev pub HasFiles : Option (List File) → Option (List File) → List File → Type 0
HasFiles None after files = Unit {0}
HasFiles (Some before) after files = after ≡ Some (before ++ files)

-- files whose names begin a list's names, each with a prefix of its bytes
abbrev pub AreCut : List File → List File → Type 0
AreCut [] whole = Unit {0}
AreCut (file ∷ files) [] = ⊥
AreCut (file ∷ files) (whole ∷ others) = (file.name ≡ whole.name) × IsPrefix file.bytes whole.bytes × AreCut files others

-- files were added that are cut from these
abbrev pub HasFilePrefixes : Option (List File) → Option (List File) → List File → Type 0
HasFilePrefixes before after files = (made : List File) × AreCut made files × HasFiles before after made
