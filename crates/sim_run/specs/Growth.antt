-- What one file has after whole writes, where the store tells it.
use Rattle.std.specs.Prelude.{◌≡◌, ℕ, ◌<◌, List, ◌++◌, length, take, Option, Some, None}
use Rattle.outside.specs.declared.store.File.{File}
use Rattle.outside.specs.Store.{append_to}

-- the file has grown by the piece
abbrev pub HasGrown : Option (List File) → Option (List File) → ℕ → List ℕ → Type 0
HasGrown None after place piece = Unit {0}
HasGrown (Some files) after place piece = after ≡ Some (append_to place piece files)

-- the file has grown by a front of the piece
abbrev pub HasGrownPartly : Option (List File) → Option (List File) → ℕ → List ℕ → Type 0
HasGrownPartly before after place piece = (n : ℕ) × HasGrown before after place (take n piece)

-- these files were added, the first of which has this number
abbrev pub HasNewFiles : Option (List File) → Option (List File) → ℕ → List File → Type 0
HasNewFiles None after first files = Unit {0}
HasNewFiles (Some before) after first files = (0 < length files → first ≡ length before) × (after ≡ Some (before ++ files))
