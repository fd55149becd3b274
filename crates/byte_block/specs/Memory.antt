-- What the raw parts of a block own. The block's memory is lent byte by byte for a lifetime: to loans, which may write it, and to rights to read it.
-- Each byte has a ghost name that tracks its value. The names and the block's own part, `block_owns`, are those of the crate `bytes`.
use Rattle.std.specs.Prelude.{ℕ, ◌+◌, List, [], ◌∷◌, drop}
use Rattle.std.specs.contracts.alloc.Global as Heap
use Rattle.std.specs.contracts.impls.GlobalAllocator.TheImpl.{ghosts}
use base.Fml.{Fml}
use mir.Val.{Val}
use denote.Builtin.{u8}
use denote.RawPtr.{Ptr, block_of, count_of}
use denote.Slice.{elements_shared}
use Rattle.bytes.specs.Ownership.{Extent, closed}
use Rattle.bytes.specs.contracts.block.Sole as Sole

-- a `Vec` apart from its elements: whoever brings them has it back
abbrev pub emptied_owns : Extent → List Val → Fml
emptied_owns = Sole.the_own Heap.the_row ghosts

-- the bytes xs that lie n bytes behind p may be written while the lifetime lasts, and nobody else reaches them
abbrev pub loan_owns : ℕ → List ℕ → Ptr → ℕ → List ℕ → Fml
loan_owns life names p n xs = closed life (drop n names) xs (block_of p) (count_of p + n)

-- the bytes xs that lie n bytes behind p may be read while the lifetime lasts
abbrev pub shown_owns : ℕ → Ptr → ℕ → List ℕ → Fml
shown_owns life p n xs = elements_shared u8 xs (block_of p) (count_of p + n) (life ∷ [])
