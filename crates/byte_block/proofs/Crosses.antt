-- What the parts of a block own names no thread.
use Rattle.std.proofs.Common.{ℕ, ◌+◌, List, [], ◌∷◌}
use base.Fraction.{full_share}
use base.Fml.{GName}
use base.Shift.{Keyless}
use denote.Builtin.{u8}
use denote.Param.Send.{IsSend, IsSync, part_keyless, array_sync, sendable, struct_sync, owning_send}
use denote.RawPtr.{block_of, count_of}
use denote.Struct.Owning.{shape, to}
use Rattle.std.specs.contracts.alloc.Global as Heap
use Rattle.std.specs.contracts.impls.GlobalAllocator.TheImpl.{ghosts}
use Rattle.bytes.specs.Ownership.{closed}
use Rattle.std.proofs.Crossing.{frees}
use Rattle.bytes.proofs.Crosses.{u8-send, block_owns-keyless, sole-send}
use Rattle.byte_block.specs.contracts.memory.Emptied as Emptied
use Rattle.byte_block.specs.contracts.memory.Memory as Memory
use Rattle.byte_block.specs.contracts.memory.Loan as Loan
use Rattle.byte_block.specs.contracts.memory.Shown as Shown

u8-sync : IsSync u8
u8-sync = search sendable

heap-send : IsSend Heap.the_row
heap-send = search sendable

pub emptied-send : IsSend Emptied.the_row
emptied-send = record { owned = λ e vs. (sole-send Heap.the_row ghosts heap-send frees).owned e vs; leaving = λ k x w. tt }

pub emptied-sync : IsSync Emptied.the_row
emptied-sync = record { shared = λ e b o κ. tt }

pub memory-send : IsSend Memory.the_row
memory-send = owning_send Memory.the_type (emptied-send, tt) (λ m. block_owns-keyless m.life m.names m.emptied.ptr) (λ k x w. (tt, tt))

pub memory-sync : IsSync Memory.the_row
memory-sync = record { shared = λ m b o κ. ((struct_sync (shape Memory.the_type) (emptied-sync, tt)).shared (to Memory.the_type m) b o κ, λ q. tt) }

closed-keyless : (a : ℕ) (gs : List GName) (xs : List ℕ) (b o : ℕ) → Keyless (closed a gs xs b o)
closed-keyless a [] [] b o = tt
closed-keyless a (γ ∷ gs) [] b o = tt
closed-keyless a [] (x ∷ xs) b o = tt
closed-keyless a (γ ∷ gs) (x ∷ xs) b o = (((λ y. (part_keyless u8 u8-send full_share y b o, tt)), tt), closed-keyless a gs xs b (o + 1))

pub loan-send : IsSend Loan.the_row
loan-send = owning_send Loan.the_type tt (λ l. closed-keyless l.life (lib.ListN.drop l.at l.names) l.items (block_of l.base) (count_of l.base + l.at)) (λ k x w. tt)

-- a `&` to a loan shows nothing that names a thread
pub loan-sync : IsSync Loan.the_row
loan-sync = record { shared = λ l b o κ q. part_keyless Loan.the_row loan-send q l b o }

pub shown-send : IsSend Shown.the_row
shown-send = owning_send Shown.the_type tt (λ s. ((array_sync u8 0 u8-sync).shared s.items (block_of s.base) (count_of s.base + s.at) (s.life ∷ [])).1) (λ k x w. tt)

pub shown-sync : IsSync Shown.the_row
shown-sync = record { shared = λ s b o κ. ((struct_sync (shape Shown.the_type) tt).shared tt b o κ, ((array_sync u8 0 u8-sync).shared s.items (block_of s.base) (count_of s.base + s.at) (s.life ∷ [])).1) }
