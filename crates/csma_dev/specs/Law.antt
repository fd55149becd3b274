-- Frames on a bus: one at a time.
use Rattle.std.specs.Prelude.{ℕ, ◌≡◌, ◌<◌, ◌≤◌}
use Rattle.sim_base.specs.Packet.{Packet}
use Rattle.csma_dev.specs.declared.bus.Bus.{Bus}
use Rattle.csma_dev.specs.declared.words.In.{In}
use Rattle.csma_dev.specs.declared.words.In.TheVariants.{Start, BusFree, BackoffOver, Arrive}
use Rattle.csma_dev.specs.declared.words.Act.{Act}
use Rattle.csma_dev.specs.declared.words.Act.TheVariants.{Save, ArriveAt, SentAt, BackoffAt, GaveUp, Lost, Up}

abbrev pub time_of : In Packet → ℕ
time_of (Start now frame) = now.0
time_of BusFree = 0
time_of (BackoffOver now) = now.0
time_of (Arrive frame) = 0

-- a frame that is sent finds no other on the bus, and has the bus until it has come to the others
abbrev pub IsAlone : ℕ → Bus → Bus → Act Packet → Type 0
IsAlone now old new (Save frame) = Unit {0}
IsAlone now old new (ArriveAt at frame) = (old.busy_until.0 ≤ now) × (new.busy_until ≡ at)
IsAlone now old new (SentAt at) = new.busy_until ≡ at
IsAlone now old new (BackoffAt at) = new ≡ old
IsAlone now old new (GaveUp frame) = new ≡ old
IsAlone now old new (Lost frame) = new ≡ old
IsAlone now old new (Up proto packet) = new ≡ old

-- an act asks for no time but a later one
abbrev pub IsLater : ℕ → Act Packet → Type 0
IsLater now (Save frame) = Unit {0}
IsLater now (ArriveAt at frame) = now < at.0
IsLater now (SentAt at) = now < at.0
IsLater now (BackoffAt at) = now < at.0
IsLater now (GaveUp frame) = Unit {0}
IsLater now (Lost frame) = Unit {0}
IsLater now (Up proto packet) = Unit {0}
