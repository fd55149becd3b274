-- Times that a device asks for.
use Rattle.std.specs.Prelude.{ℕ, ◌<◌}
use Rattle.sim_base.specs.Packet.{Packet}
use Rattle.p2p_dev.specs.declared.In.{In}
use Rattle.p2p_dev.specs.declared.In.TheVariants.{Start, Sent, Arrive}
use Rattle.p2p_dev.specs.declared.Act.{Act}
use Rattle.p2p_dev.specs.declared.Act.TheVariants.{SentAt, ArriveAt, Save, Lost, Up}

abbrev pub time_of : In Packet → ℕ
time_of (Start now frame) = now.0
time_of Sent = 0
time_of (Arrive frame) = 0

-- an act asks for no time but a later one
abbrev pub IsLater : ℕ → Act Packet → Type 0
IsLater now (SentAt at) = now < at.0
IsLater now (ArriveAt at frame) = now < at.0
IsLater now (Save frame) = Unit {0}
IsLater now (Lost frame) = Unit {0}
IsLater now (Up proto packet) = Unit {0}
