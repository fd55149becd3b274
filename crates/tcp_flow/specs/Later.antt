-- Timers fire later than they are asked for.
use Rattle.std.specs.Prelude.{ℕ, ◌<◌}
use Rattle.sim_base.specs.Packet.{Packet}
use Rattle.tcp_flow.specs.declared.words.Act.{Act}
use Rattle.tcp_flow.specs.declared.words.Act.TheVariants.{TimerAt}
use Rattle.tcp_flow.specs.declared.words.In.{In}
use Rattle.tcp_flow.specs.declared.words.In.TheVariants.{Connect, Listen, Segment, Timer, Write, Close}

-- an act asks for no time but a later one
abbrev pub IsLater : ℕ → Act Packet → Type 0
IsLater now (TimerAt at conn stamp) = now < at.0
IsLater now other = Unit {0}

-- when an input happens
abbrev pub time_of : In Packet → ℕ
time_of (Connect now app src sport dst port mss) = now.0
time_of (Listen app port) = 0
time_of (Segment now s) = now.0
time_of (Timer now conn stamp) = now.0
time_of (Write now app bytes) = now.0
time_of (Close now app) = now.0
