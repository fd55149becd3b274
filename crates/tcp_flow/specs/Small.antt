-- What a connection asks for fits packets and numbers, and what it is given fits them too.
use Rattle.std.specs.Prelude.{◌^◌, ◌<◌, ◌≤◌, IfSome, List, length, map}
use Rattle.std.specs.List.{All}
use Rattle.sim_base.specs.Packet.{Packet, len}
use Rattle.tcp_conn.specs.Clock.{latest}
use Rattle.tcp_conn.specs.declared.words.Effect.{Effect}
use Rattle.tcp_conn.specs.declared.words.Effect.TheVariants.{Emit, Room, Deliver}
use Rattle.tcp_flow.specs.declared.words.Act.{Act}
use Rattle.tcp_flow.specs.declared.words.Act.TheVariants.{Emit as EmitAct}
use Rattle.tcp_flow.specs.declared.words.In.{In}
use Rattle.tcp_flow.specs.declared.words.In.TheVariants.{Connect, Listen, Segment as SegmentIn, Timer, Write, Close}
use Rattle.tcp_flow.specs.declared.words.Event.{Event}
use Rattle.tcp_flow.specs.declared.words.Event.TheVariants.{Segment}

-- a segment is no longer than 9000 bytes and names no greater size, and a delivery is no longer than a window
abbrev pub IsSmall : Effect → Type 0
IsSmall (Emit o) = (o.bytes ≤ 9000) × IfSome o.mss (λ mss. mss < 2 ^ 16)
IsSmall (Room free) = free < 2 ^ 32
IsSmall (Deliver bytes) = length bytes ≤ 65535
IsSmall other = Unit {0}

-- a segment's bytes are counted in 32 bits
abbrev pub CanHappen : Event → Type 0
CanHappen (Segment a) = length a.bytes < 2 ^ 32
CanHappen other = Unit {0}

-- times and greatest segment sizes are within their limits, and packets without their IPv4 header fit a datagram
abbrev pub CanTake : In Packet → Type 0
CanTake (Connect now app src sport dst port mss) = (now.0 ≤ latest) × (64 ≤ mss) × (mss ≤ 9000)
CanTake (Listen app port) = Unit {0}
CanTake (SegmentIn now s) = (now.0 ≤ latest) × (len s.packet ≤ 65515)
CanTake (Timer now conn stamp) = now.0 ≤ latest
CanTake (Write now app bytes) = now.0 ≤ latest
CanTake (Close now app) = now.0 ≤ latest

-- a segment that is handed to IPv4 fits a datagram
abbrev pub FitsDatagram : Act Packet → Type 0
FitsDatagram (EmitAct s) = len s.packet ≤ 65515
FitsDatagram other = Unit {0}

-- what was put behind acts fits, as they do
abbrev pub AddsFitting : {A : Type 0} → (A → Act Packet) → List A → List A → Type 0
AddsFitting see old new = All FitsDatagram (map see old) → All FitsDatagram (map see new)
