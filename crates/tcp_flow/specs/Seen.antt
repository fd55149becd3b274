-- What happens to TCP and what it asks for, seen with plain packets.
use Rattle.sim_base.specs.Packet.{Packet}
use Rattle.tcp_flow.specs.declared.words.Seg.{Seg}
use Rattle.tcp_flow.specs.declared.words.In.{In}
use Rattle.tcp_flow.specs.declared.words.In.TheVariants.{Connect, Listen, Segment, Timer, Write, Close}
use Rattle.tcp_flow.specs.declared.words.Act.{Act}
use Rattle.tcp_flow.specs.declared.words.Act.TheVariants.{Emit, TimerAt, Connected, Room, Deliver, End, Reset, Dropped}

abbrev pub plain_seg : {P : Type 0} → (P → Packet) → Seg P → Seg Packet
plain_seg plain s = record { src = s.src; dst = s.dst; packet = plain s.packet }

abbrev pub plain_act : {P : Type 0} → (P → Packet) → Act P → Act Packet
plain_act plain (Emit s) = Emit (plain_seg plain s)
plain_act plain (TimerAt at conn stamp) = TimerAt at conn stamp
plain_act plain (Connected app) = Connected app
plain_act plain (Room app free) = Room app free
plain_act plain (Deliver app src sport packet) = Deliver app src sport (plain packet)
plain_act plain (End app) = End app
plain_act plain (Reset app) = Reset app
plain_act plain Dropped = Dropped

abbrev pub plain_in : {P : Type 0} → (P → Packet) → In P → In Packet
plain_in plain (Connect now app src sport dst port mss) = Connect now app src sport dst port mss
plain_in plain (Listen app port) = Listen app port
plain_in plain (Segment now s) = Segment now (plain_seg plain s)
plain_in plain (Timer now conn stamp) = Timer now conn stamp
plain_in plain (Write now app bytes) = Write now app bytes
plain_in plain (Close now app) = Close now app
