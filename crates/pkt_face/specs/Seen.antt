-- What stands in a trace, seen with plain packets.
use Rattle.sim_base.specs.Packet.{Packet}
use Rattle.pkt_face.specs.declared.line.Line.{Line}

-- a line, seen with its plain packet
abbrev pub plain_line : {P : Type 0} → (P → Packet) → Line P → Line Packet
plain_line plain l = record { key = l.key; index = l.index; node = l.node; iface = l.iface; sign = l.sign; packet = plain l.packet }
