-- What answers a segment that no connection takes (RFC 9293, 3.10.7.1).
use Rattle.std.specs.Prelude.{ℕ, ◌+◌, ◌%◌, ◌^◌, Bool, true, false, if◌then◌else◌, [], ◌∷◌, length, None}
use Rattle.sim_base.specs.declared.numbers.Numbers.{Numbers}
use Rattle.sim_base.specs.Packet.{Packet}
use Rattle.layer_words.specs.Acts.{Made}
use Rattle.layer_words.specs.Counting.{new_uid, with_packet}
use Rattle.tcp_conn.specs.declared.words.Heard.{Heard}
use Rattle.tcp_conn.specs.Send.{one}
use Rattle.tcp_wire.specs.declared.words.SocketPair.{SocketPair}
use Rattle.tcp_wire.specs.declared.words.Arrived.{Arrived}
use Rattle.tcp_wire.specs.Segment.{segment}
use Rattle.tcp_flow.specs.declared.words.Act.{Act}
use Rattle.tcp_flow.specs.declared.words.Act.TheVariants.{Emit}

-- a RST at a position, with an acknowledgement or without
abbrev pub reset_at : ℕ → ℕ → Bool → Heard
reset_at seq ack has_ack =
    record { seq = seq; ack = ack; window = 65535; mss = None; syn = false; has_ack = has_ack; fin = false; rst = true }

-- at the position that the segment acknowledges; where it acknowledges nothing the RST acknowledges all of it
abbrev pub refusal : Heard → ℕ → Heard
refusal s bytes =
    if s.has_ack then reset_at s.ack 0 false
    else reset_at 0 ((s.seq + bytes + one s.syn + one s.fin) % 2 ^ 32) true

-- who answers whom
abbrev pub answering : ℕ → ℕ → Arrived → SocketPair
answering src dst a = record { addr = dst; port = a.dport; other_addr = src; other_port = a.sport }

-- a RST is never answered
abbrev pub refused : ℕ → ℕ → Arrived → Numbers → Made (Act Packet)
refused src dst a n =
    if a.says.rst then record { numbers = n; acts = [] }
    else record {
      numbers = with_packet n;
      acts = Emit (record { src = dst; dst = src; packet = segment (new_uid n) 0 (answering src dst a) (refusal a.says (length a.bytes)) [] }) ∷ [];
    }
