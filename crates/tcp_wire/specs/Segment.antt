-- A segment as a packet: RFC 9293, section 3.1.
use Rattle.std.specs.Prelude.{ℕ, ◌+◌, ◌/◌, ◌%◌, ◌==◌, ◌++◌, Bool, if◌then◌else◌, List, length, Option, None, Some, min, slice_range}
use Rattle.sim_base.specs.declared.item.Kind.TheVariants.{Tcp as TcpItem}
use Rattle.sim_base.specs.declared.numbers.Uid.{Uid}
use Rattle.sim_base.specs.Packet.{Packet, len, from_bytes, push_front, add_byte_tag}
use Rattle.header_forms.specs.declared.tcp.Tcp.{Tcp}
use Rattle.header_forms.specs.Checksum.{checksum}
use Rattle.header_forms.specs.Tcp.{tcp_bytes, tcp_of, written_size}
use Rattle.layer_words.specs.Covered.{pseudo_header}
use Rattle.tcp_conn.specs.declared.words.Heard.{Heard}
use Rattle.tcp_wire.specs.declared.words.SocketPair.{SocketPair}
use Rattle.tcp_wire.specs.declared.words.Arrived.{Arrived}

-- FIN, SYN, RST and ACK are the flags 1, 2, 4 and 16

abbrev pub flag : ℕ → Bool → ℕ
flag bit b = if b then bit else 0

abbrev pub flags_of : Heard → ℕ
flags_of s = flag 1 s.fin + flag 2 s.syn + flag 4 s.rst + flag 16 s.has_ack

abbrev pub has_flag : ℕ → ℕ → Bool
has_flag bit flags = flags / bit % 2 == 1

-- the header that says this, with this checksum
abbrev pub head_of : SocketPair → Heard → ℕ → Tcp
head_of pair s sum =
    record {
      sport = pair.port;
      dport = pair.other_port;
      seq = s.seq;
      ack = s.ack;
      flags = flags_of s;
      window = s.window;
      checksum = sum;
      mss = s.mss;
      size = written_size s.mss;
    }

-- the checksum covers the pseudo-header, the header with 0 in the checksum's place, and the data
abbrev pub checksum_of : SocketPair → Heard → List ℕ → ℕ
checksum_of pair s bytes =
    checksum ((pseudo_header pair.addr pair.other_addr 6 (written_size s.mss + length bytes) ++ tcp_bytes (head_of pair s 0)) ++ bytes)

-- the data, which is tagged with the number of the application that wrote it, and the header in front
unfoldable pub segment : Uid → ℕ → SocketPair → Heard → List ℕ → Packet
segment uid app pair s bytes =
    push_front TcpItem (tcp_bytes (head_of pair s (checksum_of pair s bytes))) (add_byte_tag 1 app (from_bytes uid bytes))

-- what a header says
abbrev pub said_by : Tcp → Heard
said_by h =
    record {
      seq = h.seq;
      ack = h.ack;
      window = h.window;
      mss = h.mss;
      syn = has_flag 2 h.flags;
      has_ack = has_flag 16 h.flags;
      fin = has_flag 1 h.flags;
      rst = has_flag 4 h.flags;
    }

abbrev pub with_head : Packet → Tcp → Arrived
with_head p h =
    record { sport = h.sport; dport = h.dport; says = said_by h; bytes = slice_range p.bytes h.size (len p) }

abbrev pub is_intact : ℕ → ℕ → Packet → Bool
is_intact src dst p = checksum (pseudo_header src dst 6 (len p) ++ p.bytes) == 0

abbrev pub headed : ℕ → ℕ → Packet → Option Tcp → Option Arrived
headed src dst p None = None
headed src dst p (Some h) = if is_intact src dst p then Some (with_head p h) else None

-- No header is longer than 60 bytes. A packet that begins with none, or whose checksum is wrong, is no segment.
unfoldable pub arrived : ℕ → ℕ → Packet → Option Arrived
arrived src dst p = headed src dst p (tcp_of (slice_range p.bytes 0 (min (len p) 60)))
