-- Segments on their way from one end of a connection to the other.
use Rattle.std.specs.Prelude.{ℕ, ◌-◌, ◌%◌, ◌^◌, Bool, true, false, List, [], ◌∷◌, take, drop, Option, None, Some}
use Rattle.tcp_conn.specs.declared.words.Heard.{Heard}
use Rattle.tcp_conn.specs.declared.words.Outgoing.{Outgoing}
use Rattle.tcp_conn.specs.declared.words.Effect.{Effect}
use Rattle.tcp_conn.specs.declared.words.Effect.TheVariants.{Emit}
use Rattle.tcp_conn.specs.declared.connection.Connection.{Connection}

-- a segment on its way: what its header says, and its bytes
pub record OnItsWay : Type 0 where
  pub says : Heard
  pub bytes : List ℕ

-- Positions are written in 32 bits, and every segment offers the widest window.
abbrev pub in_32_bits : Option ℕ → ℕ
in_32_bits None = 0
in_32_bits (Some position) = position % 2 ^ 32

abbrev pub is_there : Option ℕ → Bool
is_there None = false
is_there (Some position) = true

abbrev pub said : Outgoing → Heard
said o =
    record {
      seq = o.position % 2 ^ 32;
      ack = in_32_bits o.ack;
      window = 65535;
      mss = o.mss;
      syn = o.syn;
      has_ack = is_there o.ack;
      fin = o.fin;
      rst = false;
    }

-- a segment's bytes are those that its connection holds at its position when the step is done
abbrev pub bytes_of : Connection → Outgoing → List ℕ
bytes_of c o = take o.bytes (drop (o.position - c.una) c.buffer)

abbrev pub on_its_way : Connection → Outgoing → OnItsWay
on_its_way c o = record { says = said o; bytes = bytes_of c o }

-- what was sent, the latest first, after a step that ended in a connection
abbrev pub with_sent : Connection → List Effect → List OnItsWay → List OnItsWay
with_sent c [] sent = sent
with_sent c (Emit o ∷ effects) sent = with_sent c effects (on_its_way c o ∷ sent)
with_sent c (other ∷ effects) sent = with_sent c effects sent
