-- What begins a connection, and what its application does (RFC 9293, 3.10.1 to 3.10.4).
use Rattle.std.specs.Prelude.{ℕ, Bool, true, false, if◌then◌else◌, List, [], ◌++◌, take, None}
use Rattle.std.specs.FinMap.{empty}
use Rattle.tcp_reno.specs.NewReno.{start}
use Rattle.tcp_stream.specs.History.{Sink}
use Rattle.tcp_conn.specs.declared.connection.Phase.TheVariants.{SynSent, SynReceived}
use Rattle.tcp_conn.specs.declared.connection.Connection.{Connection}
use Rattle.tcp_conn.specs.RoundTrip.{unsampled}
use Rattle.tcp_conn.specs.Send.{Stepped, room, sent, pumped}

-- a sink that waits for the first byte
abbrev pub waiting : Sink
waiting = record { rcv = 1; held = empty; fin_at = None; ended = false }

-- a connection of which nothing was sent
abbrev pub begun : Bool → ℕ → Connection
begun opener mss =
    record {
      phase = (if opener then SynSent else SynReceived);
      opener = opener;
      mss = mss;
      una = 0;
      nxt = 0;
      max = 0;
      buffer = [];
      closing = false;
      sink = waiting;
      peer_window = 65535;
      timed = None;
      round_trip = unsampled;
      tries = 0;
      timer = false;
      reno = start mss false;
    }

-- an opener sends its SYN
unfoldable pub opening : ℕ → ℕ → Stepped
opening now mss = sent now true false 0 (begun true mss)

-- the SYN of a new connection is answered by one with an acknowledgement
unfoldable pub heard_syn : ℕ → Stepped
heard_syn now = sent now true false 0 (begun false 9000)

abbrev pub with_bytes : List ℕ → Connection → Connection
with_bytes bytes c = record c { buffer = c.buffer ++ take (room c) bytes }

unfoldable pub writes : ℕ → List ℕ → Connection → Stepped
writes now bytes c = pumped now (with_bytes bytes c)

unfoldable pub closes : ℕ → Connection → Stepped
closes now c = pumped now (record c { closing = true })
