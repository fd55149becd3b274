-- How a connection between two nodes begins (RFC 9293, 3.5): an application opens it, and its SYN comes to a port where another
-- one listens.
use Rattle.std.specs.Prelude.{ℕ, ◌≡◌, ◌<◌, ◌≤◌, ◌^◌, Bool, true, false, List, [], ◌∷◌, None, Some}
use Rattle.sim_base.specs.declared.numbers.Numbers.{Numbers}
use Rattle.sim_base.specs.declared.time.Time.{Time}
use Rattle.sim_base.specs.Packet.{Packet}
use Rattle.tcp_conn.specs.declared.connection.Phase.{Phase}
use Rattle.tcp_conn.specs.declared.connection.Phase.TheVariants.{SynSent, SynReceived}
use Rattle.tcp_wire.specs.declared.words.SocketPair.{SocketPair}
use Rattle.tcp_flow.specs.declared.words.Seg.{Seg}
use Rattle.tcp_flow.specs.declared.words.In.{In}
use Rattle.tcp_flow.specs.declared.words.In.TheVariants.{Connect, Segment}
use Rattle.tcp_flow.specs.declared.conn.Conn.{Conn}
use Rattle.tcp_flow.specs.Conns.{PlainConns}
use Rattle.tcp_flow.specs.Index.{InOrder}
use Rattle.tcp_flow.specs.Life.{IsTransfer}
use Rattle.tcp_flow.specs.Table.{between, under}
use Rattle.delivered_prefix.specs.Nodes.{Node, Stands, Happening, There, Here, IsHistory, happens, mirrored, nodes_before, run}

-- an application's OPEN, from an address of its node
pub record Ask : Type 0 where
  pub now : Time
  pub app : ℕ
  pub pair : SocketPair
  pub mss : ℕ

-- ports and the greatest segment size are within their limits
pub record IsAsk (ask : Ask) : Type 0 where
  pub port : ask.pair.port < 2 ^ 16
  pub other_port : ask.pair.other_port < 2 ^ 16
  pub some : 0 < ask.mss
  pub most : ask.mss ≤ 9000

abbrev pub asked : Ask → In Packet
asked ask = Connect ask.now ask.app (Some ask.pair.addr) ask.pair.port ask.pair.other_addr ask.pair.other_port ask.mss

-- two nodes with no connection between these two, of which the other one has an application that listens at the port
pub record IsReady (pair : SocketPair) (listener : ℕ) (there here : PlainConns) : Type 0 where
  pub there_in_order : InOrder there.conns
  pub here_in_order : InOrder here.conns
  pub opener_free : between pair there.conns ≡ None
  pub sink_free : between (mirrored pair) here.conns ≡ None
  pub listens : under pair.other_port here.listening ≡ Some listener

-- an end that stands, of a connection of this application between these two, in this state; no byte was written or delivered
pub record IsEnd (opener : Bool) (app : ℕ) (pair : SocketPair) (phase : Phase) (a : Node) : Type 0 where
  pub number : ℕ
  pub stands : a.stage ≡ Stands number
  pub conn : Conn
  pub found : under number a.conns.conns ≡ Some conn
  pub number_is : conn.number ≡ number
  pub app_is : conn.app ≡ app
  pub pair_is : conn.pair ≡ pair
  pub side : conn.connection.opener ≡ opener
  pub phase_is : conn.connection.phase ≡ phase
  pub written : a.life.written ≡ []
  pub told : a.life.told ≡ []

-- the OPEN, and the coming of a segment to the sink's node
abbrev pub handshake : Ask → Time → Seg Packet → List Happening
handshake ask later syn = There (asked ask) ∷ Here (Segment later syn) ∷ []

-- The opener's node sends one segment, and when that comes to the sink's node both ends stand. This is a history, and the two
-- inputs make the ends of a transfer.
pub record BeginsTransfer (ask : Ask) (later : Time) (listener : ℕ) (there : PlainConns) (n : Numbers) (here : PlainConns) (m : Numbers) : Type 0 where
  pub syn : Seg Packet
  pub sent : (happens ask.pair (nodes_before there n here m) (There (asked ask))).opener.life.sent ≡ syn ∷ []
  pub history : IsHistory ask.pair (nodes_before there n here m) (handshake ask later syn)
  pub opener : IsEnd true ask.app ask.pair SynSent (run ask.pair (nodes_before there n here m) (handshake ask later syn)).opener
  pub sink : IsEnd false listener (mirrored ask.pair) SynReceived (run ask.pair (nodes_before there n here m) (handshake ask later syn)).sink
  pub transfer : IsTransfer (record { conns = there; numbers = n; input = asked ask }) (record { conns = here; numbers = m; input = Segment later syn }) [] []
