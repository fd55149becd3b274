-- The connections of two nodes, and one connection between them: an application opens it at one node, the opener's, and its SYN
-- makes the other end at the other node, the sink's. Both nodes take any inputs, in any order.
use Rattle.std.specs.Prelude.{ℕ, ◌≡◌, ◌<◌, ◌≤◌, ◌^◌, ◌&&◌, Bool, true, false, if◌then◌else◌, List, [], ◌∷◌, Option, None, Some, is_some}
use Rattle.std.specs.List.{All, Contains}
use Rattle.sim_base.specs.declared.numbers.Numbers.{Numbers}
use Rattle.sim_base.specs.Packet.{Packet}
use Rattle.tcp_wire.specs.declared.words.SocketPair.{SocketPair}
use Rattle.tcp_wire.specs.declared.words.Arrived.{Arrived}
use Rattle.tcp_wire.specs.Segment.{arrived}
use Rattle.tcp_flow.specs.declared.words.Seg.{Seg}
use Rattle.tcp_flow.specs.declared.words.In.{In}
use Rattle.tcp_flow.specs.declared.words.In.TheVariants.{Connect, Segment, Write}
use Rattle.tcp_flow.specs.Conns.{PlainConns, step}
use Rattle.tcp_flow.specs.Life.{Life, concerned, is_number, lived, no_life}
use Rattle.tcp_flow.specs.Stray.{answering}
use Rattle.tcp_flow.specs.Table.{least_free, same_pair, under}

-- ---- one end of the connection, at a node

-- not made yet, there under its number, or removed
pub data Stage : Type 0 where
  Awaited : Stage
  Stands : (number : ℕ) → Stage
  Removed : Stage

-- a node's connections and numbers; how far this end is; and its life so far: what came to it, what its application wrote, what
-- it sent, and what it told its application
pub record Node : Type 0 where
  pub conns : PlainConns
  pub numbers : Numbers
  pub stage : Stage
  pub life : Life

-- one at which the end isn't made yet
abbrev pub node_before : PlainConns → Numbers → Node
node_before t n = record { conns = t; numbers = n; stage = Awaited; life = no_life }

-- an input makes a connection
abbrev pub makes : PlainConns → In Packet → Bool
makes t input = is_number (least_free 0 t.conns) (concerned t input)

-- an application opens the connection between these two
abbrev pub opens : SocketPair → PlainConns → In Packet → Bool
opens pair t (Connect now app (Some src) sport dst port mss) =
    same_pair pair (record { addr = src; port = sport; other_addr = dst; other_port = port }) && makes t (Connect now app (Some src) sport dst port mss)
opens pair t other = false

-- a segment makes it
abbrev pub is_between : SocketPair → ℕ → ℕ → Option Arrived → Bool
is_between pair src dst None = false
is_between pair src dst (Some a) = same_pair pair (answering src dst a)

abbrev pub accepts : SocketPair → PlainConns → In Packet → Bool
accepts pair t (Segment now s) = is_between pair s.src s.dst (arrived s.src s.dst s.packet) && makes t (Segment now s)
accepts pair t other = false

-- How far the end is when it is the input's turn: it is made under the least free number by the first input that makes it
abbrev pub stage_at : (PlainConns → In Packet → Bool) → Stage → PlainConns → In Packet → Stage
stage_at begins Awaited t input = if begins t input then Stands (least_free 0 t.conns) else Awaited
stage_at begins (Stands number) t input = Stands number
stage_at begins Removed t input = Removed

-- and after it, when these connections stand
abbrev pub stage_after : Stage → PlainConns → Stage
stage_after Awaited t = Awaited
stage_after (Stands number) t = if is_some (under number t.conns) then Stands number else Removed
stage_after Removed t = Removed

-- whether an input reaches the end
abbrev pub reaches : Stage → PlainConns → In Packet → Bool
reaches Awaited t input = false
reaches (Stands number) t input = is_number number (concerned t input)
reaches Removed t input = false

-- the life of the end with this input, if it reaches it
abbrev pub lives : Stage → PlainConns → Numbers → In Packet → Life → Life
lives Awaited t n input l = l
lives (Stands number) t n input l = lived number t n input l
lives Removed t n input l = l

-- a node takes an input; the step is that of its table
abbrev pub takes : (PlainConns → In Packet → Bool) → Node → In Packet → Node
takes begins a input =
    let s = step a.conns a.numbers input in
    let stage = stage_at begins a.stage a.conns input in
    record {
      conns = s.state;
      numbers = s.numbers;
      stage = stage_after stage s.state;
      life = lives stage a.conns a.numbers input a.life;
    }

-- ---- both ends

pub record Nodes : Type 0 where
  pub opener : Node
  pub sink : Node

abbrev pub nodes_before : PlainConns → Numbers → PlainConns → Numbers → Nodes
nodes_before there n here m = record { opener = node_before there n; sink = node_before here m }

-- what happens next: the opener's node takes an input, or the sink's does
pub data Happening : Type 0 where
  There : (input : In Packet) → Happening
  Here : (input : In Packet) → Happening

-- the two ends, seen from the other side
abbrev pub mirrored : SocketPair → SocketPair
mirrored pair = record { addr = pair.other_addr; port = pair.other_port; other_addr = pair.addr; other_port = pair.port }

-- the connection is that between these two, as the opener sees them
abbrev pub happens : SocketPair → Nodes → Happening → Nodes
happens pair w (There input) = record w { opener = takes (opens pair) w.opener input }
happens pair w (Here input) = record w { sink = takes (accepts (mirrored pair)) w.sink input }

abbrev pub run : SocketPair → Nodes → List Happening → Nodes
run pair w [] = w
run pair w (h ∷ hs) = run pair (happens pair w h) hs

-- ports fit 16 bits, a segment carries some bytes and at most 9000, and bytes are below 256
abbrev pub IsWithinLimits : In Packet → Type 0
IsWithinLimits (Connect now app src sport dst port mss) = (sport < 2 ^ 16) × (port < 2 ^ 16) × (0 < mss) × (mss ≤ 9000)
IsWithinLimits (Write now app bytes) = All (λ b. b < 256) bytes
IsWithinLimits other = Unit {0}

-- A segment comes as it was sent: between the same addresses, with the same bytes. The number, tags and items of its packet say
-- nothing to TCP, and may be others where it was split on its way and put together again
pub record IsAsSent (sent come : Seg Packet) : Type 0 where
  pub src : come.src ≡ sent.src
  pub dst : come.dst ≡ sent.dst
  pub bytes : come.packet.bytes ≡ sent.packet.bytes

abbrev pub WasSent : List (Seg Packet) → Seg Packet → Type 0
WasSent sent s = (earlier : Seg Packet) × Contains sent earlier × IsAsSent earlier s

-- A segment that makes or reaches the sink's end is one that the opener's end has sent. It may have come before, and others that
-- were sent earlier may still come or never do
abbrev pub IsOnItsWay : SocketPair → Nodes → In Packet → Type 0
IsOnItsWay pair w (Segment now s) =
    reaches (stage_at (accepts (mirrored pair)) w.sink.stage w.sink.conns (Segment now s)) w.sink.conns (Segment now s) ≡ true →
    WasSent w.opener.life.sent s
IsOnItsWay pair w other = Unit {0}

-- Nothing else is asked: the opener's end may hear anything at all, and all other connections of both nodes too; timers fire
-- at any time, and applications ask for anything
abbrev pub MayHappen : SocketPair → Nodes → Happening → Type 0
MayHappen pair w (There input) = IsWithinLimits input
MayHappen pair w (Here input) = IsOnItsWay pair w input

abbrev pub IsHistory : SocketPair → Nodes → List Happening → Type 0
IsHistory pair w [] = Unit {0}
IsHistory pair w (h ∷ hs) = MayHappen pair w h × IsHistory pair (happens pair w h) hs
