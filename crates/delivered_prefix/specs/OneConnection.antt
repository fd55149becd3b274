-- What an input is to the one connection that it concerns, and what it leaves of the others.
use Rattle.std.specs.Prelude.{ℕ, ◌≡◌, true, if◌then◌else◌, List, [], Option, None, Some}
use Rattle.std.specs.List.{All}
use Rattle.std.specs.Option.{option_map}
use Rattle.sim_base.specs.declared.numbers.Numbers.{Numbers}
use Rattle.sim_base.specs.declared.numbers.Uid.{Uid}
use Rattle.sim_base.specs.Packet.{Packet}
use Rattle.tcp_conn.specs.declared.words.Heard.{Heard}
use Rattle.tcp_conn.specs.Begin.{opening, heard_syn}
use Rattle.tcp_conn.specs.Send.{Stepped}
use Rattle.tcp_wire.specs.declared.words.SocketPair.{SocketPair}
use Rattle.tcp_wire.specs.declared.words.Arrived.{Arrived}
use Rattle.tcp_wire.specs.Segment.{arrived, segment}
use Rattle.tcp_flow.specs.declared.words.Act.{Act}
use Rattle.tcp_flow.specs.declared.words.Act.TheVariants.{Emit, TimerAt, Connected, Room, Deliver, End, Reset, Dropped}
use Rattle.tcp_flow.specs.declared.words.Event.{Event}
use Rattle.tcp_flow.specs.declared.words.Event.TheVariants.{Segment as SegmentEvent, Timer as TimerEvent, Write as WriteEvent, Close as CloseEvent}
use Rattle.tcp_flow.specs.declared.words.In.{In}
use Rattle.tcp_flow.specs.declared.words.In.TheVariants.{Connect, Listen, Segment, Timer, Write, Close}
use Rattle.tcp_flow.specs.declared.conn.Conn.{Conn}
use Rattle.tcp_flow.specs.Conn.{begun, fresh, happened}
use Rattle.tcp_flow.specs.Conns.{PlainConns, is_opening, step}
use Rattle.tcp_flow.specs.Later.{time_of}
use Rattle.tcp_flow.specs.Stray.{answering}
use Rattle.tcp_flow.specs.Table.{between, is_closed, least_free, under}

-- what happens to a connection by an input
abbrev pub event_in : In Packet → Option Event
event_in (Segment now s) = option_map SegmentEvent (arrived s.src s.dst s.packet)
event_in (Timer now conn stamp) = Some TimerEvent
event_in (Write now app bytes) = Some (WriteEvent bytes)
event_in (Close now app) = Some CloseEvent
event_in (Connect now app src sport dst port mss) = None
event_in (Listen app port) = None

-- what is left of a connection: nothing once it is closed
abbrev pub left : Conn → Option Conn
left k = if is_closed k.connection.phase then None else Some k

-- An act of one connection: its segments go from its own end to the other and are made of them, its timers are its own, and
-- what it tells it tells its application
abbrev pub IsActOf : Conn → Act Packet → Type 0
IsActOf k (Emit s) =
    (uid : Uid) × (says : Heard) × (bytes : List ℕ) ×
    (s ≡ record { src = k.pair.addr; dst = k.pair.other_addr; packet = segment uid k.app k.pair says bytes })
IsActOf k (TimerAt at conn stamp) = conn ≡ k.number
IsActOf k (Connected app) = app ≡ k.app
IsActOf k (Room app free) = app ≡ k.app
IsActOf k (Deliver app src sport packet) = (app ≡ k.app) × (src ≡ k.pair.other_addr) × (sport ≡ k.pair.other_port)
IsActOf k (End app) = app ≡ k.app
IsActOf k (Reset app) = app ≡ k.app
IsActOf k Dropped = Unit {0}

-- an act of no connection: a RST, which refuses a segment, or a drop
abbrev pub IsNobodys : Act Packet → Type 0
IsNobodys (Emit s) =
    (uid : Uid) × (pair : SocketPair) × (says : Heard) × (says.rst ≡ true)
    × (s ≡ record { src = pair.addr; dst = pair.other_addr; packet = segment uid 0 pair says [] })
IsNobodys (TimerAt at conn stamp) = ⊥
IsNobodys (Connected app) = ⊥
IsNobodys (Room app free) = ⊥
IsNobodys (Deliver app src sport packet) = ⊥
IsNobodys (End app) = ⊥
IsNobodys (Reset app) = ⊥
IsNobodys Dropped = Unit {0}

-- A step in which one connection goes on: what becomes of it and the acts are what one event makes of it alone, whatever
-- other connections the node has
pub record GoesOn (t : PlainConns) (n : Numbers) (input : In Packet) (number : ℕ) (k : Conn) : Type 0 where
  pub event : Event
  pub is : event_in input ≡ Some event
  pub entry : under number (step t n input).state.conns ≡ left (happened (time_of input) event k n).conn
  pub numbers : (step t n input).numbers ≡ (happened (time_of input) event k n).numbers
  pub acts : (step t n input).acts ≡ (happened (time_of input) event k n).acts
  pub own : All (IsActOf k) (step t n input).acts

-- An application opens a connection, from an address of the node; or a listening port takes the SYN of one
abbrev pub IsBeginning : PlainConns → In Packet → ℕ → SocketPair → Stepped → Type 0
IsBeginning t (Connect now opener (Some src) sport dst port mss) app pair first =
    (app ≡ opener) × (pair ≡ record { addr = src; port = sport; other_addr = dst; other_port = port }) × (first ≡ opening now.0 mss)
IsBeginning t (Segment now s) app pair first =
    (a : Arrived) × (arrived s.src s.dst s.packet ≡ Some a) × (is_opening a.says ≡ true) × (under a.dport t.listening ≡ Some app) ×
    (pair ≡ answering s.src s.dst a) × (first ≡ heard_syn now.0)
IsBeginning t other app pair first = ⊥

-- a step that makes a connection, where none was between these two, under the least free number
pub record Begins (t : PlainConns) (n : Numbers) (input : In Packet) (number : ℕ) : Type 0 where
  pub app : ℕ
  pub pair : SocketPair
  pub first : Stepped
  pub beginning : IsBeginning t input app pair first
  pub new : between pair t.conns ≡ None
  pub least : number ≡ least_free 0 t.conns
  pub entry : under number (step t n input).state.conns ≡ Some (begun number app pair n first).conn
  pub numbers : (step t n input).numbers ≡ (begun number app pair n first).numbers
  pub acts : (step t n input).acts ≡ (begun number app pair n first).acts
  pub own : All (IsActOf (fresh number app pair first.now)) (step t n input).acts

-- each connection has the number under which it stands
abbrev pub AreNumbered : List (ℕ × Conn) → Type 0
AreNumbered conns = (number : ℕ) (k : Conn) → under number conns ≡ Some k → k.number ≡ number
