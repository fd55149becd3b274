-- The connections of a node (RFC 9293, 3.10): which one an event concerns, and what becomes of an event that concerns none.
use Rattle.std.specs.Prelude.{ℕ, ◌==◌, ◌&&◌, not, Bool, if◌then◌else◌, List, [], ◌∷◌, Option, None, Some, is_some, refl}
use Rattle.std.specs.Coded.{Coded, code_by, coded×, coded_list, coded_ℕ}
use Rattle.std.specs.BTreeMap.{insert_entry}
use Rattle.std.specs.Ordering.{nat_cmp}
use Rattle.sim_base.specs.declared.numbers.Numbers.{Numbers}
use Rattle.sim_base.specs.Packet.{Packet}
use Rattle.layer_words.specs.Acts.{Numbered}
use Rattle.tcp_conn.specs.declared.words.Heard.{Heard}
use Rattle.tcp_conn.specs.Begin.{opening, heard_syn}
use Rattle.tcp_wire.specs.declared.words.SocketPair.{SocketPair}
use Rattle.tcp_wire.specs.declared.words.Arrived.{Arrived}
use Rattle.tcp_wire.specs.Segment.{arrived}
use Rattle.tcp_flow.specs.declared.words.Act.{Act}
use Rattle.tcp_flow.specs.declared.words.Act.TheVariants.{Dropped}
use Rattle.tcp_flow.specs.declared.words.Event.{Event}
use Rattle.tcp_flow.specs.declared.words.Event.TheVariants.{Segment as SegmentEvent, Timer as TimerEvent, Write as WriteEvent, Close as CloseEvent}
use Rattle.tcp_flow.specs.declared.words.In.{In}
use Rattle.tcp_flow.specs.declared.words.In.TheVariants.{Connect, Listen, Segment, Timer, Write, Close}
use Rattle.tcp_flow.specs.declared.conn.Conn.{Conn}
use Rattle.tcp_flow.specs.Conn.{begun}
use Rattle.tcp_flow.specs.Stray.{answering, refused}
use Rattle.tcp_flow.specs.Table.{After, under, between, least_free, with_begun, happens, has_stamp, is_opener_of}

-- The application that listens at each port; the number of the connection that each application opened last; and the
-- connections by their numbers. Each list is in the order of its ports or numbers.
pub record PlainConns : Type 0 where
  pub listening : List (ℕ × ℕ)
  pub opened : List (ℕ × ℕ)
  pub conns : List (ℕ × Conn)

-- the three lists are stored one after another
abbrev pub conns_code : Coded Conn → Coded PlainConns
conns_code conn =
    code_by (List (ℕ × ℕ) × (List (ℕ × ℕ) × List (ℕ × Conn)))
    (coded× (coded_list (coded× coded_ℕ coded_ℕ)) (coded× (coded_list (coded× coded_ℕ coded_ℕ)) (coded_list (coded× coded_ℕ conn))))
    (λ t. (t.listening, (t.opened, t.conns)))
    (λ p. record { listening = p.0; opened = p.1.0; conns = p.1.1 })
    (λ _. refl)

abbrev pub no_conns : PlainConns
no_conns = record { listening = []; opened = []; conns = [] }

abbrev pub with_conns : PlainConns → After → Numbered PlainConns (Act Packet)
with_conns t a = record { state = record t { conns = a.state }; numbers = a.numbers; acts = a.acts }

-- nothing happens to a connection
abbrev pub passed : PlainConns → Numbers → Numbered PlainConns (Act Packet)
passed t n = record { state = t; numbers = n; acts = [] }

abbrev pub dropped : PlainConns → Numbers → Numbered PlainConns (Act Packet)
dropped t n = record { state = t; numbers = n; acts = Dropped ∷ [] }

-- OPEN (3.10.1): without a route, or where there is such a connection already, nothing is opened

abbrev pub with_opener : ℕ → ℕ → PlainConns → PlainConns
with_opener app number t = record t { opened = insert_entry nat_cmp t.opened app number }

abbrev pub opens : ℕ → ℕ → SocketPair → ℕ → PlainConns → Numbers → Numbered PlainConns (Act Packet)
opens now app pair mss t n =
    let number = least_free 0 t.conns in
    with_conns (with_opener app number t) (with_begun number (begun number app pair n (opening now mss)) t.conns)

abbrev pub connects : ℕ → ℕ → SocketPair → ℕ → PlainConns → Numbers → Numbered PlainConns (Act Packet)
connects now app pair mss t n = if is_some (between pair t.conns) then dropped t n else opens now app pair mss t n

abbrev pub connects_from : ℕ → ℕ → Option ℕ → ℕ → ℕ → ℕ → ℕ → PlainConns → Numbers → Numbered PlainConns (Act Packet)
connects_from now app None sport dst port mss t n = dropped t n
connects_from now app (Some src) sport dst port mss t n =
    connects now app (record { addr = src; port = sport; other_addr = dst; other_port = port }) mss t n

-- a passive OPEN
abbrev pub listens : ℕ → ℕ → PlainConns → PlainConns
listens app port t = record t { listening = insert_entry nat_cmp t.listening port app }

-- SEGMENT ARRIVES (3.10.7)

-- a listening port takes the SYN of a new connection: no RST, no acknowledgement, position 0 (3.10.7.2)
abbrev pub is_opening : Heard → Bool
is_opening s = not s.rst && (s.syn && (not s.has_ack && s.seq == 0))

abbrev pub accepts : ℕ → ℕ → SocketPair → PlainConns → Numbers → Numbered PlainConns (Act Packet)
accepts now app pair t n =
    let number = least_free 0 t.conns in
    with_conns t (with_begun number (begun number app pair n (heard_syn now)) t.conns)

abbrev pub refuses : ℕ → ℕ → Arrived → PlainConns → Numbers → Numbered PlainConns (Act Packet)
refuses src dst a t n = let m = refused src dst a n in record { state = t; numbers = m.numbers; acts = m.acts }

-- a segment to no connection, at a port where an application listens or none does (3.10.7.1, 3.10.7.2)
abbrev pub comes_new : ℕ → ℕ → ℕ → Arrived → Option ℕ → PlainConns → Numbers → Numbered PlainConns (Act Packet)
comes_new now src dst a None t n = refuses src dst a t n
comes_new now src dst a (Some app) t n =
    if is_opening a.says then accepts now app (answering src dst a) t n else refuses src dst a t n

abbrev pub comes_to : ℕ → ℕ → ℕ → Arrived → Option ℕ → PlainConns → Numbers → Numbered PlainConns (Act Packet)
comes_to now src dst a None t n = comes_new now src dst a (under a.dport t.listening) t n
comes_to now src dst a (Some number) t n = with_conns t (happens number now (SegmentEvent a) n t.conns)

-- a packet that is no segment is dropped
abbrev pub comes : ℕ → ℕ → ℕ → Option Arrived → PlainConns → Numbers → Numbered PlainConns (Act Packet)
comes now src dst None t n = dropped t n
comes now src dst (Some a) t n = comes_to now src dst a (between (answering src dst a) t.conns) t n

-- TIMEOUTS (3.10.8): a timer counts where its stamp is that of its connection

abbrev pub fires : ℕ → ℕ → ℕ → PlainConns → Numbers → Numbered PlainConns (Act Packet)
fires now number stamp t n =
    if has_stamp stamp (under number t.conns) then with_conns t (happens number now TimerEvent n t.conns)
    else passed t n

-- SEND and CLOSE (3.10.2, 3.10.4) concern the connection that the application opened last, while there is one

abbrev pub asks_of : ℕ → ℕ → Event → Option ℕ → PlainConns → Numbers → Numbered PlainConns (Act Packet)
asks_of now app event None t n = passed t n
asks_of now app event (Some number) t n =
    if is_opener_of app (under number t.conns) then with_conns t (happens number now event n t.conns)
    else passed t n

abbrev pub asks : ℕ → ℕ → Event → PlainConns → Numbers → Numbered PlainConns (Act Packet)
asks now app event t n = asks_of now app event (under app t.opened) t n

-- what the connections of a node make of an input
abbrev pub step : PlainConns → Numbers → In Packet → Numbered PlainConns (Act Packet)
step t n (Connect now app src sport dst port mss) = connects_from now.0 app src sport dst port mss t n
step t n (Listen app port) = passed (listens app port t) n
step t n (Segment now s) = comes now.0 s.src s.dst (arrived s.src s.dst s.packet) t n
step t n (Timer now conn stamp) = fires now.0 conn stamp t n
step t n (Write now app bytes) = asks now.0 app (WriteEvent bytes) t n
step t n (Close now app) = asks now.0 app CloseEvent t n
