-- The life of one connection of a node, from the input that makes it to its removal, in a run of the node's connections over
-- any inputs: which segments come to it, what its application writes, what it sends, and what it tells its application.
use Rattle.std.specs.Prelude.{ℕ, ◌≡◌, ◌==◌, ◌^◌, ◌<◌, ◌≤◌, Bool, true, false, if◌then◌else◌, List, [], ◌∷◌, ◌++◌, take, Option, None, Some, is_some}
use Rattle.std.specs.List.{All, Contains}
use Rattle.sim_base.specs.declared.numbers.Numbers.{Numbers}
use Rattle.sim_base.specs.Packet.{Packet}
use Rattle.tcp_stream.specs.History.{Told}
use Rattle.tcp_stream.specs.History.Told.{Deliver as Delivered, End as Ended}
use Rattle.tcp_conn.specs.declared.words.Heard.{Heard}
use Rattle.tcp_conn.specs.Send.{room}
use Rattle.tcp_wire.specs.declared.words.Arrived.{Arrived}
use Rattle.tcp_wire.specs.Segment.{arrived}
use Rattle.tcp_flow.specs.declared.words.Seg.{Seg}
use Rattle.tcp_flow.specs.declared.words.Act.{Act}
use Rattle.tcp_flow.specs.declared.words.Act.TheVariants.{Emit, Deliver, End}
use Rattle.tcp_flow.specs.declared.words.In.{In}
use Rattle.tcp_flow.specs.declared.words.In.TheVariants.{Connect, Listen, Segment, Timer, Write, Close}
use Rattle.tcp_flow.specs.declared.conn.Conn.{Conn}
use Rattle.tcp_flow.specs.Conns.{PlainConns, is_opening, step}
use Rattle.tcp_flow.specs.Index.{InOrder}
use Rattle.tcp_flow.specs.Stray.{answering}
use Rattle.tcp_flow.specs.Table.{between, has_stamp, is_opener_of, least_free, under}

-- ---- which connection an input concerns, by its number; one that it makes has the least free number

-- a port makes a connection where an application listens and the segment opens one
abbrev pub made_at : Option ℕ → Heard → PlainConns → Option ℕ
made_at None says t = None
made_at (Some app) says t = if is_opening says then Some (least_free 0 t.conns) else None

abbrev pub found_or_made : Option ℕ → Arrived → PlainConns → Option ℕ
found_or_made (Some number) a t = Some number
found_or_made None a t = made_at (under a.dport t.listening) a.says t

abbrev pub come_to : Seg Packet → Option Arrived → PlainConns → Option ℕ
come_to s None t = None
come_to s (Some a) t = found_or_made (between (answering s.src s.dst a) t.conns) a t

-- an application asks the connection that it opened last, while there is one
abbrev pub asked_by : ℕ → Option ℕ → PlainConns → Option ℕ
asked_by app None t = None
asked_by app (Some number) t = if is_opener_of app (under number t.conns) then Some number else None

abbrev pub concerned : PlainConns → In Packet → Option ℕ
concerned t (Connect now app None sport dst port mss) = None
concerned t (Connect now app (Some src) sport dst port mss) =
    if is_some (between (record { addr = src; port = sport; other_addr = dst; other_port = port }) t.conns) then None
    else Some (least_free 0 t.conns)
concerned t (Listen app port) = None
concerned t (Segment now s) = come_to s (arrived s.src s.dst s.packet) t
concerned t (Timer now number stamp) = if has_stamp stamp (under number t.conns) then Some number else None
concerned t (Write now app bytes) = asked_by app (under app t.opened) t
concerned t (Close now app) = asked_by app (under app t.opened) t

abbrev pub is_number : ℕ → Option ℕ → Bool
is_number number None = false
is_number number (Some other) = other == number

-- ---- what becomes of it

pub record Life : Type 0 where
  pub came : List (Seg Packet)  -- each segment that came to it, the latest first
  pub written : List ℕ  -- what its application's writes have taken
  pub closed : Bool  -- whether its application has closed it
  pub sent : List (Seg Packet)  -- each segment that it ever sent, the latest first
  pub told : List Told  -- what it has told its application

abbrev pub no_life : Life
no_life = record { came = []; written = []; closed = false; sent = []; told = [] }

-- what a write takes: the bytes that there is room for
abbrev pub taken_by : Option Conn → List ℕ → List ℕ
taken_by None bytes = []
taken_by (Some k) bytes = take (room k.connection) bytes

-- with what an input brings
abbrev pub with_input : Option Conn → In Packet → Life → Life
with_input o (Segment now s) l = record l { came = s ∷ l.came }
with_input o (Write now app bytes) l = record l { written = l.written ++ taken_by o bytes }
with_input o (Close now app) l = record l { closed = true }
with_input o other l = l

-- the segments that acts hand to IPv4, the latest first
abbrev pub with_emitted : List (Act Packet) → List (Seg Packet) → List (Seg Packet)
with_emitted [] sent = sent
with_emitted (Emit s ∷ acts) sent = with_emitted acts (s ∷ sent)
with_emitted (other ∷ acts) sent = with_emitted acts sent

-- what acts tell an application
abbrev pub told_in : List (Act Packet) → List Told
told_in [] = []
told_in (Deliver app src sport packet ∷ acts) = Delivered packet.bytes ∷ told_in acts
told_in (End app ∷ acts) = Ended ∷ told_in acts
told_in (other ∷ acts) = told_in acts

abbrev pub with_acts : List (Act Packet) → Life → Life
with_acts acts l = record l { sent = with_emitted acts l.sent; told = l.told ++ told_in acts }

-- a life after an input, where it concerns the connection with this number
abbrev pub lived : ℕ → PlainConns → Numbers → In Packet → Life → Life
lived number t n input l =
    if is_number number (concerned t input)
    then with_acts (step t n input).acts (with_input (under number t.conns) input l)
    else l

-- and after many, until the connection is removed
abbrev pub life : ℕ → PlainConns → Numbers → List (In Packet) → Life → Life
life number t n [] l = l
life number t n (input ∷ inputs) l =
    if is_some (under number t.conns)
    then life number (step t n input).state (step t n input).numbers inputs (lived number t n input l)
    else l

-- ---- a whole life

-- the connections of a node, and an input that makes one
pub record Birth : Type 0 where
  pub conns : PlainConns
  pub numbers : Numbers
  pub input : In Packet

pub record IsBirth (b : Birth) : Type 0 where
  pub in_order : InOrder b.conns.conns
  pub makes : concerned b.conns b.input ≡ Some (least_free 0 b.conns.conns)

-- the life of that one, over the inputs that follow
abbrev pub life_of : Birth → List (In Packet) → Life
life_of b inputs =
    let number = least_free 0 b.conns.conns in
    let s = step b.conns b.numbers b.input in
    life number s.state s.numbers inputs (lived number b.conns b.numbers b.input no_life)

-- ---- two lives at the ends of one connection

-- an application opens a connection, with ports and a segment size within their limits
abbrev pub Opens : In Packet → Type 0
Opens (Connect now app src sport dst port mss) = (sport < 2 ^ 16) × (port < 2 ^ 16) × (0 < mss) × (mss ≤ 9000)
Opens other = ⊥

abbrev pub IsSegment : In Packet → Type 0
IsSegment (Segment now s) = Unit {0}
IsSegment other = ⊥

-- applications write bytes
abbrev pub WritesBytes : In Packet → Type 0
WritesBytes (Write now app bytes) = All (λ b. b < 256) bytes
WritesBytes other = Unit {0}

-- One connection between two nodes: an application opens it at one, a segment makes it at the other, and all that comes to it
-- there is what it has sent from here, lost, repeated and in any order as may be. Whatever else comes to the two nodes, for
-- this connection at the opener and for all others at both, is free.
pub record IsTransfer (opener sink : Birth) (there here : List (In Packet)) : Type 0 where
  pub opener_born : IsBirth opener
  pub opens : Opens opener.input
  pub sink_born : IsBirth sink
  pub segment : IsSegment sink.input
  pub bytes : All WritesBytes there
  pub unaltered : All (Contains (life_of opener there).sent) (life_of sink here).came
