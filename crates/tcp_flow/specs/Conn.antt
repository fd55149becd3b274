-- One connection of a node: what its steps become as packets, numbers and stamps.
use Rattle.std.specs.Prelude.{ℕ, List, [], ◌∷◌, ◌++◌}
use Rattle.sim_base.specs.declared.numbers.Numbers.{Numbers}
use Rattle.sim_base.specs.Packet.{Packet, from_bytes}
use Rattle.layer_words.specs.Counting.{count_up, new_uid, with_packet}
use Rattle.tcp_conn.specs.declared.connection.Connection.{Connection}
use Rattle.tcp_conn.specs.declared.words.Effect.{Effect}
use Rattle.tcp_conn.specs.declared.words.Effect.TheVariants.{Emit, TimerAt, Connected, Room, Deliver, End, Reset, Dropped}
use Rattle.tcp_conn.specs.Begin.{writes, closes}
use Rattle.tcp_conn.specs.OnItsWay.{said, bytes_of}
use Rattle.tcp_conn.specs.Send.{Stepped}
use Rattle.tcp_conn.specs.Step.{hears, times_out}
use Rattle.tcp_wire.specs.declared.words.SocketPair.{SocketPair}
use Rattle.tcp_wire.specs.Segment.{segment}
use Rattle.tcp_flow.specs.declared.words.Act.{Act}
use Rattle.tcp_flow.specs.declared.words.Act.TheVariants.{Emit as EmitAct, TimerAt as TimerAct, Connected as ConnectedAct, Room as RoomAct, Deliver as DeliverAct, End as EndAct, Reset as ResetAct, Dropped as DroppedAct}
use Rattle.tcp_flow.specs.declared.words.Event.{Event}
use Rattle.tcp_flow.specs.declared.words.Event.TheVariants.{Segment, Timer, Write, Close}
use Rattle.tcp_flow.specs.declared.conn.Conn.{Conn}

-- a connection and the node's numbers after some of what it asked for was done, and the acts, in this order
pub record Done : Type 0 where
  pub conn : Conn
  pub numbers : Numbers
  pub acts : List (Act Packet)

-- a timer takes the next stamp
abbrev pub with_stamp : Numbers → Numbers
with_stamp n = record n { stamps = count_up 1 n.stamps }

abbrev pub one_act : Conn → Numbers → Act Packet → Done
one_act k n act = record { conn = k; numbers = n; acts = act ∷ [] }

-- A segment and a delivery are new packets. A delivery comes with the other side's address and port.
abbrev pub done : Conn → Numbers → Effect → Done
done k n (Emit o) =
    one_act k (with_packet n)
    (EmitAct (record { src = k.pair.addr; dst = k.pair.other_addr; packet = segment (new_uid n) k.app k.pair (said o) (bytes_of k.connection o) }))
done k n (TimerAt at) = one_act (record k { stamp = n.stamps }) (with_stamp n) (TimerAct at k.number n.stamps)
done k n Connected = one_act k n (ConnectedAct k.app)
done k n (Room free) = one_act k n (RoomAct k.app free)
done k n (Deliver bytes) =
    one_act k (with_packet n) (DeliverAct k.app k.pair.other_addr k.pair.other_port (from_bytes (new_uid n) bytes))
done k n End = one_act k n (EndAct k.app)
done k n Reset = one_act k n (ResetAct k.app)
done k n Dropped = one_act k n DroppedAct

abbrev pub all_done : Conn → Numbers → List Effect → Done
all_done k n [] = record { conn = k; numbers = n; acts = [] }
all_done k n (e ∷ es) =
    let first = done k n e in
    let rest = all_done first.conn first.numbers es in
    record { conn = rest.conn; numbers = rest.numbers; acts = first.acts ++ rest.acts }

-- a step of a connection, done
abbrev pub stepped : Conn → Numbers → Stepped → Done
stepped k n s = all_done (record k { connection = s.now }) n s.effects

-- a new connection, whose number is given, after the step that began it
abbrev pub fresh : ℕ → ℕ → SocketPair → Connection → Conn
fresh number app pair c = record { number = number; app = app; pair = pair; connection = c; stamp = 0 }

abbrev pub begun : ℕ → ℕ → SocketPair → Numbers → Stepped → Done
begun number app pair n s = all_done (fresh number app pair s.now) n s.effects

-- an event of a connection, and what is done then
abbrev pub event_of : ℕ → Event → Connection → Stepped
event_of now (Segment a) c = hears now a.says a.bytes c
event_of now Timer c = times_out now c
event_of now (Write bytes) c = writes now bytes c
event_of now Close c = closes now c

abbrev pub happened : ℕ → Event → Conn → Numbers → Done
happened now event k n = stepped k n (event_of now event k.connection)
