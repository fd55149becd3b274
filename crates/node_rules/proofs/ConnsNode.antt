-- A step of a node's connections leaves the number of the node.
use Rattle.std.proofs.Common.{◌≡◌, ℕ, Bool, true, false, cond, List, [], ◌∷◌, length, Option, None, Some, is_some, refl, ◌∙◌}
use Rattle.std.proofs.lemmas.Bool.{cond_both}
use Rattle.sim_base.specs.declared.numbers.Numbers.{Numbers}
use Rattle.sim_base.specs.Packet.{Packet}
use Rattle.layer_words.specs.Acts.{Made, Numbered}
use Rattle.layer_words.specs.Counting.{new_uid, with_packet}
use Rattle.tcp_conn.specs.declared.words.Effect.{Effect}
use Rattle.tcp_conn.specs.declared.words.Effect.TheVariants.{Emit, TimerAt, Connected, Room, Deliver, End, Reset, Dropped}
use Rattle.tcp_conn.specs.Begin.{heard_syn, opening}
use Rattle.tcp_wire.specs.declared.words.SocketPair.{SocketPair}
use Rattle.tcp_wire.specs.declared.words.Arrived.{Arrived}
use Rattle.tcp_wire.specs.Segment.{arrived, segment}
use Rattle.tcp_flow.specs.declared.words.Act.{Act}
use Rattle.tcp_flow.specs.declared.words.Act.TheVariants.{Emit as EmitAct}
use Rattle.tcp_flow.specs.declared.words.Event.{Event}
use Rattle.tcp_flow.specs.declared.words.Event.TheVariants.{Segment as SegmentEvent, Timer as TimerEvent, Write as WriteEvent, Close as CloseEvent}
use Rattle.tcp_flow.specs.declared.words.In.{In}
use Rattle.tcp_flow.specs.declared.words.In.TheVariants.{Connect, Listen, Segment, Timer, Write, Close}
use Rattle.tcp_flow.specs.declared.conn.Conn.{Conn}
use Rattle.tcp_flow.specs.Conn.{all_done, done, event_of, fresh}
use Rattle.tcp_flow.specs.Conns.{PlainConns, accepts, asks_of, comes, comes_new, comes_to, connects_from, dropped, fires, is_opening, opens, passed, refuses, step, with_conns}
use Rattle.tcp_flow.specs.Stray.{answering, refusal}
use Rattle.tcp_flow.specs.Table.{between, happens, happens_to, has_stamp, is_opener_of, least_free, under}

-- the node of what an input leaves
abbrev Stays : Numbers → Numbered PlainConns (Act Packet) → Type 0
Stays n a = a.numbers.node ≡ n.node

done-node : (k : Conn) (n : Numbers) (e : Effect) → (done k n e).numbers.node ≡ n.node
done-node k n (Emit o) = refl
done-node k n (TimerAt at) = refl
done-node k n Connected = refl
done-node k n (Room free) = refl
done-node k n (Deliver bytes) = refl
done-node k n End = refl
done-node k n Reset = refl
done-node k n Dropped = refl

all-node : (k : Conn) (n : Numbers) (es : List Effect) → (all_done k n es).numbers.node ≡ n.node
all-node k n [] = refl
all-node k n (e ∷ es) =
    let first = done k n e in
    all-node first.conn first.numbers es ∙ done-node k n e

happens-node : (number now : ℕ) (event : Event) (o : Option Conn) (n : Numbers) (conns : List (ℕ × Conn)) →
    (happens_to o number now event n conns).numbers.node ≡ n.node
happens-node number now event None n conns = refl
happens-node number now event (Some k) n conns =
    let s = event_of now event k.connection in
    all-node (record k { connection = s.now }) n s.effects

stays-if : (n : Numbers) (b : Bool) (x y : Numbered PlainConns (Act Packet)) → Stays n x → Stays n y → Stays n (cond b x y)
stays-if n true x y first second = first
stays-if n false x y first second = second

event-node : (number now : ℕ) (event : Event) (t : PlainConns) (n : Numbers) → Stays n (with_conns t (happens number now event n t.conns))
event-node number now event t n = happens-node number now event (under number t.conns) n t.conns

connects-node : (now app : ℕ) (src : Option ℕ) (sport dst port mss : ℕ) (t : PlainConns) (n : Numbers) → Stays n (connects_from now app src sport dst port mss t n)
connects-node now app None sport dst port mss t n = refl
connects-node now app (Some src) sport dst port mss t n =
    let pair : SocketPair = record { addr = src; port = sport; other_addr = dst; other_port = port } in
    let s = opening now mss in
    stays-if n (is_some (between pair t.conns)) (dropped t n) (opens now app pair mss t n) refl
    (all-node (fresh (least_free 0 t.conns) app pair s.now) n s.effects)

abbrev refused-with : ℕ → ℕ → Arrived → Numbers → Made (Act Packet)
refused-with src dst a n = record { numbers = with_packet n; acts = EmitAct (record { src = dst; dst = src; packet = segment (new_uid n) 0 (answering src dst a) (refusal a.says (length a.bytes)) [] }) ∷ [] }

refuses-node : (src dst : ℕ) (a : Arrived) (t : PlainConns) (n : Numbers) → Stays n (refuses src dst a t n)
refuses-node src dst a t n =
    cond_both {A = Made (Act Packet)} a.says.rst (record { numbers = n; acts = [] }) (refused-with src dst a n) (λ m. m.numbers.node ≡ n.node) (λ reset. refl) (λ other. refl)

new-node : (now src dst : ℕ) (a : Arrived) (o : Option ℕ) (t : PlainConns) (n : Numbers) → Stays n (comes_new now src dst a o t n)
new-node now src dst a None t n = refuses-node src dst a t n
new-node now src dst a (Some app) t n =
    let s = heard_syn now in
    stays-if n (is_opening a.says) (accepts now app (answering src dst a) t n) (refuses src dst a t n)
    (all-node (fresh (least_free 0 t.conns) app (answering src dst a) s.now) n s.effects) (refuses-node src dst a t n)

to-node : (now src dst : ℕ) (a : Arrived) (o : Option ℕ) (t : PlainConns) (n : Numbers) → Stays n (comes_to now src dst a o t n)
to-node now src dst a None t n = new-node now src dst a (under a.dport t.listening) t n
to-node now src dst a (Some number) t n = event-node number now (SegmentEvent a) t n

comes-node : (now src dst : ℕ) (o : Option Arrived) (t : PlainConns) (n : Numbers) → Stays n (comes now src dst o t n)
comes-node now src dst None t n = refl
comes-node now src dst (Some a) t n = to-node now src dst a (between (answering src dst a) t.conns) t n

asks-node : (now app : ℕ) (event : Event) (o : Option ℕ) (t : PlainConns) (n : Numbers) → Stays n (asks_of now app event o t n)
asks-node now app event None t n = refl
asks-node now app event (Some number) t n =
    stays-if n (is_opener_of app (under number t.conns)) (with_conns t (happens number now event n t.conns)) (passed t n) (event-node number now event t n) refl

fires-node : (now number stamp : ℕ) (t : PlainConns) (n : Numbers) → Stays n (fires now number stamp t n)
fires-node now number stamp t n =
    stays-if n (has_stamp stamp (under number t.conns)) (with_conns t (happens number now TimerEvent n t.conns)) (passed t n) (event-node number now TimerEvent t n) refl

pub conns-node : (t : PlainConns) (n : Numbers) (input : In Packet) → (step t n input).numbers.node ≡ n.node
conns-node t n (Connect now app src sport dst port mss) = connects-node now.0 app src sport dst port mss t n
conns-node t n (Listen app port) = refl
conns-node t n (Segment now s) = comes-node now.0 s.src s.dst (arrived s.src s.dst s.packet) t n
conns-node t n (Timer now conn stamp) = fires-node now.0 conn stamp t n
conns-node t n (Write now app bytes) = asks-node now.0 app (WriteEvent bytes) (under app t.opened) t n
conns-node t n (Close now app) = asks-node now.0 app CloseEvent (under app t.opened) t n
