-- The acts of one connection are its own, and a refusal is nobody's.
use Rattle.std.proofs.Common.{ℕ, Bool, true, false, cond, List, [], ◌∷◌, length, refl, ◌≡◌, ◌+◌, ◌%◌, ◌^◌}
use Rattle.std.specs.List.{All}
use Rattle.std.proofs.lemmas.List.Elements.{All-cons, All-nil}
use Rattle.sim_base.specs.declared.numbers.Numbers.{Numbers}
use Rattle.sim_base.specs.Packet.{Packet, from_bytes}
use Rattle.layer_words.specs.Acts.{Made}
use Rattle.layer_words.specs.Counting.{new_uid, with_packet}
use Rattle.tcp_conn.specs.declared.words.Heard.{Heard}
use Rattle.tcp_conn.specs.declared.words.Effect.{Effect}
use Rattle.tcp_conn.specs.declared.words.Effect.TheVariants.{Emit, TimerAt, Connected, Room, Deliver, End, Reset, Dropped}
use Rattle.tcp_conn.specs.OnItsWay.{said, bytes_of}
use Rattle.tcp_conn.specs.Send.{one}
use Rattle.tcp_wire.specs.declared.words.Arrived.{Arrived}
use Rattle.tcp_wire.specs.Segment.{segment}
use Rattle.tcp_flow.specs.declared.words.Act.{Act}
use Rattle.tcp_flow.specs.declared.words.Act.TheVariants.{Emit as EmitAct, TimerAt as TimerAct, Connected as ConnectedAct, Room as RoomAct, Deliver as DeliverAct, End as EndAct, Reset as ResetAct, Dropped as DroppedAct}
use Rattle.tcp_flow.specs.declared.conn.Conn.{Conn}
use Rattle.tcp_flow.specs.Conn.{done, all_done}
use Rattle.tcp_flow.specs.Stray.{answering, refusal, refused, reset_at}
use Rattle.delivered_prefix.specs.OneConnection.{IsActOf, IsNobodys}

-- ---- a connection's

then-own : (k : Conn) (act : Act Packet) (acts : List (Act Packet)) → IsActOf k act → All (IsActOf k) acts → All (IsActOf k) (act ∷ acts)
then-own k act acts h more = All-cons (IsActOf k) act acts h more

pub all_done-own : (k : Conn) (n : Numbers) (es : List Effect) → All (IsActOf k) (all_done k n es).acts
all_done-own k n [] = All-nil (IsActOf k)
all_done-own k n (Emit o ∷ es) =
    then-own k (EmitAct (record { src = k.pair.addr; dst = k.pair.other_addr; packet = segment (new_uid n) k.app k.pair (said o) (bytes_of k.connection o) }))
    (all_done k (with_packet n) es).acts (new_uid n, said o, bytes_of k.connection o, refl) (all_done-own k (with_packet n) es)
all_done-own k n (TimerAt at ∷ es) =
    let d = done k n (TimerAt at) in
    then-own k (TimerAct at k.number n.stamps) (all_done d.conn d.numbers es).acts refl (all_done-own d.conn d.numbers es)
all_done-own k n (Connected ∷ es) = then-own k (ConnectedAct k.app) (all_done k n es).acts refl (all_done-own k n es)
all_done-own k n (Room free ∷ es) = then-own k (RoomAct k.app free) (all_done k n es).acts refl (all_done-own k n es)
all_done-own k n (Deliver bytes ∷ es) =
    then-own k (DeliverAct k.app k.pair.other_addr k.pair.other_port (from_bytes (new_uid n) bytes)) (all_done k (with_packet n) es).acts
    (refl, refl, refl) (all_done-own k (with_packet n) es)
all_done-own k n (End ∷ es) = then-own k (EndAct k.app) (all_done k n es).acts refl (all_done-own k n es)
all_done-own k n (Reset ∷ es) = then-own k (ResetAct k.app) (all_done k n es).acts refl (all_done-own k n es)
all_done-own k n (Dropped ∷ es) = then-own k DroppedAct (all_done k n es).acts tt (all_done-own k n es)

-- ---- nobody's

pub dropped-nobodys : All IsNobodys (DroppedAct ∷ [])
dropped-nobodys = All-cons IsNobodys DroppedAct [] tt (All-nil IsNobodys)

either-nobodys : (b : Bool) (x y : Made (Act Packet)) → All IsNobodys x.acts → All IsNobodys y.acts → All IsNobodys (cond b x y).acts
either-nobodys true x y h g = h
either-nobodys false x y h g = g

either-resets : (b : Bool) (x y : Heard) → x.rst ≡ true → y.rst ≡ true → (cond b x y).rst ≡ true
either-resets true x y h g = h
either-resets false x y h g = g

refusal-resets : (s : Heard) (bytes : ℕ) → (refusal s bytes).rst ≡ true
refusal-resets s bytes =
    either-resets s.has_ack (reset_at s.ack 0 false) (reset_at 0 ((s.seq + bytes + one s.syn + one s.fin) % 2 ^ 32) true) refl refl

pub refused-nobodys : (src dst : ℕ) (a : Arrived) (n : Numbers) → All IsNobodys (refused src dst a n).acts
refused-nobodys src dst a n =
    let says = refusal a.says (length a.bytes) in
    let act = EmitAct (record { src = dst; dst = src; packet = segment (new_uid n) 0 (answering src dst a) says [] }) in
    either-nobodys a.says.rst (record { numbers = n; acts = [] }) (record { numbers = with_packet n; acts = act ∷ [] }) (All-nil IsNobodys)
    (All-cons IsNobodys act [] (new_uid n, answering src dst a, says, refusal-resets a.says (length a.bytes), refl) (All-nil IsNobodys))
