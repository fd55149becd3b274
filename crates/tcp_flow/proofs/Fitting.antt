-- What connections hand to IPv4 fits datagrams.
use Rattle.std.proofs.Common.{◌≡◌, ℕ, ◌+◌, ◌≤◌, List, [], ◌∷◌, ◌++◌, length, drop, map, refl, sym, ap, ◌∙◌, subst, arith}
use Rattle.std.specs.List.{All}
use Rattle.std.proofs.lemmas.List.{length-take, map-append}
use Rattle.std.proofs.lemmas.List.Elements.{All-nil, All-cons, All-head, All-tail, All-append}
use Rattle.sim_base.specs.declared.numbers.Numbers.{Numbers}
use Rattle.sim_base.specs.declared.numbers.Uid.{Uid}
use Rattle.sim_base.specs.Packet.{Packet, len, from_bytes}
use Rattle.layer_words.specs.Acts.{Appends}
use Rattle.layer_words.specs.Counting.{new_uid}
use Rattle.tcp_conn.specs.declared.connection.Connection.{Connection}
use Rattle.tcp_conn.specs.declared.words.Effect.{Effect}
use Rattle.tcp_conn.specs.declared.words.Effect.TheVariants.{Emit, TimerAt, Connected, Room, Deliver, End, Reset, Dropped}
use Rattle.tcp_conn.specs.declared.words.Heard.{Heard}
use Rattle.tcp_conn.specs.declared.words.Outgoing.{Outgoing}
use Rattle.tcp_conn.specs.OnItsWay.{said, bytes_of}
use Rattle.tcp_wire.specs.declared.words.SocketPair.{SocketPair}
use Rattle.tcp_wire.specs.Segment.{segment}
use Rattle.tcp_wire.proofs.ReadBack.{len-segment-le}
use Rattle.tcp_flow.specs.declared.conn.Conn.{Conn}
use Rattle.tcp_flow.specs.declared.words.Act.{Act}
use Rattle.tcp_flow.specs.declared.words.Act.TheVariants.{Emit as EmitAct, TimerAt as TimerAct, Connected as ConnectedAct, Room as RoomAct, Deliver as DeliverAct, End as EndAct, Reset as ResetAct, Dropped as DroppedAct}
use Rattle.tcp_flow.specs.Conn.{done, all_done}
use Rattle.tcp_flow.specs.Small.{AddsFitting, FitsDatagram, IsSmall}

pub segment-fits : (uid : Uid) (app : ℕ) (pair : SocketPair) (s : Heard) (bytes : List ℕ) → length bytes ≤ 9000 → len (segment uid app pair s bytes) ≤ 65515
segment-fits uid app pair s bytes few = omega (arith, len-segment-le uid app pair s bytes, few)

pub length-bytes_of : (c : Connection) (o : Outgoing) → length (bytes_of c o) ≤ o.bytes
length-bytes_of c o = omega (arith, length-take {A = ℕ})

one-act : (a : Act Packet) → FitsDatagram a → All FitsDatagram (a ∷ [])
one-act a fits = All-cons FitsDatagram a [] fits (All-nil FitsDatagram)

act-fits : (k : Conn) (n : Numbers) (e : Effect) → IsSmall e → All FitsDatagram (done k n e).acts
act-fits k n (Emit o) small =
    let few : length (bytes_of k.connection o) ≤ 9000 = omega (arith, length-bytes_of k.connection o, small.0) in
    one-act (EmitAct (record { src = k.pair.addr; dst = k.pair.other_addr; packet = segment (new_uid n) k.app k.pair (said o) (bytes_of k.connection o) }))
    (segment-fits (new_uid n) k.app k.pair (said o) (bytes_of k.connection o) few)
act-fits k n (TimerAt at) small = one-act (TimerAct at k.number n.stamps) tt
act-fits k n Connected small = one-act (ConnectedAct k.app) tt
act-fits k n (Room free) small = one-act (RoomAct k.app free) tt
act-fits k n (Deliver bytes) small = one-act (DeliverAct k.app k.pair.other_addr k.pair.other_port (from_bytes (new_uid n) bytes)) tt
act-fits k n End small = one-act (EndAct k.app) tt
act-fits k n Reset small = one-act (ResetAct k.app) tt
act-fits k n Dropped small = one-act DroppedAct tt

-- what effects ask for, done
pub acts-fit : (k : Conn) (n : Numbers) (es : List Effect) → All IsSmall es → All FitsDatagram (all_done k n es).acts
acts-fit k n [] small = All-nil FitsDatagram
acts-fit k n (e ∷ es) small =
    let first = done k n e in
    let rest = all_done first.conn first.numbers es in
    All-append FitsDatagram first.acts rest.acts (act-fits k n e (All-head IsSmall e es small)) (acts-fit first.conn first.numbers es (All-tail IsSmall e es small))

-- acts that fit are put behind others
pub adds : {A : Type 0} (see : A → Act Packet) (old new : List A) (acts : List (Act Packet)) → Appends see old new acts → All FitsDatagram acts → AddsFitting see old new
adds see old new acts put fit before = subst (All FitsDatagram) (sym put) (All-append FitsDatagram (map see old) acts before fit)

pub adds-one : {A : Type 0} (see : A → Act Packet) (old new : List A) (a : A) → new ≡ old ++ a ∷ [] → FitsDatagram (see a) → AddsFitting see old new
adds-one see old new a put fits = adds see old new (see a ∷ []) (ap (map see) put ∙ map-append see old (a ∷ [])) (one-act (see a) fits)
