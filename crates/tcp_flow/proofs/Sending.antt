-- What a step of a connection asks for, done, is the step: the segments that it sends are read as it said them.
use Rattle.std.proofs.Common.{◌≡◌, ℕ, ◌-◌, ◌%◌, ◌^◌, ◌<◌, false, List, [], ◌∷◌, map, take, drop, Option, None, Some, refl, ap, ◌∙◌, arith}
use Rattle.std.specs.List.{All, AllByRecursion}
use Rattle.std.proofs.lemmas.List.{length-take}
use Rattle.std.proofs.lemmas.List.Elements.{All-drop, All-head, All-tail, All-take}
use Rattle.sim_base.specs.declared.numbers.Numbers.{Numbers}
use Rattle.sim_base.specs.declared.numbers.Uid.{Uid}
use Rattle.sim_base.specs.Packet.{Packet, from_bytes}
use Rattle.layer_words.specs.Counting.{new_uid, with_packet}
use Rattle.tcp_stream.specs.History.{Told}
use Rattle.tcp_stream.specs.History.Told.{Deliver as Delivered, End as Ended}
use Rattle.tcp_conn.specs.declared.words.Heard.{Heard}
use Rattle.tcp_conn.specs.declared.words.Outgoing.{Outgoing}
use Rattle.tcp_conn.specs.declared.words.Effect.{Effect}
use Rattle.tcp_conn.specs.declared.words.Effect.TheVariants.{Emit, TimerAt, Connected, Room, Deliver, End, Reset, Dropped}
use Rattle.tcp_conn.specs.declared.connection.Connection.{Connection}
use Rattle.tcp_conn.specs.Following.{told_by}
use Rattle.tcp_conn.specs.OnItsWay.{OnItsWay, said, bytes_of, with_sent, in_32_bits}
use Rattle.tcp_wire.specs.declared.words.SocketPair.{SocketPair}
use Rattle.tcp_wire.specs.declared.words.Arrived.{Arrived}
use Rattle.tcp_wire.specs.Sayable.{IsSayable}
use Rattle.tcp_wire.specs.Segment.{arrived, segment}
use Rattle.tcp_flow.specs.declared.words.Seg.{Seg}
use Rattle.tcp_flow.specs.declared.conn.Conn.{Conn}
use Rattle.tcp_flow.specs.Conn.{done, all_done}
use Rattle.tcp_flow.specs.Life.{with_emitted, told_in}
use Rattle.tcp_flow.specs.Small.{IsSmall}

-- a segment on its way that is read from a packet

abbrev nothing : OnItsWay
nothing = record { says = record { seq = 0; ack = 0; window = 0; mss = None; syn = false; has_ack = false; fin = false; rst = false }; bytes = [] }

abbrev pub read_as : Option Arrived → OnItsWay
read_as None = nothing
read_as (Some a) = record { says = a.says; bytes = a.bytes }

abbrev pub way_of : Seg Packet → OnItsWay
way_of s = read_as (arrived s.src s.dst s.packet)

pub record IsRead (s : Seg Packet) : Type 0 where
  pub what : Arrived
  pub is : arrived s.src s.dst s.packet ≡ Some what

-- what a step asks for, done, is the step

pub all_done-connection : (k : Conn) (n : Numbers) (es : List Effect) → (all_done k n es).conn.connection ≡ k.connection
all_done-connection k n [] = refl
all_done-connection k n (Emit o ∷ es) = all_done-connection (done k n (Emit o)).conn (done k n (Emit o)).numbers es
all_done-connection k n (TimerAt at ∷ es) = all_done-connection (done k n (TimerAt at)).conn (done k n (TimerAt at)).numbers es
all_done-connection k n (Connected ∷ es) = all_done-connection k n es
all_done-connection k n (Room free ∷ es) = all_done-connection k n es
all_done-connection k n (Deliver bytes ∷ es) = all_done-connection (done k n (Deliver bytes)).conn (done k n (Deliver bytes)).numbers es
all_done-connection k n (End ∷ es) = all_done-connection k n es
all_done-connection k n (Reset ∷ es) = all_done-connection k n es
all_done-connection k n (Dropped ∷ es) = all_done-connection k n es

pub all_done-pair : (k : Conn) (n : Numbers) (es : List Effect) → (all_done k n es).conn.pair ≡ k.pair
all_done-pair k n [] = refl
all_done-pair k n (Emit o ∷ es) = all_done-pair (done k n (Emit o)).conn (done k n (Emit o)).numbers es
all_done-pair k n (TimerAt at ∷ es) = all_done-pair (done k n (TimerAt at)).conn (done k n (TimerAt at)).numbers es
all_done-pair k n (Connected ∷ es) = all_done-pair k n es
all_done-pair k n (Room free ∷ es) = all_done-pair k n es
all_done-pair k n (Deliver bytes ∷ es) = all_done-pair (done k n (Deliver bytes)).conn (done k n (Deliver bytes)).numbers es
all_done-pair k n (End ∷ es) = all_done-pair k n es
all_done-pair k n (Reset ∷ es) = all_done-pair k n es
all_done-pair k n (Dropped ∷ es) = all_done-pair k n es

bytes-from : (uid : Uid) (bytes : List ℕ) → (from_bytes uid bytes).bytes ≡ bytes
unfolding from_bytes
bytes-from uid bytes = refl

pub told-done : (k : Conn) (n : Numbers) (es : List Effect) → told_in (all_done k n es).acts ≡ told_by es
told-done k n [] = refl
told-done k n (Emit o ∷ es) = told-done (done k n (Emit o)).conn (done k n (Emit o)).numbers es
told-done k n (TimerAt at ∷ es) = told-done (done k n (TimerAt at)).conn (done k n (TimerAt at)).numbers es
told-done k n (Connected ∷ es) = told-done k n es
told-done k n (Room free ∷ es) = told-done k n es
told-done k n (Deliver bytes ∷ es) =
    ap (λ (l : List ℕ). Delivered l ∷ told_in (all_done k (with_packet n) es).acts) (bytes-from (new_uid n) bytes)
    ∙ ap (λ (l : List Told). Delivered bytes ∷ l) (told-done k (with_packet n) es)
told-done k n (End ∷ es) = ap (λ (l : List Told). Ended ∷ l) (told-done k n es)
told-done k n (Reset ∷ es) = told-done k n es
told-done k n (Dropped ∷ es) = told-done k n es

-- what an opener says can be said

pub record Ports (pair : SocketPair) : Type 0 where
  pub port : pair.port < 2 ^ 16
  pub other_port : pair.other_port < 2 ^ 16

below-32 : (n : ℕ) → n % 2 ^ 32 < 2 ^ 32
below-32 n = omega arith

ack-below : (o : Option ℕ) → in_32_bits o < 2 ^ 32
ack-below None = omega arith
ack-below (Some n) = below-32 n

All-part : (m n : ℕ) (bytes : List ℕ) → All (λ b. b < 256) bytes → All (λ b. b < 256) (take m (drop n bytes))
All-part m n bytes h = All-take (λ b. b < 256) m (drop n bytes) (All-drop (λ b. b < 256) n bytes h)

sayable : (pair : SocketPair) (c : Connection) (o : Outgoing) → Ports pair → All (λ b. b < 256) c.buffer → IsSmall (Emit o) → IsSayable pair (said o) (bytes_of c o)
sayable pair c o p bytes small =
    record {
      port = p.port;
      other_port = p.other_port;
      seq = below-32 o.position;
      ack = ack-below o.ack;
      window = omega arith;
      mss = small.1;
      small = All-part o.bytes (o.position - c.una) c.buffer bytes;
      few = omega (arith, length-take o.bytes (drop (o.position - c.una) c.buffer), small.0);
    }

seg_of : Uid → ℕ → SocketPair → Connection → Outgoing → Seg Packet
seg_of uid app pair c o = record { src = pair.addr; dst = pair.other_addr; packet = segment uid app pair (said o) (bytes_of c o) }

-- what an opener's step sends is read as it was said

pub record Emits (k : Conn) (n : Numbers) (es : List Effect) (sent : List (Seg Packet)) : Type 0 where
  pub is : map way_of (with_emitted (all_done k n es).acts sent) ≡ with_sent k.connection es (map way_of sent)
  pub read : AllByRecursion IsRead (with_emitted (all_done k n es).acts sent)

module _ (reads : (uid : Uid) (app : ℕ) (pair : SocketPair) (says : Heard) (bytes : List ℕ) → IsSayable pair says bytes →
    arrived pair.addr pair.other_addr (segment uid app pair says bytes) ≡ Some (record { sport = pair.port; dport = pair.other_port; says = says; bytes = bytes })) where
  pub emits : (k : Conn) (n : Numbers) (es : List Effect) (sent : List (Seg Packet)) → Ports k.pair → All (λ b. b < 256) k.connection.buffer → All IsSmall es →
      AllByRecursion IsRead sent → Emits k n es sent
  emits k n [] sent p bytes small read = record { is = refl; read = read }
  emits k n (Emit o ∷ es) sent p bytes small read =
      let s : Seg Packet = record { src = k.pair.addr; dst = k.pair.other_addr; packet = segment (new_uid n) k.app k.pair (said o) (bytes_of k.connection o) } in
      let found = reads (new_uid n) k.app k.pair (said o) (bytes_of k.connection o) (sayable k.pair k.connection o p bytes (All-head IsSmall (Emit o) es small)) in
      let one : IsRead s = record { what = record { sport = k.pair.port; dport = k.pair.other_port; says = said o; bytes = bytes_of k.connection o }; is = found } in
      let rest = emits k (with_packet n) es (s ∷ sent) p bytes (All-tail IsSmall (Emit o) es small) (one, read) in
      record {
        is = rest.is ∙ ap (λ (w : OnItsWay). with_sent k.connection es (w ∷ map way_of sent)) (ap read_as found);
        read = rest.read;
      }
  emits k n (TimerAt at ∷ es) sent p bytes small read =
      let rest = emits (done k n (TimerAt at)).conn (done k n (TimerAt at)).numbers es sent p bytes (All-tail IsSmall (TimerAt at) es small) read in
      record { is = rest.is; read = rest.read }
  emits k n (Connected ∷ es) sent p bytes small read =
      let rest = emits k n es sent p bytes (All-tail IsSmall Connected es small) read in record { is = rest.is; read = rest.read }
  emits k n (Room free ∷ es) sent p bytes small read =
      let rest = emits k n es sent p bytes (All-tail IsSmall (Room free) es small) read in record { is = rest.is; read = rest.read }
  emits k n (Deliver bs ∷ es) sent p bytes small read =
      let rest = emits k (with_packet n) es sent p bytes (All-tail IsSmall (Deliver bs) es small) read in record { is = rest.is; read = rest.read }
  emits k n (End ∷ es) sent p bytes small read =
      let rest = emits k n es sent p bytes (All-tail IsSmall End es small) read in record { is = rest.is; read = rest.read }
  emits k n (Reset ∷ es) sent p bytes small read =
      let rest = emits k n es sent p bytes (All-tail IsSmall Reset es small) read in record { is = rest.is; read = rest.read }
  emits k n (Dropped ∷ es) sent p bytes small read =
      let rest = emits k n es sent p bytes (All-tail IsSmall Dropped es small) read in record { is = rest.is; read = rest.read }
