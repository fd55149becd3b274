-- Every timer that the connections of a node ask for fires later than now.
use Rattle.std.proofs.Common.{◌≡◌, ℕ, Bool, true, false, cond, List, [], ◌∷◌, length, Option, None, Some, is_some, refl, sym, subst}
use Rattle.std.specs.BTreeMap.{insert_entry, is_at}
use Rattle.std.specs.List.{All}
use Rattle.std.specs.Map.{remove_entry, set_value}
use Rattle.std.specs.Ordering.{nat_cmp}
use Rattle.std.proofs.lemmas.Bool.{cond_both}
use Rattle.std.proofs.lemmas.List.Elements.{All-nil, All-cons, All-head, All-tail, All-append}
use Rattle.std.proofs.lemmas.Map.Views.{All-map-remove_entry, All-values-set_value, All-values-insert_entry, IfSome-lookup_from_All}
use Rattle.std.proofs.lemmas.Option.{MatchOption-at_some}
use Rattle.sim_base.specs.declared.numbers.Numbers.{Numbers}
use Rattle.sim_base.specs.Packet.{Packet, from_bytes}
use Rattle.layer_words.specs.Acts.{Made, Numbered}
use Rattle.layer_words.specs.Counting.{new_uid, with_packet}
use Rattle.tcp_conn.specs.declared.words.Effect.{Effect}
use Rattle.tcp_conn.specs.declared.words.Effect.TheVariants.{Emit, TimerAt, Connected, Room, Deliver, End, Reset, Dropped}
use Rattle.tcp_conn.specs.OnItsWay.{said, bytes_of}
use Rattle.tcp_conn.specs.Send.{Stepped}
use Rattle.tcp_conn.specs.Begin.{opening, heard_syn}
use Rattle.tcp_wire.specs.declared.words.SocketPair.{SocketPair}
use Rattle.tcp_wire.specs.declared.words.Arrived.{Arrived}
use Rattle.tcp_wire.specs.Segment.{arrived, segment}
use Rattle.tcp_flow.specs.declared.words.Seg.{Seg}
use Rattle.tcp_flow.specs.declared.words.Act.{Act}
use Rattle.tcp_flow.specs.declared.words.Act.TheVariants.{Emit as EmitAct, TimerAt as TimerAct, Connected as ConnectedAct, Room as RoomAct, Deliver as DeliverAct, End as EndAct, Reset as ResetAct, Dropped as DroppedAct}
use Rattle.tcp_flow.specs.declared.words.Event.{Event}
use Rattle.tcp_flow.specs.declared.words.Event.TheVariants.{Segment as SegmentEvent, Timer as TimerEvent, Write as WriteEvent, Close as CloseEvent}
use Rattle.tcp_flow.specs.declared.words.In.{In}
use Rattle.tcp_flow.specs.declared.words.In.TheVariants.{Connect, Listen, Segment, Timer, Write, Close}
use Rattle.tcp_flow.specs.declared.conn.Conn.{Conn}
use Rattle.tcp_flow.specs.Conn.{done, all_done, begun, fresh, happened, event_of}
use Rattle.tcp_flow.specs.Conns.{PlainConns, with_conns, passed, dropped, opens, connects_from, is_opening, accepts, refuses, comes_new, comes_to, comes, fires, asks_of, asks, step}
use Rattle.tcp_flow.specs.Later.{IsLater, time_of}
use Rattle.tcp_flow.specs.Stray.{answering, refusal}
use Rattle.tcp_flow.specs.Table.{AllWait, After, between, least_free, has_stamp, is_closed, is_opener_of, happens, happens_to, under}
use Rattle.tcp_flow.proofs.Sending.{all_done-connection}
use Rattle.tcp_flow.proofs.Timers.{Waits, Later, LaterStep, event-later, opening-later, heard_syn-later}

abbrev refusal-of : ℕ → ℕ → Arrived → Numbers → Seg Packet
refusal-of src dst a n = record { src = dst; dst = src; packet = segment (new_uid n) 0 (answering src dst a) (refusal a.says (length a.bytes)) [] }

abbrev refused-with : ℕ → ℕ → Arrived → Numbers → Made (Act Packet)
refused-with src dst a n = record { numbers = with_packet n; acts = EmitAct (record { src = dst; dst = src; packet = segment (new_uid n) 0 (answering src dst a) (refusal a.says (length a.bytes)) [] }) ∷ [] }

-- a connection that waited still does after an event, and a new one does from the start

pub happened-waits : (now : ℕ) (event : Event) (k : Conn) (n : Numbers) → Waits k.connection → Waits (happened now event k n).conn.connection
happened-waits now event k n z =
    let s = event_of now event k.connection in
    let p = event-later now event k.connection z in
    subst Waits (sym (all_done-connection (record k { connection = s.now }) n s.effects)) p.waits

pub begun-waits : (number app now : ℕ) (pair : SocketPair) (n : Numbers) (s : Stepped) → LaterStep now s → Waits (begun number app pair n s).conn.connection
begun-waits number app now pair n s p = subst Waits (sym (all_done-connection (fresh number app pair s.now) n s.effects)) p.waits

module _ (now : ℕ) where
  -- what is asked for, done

  one-act : (a : Act Packet) → IsLater now a → All (IsLater now) (a ∷ [])
  one-act a h = All-cons (IsLater now) a [] h (All-nil (IsLater now))

  act-later : (k : Conn) (n : Numbers) (e : Effect) → Later now e → All (IsLater now) (done k n e).acts
  act-later k n (Emit o) h = one-act (EmitAct (record { src = k.pair.addr; dst = k.pair.other_addr; packet = segment (new_uid n) k.app k.pair (said o) (bytes_of k.connection o) })) tt
  act-later k n (TimerAt at) h = one-act (TimerAct at k.number n.stamps) h
  act-later k n Connected h = one-act (ConnectedAct k.app) tt
  act-later k n (Room free) h = one-act (RoomAct k.app free) tt
  act-later k n (Deliver bytes) h = one-act (DeliverAct k.app k.pair.other_addr k.pair.other_port (from_bytes (new_uid n) bytes)) tt
  act-later k n End h = one-act (EndAct k.app) tt
  act-later k n Reset h = one-act (ResetAct k.app) tt
  act-later k n Dropped h = one-act DroppedAct tt

  acts-later : (k : Conn) (n : Numbers) (es : List Effect) → All (Later now) es → All (IsLater now) (all_done k n es).acts
  acts-later k n [] h = All-nil (IsLater now)
  acts-later k n (e ∷ es) h =
      let first = done k n e in
      let rest = all_done first.conn first.numbers es in
      All-append (IsLater now) first.acts rest.acts (act-later k n e (All-head (Later now) e es h)) (acts-later first.conn first.numbers es (All-tail (Later now) e es h))

  -- the connections of a node

  record Lasts (a : After) : Type 0 where
    later : All (IsLater now) a.acts
    waits : AllWait a.state

  changed-lasts : (number : ℕ) (event : Event) (k : Conn) (n : Numbers) (conns : List (ℕ × Conn)) → AllWait conns → under number conns ≡ Some k →
      Lasts (happens_to (Some k) number now event n conns)
  changed-lasts number event k n conns h is =
      let z : Waits k.connection = MatchOption-at_some {A = Conn} (Unit {0}) (λ (c : Conn). Waits c.connection) k is (IfSome-lookup_from_All (λ (c : Conn). Waits c.connection) (is_at (nat_cmp number)) conns h) in
      let s = event_of now event k.connection in
      let p = event-later now event k.connection z in
      let d = happened now event k n in
      let y = happened-waits now event k n z in
      record {
        later = acts-later (record k { connection = s.now }) n s.effects p.all;
        waits =
            cond_both (is_closed d.conn.connection.phase) (remove_entry (is_at (nat_cmp number)) conns) (set_value (is_at (nat_cmp number)) conns d.conn) AllWait
            (λ _. All-map-remove_entry (is_at (nat_cmp number)) (λ (e : ℕ × Conn). e.1) (λ (c : Conn). Waits c.connection) conns h)
            (λ _. All-values-set_value (is_at (nat_cmp number)) (λ (c : Conn). Waits c.connection) conns d.conn h y);
      }

  happens-lasts : (number : ℕ) (event : Event) (o : Option Conn) (n : Numbers) (conns : List (ℕ × Conn)) → AllWait conns → under number conns ≡ o →
      Lasts (happens_to o number now event n conns)
  happens-lasts number event None n conns h is = record { later = All-nil (IsLater now); waits = h }
  happens-lasts number event (Some k) n conns h is = changed-lasts number event k n conns h is

  begun-lasts : (number app : ℕ) (pair : SocketPair) (n : Numbers) (s : Stepped) (conns : List (ℕ × Conn)) → AllWait conns → LaterStep now s →
      Lasts (record { state = insert_entry nat_cmp conns number (begun number app pair n s).conn; numbers = (begun number app pair n s).numbers; acts = (begun number app pair n s).acts })
  begun-lasts number app pair n s conns h p =
      let d = begun number app pair n s in
      let y = begun-waits number app now pair n s p in
      record {
        later = acts-later (fresh number app pair s.now) n s.effects p.all;
        waits = All-values-insert_entry nat_cmp number d.conn (λ (c : Conn). Waits c.connection) conns h y;
      }

  -- which of them an input concerns

  record LastsOf (a : Numbered PlainConns (Act Packet)) : Type 0 where
    later : All (IsLater now) a.acts
    waits : AllWait a.state.conns

  of-conns : (t : PlainConns) (a : After) → Lasts a → LastsOf (with_conns t a)
  of-conns t a p = record { later = p.later; waits = p.waits }

  lasts-if : (b : Bool) (x y : Numbered PlainConns (Act Packet)) → LastsOf x → LastsOf y → LastsOf (cond b x y)
  lasts-if true x y p q = p
  lasts-if false x y p q = q

  passed-lasts : (t : PlainConns) (n : Numbers) → AllWait t.conns → LastsOf (passed t n)
  passed-lasts t n h = record { later = All-nil (IsLater now); waits = h }

  dropped-lasts : (t : PlainConns) (n : Numbers) → AllWait t.conns → LastsOf (dropped t n)
  dropped-lasts t n h = record { later = All-cons (IsLater now) DroppedAct [] tt (All-nil (IsLater now)); waits = h }

  event-lasts : (number : ℕ) (event : Event) (t : PlainConns) (n : Numbers) → AllWait t.conns → LastsOf (with_conns t (happens number now event n t.conns))
  event-lasts number event t n h = of-conns t (happens number now event n t.conns) (happens-lasts number event (under number t.conns) n t.conns h refl)

  connects-lasts : (app : ℕ) (src : Option ℕ) (sport dst port mss : ℕ) (t : PlainConns) (n : Numbers) → AllWait t.conns → LastsOf (connects_from now app src sport dst port mss t n)
  connects-lasts app None sport dst port mss t n h = dropped-lasts t n h
  connects-lasts app (Some src) sport dst port mss t n h =
      let pair : SocketPair = record { addr = src; port = sport; other_addr = dst; other_port = port } in
      let p = begun-lasts (least_free 0 t.conns) app pair n (opening now mss) t.conns h (opening-later now mss) in
      lasts-if (is_some (between pair t.conns)) (dropped t n) (opens now app pair mss t n) (dropped-lasts t n h) (record { later = p.later; waits = p.waits })

  refuses-lasts : (src dst : ℕ) (a : Arrived) (t : PlainConns) (n : Numbers) → AllWait t.conns → LastsOf (refuses src dst a t n)
  refuses-lasts src dst a t n h =
      record {
        later =
            elim a.says.rst as (λ b. All (IsLater now) (cond {A = Made (Act Packet)} b (record { numbers = n; acts = [] }) (refused-with src dst a n)).acts) [
              | true ↦ All-nil (IsLater now)
              | false ↦ one-act (EmitAct (refusal-of src dst a n)) tt
            ];
        waits = h;
      }

  new-lasts : (src dst : ℕ) (a : Arrived) (o : Option ℕ) (t : PlainConns) (n : Numbers) → AllWait t.conns → LastsOf (comes_new now src dst a o t n)
  new-lasts src dst a None t n h = refuses-lasts src dst a t n h
  new-lasts src dst a (Some app) t n h =
      let p = begun-lasts (least_free 0 t.conns) app (answering src dst a) n (heard_syn now) t.conns h (heard_syn-later now) in
      lasts-if (is_opening a.says) (accepts now app (answering src dst a) t n) (refuses src dst a t n) (record { later = p.later; waits = p.waits }) (refuses-lasts src dst a t n h)

  to-lasts : (src dst : ℕ) (a : Arrived) (o : Option ℕ) (t : PlainConns) (n : Numbers) → AllWait t.conns → LastsOf (comes_to now src dst a o t n)
  to-lasts src dst a None t n h = new-lasts src dst a (under a.dport t.listening) t n h
  to-lasts src dst a (Some number) t n h = event-lasts number (SegmentEvent a) t n h

  comes-lasts : (src dst : ℕ) (o : Option Arrived) (t : PlainConns) (n : Numbers) → AllWait t.conns → LastsOf (comes now src dst o t n)
  comes-lasts src dst None t n h = dropped-lasts t n h
  comes-lasts src dst (Some a) t n h = to-lasts src dst a (between (answering src dst a) t.conns) t n h

  asks-lasts : (app : ℕ) (event : Event) (o : Option ℕ) (t : PlainConns) (n : Numbers) → AllWait t.conns → LastsOf (asks_of now app event o t n)
  asks-lasts app event None t n h = passed-lasts t n h
  asks-lasts app event (Some number) t n h =
      lasts-if (is_opener_of app (under number t.conns)) (with_conns t (happens number now event n t.conns)) (passed t n) (event-lasts number event t n h) (passed-lasts t n h)

  fires-lasts : (number stamp : ℕ) (t : PlainConns) (n : Numbers) → AllWait t.conns → LastsOf (fires now number stamp t n)
  fires-lasts number stamp t n h =
      lasts-if (has_stamp stamp (under number t.conns)) (with_conns t (happens number now TimerEvent n t.conns)) (passed t n) (event-lasts number TimerEvent t n h) (passed-lasts t n h)

pub record LastsAll (now : ℕ) (a : Numbered PlainConns (Act Packet)) : Type 0 where
  pub later : All (IsLater now) a.acts
  pub waits : AllWait a.state.conns

all-of : (now : ℕ) (a : Numbered PlainConns (Act Packet)) → LastsOf now a → LastsAll now a
all-of now a p = record { later = p.later; waits = p.waits }

pub step-lasts : (t : PlainConns) (n : Numbers) (input : In Packet) → AllWait t.conns → LastsAll (time_of input) (step t n input)
step-lasts t n (Connect now app src sport dst port mss) h = all-of now.0 (connects_from now.0 app src sport dst port mss t n) (connects-lasts now.0 app src sport dst port mss t n h)
step-lasts t n (Listen app port) h = record { later = All-nil (IsLater 0); waits = h }
step-lasts t n (Segment now s) h = all-of now.0 (comes now.0 s.src s.dst (arrived s.src s.dst s.packet) t n) (comes-lasts now.0 s.src s.dst (arrived s.src s.dst s.packet) t n h)
step-lasts t n (Timer now conn stamp) h = all-of now.0 (fires now.0 conn stamp t n) (fires-lasts now.0 conn stamp t n h)
step-lasts t n (Write now app bytes) h = all-of now.0 (asks now.0 app (WriteEvent bytes) t n) (asks-lasts now.0 app (WriteEvent bytes) (under app t.opened) t n h)
step-lasts t n (Close now app) h = all-of now.0 (asks now.0 app CloseEvent t n) (asks-lasts now.0 app CloseEvent (under app t.opened) t n h)
