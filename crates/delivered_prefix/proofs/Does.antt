-- What a step of a node's connections does, by the connection that its input concerns.
use Rattle.std.proofs.Common.{◌≡◌, ℕ, Bool, true, false, cond, Option, None, Some, is_some, refl, sym, ap, inl, inr, ◌⊎◌}
use Rattle.std.specs.BTreeMap.{insert_entry}
use Rattle.std.specs.List.{All}
use Rattle.std.specs.Option.{option_map}
use Rattle.std.specs.Ordering.{nat_cmp}
use Rattle.std.proofs.lemmas.Bool.{false≢true}
use Rattle.std.proofs.lemmas.List.Elements.{All-nil}
use Rattle.sim_base.specs.declared.numbers.Numbers.{Numbers}
use Rattle.sim_base.specs.declared.time.Time.{Time}
use Rattle.sim_base.specs.Packet.{Packet}
use Rattle.layer_words.specs.Acts.{Numbered}
use Rattle.tcp_conn.specs.Begin.{opening, heard_syn}
use Rattle.tcp_conn.specs.Send.{Stepped}
use Rattle.tcp_wire.specs.declared.words.SocketPair.{SocketPair}
use Rattle.tcp_wire.specs.declared.words.Arrived.{Arrived}
use Rattle.tcp_wire.specs.Segment.{arrived}
use Rattle.tcp_flow.specs.declared.words.Seg.{Seg}
use Rattle.tcp_flow.specs.declared.words.Act.{Act}
use Rattle.tcp_flow.specs.declared.words.Event.{Event}
use Rattle.tcp_flow.specs.declared.words.Event.TheVariants.{Segment as SegmentEvent, Timer as TimerEvent, Write as WriteEvent, Close as CloseEvent}
use Rattle.tcp_flow.specs.declared.words.In.{In}
use Rattle.tcp_flow.specs.declared.words.In.TheVariants.{Connect, Listen, Segment, Timer, Write, Close}
use Rattle.tcp_flow.specs.declared.conn.Conn.{Conn}
use Rattle.tcp_flow.specs.Conn.{begun, happened}
use Rattle.tcp_flow.specs.Conns.{PlainConns, with_conns, passed, dropped, opens, is_opening, accepts, refuses, comes_new, comes_to, comes, asks_of, step}
use Rattle.tcp_flow.specs.Index.{InOrder}
use Rattle.tcp_flow.specs.Later.{time_of}
use Rattle.tcp_flow.specs.Life.{asked_by, come_to, concerned, found_or_made, made_at}
use Rattle.tcp_flow.specs.Stray.{answering}
use Rattle.tcp_flow.specs.Table.{between, happens, happens_to, has_stamp, is_opener_of, least_free, under, with_changed}
use Rattle.tcp_flow.proofs.Lookups.{between_finds}
use Rattle.delivered_prefix.specs.OneConnection.{IsBeginning, IsNobodys, event_in}
use Rattle.delivered_prefix.proofs.OwnActs.{dropped-nobodys, refused-nobodys}

abbrev pub Step : Type 0
Step = Numbered PlainConns (Act Packet)

-- an event of a connection that stands
pub record Happened (t : PlainConns) (n : Numbers) (input : In Packet) (u : Step) (number : ℕ) : Type 0 where
  pub conn : Conn
  pub found : under number t.conns ≡ Some conn
  pub event : Event
  pub is : event_in input ≡ Some event
  pub after : u ≡ with_conns t (with_changed number (happened (time_of input) event conn n) t.conns)

-- a new connection
pub record Made (t : PlainConns) (n : Numbers) (input : In Packet) (u : Step) (number : ℕ) : Type 0 where
  pub least : number ≡ least_free 0 t.conns
  pub app : ℕ
  pub pair : SocketPair
  pub first : Stepped
  pub beginning : IsBeginning t input app pair first
  pub new : between pair t.conns ≡ None
  pub conns : u.state.conns ≡ insert_entry nat_cmp t.conns number (begun number app pair n first).conn
  pub numbers : u.numbers ≡ (begun number app pair n first).numbers
  pub acts : u.acts ≡ (begun number app pair n first).acts

-- nothing happens to a connection
pub record Passed (t : PlainConns) (u : Step) : Type 0 where
  pub conns : u.state.conns ≡ t.conns
  pub acts : All IsNobodys u.acts

abbrev pub Does : PlainConns → Numbers → In Packet → Step → Option ℕ → Type 0
Does t n input u None = Passed t u
Does t n input u (Some number) = Happened t n input u number ⊎ Made t n input u number

-- ---- what a test finds

none-from : (o : Option ℕ) → is_some o ≡ false → o ≡ None
none-from None h = refl
none-from (Some x) h = absurd (false≢true (sym h))

stamped : (stamp : ℕ) (o : Option Conn) → has_stamp stamp o ≡ true → (k : Conn) × (o ≡ Some k)
stamped stamp None h = absurd (false≢true h)
stamped stamp (Some k) h = (k, refl)

opened : (app : ℕ) (o : Option Conn) → is_opener_of app o ≡ true → (k : Conn) × (o ≡ Some k)
opened app None h = absurd (false≢true h)
opened app (Some k) h = (k, refl)

module _ (t : PlainConns) (n : Numbers) (input : In Packet) where
  passes : Does t n input (passed t n) None
  passes = record { conns = refl; acts = All-nil IsNobodys }

  drops : Does t n input (dropped t n) None
  drops = record { conns = refl; acts = dropped-nobodys }

  does-if : (b : Bool) (u v : Step) (c d : Option ℕ) → (b ≡ true → Does t n input u c) → (b ≡ false → Does t n input v d) → Does t n input (cond b u v) (cond b c d)
  does-if true u v c d h g = h refl
  does-if false u v c d h g = g refl

  event-does : (number : ℕ) (k : Conn) (event : Event) → under number t.conns ≡ Some k → event_in input ≡ Some event →
      Does t n input (with_conns t (happens number (time_of input) event n t.conns)) (Some number)
  event-does number k event found is =
      inl
      (record {
        conn = k;
        found = found;
        event = event;
        is = is;
        after = ap (λ (o : Option Conn). with_conns t (happens_to o number (time_of input) event n t.conns)) found;
      })

  asked-does : (app : ℕ) (event : Event) (f : Option ℕ) → event_in input ≡ Some event →
      Does t n input (asks_of (time_of input) app event f t n) (asked_by app f t)
  asked-does app event None is = passes
  asked-does app event (Some number) is =
      does-if (is_opener_of app (under number t.conns)) (with_conns t (happens number (time_of input) event n t.conns)) (passed t n) (Some number) None
      (λ b. let found = opened app (under number t.conns) b in event-does number found.0 event found.1 is) (λ b. passes)

module _ (t : PlainConns) (n : Numbers) (now : Time) (s : Seg Packet) where
  abbrev Comes : Step → Option ℕ → Type 0
  Comes u c = Does t n (Segment now s) u c

  module _ (a : Arrived) (read : arrived s.src s.dst s.packet ≡ Some a) where
    new-does : (p : Option ℕ) → under a.dport t.listening ≡ p → between (answering s.src s.dst a) t.conns ≡ None →
        Comes (comes_new now.0 s.src s.dst a p t n) (made_at p a.says t)
    new-does None listens none = record { conns = refl; acts = refused-nobodys s.src s.dst a n }
    new-does (Some app) listens none =
        does-if t n (Segment now s) (is_opening a.says) (accepts now.0 app (answering s.src s.dst a) t n) (refuses s.src s.dst a t n) (Some (least_free 0 t.conns)) None
        (λ b.
        inr
        (record {
          least = refl;
          app = app;
          pair = answering s.src s.dst a;
          first = heard_syn now.0;
          beginning = (a, read, b, listens, refl, refl);
          new = none;
          conns = refl;
          numbers = refl;
          acts = refl;
        }))
        (λ b. record { conns = refl; acts = refused-nobodys s.src s.dst a n })

    to-does : InOrder t.conns → (f : Option ℕ) → between (answering s.src s.dst a) t.conns ≡ f →
        Comes (comes_to now.0 s.src s.dst a f t n) (found_or_made f a t)
    to-does order None found = new-does (under a.dport t.listening) refl found
    to-does order (Some number) found =
        let there = between_finds (answering s.src s.dst a) t.conns number order found in
        event-does t n (Segment now s) number there.0 (SegmentEvent a) there.1 (ap (option_map SegmentEvent) read)

  comes-does : InOrder t.conns → (f : Option Arrived) → arrived s.src s.dst s.packet ≡ f → Comes (comes now.0 s.src s.dst f t n) (come_to s f t)
  comes-does order None read = drops t n (Segment now s)
  comes-does order (Some a) read = to-does a read order (between (answering s.src s.dst a) t.conns) refl

pub step-does : (t : PlainConns) (n : Numbers) (input : In Packet) → InOrder t.conns → Does t n input (step t n input) (concerned t input)
step-does t n (Connect now app None sport dst port mss) order = drops t n (Connect now app None sport dst port mss)
step-does t n (Connect now app (Some src) sport dst port mss) order =
    let pair : SocketPair = record { addr = src; port = sport; other_addr = dst; other_port = port } in
    let input = Connect now app (Some src) sport dst port mss in
    does-if t n input (is_some (between pair t.conns)) (dropped t n) (opens now.0 app pair mss t n) None (Some (least_free 0 t.conns))
    (λ b. drops t n input)
    (λ b.
    inr
    (record {
      least = refl;
      app = app;
      pair = pair;
      first = opening now.0 mss;
      beginning = (refl, refl, refl);
      new = none-from (between pair t.conns) b;
      conns = refl;
      numbers = refl;
      acts = refl;
    }))
step-does t n (Listen app port) order = record { conns = refl; acts = All-nil IsNobodys }
step-does t n (Segment now s) order = comes-does t n now s order (arrived s.src s.dst s.packet) refl
step-does t n (Timer now number stamp) order =
    let input = Timer now number stamp in
    does-if t n input (has_stamp stamp (under number t.conns)) (with_conns t (happens number now.0 TimerEvent n t.conns)) (passed t n) (Some number) None
    (λ b. let found = stamped stamp (under number t.conns) b in event-does t n input number found.0 TimerEvent found.1 refl) (λ b. passes t n input)
step-does t n (Write now app bytes) order = asked-does t n (Write now app bytes) app (WriteEvent bytes) (under app t.opened) refl
step-does t n (Close now app) order = asked-does t n (Close now app) app CloseEvent (under app t.opened) refl
