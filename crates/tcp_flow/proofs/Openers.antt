-- The life of a connection that an application opens is the opener's part of a history of both ends.
use Rattle.std.proofs.Common.{◌≡◌, ℕ, ◌==◌, ◌-◌, ◌<◌, ◌≤◌, Bool, true, false, cond, List, [], ◌∷◌, ◌++◌, map, take, None, Some, is_some, refl, sym, ap, subst, ◌∙◌, eq-eqb}
use Rattle.std.specs.List.{All, AllByRecursion}
use Rattle.std.proofs.lemmas.Bool.{cond-true}
use Rattle.std.proofs.lemmas.List.Elements.{All-append, All-drop, All-nil, All-take}
use Rattle.std.proofs.lemmas.Option.{none-some}
use Rattle.sim_base.specs.declared.numbers.Numbers.{Numbers}
use Rattle.sim_base.specs.declared.numbers.Uid.{Uid}
use Rattle.sim_base.specs.declared.time.Time.{Time}
use Rattle.sim_base.specs.Packet.{Packet}
use Rattle.tcp_conn.specs.declared.words.Heard.{Heard}
use Rattle.tcp_conn.specs.declared.words.Effect.{Effect}
use Rattle.tcp_conn.specs.declared.connection.Connection.{Connection}
use Rattle.tcp_conn.specs.Begin.{opening, writes, closes}
use Rattle.tcp_conn.specs.Send.{Stepped, room}
use Rattle.tcp_conn.specs.Step.{hears, times_out}
use Rattle.tcp_conn.specs.Ends as ends
use Rattle.tcp_conn.specs.Ends.{Ends}
use Rattle.tcp_conn.specs.Ends.Happening.{Writes, Closes, OpenerHears, OpenerTimesOut}
use Rattle.tcp_conn.specs.OnItsWay.{with_sent}
use Rattle.tcp_conn.proofs.OpenerState.{OpenerOf, Sends}
use Rattle.tcp_conn.proofs.OpenerHears.{hears-sends, times_out-sends}
use Rattle.tcp_conn.proofs.OpenerAsks.{writes-sends, closes-sends, opening-sends}
use Rattle.tcp_wire.specs.declared.words.SocketPair.{SocketPair}
use Rattle.tcp_wire.specs.declared.words.Arrived.{Arrived}
use Rattle.tcp_wire.specs.Sayable.{IsSayable}
use Rattle.tcp_wire.specs.Segment.{arrived, segment}
use Rattle.tcp_flow.specs.declared.words.Seg.{Seg}
use Rattle.tcp_flow.specs.declared.words.In.{In}
use Rattle.tcp_flow.specs.declared.words.In.TheVariants.{Connect, Listen, Segment, Timer, Write, Close}
use Rattle.tcp_flow.specs.declared.conn.Conn.{Conn}
use Rattle.tcp_flow.specs.Conn.{all_done, begun, fresh, stepped}
use Rattle.tcp_flow.specs.Conns.{PlainConns, dropped, opens}
use Rattle.tcp_flow.specs.Index.{InOrder}
use Rattle.tcp_flow.specs.Life.{Life, Opens, WritesBytes, concerned, is_number, no_life, with_acts, with_input, life, life_of}
use Rattle.tcp_flow.specs.Table.{between, least_free, under}
use Rattle.tcp_flow.proofs.Lives.{born-over}
use Rattle.tcp_flow.proofs.Sending.{IsRead, Ports, way_of, all_done-connection, all_done-pair, emits}
use Rattle.tcp_flow.proofs.SmallSteps.{Sized, hears_small, times_out_small, writes_small, closes_small, opening_small, hears_sized, times_out_sized, writes_sized, closes_sized, opening_sized}
use Rattle.tcp_flow.specs.Small.{IsSmall}

pub run-append : (e : Ends) (hs more : List ends.Happening) → ends.run e (hs ++ more) ≡ ends.run (ends.run e hs) more
run-append e [] more = refl
run-append e (h ∷ hs) more = run-append (ends.happens e h) hs more

-- both ends, as long as nothing came to the sink
abbrev pub ends_of : Connection → Life → Ends
ends_of c l = record { opener = c; written = l.written; sent = map way_of l.sent; sink = None; told = [] }

-- a history that led to the opener's last state, and to this life
pub record Led (now mss : ℕ) (c : Connection) (l : Life) : Type 0 where
  pub happenings : List ends.Happening
  pub is : ends.run (ends.opened now mss) happenings ≡ ends_of c l
  pub closing : c.closing ≡ l.closed
  pub read : AllByRecursion IsRead l.sent

pub record Opened (now mss : ℕ) (l : Life) : Type 0 where
  pub last : Connection
  pub led : Led now mss last l

module _ (reads : (uid : Uid) (app : ℕ) (pair : SocketPair) (says : Heard) (bytes : List ℕ) → IsSayable pair says bytes →
    arrived pair.addr pair.other_addr (segment uid app pair says bytes) ≡ Some (record { sport = pair.port; dport = pair.other_port; says = says; bytes = bytes }))
    (begin mss : ℕ) where
  -- what holds while the connection stands
  record Stands (k : Conn) (l : Life) : Type 0 where
    led : Led begin mss k.connection l
    opener : OpenerOf l.written k.connection
    sized : Sized k.connection
    bytes : All (λ b. b < 256) l.written
    ports : Ports k.pair

  over : (k : Conn) (l : Life) → Stands k l → Opened begin mss l
  over k l s = record { last = k.connection; led = s.led }

  -- a step whose acts are carried out
  done-stands : (k : Conn) (n : Numbers) (es : List Effect) (l : Life) (happenings : List ends.Happening) →
      ends.run (ends.opened begin mss) happenings ≡ record (ends_of k.connection l) { sent = with_sent k.connection es (map way_of l.sent) } →
      Sends l.written l.closed (record { now = k.connection; effects = es }) → Sized k.connection → All IsSmall es → All (λ b. b < 256) l.written → Ports k.pair →
      AllByRecursion IsRead l.sent → Stands (all_done k n es).conn (with_acts (all_done k n es).acts l)
  done-stands k n es l happenings is p sized small bytes ports read =
      let conn = all_done-connection k n es in
      let buffer = subst (All (λ b. b < 256)) (sym p.next.holds) (All-drop (λ b. b < 256) (k.connection.una - 1) l.written bytes) in
      let e = emits reads k n es l.sent ports buffer small read in
      record {
        led =
            record {
              happenings = happenings;
              is = is ∙ (λ i. record { opener = sym conn i; written = l.written; sent = sym e.is i; sink = None; told = [] });
              closing = ap (λ (c : Connection). c.closing) conn ∙ p.closing;
              read = e.read;
            };
        opener = subst (OpenerOf l.written) (sym conn) p.next;
        sized = subst Sized (sym conn) sized;
        bytes = bytes;
        ports = subst Ports (sym (all_done-pair k n es)) ports;
      }

  -- one that an event brings about
  step-stands : (k : Conn) (n : Numbers) (s : Stepped) (l l' : Life) (h : ends.Happening) → Stands k l →
      ends.happens (ends_of k.connection l) h ≡ ends.opener_steps (ends_of k.connection l') s → l'.sent ≡ l.sent →
      Sends l'.written l'.closed s → Sized s.now → All IsSmall s.effects → All (λ b. b < 256) l'.written →
      Stands (stepped k n s).conn (with_acts (stepped k n s).acts l')
  step-stands k n s l l' h st happens same p sized small bytes =
      done-stands (record k { connection = s.now }) n s.effects l' (st.led.happenings ++ h ∷ [])
      (run-append (ends.opened begin mss) st.led.happenings (h ∷ []) ∙ ap (λ (e : Ends). ends.happens e h) st.led.is ∙ happens)
      p sized small bytes st.ports (subst (AllByRecursion IsRead) (sym same) st.led.read)

  hears-stands : (now : ℕ) (s : Seg Packet) (a : Arrived) (k : Conn) (n : Numbers) (l : Life) → arrived s.src s.dst s.packet ≡ Some a → Stands k l →
      Stands (stepped k n (hears now a.says a.bytes k.connection)).conn (with_acts (stepped k n (hears now a.says a.bytes k.connection)).acts (record l { came = s ∷ l.came }))
  hears-stands now s a k n l e st =
      let c = k.connection in
      let x = hears now a.says a.bytes c in
      step-stands k n x l (record l { came = s ∷ l.came }) (OpenerHears now a.says a.bytes) st refl refl
      (subst (λ b. Sends l.written b x) st.led.closing (hears-sends l.written now a.says a.bytes c st.opener))
      (hears_sized now a.says a.bytes c st.sized) (hears_small now a.says a.bytes c st.sized.0 st.sized.1) st.bytes

  fires-stands : (now : ℕ) (k : Conn) (n : Numbers) (l : Life) → Stands k l →
      Stands (stepped k n (times_out now k.connection)).conn (with_acts (stepped k n (times_out now k.connection)).acts l)
  fires-stands now k n l st =
      let c = k.connection in
      let x = times_out now c in
      step-stands k n x l l (OpenerTimesOut now) st refl refl
      (subst (λ b. Sends l.written b x) st.led.closing (times_out-sends l.written now c st.opener))
      (times_out_sized now c st.sized) (times_out_small now c st.sized.0 st.sized.1) st.bytes

  writes-stand : (now : Time) (app : ℕ) (bytes : List ℕ) (k : Conn) (n : Numbers) (l : Life) → WritesBytes (Write now app bytes) → k.connection.opener ≡ true → Stands k l →
      Stands (stepped k n (writes now.0 bytes k.connection)).conn
      (with_acts (stepped k n (writes now.0 bytes k.connection)).acts (record l { written = l.written ++ take (room k.connection) bytes }))
  writes-stand now app bytes k n l w side st =
      let c = k.connection in
      let x = writes now.0 bytes c in
      let more = take (room c) bytes in
      step-stands k n x l (record l { written = l.written ++ more }) (Writes now.0 bytes) st refl refl
      (subst (λ b. Sends (l.written ++ more) b x) st.led.closing (writes-sends l.written now.0 bytes c st.opener))
      (writes_sized now.0 bytes c st.sized) (writes_small now.0 bytes c st.sized.0 st.sized.1)
      (All-append (λ b. b < 256) l.written more st.bytes (All-take (λ b. b < 256) (room c) bytes w))

  closes-stand : (now : ℕ) (k : Conn) (n : Numbers) (l : Life) → k.connection.opener ≡ true → Stands k l →
      Stands (stepped k n (closes now k.connection)).conn (with_acts (stepped k n (closes now k.connection)).acts (record l { closed = true }))
  closes-stand now k n l side st =
      let c = k.connection in
      let x = closes now c in
      step-stands k n x l (record l { closed = true }) (Closes now) st refl refl (closes-sends l.written now c st.opener)
      (closes_sized now c st.sized) (closes_small now c st.sized.0 st.sized.1) st.bytes

  -- from the SYN on

  begun-stands : (number app : ℕ) (pair : SocketPair) (n : Numbers) → 0 < mss → mss ≤ 9000 → Ports pair →
      Stands (begun number app pair n (opening begin mss)).conn (with_acts (begun number app pair n (opening begin mss)).acts no_life)
  begun-stands number app pair n some most ports =
      let s = opening begin mss in
      done-stands (fresh number app pair s.now) n s.effects no_life [] refl (opening-sends begin mss some) (opening_sized begin mss most) (opening_small begin mss most)
      (All-nil (λ b. b < 256)) ports tt

  pub opens-over : (t : PlainConns) (n : Numbers) (inputs : List (In Packet)) (app : ℕ) (pair : SocketPair) (input : In Packet) →
      InOrder t.conns → All WritesBytes inputs → 0 < mss → mss ≤ 9000 → Ports pair →
      with_input (under (least_free 0 t.conns) t.conns) input no_life ≡ no_life → (b : Bool) →
      cond b None (Some (least_free 0 t.conns)) ≡ Some (least_free 0 t.conns) →
      let u = cond b (dropped t n) (opens begin app pair mss t n) in
      let l = with_input (under (least_free 0 t.conns) t.conns) input no_life in
      Opened begin mss
      (life (least_free 0 t.conns) u.state u.numbers inputs (cond (is_number (least_free 0 t.conns) (cond b None (Some (least_free 0 t.conns)))) (with_acts u.acts l) no_life))
  opens-over t n inputs app pair input order bytes some most ports none true makes = absurd (none-some (least_free 0 t.conns) makes)
  opens-over t n inputs app pair input order bytes some most ports none false makes =
      let number = least_free 0 t.conns in
      let u = opens begin app pair mss t n in
      let d = begun number app pair n (opening begin mss) in
      let born = born-over number WritesBytes Stands (Opened begin mss) over hears-stands fires-stands writes-stand closes-stand
      t.conns u.state u.numbers inputs d.conn (with_acts d.acts no_life) refl order bytes (begun-stands number app pair n some most ports) in
      let same : cond (number == number) (with_acts u.acts (with_input (under number t.conns) input no_life)) no_life ≡ with_acts d.acts no_life =
      cond-true (number == number) (with_acts u.acts (with_input (under number t.conns) input no_life)) no_life (eq-eqb number number refl)
      ∙ ap (with_acts d.acts) none in
      subst (λ (l : Life). Opened begin mss (life number u.state u.numbers inputs l)) (sym same) born

-- the life of a connection that an application opened is one of an opener

pub record IsOpeners (l : Life) : Type 0 where
  pub now : ℕ
  pub mss : ℕ
  pub some : 0 < mss
  pub opened : Opened now mss l

module _ (reads : (uid : Uid) (app : ℕ) (pair : SocketPair) (says : Heard) (bytes : List ℕ) → IsSayable pair says bytes →
    arrived pair.addr pair.other_addr (segment uid app pair says bytes) ≡ Some (record { sport = pair.port; dport = pair.other_port; says = says; bytes = bytes })) where
  pub openers-life : (t : PlainConns) (n : Numbers) (input : In Packet) (inputs : List (In Packet)) → InOrder t.conns →
      concerned t input ≡ Some (least_free 0 t.conns) → Opens input → All WritesBytes inputs →
      IsOpeners (life_of (record { conns = t; numbers = n; input = input }) inputs)
  openers-life t n (Connect now app None sport dst port mss) inputs order makes limits bytes = absurd (none-some (least_free 0 t.conns) makes)
  openers-life t n (Connect now app (Some src) sport dst port mss) inputs order makes limits bytes =
      let pair : SocketPair = record { addr = src; port = sport; other_addr = dst; other_port = port } in
      record {
        now = now.0;
        mss = mss;
        some = limits.2;
        opened =
            opens-over reads now.0 mss t n inputs app pair (Connect now app (Some src) sport dst port mss) order bytes limits.2 limits.3
            (record { port = limits.0; other_port = limits.1 }) refl (is_some (between pair t.conns)) makes;
      }
  openers-life t n (Listen app port) inputs order makes limits bytes = absurd limits
  openers-life t n (Segment now s) inputs order makes limits bytes = absurd limits
  openers-life t n (Timer now conn stamp) inputs order makes limits bytes = absurd limits
  openers-life t n (Write now app written) inputs order makes limits bytes = absurd limits
  openers-life t n (Close now app) inputs order makes limits bytes = absurd limits
