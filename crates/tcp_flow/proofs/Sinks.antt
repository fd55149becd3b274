-- The life of a connection that a segment makes is the sink's part of a history of both ends; and so what it tells is a prefix.
use Rattle.std.proofs.Common.{◌≡◌, ℕ, zero, suc, ◌==◌, ◌&&◌, not, Bool, true, false, cond, ⊎_elim, List, [], ◌∷◌, ◌++◌, length, map, take, Option, None, Some, refl, sym, ap, subst, ◌∙◌, eq-eqb, ◌<◌, arith}
use Rattle.std.specs.List.{All, Contains, slice_get, slice_index_or}
use Rattle.std.specs.Map.{keys_of}
use Rattle.std.specs.Option.{option_map}
use Rattle.std.proofs.lemmas.Bool.{and_parts, both_ways, cond-true}
use Rattle.std.proofs.lemmas.List.Elements.{All-cons, All-head, All-nil, All-tail}
use Rattle.std.proofs.lemmas.Option.{none-some, same_Some, slice_get-map}
use Rattle.sim_base.specs.declared.numbers.Numbers.{Numbers}
use Rattle.sim_base.specs.declared.numbers.Uid.{Uid}
use Rattle.sim_base.specs.declared.time.Time.{Time}
use Rattle.sim_base.specs.Packet.{Packet}
use Rattle.layer_words.specs.Acts.{Numbered}
use Rattle.tcp_stream.specs.History.{Told, IsPrefixOf, delivered, has_end}
use Rattle.tcp_conn.specs.declared.words.Heard.{Heard}
use Rattle.tcp_conn.specs.declared.words.Effect.{Effect}
use Rattle.tcp_conn.specs.declared.connection.Connection.{Connection}
use Rattle.tcp_conn.specs.Begin.{begun as begun_conn, heard_syn, writes, closes}
use Rattle.tcp_conn.specs.Following.{told_by, Follows, IsQuiet, TakesIn}
use Rattle.tcp_conn.specs.OnItsWay.{OnItsWay}
use Rattle.tcp_conn.specs.Send.{Stepped, room}
use Rattle.tcp_conn.specs.Step.{hears, times_out}
use Rattle.tcp_conn.specs.Ends as ends
use Rattle.tcp_conn.specs.Ends.{Ends}
use Rattle.tcp_conn.specs.Ends.Happening.{Comes, SinkTimesOut}
use Rattle.tcp_conn.proofs.Quiet.{sent-quiet, times_out-quiet}
use Rattle.tcp_conn.proofs.SinkLaw.{hears-follows}
use Rattle.tcp_wire.specs.declared.words.SocketPair.{SocketPair}
use Rattle.tcp_wire.specs.declared.words.Arrived.{Arrived}
use Rattle.tcp_wire.specs.Sayable.{IsSayable}
use Rattle.tcp_wire.specs.Segment.{arrived, segment}
use Rattle.tcp_flow.specs.declared.words.Seg.{Seg}
use Rattle.tcp_flow.specs.declared.words.Act.{Act}
use Rattle.tcp_flow.specs.declared.words.In.{In}
use Rattle.tcp_flow.specs.declared.words.In.TheVariants.{Connect, Listen, Segment, Timer, Write, Close}
use Rattle.tcp_flow.specs.declared.conn.Conn.{Conn}
use Rattle.tcp_flow.specs.Conn.{all_done, begun, fresh, stepped}
use Rattle.tcp_flow.specs.Conns.{PlainConns, accepts, comes, comes_new, comes_to, is_opening, refuses}
use Rattle.tcp_flow.specs.Index.{InOrder}
use Rattle.tcp_flow.specs.Life.{Birth, IsTransfer, Life, come_to, concerned, found_or_made, is_number, IsSegment, life, life_of, made_at, no_life, with_acts}
use Rattle.tcp_flow.specs.Stray.{answering}
use Rattle.tcp_flow.specs.Table.{between, least_free, under}
use Rattle.tcp_flow.proofs.Adding.{any_low}
use Rattle.tcp_flow.proofs.Lives.{born-over}
use Rattle.tcp_flow.proofs.Lookups.{between_finds, least_none}
use Rattle.tcp_flow.proofs.Openers.{ends_of, run-append, openers-life}
use Rattle.tcp_flow.proofs.Sending.{read_as, way_of, all_done-connection, told-done}

any_input : (inputs : List (In Packet)) → All (λ input. Unit {0}) inputs
any_input [] = All-nil (λ input. Unit {0})
any_input (input ∷ inputs) = All-cons (λ input. Unit {0}) input inputs tt (any_input inputs)

follows-side : (c : Connection) (s : Heard) (bytes : List ℕ) (x : Stepped) → Follows c s bytes x → x.now.opener ≡ c.opener
follows-side c s bytes x h = ⊎_elim (λ (quiet : IsQuiet c x). quiet.side) (λ (taken : TakesIn c s bytes x). taken.side) h

-- ---- what was sent, by its place

found_at : (xs : List (Seg Packet)) (i : ℕ) (x : Seg Packet) → i < length xs → slice_index_or xs i x ≡ x → slice_get xs i ≡ Some x
found_at [] i x low is = absurd (omega arith)
found_at (y ∷ ys) zero x low is = ap Some is
found_at (y ∷ ys) (suc i) x low is = found_at ys i x (omega arith) is

pub record Placed (xs : List (Seg Packet)) (x : Seg Packet) : Type 0 where
  pub place : ℕ
  pub is : slice_get xs place ≡ Some x

placed : (xs : List (Seg Packet)) (x : Seg Packet) → Contains xs x → Placed xs x
placed xs x h = record { place = h.0; is = found_at xs h.0 x h.1 h.2 }

module _ (e : Ends) (sent : List (Seg Packet)) (sends : e.sent ≡ map way_of sent) where
  -- a history of both ends from here on
  record Goes (o : Option Connection) (l : Life) : Type 0 where
    happenings : List ends.Happening
    is : ends.run e happenings ≡ record e { sink = o; told = l.told }

  -- all that came was sent
  abbrev Came : Life → Type 0
  Came l = All (Contains sent) l.came

  record Ended (l : Life) : Type 0 where
    last : Option Connection
    goes : Goes last l

  abbrev Over : Life → Type 0
  Over l = Came l → Ended l

  record Stands (k : Conn) (l : Life) : Type 0 where
    side : k.connection.opener ≡ false
    goes : Came l → Goes (Some k.connection) l

  over : (k : Conn) (l : Life) → Stands k l → Over l
  over k l st came = record { last = Some k.connection; goes = st.goes came }

  -- a step whose acts are carried out, after these happenings
  done-goes : (k : Conn) (n : Numbers) (es : List Effect) (l : Life) (happenings : List ends.Happening) →
      ends.run e happenings ≡ record e { sink = Some k.connection; told = l.told ++ told_by es } →
      Goes (Some (all_done k n es).conn.connection) (with_acts (all_done k n es).acts l)
  done-goes k n es l happenings is =
      let conn = all_done-connection k n es in
      let told = told-done k n es in
      record {
        happenings = happenings;
        is = is ∙ (λ i. record e { sink = Some (sym conn i); told = l.told ++ sym told i });
      }

  -- what comes is read as it was sent
  comes-read : (now : ℕ) (f : Ends) (s : Seg Packet) (a : Arrived) → f.sent ≡ e.sent → arrived s.src s.dst s.packet ≡ Some a → (p : Placed sent s) →
      ends.happens f (Comes now p.place) ≡ ends.comes now f (Some (record { says = a.says; bytes = a.bytes }))
  comes-read now f s a same read p =
      ap (ends.comes now f)
      (ap (λ xs. slice_get xs p.place) (same ∙ sends) ∙ slice_get-map way_of sent p.place ∙ ap (option_map way_of) p.is ∙ ap (λ (o : Option Arrived). Some (read_as o)) read)

  hears-stands : (now : ℕ) (s : Seg Packet) (a : Arrived) (k : Conn) (n : Numbers) (l : Life) → arrived s.src s.dst s.packet ≡ Some a → Stands k l →
      Stands (stepped k n (hears now a.says a.bytes k.connection)).conn (with_acts (stepped k n (hears now a.says a.bytes k.connection)).acts (record l { came = s ∷ l.came }))
  hears-stands now s a k n l read st =
      let x = hears now a.says a.bytes k.connection in
      let d = record k { connection = x.now } in
      record {
        side =
            ap (λ (c : Connection). c.opener) (all_done-connection d n x.effects)
            ∙ follows-side k.connection a.says a.bytes x (hears-follows now a.says a.bytes k.connection st.side) ∙ st.side;
        goes = λ came.
            let g = st.goes (All-tail (Contains sent) s l.came came) in
            let p = placed sent s (All-head (Contains sent) s l.came came) in
            let f = record e { sink = Some k.connection; told = l.told } in
            done-goes d n x.effects (record l { came = s ∷ l.came }) (g.happenings ++ Comes now p.place ∷ [])
            (run-append e g.happenings (Comes now p.place ∷ []) ∙ ap (λ (y : Ends). ends.happens y (Comes now p.place)) g.is ∙ comes-read now f s a refl read p);
      }

  fires-stands : (now : ℕ) (k : Conn) (n : Numbers) (l : Life) → Stands k l →
      Stands (stepped k n (times_out now k.connection)).conn (with_acts (stepped k n (times_out now k.connection)).acts l)
  fires-stands now k n l st =
      let x = times_out now k.connection in
      let d = record k { connection = x.now } in
      let quiet = times_out-quiet now k.connection in
      record {
        side = ap (λ (c : Connection). c.opener) (all_done-connection d n x.effects) ∙ quiet.side ∙ st.side;
        goes = λ came.
            let g = st.goes came in
            done-goes d n x.effects l (g.happenings ++ SinkTimesOut now ∷ [])
            (run-append e g.happenings (SinkTimesOut now ∷ []) ∙ ap (λ (y : Ends). ends.happens y (SinkTimesOut now)) g.is);
      }

  -- its application asks nothing of it

  writes-stand : (now : Time) (app : ℕ) (bytes : List ℕ) (k : Conn) (n : Numbers) (l : Life) → Unit {0} → k.connection.opener ≡ true → Stands k l →
      Stands (stepped k n (writes now.0 bytes k.connection)).conn
      (with_acts (stepped k n (writes now.0 bytes k.connection)).acts (record l { written = l.written ++ take (room k.connection) bytes }))
  writes-stand now app bytes k n l w side st = absurd (both_ways k.connection.opener st.side side)

  closes-stand : (now : ℕ) (k : Conn) (n : Numbers) (l : Life) → k.connection.opener ≡ true → Stands k l →
      Stands (stepped k n (closes now k.connection)).conn (with_acts (stepped k n (closes now k.connection)).acts (record l { closed = true }))
  closes-stand now k n l side st = absurd (both_ways k.connection.opener st.side side)

  -- from the first SYN on

  heard_syn-side : (now : ℕ) → (heard_syn now).now.opener ≡ false
  unfolding heard_syn
  heard_syn-side now = let quiet = sent-quiet now true false 0 (begun_conn false 9000) in quiet.side

  is_syn : (a : Arrived) → is_opening a.says ≡ true → ends.opens (record { says = a.says; bytes = a.bytes }) ≡ true
  is_syn a h = (and_parts (not a.says.rst) (a.says.syn && (not a.says.has_ack && a.says.seq == 0)) h).1

  made-stands : (number app now : ℕ) (pair : SocketPair) (n : Numbers) (s : Seg Packet) (a : Arrived) → arrived s.src s.dst s.packet ≡ Some a → is_opening a.says ≡ true →
      e.sink ≡ None → e.told ≡ [] →
      Stands (begun number app pair n (heard_syn now)).conn (with_acts (begun number app pair n (heard_syn now)).acts (record no_life { came = s ∷ [] }))
  made-stands number app now pair n s a read opens no_sink no_told =
      let x = heard_syn now in
      let d = fresh number app pair x.now in
      let way : OnItsWay = record { says = a.says; bytes = a.bytes } in
      record {
        side = ap (λ (c : Connection). c.opener) (all_done-connection d n x.effects) ∙ heard_syn-side now;
        goes = λ came.
            let p = placed sent s (All-head (Contains sent) s [] came) in
            done-goes d n x.effects (record no_life { came = s ∷ [] }) (Comes now p.place ∷ [])
            (comes-read now e s a refl read p
            ∙ ap (λ (o : Option Connection). ends.sink_steps e (ends.sink_hears now way o)) no_sink
            ∙ ap (ends.sink_steps e) (cond-true (ends.opens way) (Some x) None (is_syn a opens))
            ∙ ap (λ (told : List Told). record e { sink = Some x.now; told = told ++ told_by x.effects }) no_told);
      }

  module _ (no_sink : e.sink ≡ None) (no_told : e.told ≡ []) (t : PlainConns) (n : Numbers) (inputs : List (In Packet)) (order : InOrder t.conns) (now : Time) (s : Seg Packet) where
    abbrev number : ℕ
    number = least_free 0 t.conns

    abbrev with_segment : Life
    with_segment = record no_life { came = s ∷ [] }

    -- the life from there on, by which connection the segment concerns
    abbrev LifeEnds : Numbered PlainConns (Act Packet) → Option ℕ → Type 0
    LifeEnds u c = Over (life number u.state u.numbers inputs (cond (is_number number c) (with_acts u.acts with_segment) no_life))

    accepted : (a : Arrived) (app : ℕ) → arrived s.src s.dst s.packet ≡ Some a → is_opening a.says ≡ true → LifeEnds (accepts now.0 app (answering s.src s.dst a) t n) (Some number)
    accepted a app read opens =
        let pair = answering s.src s.dst a in
        let u = accepts now.0 app pair t n in
        let d = begun number app pair n (heard_syn now.0) in
        let born = born-over number (λ input. Unit {0}) Stands Over over hears-stands fires-stands writes-stand closes-stand t.conns u.state u.numbers inputs d.conn
        (with_acts d.acts with_segment) refl order (any_input inputs) (made-stands number app now.0 pair n s a read opens no_sink no_told) in
        subst (λ (l : Life). Over (life number u.state u.numbers inputs l)) (sym (cond-true (number == number) (with_acts u.acts with_segment) no_life (eq-eqb number number refl))) born

    new-if : (a : Arrived) (app : ℕ) → arrived s.src s.dst s.packet ≡ Some a → (b : Bool) → is_opening a.says ≡ b → cond b (Some number) None ≡ Some number →
        LifeEnds (cond b (accepts now.0 app (answering s.src s.dst a) t n) (refuses s.src s.dst a t n)) (cond b (Some number) None)
    new-if a app read true opens makes = accepted a app read opens
    new-if a app read false opens makes = absurd (none-some number makes)

    new-ends : (a : Arrived) (p : Option ℕ) → arrived s.src s.dst s.packet ≡ Some a → made_at p a.says t ≡ Some number →
        LifeEnds (comes_new now.0 s.src s.dst a p t n) (made_at p a.says t)
    new-ends a None read makes = absurd (none-some number makes)
    new-ends a (Some app) read makes = new-if a app read (is_opening a.says) refl makes

    -- a connection that stands has another number
    to-ends : (a : Arrived) (f : Option ℕ) → between (answering s.src s.dst a) t.conns ≡ f → arrived s.src s.dst s.packet ≡ Some a → found_or_made f a t ≡ Some number →
        LifeEnds (comes_to now.0 s.src s.dst a f t n) (found_or_made f a t)
    to-ends a None found read makes = new-ends a (under a.dport t.listening) read makes
    to-ends a (Some other) found read makes =
        let there = between_finds (answering s.src s.dst a) t.conns other order found in
        let free : under number t.conns ≡ None = least_none 0 t.conns order (any_low (keys_of t.conns)) in
        absurd (none-some there.0 (sym free ∙ ap (λ x. under x t.conns) (sym (same_Some other number makes)) ∙ there.1))

    comes-ends : (f : Option Arrived) → arrived s.src s.dst s.packet ≡ f → come_to s f t ≡ Some number → LifeEnds (comes now.0 s.src s.dst f t n) (come_to s f t)
    comes-ends None read makes = absurd (none-some number makes)
    comes-ends (Some a) read makes = to-ends a (between (answering s.src s.dst a) t.conns) refl read makes

  sinks-life : e.sink ≡ None → e.told ≡ [] → (t : PlainConns) (n : Numbers) (input : In Packet) (inputs : List (In Packet)) → InOrder t.conns →
      concerned t input ≡ Some (least_free 0 t.conns) → IsSegment input → Over (life_of (record { conns = t; numbers = n; input = input }) inputs)
  sinks-life no_sink no_told t n (Segment now s) inputs order makes is = comes-ends no_sink no_told t n inputs order now s (arrived s.src s.dst s.packet) refl makes
  sinks-life no_sink no_told t n (Connect now app src sport dst port mss) inputs order makes is = absurd is
  sinks-life no_sink no_told t n (Listen app port) inputs order makes is = absurd is
  sinks-life no_sink no_told t n (Timer now conn stamp) inputs order makes is = absurd is
  sinks-life no_sink no_told t n (Write now app written) inputs order makes is = absurd is
  sinks-life no_sink no_told t n (Close now app) inputs order makes is = absurd is

-- ---- the law

module _ (reads : (uid : Uid) (app : ℕ) (pair : SocketPair) (says : Heard) (bytes : List ℕ) → IsSayable pair says bytes →
    arrived pair.addr pair.other_addr (segment uid app pair says bytes) ≡ Some (record { sport = pair.port; dport = pair.other_port; says = says; bytes = bytes }))
    (opener sink : Birth) (there here : List (In Packet)) (h : IsTransfer opener sink there here) where
  abbrev theirs : Life
  theirs = life_of opener there

  abbrev ours : Life
  ours = life_of sink here

  -- a history of both ends, whose end says what both lives do
  record Joined : Type 0 where
    now : ℕ
    mss : ℕ
    some : 0 < mss
    last : Connection
    closing : last.closing ≡ theirs.closed
    end : Option Connection
    happenings : List ends.Happening
    is : ends.run (ends.opened now mss) happenings ≡ record (ends_of last theirs) { sink = end; told = ours.told }

  history : Joined
  history =
      let o = openers-life reads opener.conns opener.numbers opener.input there h.opener_born.in_order h.opener_born.makes h.opens h.bytes in
      let led = o.opened.led in
      let e = ends_of o.opened.last theirs in
      let s = sinks-life e theirs.sent refl refl refl sink.conns sink.numbers sink.input here h.sink_born.in_order h.sink_born.makes h.segment h.unaltered in
      record {
        now = o.now;
        mss = o.mss;
        some = o.some;
        last = o.opened.last;
        closing = led.closing;
        end = s.last;
        happenings = led.happenings ++ s.goes.happenings;
        is = run-append (ends.opened o.now o.mss) led.happenings s.goes.happenings ∙ ap (λ (x : Ends). ends.run x s.goes.happenings) led.is ∙ s.goes.is;
      }

  pub prefix-of : ((now mss : ℕ) (happenings : List ends.Happening) → 0 < mss → IsPrefixOf (delivered (ends.run (ends.opened now mss) happenings).told) (ends.run (ends.opened now mss) happenings).written) →
      IsPrefixOf (delivered ours.told) theirs.written
  prefix-of holds =
      let t = history in
      subst (λ (e : Ends). IsPrefixOf (delivered e.told) e.written) t.is (holds t.now t.mss t.happenings t.some)

  pub end-of : ((now mss : ℕ) (happenings : List ends.Happening) → 0 < mss → has_end (ends.run (ends.opened now mss) happenings).told ≡ true →
      ((ends.run (ends.opened now mss) happenings).opener.closing ≡ true) × (delivered (ends.run (ends.opened now mss) happenings).told ≡ (ends.run (ends.opened now mss) happenings).written)) →
      has_end ours.told ≡ true → (theirs.closed ≡ true) × (delivered ours.told ≡ theirs.written)
  end-of holds ended =
      let t = history in
      let all = subst (λ (e : Ends). has_end e.told ≡ true → (e.opener.closing ≡ true) × (delivered e.told ≡ e.written)) t.is (holds t.now t.mss t.happenings t.some) ended in
      (sym t.closing ∙ all.0, all.1)
