-- Every timer that a connection asks for fires later than now.
use Rattle.std.proofs.Common.{ℕ, zero, suc, ◌+◌, ◌-◌, ◌*◌, ◌/◌, ◌<◌, ◌==◌, ◌&&◌, ◌||◌, not, Bool, true, false, cond, nat_lt, nat_le, List, [], ◌∷◌, ◌++◌, map, Option, None, Some, arith}
use Rattle.std.specs.Int.{abs_diff}
use Rattle.std.specs.List.{All}
use Rattle.std.proofs.lemmas.Bool.{cond_both}
use Rattle.std.proofs.lemmas.List.Elements.{All-nil, All-cons, All-head, All-tail, All-append}
use Rattle.tcp_reno.specs.declared.RenoIn.{RenoIn}
use Rattle.tcp_reno.specs.declared.RenoIn.TheVariants.{NewAck, DupAck}
use Rattle.tcp_reno.specs.declared.RenoAct.{RenoAct}
use Rattle.tcp_reno.specs.Step as reno
use Rattle.tcp_stream.specs.Held.{front, window}
use Rattle.tcp_stream.specs.History.{Sink, Told, delivery, is_at as is_fin, with_segment, past, finished}
use Rattle.tcp_stream.specs.History.Told.{End as Ended}
use Rattle.tcp_conn.specs.declared.words.Heard.{Heard}
use Rattle.tcp_conn.specs.declared.words.Effect.{Effect}
use Rattle.tcp_conn.specs.declared.words.Effect.TheVariants.{Emit, TimerAt, Connected, Room, Deliver, End, Reset, Dropped}
use Rattle.tcp_conn.specs.declared.connection.Phase.{Phase}
use Rattle.tcp_conn.specs.declared.connection.Phase.TheVariants.{SynSent, SynReceived, Established, FinWait1, FinWait2, TimeWait, LastAck, Closed}
use Rattle.tcp_conn.specs.declared.connection.Timed.{Timed}
use Rattle.tcp_conn.specs.declared.connection.Connection.{Connection}
use Rattle.tcp_conn.specs.RoundTrip.{Estimate, with_sample, timeout_of, estimate}
use Rattle.tcp_conn.specs.Send.{Stepped, silently, with_effect, and_then, room, first_again, first_size, resent, in_flight, next_size, may_send, data_sent, fin_sent, sends_data, pumped, resends, controlled, timer_at, timer_restarted, sent, repeated, acknowledged, written_end, outgoing}
use Rattle.tcp_conn.specs.Step.{effect_of, reset, dropped as dropped_segment, established, in_syn_sent, sampled, advanced, moved_on, told_room, goes_on, settled, new_ack, is_duplicate, dup_ack, took_window, counted_ack, acks, carried, has_content, received, answered, taken_in, sink_takes, ended, past_fin, fin_taken, opener_takes, takes, answers_syn, hears_reset, in_later_states, hears_in, hears, sent_again, timed_out, times_out}
use Rattle.tcp_conn.specs.Begin.{opening, heard_syn, writes, closes, with_bytes, begun as begun_conn}
use Rattle.tcp_flow.specs.declared.words.Event.{Event}
use Rattle.tcp_flow.specs.declared.words.Event.TheVariants.{Segment as SegmentEvent, Timer as TimerEvent, Write as WriteEvent, Close as CloseEvent}
use Rattle.tcp_flow.specs.Conn.{event_of}

abbrev pub Waits : Connection → Type 0
Waits c = 0 < c.round_trip.rto

abbrev pub Later : ℕ → Effect → Type 0
Later now (TimerAt at) = now < at.0
Later now other = Unit {0}

pub record LaterStep (now : ℕ) (s : Stepped) : Type 0 where
  pub waits : Waits s.now
  pub all : All (Later now) s.effects

timeout-some : (srtt rttvar : ℕ) → 0 < timeout_of srtt rttvar
timeout-some srtt rttvar = omega arith

sample-waits : (r : ℕ) (e : Estimate) → 0 < (with_sample r e).rto
sample-waits r e =
    cond_both e.sampled (estimate ((7 * e.srtt + r) / 8) ((3 * e.rttvar + abs_diff e.srtt r) / 4)) (estimate r (r / 2)) (λ (x : Estimate). 0 < x.rto)
    (λ _. timeout-some ((7 * e.srtt + r) / 8) ((3 * e.rttvar + abs_diff e.srtt r) / 4))
    (λ _. timeout-some r (r / 2))

module _ (now : ℕ) where
  one : (e : Effect) → Later now e → All (Later now) (e ∷ [])
  one e h = All-cons (Later now) e [] h (All-nil (Later now))

  small-then : (s : Stepped) (f : Connection → Stepped) → LaterStep now s → (Waits s.now → LaterStep now (f s.now)) → LaterStep now (and_then s f)
  small-then s f p h =
      let q = h p.waits in
      record { waits = q.waits; all = All-append (Later now) s.effects (f s.now).effects p.all q.all }

  small-if : (b : Bool) (x y : Stepped) → LaterStep now x → LaterStep now y → LaterStep now (cond b x y)
  small-if true x y p q = p
  small-if false x y p q = q

  silent : (c : Connection) → Waits c → LaterStep now (silently c)
  silent c z = record { waits = z; all = All-nil (Later now) }

  with-one : (e : Effect) (c : Connection) → Waits c → Later now e → LaterStep now (with_effect e c)
  with-one e c z h = record { waits = z; all = one e h }

  at-later : (c : Connection) → Waits c → Later now (timer_at now c)
  at-later c z = omega (arith, z)

  starts : (b : Bool) (c : Connection) → Waits c → All (Later now) (cond b [] (timer_at now c ∷ []))
  starts true c z = All-nil (Later now)
  starts false c z = one (timer_at now c) (at-later c z)

  restarts : (b : Bool) (c : Connection) → Waits c → All (Later now) (cond b (timer_at now c ∷ []) [])
  restarts true c z = one (timer_at now c) (at-later c z)
  restarts false c z = All-nil (Later now)

  restarted : (c : Connection) → Waits c → LaterStep now (timer_restarted now c)
  restarted c z = record { waits = z; all = restarts (nat_lt c.una c.max) c z }

  sent-later : (syn fin : Bool) (bytes : ℕ) (c : Connection) → Waits c → LaterStep now (sent now syn fin bytes c)
  sent-later syn fin bytes c z =
      record { waits = z; all = All-cons (Later now) (Emit (outgoing c c.nxt syn fin bytes)) (cond c.timer [] (timer_at now c ∷ [])) tt (starts c.timer c z) }

  repeated-later : (syn fin : Bool) (bytes : ℕ) (c : Connection) → Waits c → LaterStep now (repeated now syn fin bytes c)
  repeated-later syn fin bytes c z =
      record { waits = z; all = All-cons (Later now) (Emit (outgoing c c.una syn fin bytes)) (cond c.timer [] (timer_at now c ∷ [])) tt (starts c.timer c z) }

  acknowledged-later : (c : Connection) → Waits c → LaterStep now (acknowledged c)
  acknowledged-later c z = with-one (Emit (outgoing c c.nxt false false 0)) c z tt

  reset-later : (c : Connection) → Waits c → LaterStep now (reset c)
  reset-later c z = record { waits = z; all = one Reset tt }

  dropped-later : (c : Connection) → Waits c → LaterStep now (dropped_segment c)
  dropped-later c z = with-one Dropped c z tt

  -- what the windows let go

  data-later : (more : ℕ) (c : Connection) → Waits c → LaterStep now (data_sent now more c)
  unfolding data_sent
  data-later zero c z = silent c z
  data-later (suc more) c z =
      small-if (may_send c) (and_then (sent now false false (next_size c) c) (data_sent now more)) (silently c)
      (small-then (sent now false false (next_size c) c) (data_sent now more)
      (sent-later false false (next_size c) c z)
      (λ y. data-later more (sent now false false (next_size c) c).now y))
      (silent c z)

  fin-later : (c : Connection) → Waits c → LaterStep now (fin_sent now c)
  fin-later c z =
      let d = record c { phase = FinWait1 } in
      small-if (c.closing && c.nxt == written_end c) (sent now false true 0 d) (silently c) (sent-later false true 0 d z) (silent c z)

  pumped-later : (c : Connection) → Waits c → LaterStep now (pumped now c)
  pumped-later c z =
      let s = data_sent now (written_end c - c.nxt) c in
      small-if (c.opener && sends_data c.phase) (and_then s (fin_sent now)) (silently c)
      (small-then s (fin_sent now) (data-later (written_end c - c.nxt) c z) (λ y. fin-later s.now y))
      (silent c z)

  resent-later : (c : Connection) → Waits c → LaterStep now (resent now c)
  resent-later c z =
      small-if (nat_lt c.una c.max) (first_again now c) (silently c)
      (small-if (c.una == 0) (repeated now true false 0 c) (repeated now false (first_size c == 0) (first_size c) c)
      (repeated-later true false 0 c z)
      (repeated-later false (first_size c == 0) (first_size c) c z))
      (silent c z)

  resends-later : (acts : List RenoAct) (c : Connection) → Waits c → LaterStep now (resends now acts c)
  resends-later [] c z = silent c z
  resends-later (act ∷ acts) c z = resent-later c z

  controlled-later : (input : RenoIn) (c : Connection) → Waits c → LaterStep now (controlled now input c)
  controlled-later input c z =
      let answer = reno.step c.reno input in
      resends-later answer.acts (record c { reno = answer.state }) z

  -- acknowledgements

  told-later : (c : Connection) → Waits c → LaterStep now (told_room c)
  told-later c z = with-one (Room (room c)) c z tt

  sampled-waits : (ack : ℕ) (t : Option Timed) (c : Connection) → Waits c → Waits (sampled now ack t c)
  sampled-waits ack None c z = z
  sampled-waits ack (Some t) c z =
      elim (nat_le t.end ack) as (λ b. Waits (cond b (record c { round_trip = with_sample (now - t.at.0) c.round_trip; timed = None }) c)) [ true ↦ sample-waits (now - t.at.0) c.round_trip | false ↦ z ]

  settled-later : (ack : ℕ) (c : Connection) → Waits c → LaterStep now (settled now ack c)
  unfolding settled
  settled-later ack c z =
      let d = moved_on ack (advanced ack (sampled now ack c.timed c)) in restarted d (sampled-waits ack c.timed c z)

  goes_on-later : (ack acked : ℕ) (c : Connection) → Waits c → LaterStep now (goes_on now ack acked c)
  unfolding goes_on
  goes_on-later ack acked c z =
      let s = controlled now (NewAck ack acked (in_flight c)) c in
      let t = and_then s (pumped now) in
      small-if (sends_data c.phase) (and_then t told_room) (silently c)
      (small-then t told_room
      (small-then s (pumped now) (controlled-later (NewAck ack acked (in_flight c)) c z) (λ y. pumped-later s.now y))
      (λ y. told-later t.now y))
      (silent c z)

  new_ack-later : (ack : ℕ) (c : Connection) → Waits c → LaterStep now (new_ack now ack c)
  unfolding new_ack
  new_ack-later ack c z =
      small-then (settled now ack c) (goes_on now ack (ack - c.una)) (settled-later ack c z) (λ y. goes_on-later ack (ack - c.una) (settled now ack c).now y)

  dup_ack-later : (ack : ℕ) (c : Connection) → Waits c → LaterStep now (dup_ack now ack c)
  dup_ack-later ack c z =
      let s = controlled now (DupAck ack (in_flight c) c.max) c in
      small-then s (pumped now) (controlled-later (DupAck ack (in_flight c) c.max) c z) (λ y. pumped-later s.now y)

  counted-later : (s : Heard) (bytes : List ℕ) (c : Connection) → Waits c → LaterStep now (counted_ack now s bytes c)
  unfolding counted_ack
  counted-later s bytes c z =
      small-if (nat_lt c.una s.ack) (new_ack now s.ack c) (cond (is_duplicate s bytes c) (dup_ack now s.ack c) (silently c))
      (new_ack-later s.ack c z)
      (small-if (is_duplicate s bytes c) (dup_ack now s.ack c) (silently c) (dup_ack-later s.ack c z) (silent c z))

  acks-later : (s : Heard) (bytes : List ℕ) (c : Connection) → Waits c → LaterStep now (acks now s bytes c)
  unfolding acks
  acks-later s bytes c z =
      let t = counted_ack now s bytes c in
      small-if (nat_lt s.ack c.una || nat_lt c.max s.ack) (silently c) (and_then t (took_window s.window))
      (silent c z)
      (small-then t (took_window s.window) (counted-later s bytes c z) (λ y. record { waits = y; all = All-nil (Later now) }))

  -- data and FIN

  delivery-later : (bytes : List ℕ) → All (Later now) (map effect_of (delivery bytes))
  delivery-later [] = All-nil (Later now)
  delivery-later (byte ∷ bytes) = one (Deliver (byte ∷ bytes)) tt

  finished-later : (b : Bool) (k : Sink) → All (Later now) (map effect_of (cond {A = Sink × List Told} b (record k { rcv = k.rcv + 1; ended = true }, Ended ∷ []) (k, [])).1)
  finished-later true k = one End tt
  finished-later false k = All-nil (Later now)

  map-both : (xs ys : List Told) → All (Later now) (map effect_of xs) → All (Later now) (map effect_of ys) → All (Later now) (map effect_of (xs ++ ys))
  map-both [] ys p q = q
  map-both (x ∷ xs) ys p q =
      All-cons (Later now) (effect_of x) (map effect_of (xs ++ ys)) (All-head (Later now) (effect_of x) (map effect_of xs) p) (map-both xs ys (All-tail (Later now) (effect_of x) (map effect_of xs) p) q)

  received-later : (s : Heard) (bytes : List ℕ) (c : Connection) → Waits c → LaterStep now (received s bytes c)
  received-later s bytes c z =
      let taken = with_segment c.sink (carried s bytes) in
      let came = front window taken.held taken.rcv in
      let k = past taken came in
      record {
        waits = z;
        all =
            map-both (delivery came) (finished k).1
            (delivery-later came)
            (finished-later (is_fin k.fin_at k.rcv) k);
      }

  answered-later : (c : Connection) → Waits c → LaterStep now (answered now c)
  answered-later c z =
      let d = record c { phase = LastAck } in
      small-if c.sink.ended (sent now false true 0 d) (acknowledged c) (sent-later false true 0 d z) (acknowledged-later c z)

  taken_in-later : (s : Heard) (bytes : List ℕ) (c : Connection) → Waits c → LaterStep now (taken_in now s bytes c)
  taken_in-later s bytes c z =
      small-if c.sink.ended (acknowledged c) (and_then (received s bytes c) (answered now))
      (acknowledged-later c z)
      (small-then (received s bytes c) (answered now) (received-later s bytes c z) (λ y. answered-later (received s bytes c).now y))

  sink_takes-later : (s : Heard) (bytes : List ℕ) (p : Phase) (c : Connection) → Waits c → LaterStep now (sink_takes now s bytes p c)
  sink_takes-later s bytes Established c z = taken_in-later s bytes c z
  sink_takes-later s bytes LastAck c z = acknowledged-later c z
  sink_takes-later s bytes other c z = silent c z

  fin_taken-later : (s : Heard) (p : Phase) (c : Connection) → Waits c → LaterStep now (fin_taken s p c)
  fin_taken-later s FinWait2 c z =
      small-if (s.seq == c.sink.rcv) (ended c) (silently c) (acknowledged-later (record c { phase = TimeWait; sink = past_fin c.sink }) z) (silent c z)
  fin_taken-later s TimeWait c z = acknowledged-later c z
  fin_taken-later s other c z = silent c z

  takes-later : (s : Heard) (bytes : List ℕ) (c : Connection) → Waits c → LaterStep now (takes now s bytes c)
  unfolding takes
  takes-later s bytes c z =
      small-if c.opener (opener_takes s c) (cond (has_content s bytes) (sink_takes now s bytes c.phase c) (silently c))
      (small-if s.fin (fin_taken s c.phase c) (silently c) (fin_taken-later s c.phase c z) (silent c z))
      (small-if (has_content s bytes) (sink_takes now s bytes c.phase c) (silently c) (sink_takes-later s bytes c.phase c z) (silent c z))

  -- a segment comes

  answers-later : (p : Phase) (c : Connection) → Waits c → LaterStep now (answers_syn now p c)
  answers-later SynReceived c z = repeated-later true false 0 c z
  answers-later other c z = acknowledged-later c z

  states-later : (s : Heard) (bytes : List ℕ) (c : Connection) → Waits c → LaterStep now (in_later_states now s bytes c)
  states-later s bytes c z =
      let a = acks now s bytes c in
      let taken = and_then a (takes now s bytes) in
      let rest = cond s.has_ack taken (dropped_segment c) in
      small-if s.rst (hears_reset s c) (cond s.syn (answers_syn now c.phase c) rest)
      (small-if (s.seq == c.sink.rcv) (reset c) (dropped_segment c) (reset-later c z) (dropped-later c z))
      (small-if s.syn (answers_syn now c.phase c) rest (answers-later c.phase c z)
      (small-if s.has_ack taken (dropped_segment c)
      (small-then a (takes now s bytes) (acks-later s bytes c z) (λ y. takes-later s bytes a.now y))
      (dropped-later c z)))

  syn_sent-later : (s : Heard) (c : Connection) → Waits c → LaterStep now (in_syn_sent now s c)
  syn_sent-later s c z =
      let d = established c s in
      let a = and_then (acknowledged d) (pumped now) in
      small-if (s.rst && s.ack == 1) (reset c) (cond (s.syn && (s.has_ack && (s.seq == 0 && s.ack == 1))) (and_then a (with_effect Connected)) (dropped_segment c))
      (reset-later c z)
      (small-if (s.syn && (s.has_ack && (s.seq == 0 && s.ack == 1))) (and_then a (with_effect Connected)) (dropped_segment c)
      (small-then a (with_effect Connected)
      (small-then (acknowledged d) (pumped now) (acknowledged-later d z) (λ x. pumped-later d x))
      (λ x. with-one Connected a.now x tt))
      (dropped-later c z))

  in-later : (p : Phase) (s : Heard) (bytes : List ℕ) (c : Connection) → Waits c → LaterStep now (hears_in p now s bytes c)
  in-later SynSent s bytes c z = syn_sent-later s c z
  in-later Closed s bytes c z = silent c z
  in-later other s bytes c z = states-later s bytes c z

  -- the timer fires, and what the application asks for

  again-later : (p : Phase) (c : Connection) → Waits c → LaterStep now (sent_again now p c)
  again-later SynSent c z = sent-later true false 0 c z
  again-later SynReceived c z = sent-later true false 0 c z
  again-later LastAck c z = sent-later false true 0 c z
  again-later other c z = pumped-later c z

  hears-later : (s : Heard) (bytes : List ℕ) (c : Connection) → Waits c → LaterStep now (hears now s bytes c)
  unfolding hears
  hears-later s bytes c z = in-later c.phase s bytes c z

  times_out-later : (c : Connection) → Waits c → LaterStep now (times_out now c)
  unfolding times_out
  times_out-later c z =
      let d = timed_out c in
      let s = sent_again now c.phase d in
      let y : Waits d = omega (arith, z) in
      small-if (not c.timer) (silently c) (cond (nat_le 12 c.tries) (reset c) (and_then s (timer_restarted now)))
      (silent c z)
      (small-if (nat_le 12 c.tries) (reset c) (and_then s (timer_restarted now))
      (reset-later c z)
      (small-then s (timer_restarted now) (again-later c.phase d y) (λ x. restarted s.now x)))

  writes-later : (bytes : List ℕ) (c : Connection) → Waits c → LaterStep now (writes now bytes c)
  unfolding writes
  writes-later bytes c z = pumped-later (with_bytes bytes c) z

  closes-later : (c : Connection) → Waits c → LaterStep now (closes now c)
  unfolding closes
  closes-later c z = pumped-later (record c { closing = true }) z

  pub opening-later : (mss : ℕ) → LaterStep now (opening now mss)
  unfolding opening
  opening-later mss = sent-later true false 0 (begun_conn true mss) (omega arith)

  pub heard_syn-later : LaterStep now (heard_syn now)
  unfolding heard_syn
  heard_syn-later = sent-later true false 0 (begun_conn false 9000) (omega arith)

  pub event-later : (event : Event) (c : Connection) → Waits c → LaterStep now (event_of now event c)
  event-later (SegmentEvent a) c z = hears-later a.says a.bytes c z
  event-later TimerEvent c z = times_out-later c z
  event-later (WriteEvent bytes) c z = writes-later bytes c z
  event-later CloseEvent c z = closes-later c z
