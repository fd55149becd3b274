-- What a connection asks for is small.
use Rattle.std.proofs.Common.{ℕ, zero, suc, ◌+◌, ◌-◌, ◌^◌, ◌<◌, ◌≤◌, ◌==◌, ◌&&◌, ◌||◌, not, Bool, true, false, cond, nat_lt, nat_le, min, List, [], ◌∷◌, ◌++◌, map, length, Option, None, Some, sym, subst, arith}
use Rattle.std.specs.Prelude.{IfSome}
use Rattle.std.specs.List.{All}
use Rattle.std.specs.FinMap.{get}
use Rattle.std.proofs.lemmas.List.Elements.{All-nil, All-cons, All-head, All-tail, All-append}
use Rattle.tcp_reno.specs.declared.RenoIn.{RenoIn}
use Rattle.tcp_reno.specs.declared.RenoIn.TheVariants.{NewAck, DupAck, Timeout}
use Rattle.tcp_reno.specs.declared.RenoAct.{RenoAct}
use Rattle.tcp_reno.specs.Step as reno
use Rattle.tcp_stream.specs.Held.{Held, begun, front, window}
use Rattle.tcp_stream.specs.History.{Sink, Told, delivery, is_at, with_segment, past, finished}
use Rattle.tcp_stream.specs.History.Told.{End as Ended}
use Rattle.tcp_conn.specs.declared.words.Heard.{Heard}
use Rattle.tcp_conn.specs.declared.words.Effect.{Effect}
use Rattle.tcp_conn.specs.declared.words.Effect.TheVariants.{Emit, Connected, Room, Deliver, End, Reset, Dropped}
use Rattle.tcp_conn.specs.declared.connection.Phase.{Phase}
use Rattle.tcp_conn.specs.declared.connection.Phase.TheVariants.{SynSent, SynReceived, Established, FinWait1, FinWait2, TimeWait, LastAck, Closed}
use Rattle.tcp_conn.specs.declared.connection.Timed.{Timed}
use Rattle.tcp_conn.specs.declared.connection.Connection.{Connection}
use Rattle.tcp_conn.specs.RoundTrip.{with_sample}
use Rattle.tcp_conn.specs.Send.{Stepped, silently, with_effect, and_then, room, first_again, first_size, resent, in_flight, next_size, may_send, data_sent, fin_sent, sends_data, pumped, resends, controlled, timer_at, timer_restarted, sent, repeated, acknowledged, written_end, outgoing}
use Rattle.tcp_conn.specs.Step.{effect_of, reset, dropped, established, named_size, in_syn_sent, sampled, advanced, moved_on, told_room, goes_on, settled, new_ack, is_duplicate, dup_ack, took_window, counted_ack, acks, carried, has_content, received, answered, taken_in, sink_takes, ended, past_fin, fin_taken, opener_takes, takes, answers_syn, hears_reset, in_later_states, hears_in, hears, sent_again, timed_out, times_out}
use Rattle.tcp_conn.specs.Begin.{opening, heard_syn, writes, closes, with_bytes, begun as begun_conn}
use Rattle.tcp_conn.proofs.OpenerSends.{step-size}
use Rattle.tcp_flow.specs.Small.{IsSmall}

abbrev pub Sized : Connection → Type 0
Sized c = (c.reno.smss ≤ 9000) × (c.mss ≤ 9000)

pub record SmallStep (s : Stepped) : Type 0 where
  pub sized : Sized s.now
  pub all : All IsSmall s.effects

one : (e : Effect) → IsSmall e → All IsSmall (e ∷ [])
one e h = All-cons IsSmall e [] h (All-nil IsSmall)

small-then : (s : Stepped) (f : Connection → Stepped) → SmallStep s → (Sized s.now → SmallStep (f s.now)) → SmallStep (and_then s f)
small-then s f p h =
    let q = h p.sized in
    record { sized = q.sized; all = All-append IsSmall s.effects (f s.now).effects p.all q.all }

small-if : (b : Bool) (x y : Stepped) → SmallStep x → SmallStep y → SmallStep (cond b x y)
small-if true x y p q = p
small-if false x y p q = q

silent : (c : Connection) → Sized c → SmallStep (silently c)
silent c z = record { sized = z; all = All-nil IsSmall }

with-one : (e : Effect) (c : Connection) → Sized c → IsSmall e → SmallStep (with_effect e c)
with-one e c z h = record { sized = z; all = one e h }

starts : (b : Bool) (now : ℕ) (c : Connection) → All IsSmall (cond b [] (timer_at now c ∷ []))
starts true now c = All-nil IsSmall
starts false now c = one (timer_at now c) tt

restarts : (b : Bool) (now : ℕ) (c : Connection) → All IsSmall (cond b (timer_at now c ∷ []) [])
restarts true now c = one (timer_at now c) tt
restarts false now c = All-nil IsSmall

restarted : (now : ℕ) (c : Connection) → Sized c → SmallStep (timer_restarted now c)
restarted now c z = record { sized = z; all = restarts (nat_lt c.una c.max) now c }

named : (syn : Bool) (mss : ℕ) → mss ≤ 9000 → IfSome (cond syn (Some mss) None) (λ m. m < 2 ^ 16)
named true mss h = omega arith
named false mss h = tt

sent-small : (now : ℕ) (syn fin : Bool) (bytes : ℕ) (c : Connection) → Sized c → bytes ≤ 9000 → SmallStep (sent now syn fin bytes c)
sent-small now syn fin bytes c z few =
    record { sized = z; all = All-cons IsSmall (Emit (outgoing c c.nxt syn fin bytes)) (cond c.timer [] (timer_at now c ∷ [])) (few, named syn c.mss z.1) (starts c.timer now c) }

repeated-small : (now : ℕ) (syn fin : Bool) (bytes : ℕ) (c : Connection) → Sized c → bytes ≤ 9000 → SmallStep (repeated now syn fin bytes c)
repeated-small now syn fin bytes c z few =
    record { sized = z; all = All-cons IsSmall (Emit (outgoing c c.una syn fin bytes)) (cond c.timer [] (timer_at now c ∷ [])) (few, named syn c.mss z.1) (starts c.timer now c) }

acknowledged-small : (c : Connection) → Sized c → SmallStep (acknowledged c)
acknowledged-small c z = with-one (Emit (outgoing c c.nxt false false 0)) c z (omega arith, tt)

reset-small : (c : Connection) → Sized c → SmallStep (reset c)
reset-small c z = record { sized = z; all = one Reset tt }

dropped-small : (c : Connection) → Sized c → SmallStep (dropped c)
dropped-small c z = with-one Dropped c z tt

-- what the windows let go

at-most : (a b : ℕ) → a ≤ 9000 → min a b ≤ 9000
at-most a b h = omega arith

data-small : (now more : ℕ) (c : Connection) → Sized c → SmallStep (data_sent now more c)
unfolding data_sent
data-small now zero c z = silent c z
data-small now (suc more) c z =
    small-if (may_send c) (and_then (sent now false false (next_size c) c) (data_sent now more)) (silently c)
    (small-then (sent now false false (next_size c) c) (data_sent now more)
    (sent-small now false false (next_size c) c z (at-most c.reno.smss (written_end c - c.nxt) z.0))
    (λ y. data-small now more (sent now false false (next_size c) c).now y))
    (silent c z)

fin-small : (now : ℕ) (c : Connection) → Sized c → SmallStep (fin_sent now c)
fin-small now c z =
    let d = record c { phase = FinWait1 } in
    small-if (c.closing && c.nxt == written_end c) (sent now false true 0 d) (silently c) (sent-small now false true 0 d z (omega arith)) (silent c z)

pumped-small : (now : ℕ) (c : Connection) → Sized c → SmallStep (pumped now c)
pumped-small now c z =
    let s = data_sent now (written_end c - c.nxt) c in
    small-if (c.opener && sends_data c.phase) (and_then s (fin_sent now)) (silently c)
    (small-then s (fin_sent now) (data-small now (written_end c - c.nxt) c z) (λ y. fin-small now s.now y))
    (silent c z)

resent-small : (now : ℕ) (c : Connection) → Sized c → SmallStep (resent now c)
resent-small now c z =
    small-if (nat_lt c.una c.max) (first_again now c) (silently c)
    (small-if (c.una == 0) (repeated now true false 0 c) (repeated now false (first_size c == 0) (first_size c) c)
    (repeated-small now true false 0 c z (omega arith))
    (repeated-small now false (first_size c == 0) (first_size c) c z (at-most c.reno.smss (min c.max (written_end c) - c.una) z.0)))
    (silent c z)

resends-small : (now : ℕ) (acts : List RenoAct) (c : Connection) → Sized c → SmallStep (resends now acts c)
resends-small now [] c z = silent c z
resends-small now (act ∷ acts) c z = resent-small now c z

controlled-small : (now : ℕ) (input : RenoIn) (c : Connection) → Sized c → SmallStep (controlled now input c)
controlled-small now input c z =
    let answer = reno.step c.reno input in
    resends-small now answer.acts (record c { reno = answer.state }) (subst (λ n. n ≤ 9000) (sym (step-size c.reno input)) z.0, z.1)

-- acknowledgements

room-le : (b : Bool) (x y : ℕ) → cond b 0 (min (131072 - x) y) < 2 ^ 32
room-le true x y = omega arith
room-le false x y = omega arith

told-small : (c : Connection) → Sized c → SmallStep (told_room c)
told-small c z = with-one (Room (room c)) c z (room-le c.closing (length c.buffer) (2 ^ 30 + 1 - written_end c))

sampled-sized : (now ack : ℕ) (t : Option Timed) (c : Connection) → Sized c → Sized (sampled now ack t c)
sampled-sized now ack None c z = z
sampled-sized now ack (Some t) c z =
    elim (nat_le t.end ack) as (λ b. Sized (cond b (record c { round_trip = with_sample (now - t.at.0) c.round_trip; timed = None }) c)) [ true ↦ z | false ↦ z ]

settled-small : (now ack : ℕ) (c : Connection) → Sized c → SmallStep (settled now ack c)
unfolding settled
settled-small now ack c z =
    let d = moved_on ack (advanced ack (sampled now ack c.timed c)) in restarted now d (sampled-sized now ack c.timed c z)

goes_on-small : (now ack acked : ℕ) (c : Connection) → Sized c → SmallStep (goes_on now ack acked c)
unfolding goes_on
goes_on-small now ack acked c z =
    let s = controlled now (NewAck ack acked (in_flight c)) c in
    let t = and_then s (pumped now) in
    small-if (sends_data c.phase) (and_then t told_room) (silently c)
    (small-then t told_room
    (small-then s (pumped now) (controlled-small now (NewAck ack acked (in_flight c)) c z) (λ y. pumped-small now s.now y))
    (λ y. told-small t.now y))
    (silent c z)

new_ack-small : (now ack : ℕ) (c : Connection) → Sized c → SmallStep (new_ack now ack c)
unfolding new_ack
new_ack-small now ack c z =
    small-then (settled now ack c) (goes_on now ack (ack - c.una)) (settled-small now ack c z) (λ y. goes_on-small now ack (ack - c.una) (settled now ack c).now y)

dup_ack-small : (now ack : ℕ) (c : Connection) → Sized c → SmallStep (dup_ack now ack c)
dup_ack-small now ack c z =
    let s = controlled now (DupAck ack (in_flight c) c.max) c in
    small-then s (pumped now) (controlled-small now (DupAck ack (in_flight c) c.max) c z) (λ y. pumped-small now s.now y)

counted-small : (now : ℕ) (s : Heard) (bytes : List ℕ) (c : Connection) → Sized c → SmallStep (counted_ack now s bytes c)
unfolding counted_ack
counted-small now s bytes c z =
    small-if (nat_lt c.una s.ack) (new_ack now s.ack c) (cond (is_duplicate s bytes c) (dup_ack now s.ack c) (silently c))
    (new_ack-small now s.ack c z)
    (small-if (is_duplicate s bytes c) (dup_ack now s.ack c) (silently c) (dup_ack-small now s.ack c z) (silent c z))

acks-small : (now : ℕ) (s : Heard) (bytes : List ℕ) (c : Connection) → Sized c → SmallStep (acks now s bytes c)
unfolding acks
acks-small now s bytes c z =
    let t = counted_ack now s bytes c in
    small-if (nat_lt s.ack c.una || nat_lt c.max s.ack) (silently c) (and_then t (took_window s.window))
    (silent c z)
    (small-then t (took_window s.window) (counted-small now s bytes c z) (λ y. record { sized = y; all = All-nil IsSmall }))

-- data and FIN

length-begun : (o : Option ℕ) (bytes : List ℕ) (n : ℕ) → length bytes ≤ n → length (begun o bytes) ≤ suc n
length-begun None bytes n h = omega arith
length-begun (Some byte) bytes n h = omega arith

length-front : (n : ℕ) (held : Held) (position : ℕ) → length (front n held position) ≤ n
unfolding front
length-front zero held position = omega arith
length-front (suc n) held position = length-begun (get held position) (front n held (position + 1)) n (length-front n held (position + 1))

delivery-small : (bytes : List ℕ) → length bytes ≤ 65535 → All IsSmall (map effect_of (delivery bytes))
delivery-small [] h = All-nil IsSmall
delivery-small (byte ∷ bytes) h = one (Deliver (byte ∷ bytes)) h

finished-small : (b : Bool) (k : Sink) → All IsSmall (map effect_of (cond {A = Sink × List Told} b (record k { rcv = k.rcv + 1; ended = true }, Ended ∷ []) (k, [])).1)
finished-small true k = one End tt
finished-small false k = All-nil IsSmall

map-both : (xs ys : List Told) → All IsSmall (map effect_of xs) → All IsSmall (map effect_of ys) → All IsSmall (map effect_of (xs ++ ys))
map-both [] ys p q = q
map-both (x ∷ xs) ys p q =
    All-cons IsSmall (effect_of x) (map effect_of (xs ++ ys)) (All-head IsSmall (effect_of x) (map effect_of xs) p) (map-both xs ys (All-tail IsSmall (effect_of x) (map effect_of xs) p) q)

received-small : (s : Heard) (bytes : List ℕ) (c : Connection) → Sized c → SmallStep (received s bytes c)
received-small s bytes c z =
    let taken = with_segment c.sink (carried s bytes) in
    let came = front window taken.held taken.rcv in
    let k = past taken came in
    record {
      sized = z;
      all =
          map-both (delivery came) (finished k).1
          (delivery-small came (length-front window taken.held taken.rcv))
          (finished-small (is_at k.fin_at k.rcv) k);
    }

answered-small : (now : ℕ) (c : Connection) → Sized c → SmallStep (answered now c)
answered-small now c z =
    let d = record c { phase = LastAck } in
    small-if c.sink.ended (sent now false true 0 d) (acknowledged c) (sent-small now false true 0 d z (omega arith)) (acknowledged-small c z)

taken_in-small : (now : ℕ) (s : Heard) (bytes : List ℕ) (c : Connection) → Sized c → SmallStep (taken_in now s bytes c)
taken_in-small now s bytes c z =
    small-if c.sink.ended (acknowledged c) (and_then (received s bytes c) (answered now))
    (acknowledged-small c z)
    (small-then (received s bytes c) (answered now) (received-small s bytes c z) (λ y. answered-small now (received s bytes c).now y))

sink_takes-small : (now : ℕ) (s : Heard) (bytes : List ℕ) (p : Phase) (c : Connection) → Sized c → SmallStep (sink_takes now s bytes p c)
sink_takes-small now s bytes Established c z = taken_in-small now s bytes c z
sink_takes-small now s bytes LastAck c z = acknowledged-small c z
sink_takes-small now s bytes other c z = silent c z

fin_taken-small : (s : Heard) (p : Phase) (c : Connection) → Sized c → SmallStep (fin_taken s p c)
fin_taken-small s FinWait2 c z =
    small-if (s.seq == c.sink.rcv) (ended c) (silently c) (acknowledged-small (record c { phase = TimeWait; sink = past_fin c.sink }) z) (silent c z)
fin_taken-small s TimeWait c z = acknowledged-small c z
fin_taken-small s other c z = silent c z

takes-small : (now : ℕ) (s : Heard) (bytes : List ℕ) (c : Connection) → Sized c → SmallStep (takes now s bytes c)
unfolding takes
takes-small now s bytes c z =
    small-if c.opener (opener_takes s c) (cond (has_content s bytes) (sink_takes now s bytes c.phase c) (silently c))
    (small-if s.fin (fin_taken s c.phase c) (silently c) (fin_taken-small s c.phase c z) (silent c z))
    (small-if (has_content s bytes) (sink_takes now s bytes c.phase c) (silently c) (sink_takes-small now s bytes c.phase c z) (silent c z))

-- a segment comes

answers-small : (now : ℕ) (p : Phase) (c : Connection) → Sized c → SmallStep (answers_syn now p c)
answers-small now SynReceived c z = repeated-small now true false 0 c z (omega arith)
answers-small now other c z = acknowledged-small c z

later-small : (now : ℕ) (s : Heard) (bytes : List ℕ) (c : Connection) → Sized c → SmallStep (in_later_states now s bytes c)
later-small now s bytes c z =
    let a = acks now s bytes c in
    let taken = and_then a (takes now s bytes) in
    let rest = cond s.has_ack taken (dropped c) in
    small-if s.rst (hears_reset s c) (cond s.syn (answers_syn now c.phase c) rest)
    (small-if (s.seq == c.sink.rcv) (reset c) (dropped c) (reset-small c z) (dropped-small c z))
    (small-if s.syn (answers_syn now c.phase c) rest (answers-small now c.phase c z)
    (small-if s.has_ack taken (dropped c)
    (small-then a (takes now s bytes) (acks-small now s bytes c z) (λ y. takes-small now s bytes a.now y))
    (dropped-small c z)))

agreed-le : (a b : ℕ) → a ≤ 9000 → min a b ≤ 9000
agreed-le a b h = omega arith

syn_sent-small : (now : ℕ) (s : Heard) (c : Connection) → Sized c → SmallStep (in_syn_sent now s c)
syn_sent-small now s c z =
    let d = established c s in
    let a = and_then (acknowledged d) (pumped now) in
    let y : Sized d = (agreed-le c.mss (named_size s.mss) z.1, z.1) in
    small-if (s.rst && s.ack == 1) (reset c) (cond (s.syn && (s.has_ack && (s.seq == 0 && s.ack == 1))) (and_then a (with_effect Connected)) (dropped c))
    (reset-small c z)
    (small-if (s.syn && (s.has_ack && (s.seq == 0 && s.ack == 1))) (and_then a (with_effect Connected)) (dropped c)
    (small-then a (with_effect Connected)
    (small-then (acknowledged d) (pumped now) (acknowledged-small d y) (λ x. pumped-small now d x))
    (λ x. with-one Connected a.now x tt))
    (dropped-small c z))

in-small : (p : Phase) (now : ℕ) (s : Heard) (bytes : List ℕ) (c : Connection) → Sized c → SmallStep (hears_in p now s bytes c)
in-small SynSent now s bytes c z = syn_sent-small now s c z
in-small Closed now s bytes c z = silent c z
in-small other now s bytes c z = later-small now s bytes c z

pub hears_small : (now : ℕ) (s : Heard) (bytes : List ℕ) (c : Connection) → c.reno.smss ≤ 9000 → c.mss ≤ 9000 → All IsSmall (hears now s bytes c).effects
unfolding hears
hears_small now s bytes c full mss = let p = in-small c.phase now s bytes c (full, mss) in p.all

-- the timer fires, and what the application asks for

again-small : (now : ℕ) (p : Phase) (c : Connection) → Sized c → SmallStep (sent_again now p c)
again-small now SynSent c z = sent-small now true false 0 c z (omega arith)
again-small now SynReceived c z = sent-small now true false 0 c z (omega arith)
again-small now LastAck c z = sent-small now false true 0 c z (omega arith)
again-small now other c z = pumped-small now c z

pub times_out_small : (now : ℕ) (c : Connection) → c.reno.smss ≤ 9000 → c.mss ≤ 9000 → All IsSmall (times_out now c).effects
unfolding times_out
times_out_small now c full mss =
    let d = timed_out c in
    let s = sent_again now c.phase d in
    let z : Sized d = (subst (λ n. n ≤ 9000) (sym (step-size c.reno (Timeout c.una (in_flight c) c.max))) full, mss) in
    let p =
    small-if (not c.timer) (silently c) (cond (nat_le 12 c.tries) (reset c) (and_then s (timer_restarted now)))
    (silent c (full, mss))
    (small-if (nat_le 12 c.tries) (reset c) (and_then s (timer_restarted now))
    (reset-small c (full, mss))
    (small-then s (timer_restarted now) (again-small now c.phase d z) (λ y. restarted now s.now y))) in
    p.all

pub writes_small : (now : ℕ) (bytes : List ℕ) (c : Connection) → c.reno.smss ≤ 9000 → c.mss ≤ 9000 → All IsSmall (writes now bytes c).effects
unfolding writes
writes_small now bytes c full mss = let p = pumped-small now (with_bytes bytes c) (full, mss) in p.all

pub closes_small : (now : ℕ) (c : Connection) → c.reno.smss ≤ 9000 → c.mss ≤ 9000 → All IsSmall (closes now c).effects
unfolding closes
closes_small now c full mss = let p = pumped-small now (record c { closing = true }) (full, mss) in p.all

pub opening_small : (now mss : ℕ) → mss ≤ 9000 → All IsSmall (opening now mss).effects
unfolding opening
opening_small now mss h = let p = sent-small now true false 0 (begun_conn true mss) (h, h) (omega arith) in p.all

pub heard_syn_small : (now : ℕ) → All IsSmall (heard_syn now).effects
unfolding heard_syn
heard_syn_small now = let p = sent-small now true false 0 (begun_conn false 9000) (omega arith, omega arith) (omega arith) in p.all

-- and segments stay small

pub hears_sized : (now : ℕ) (s : Heard) (bytes : List ℕ) (c : Connection) → Sized c → Sized (hears now s bytes c).now
unfolding hears
hears_sized now s bytes c z = let p = in-small c.phase now s bytes c z in p.sized

pub times_out_sized : (now : ℕ) (c : Connection) → Sized c → Sized (times_out now c).now
unfolding times_out
times_out_sized now c z =
    let d = timed_out c in
    let s = sent_again now c.phase d in
    let y : Sized d = (subst (λ n. n ≤ 9000) (sym (step-size c.reno (Timeout c.una (in_flight c) c.max))) z.0, z.1) in
    let p =
    small-if (not c.timer) (silently c) (cond (nat_le 12 c.tries) (reset c) (and_then s (timer_restarted now)))
    (silent c z)
    (small-if (nat_le 12 c.tries) (reset c) (and_then s (timer_restarted now))
    (reset-small c z)
    (small-then s (timer_restarted now) (again-small now c.phase d y) (λ x. restarted now s.now x))) in
    p.sized

pub writes_sized : (now : ℕ) (bytes : List ℕ) (c : Connection) → Sized c → Sized (writes now bytes c).now
unfolding writes
writes_sized now bytes c z = let p = pumped-small now (with_bytes bytes c) z in p.sized

pub closes_sized : (now : ℕ) (c : Connection) → Sized c → Sized (closes now c).now
unfolding closes
closes_sized now c z = let p = pumped-small now (record c { closing = true }) z in p.sized

pub opening_sized : (now mss : ℕ) → mss ≤ 9000 → Sized (opening now mss).now
unfolding opening
opening_sized now mss h = let p = sent-small now true false 0 (begun_conn true mss) (h, h) (omega arith) in p.sized
