-- What a connection sends takes nothing in.
use Rattle.std.proofs.Common.{◌≡◌, ℕ, zero, suc, ◌-◌, Bool, true, false, cond, nat_lt, nat_le, not, ◌==◌, ◌&&◌, ◌||◌, List, [], ◌∷◌, ◌++◌, Option, None, Some, refl, ap, ◌∙◌}
use Rattle.tcp_reno.specs.declared.RenoIn.{RenoIn}
use Rattle.tcp_reno.specs.declared.RenoIn.TheVariants.{NewAck, DupAck}
use Rattle.tcp_reno.specs.declared.RenoAct.{RenoAct}
use Rattle.tcp_reno.specs.Step as reno
use Rattle.tcp_stream.specs.History.Told.{Deliver as Delivered, End as Ended}
use Rattle.tcp_conn.specs.declared.words.Heard.{Heard}
use Rattle.tcp_conn.specs.declared.words.Effect.{Effect}
use Rattle.tcp_conn.specs.declared.words.Effect.TheVariants.{Connected, Deliver, End}
use Rattle.tcp_conn.specs.declared.connection.Phase.{Phase}
use Rattle.tcp_conn.specs.declared.connection.Phase.TheVariants.{SynSent, SynReceived, FinWait1, LastAck}
use Rattle.tcp_conn.specs.declared.connection.Timed.{Timed}
use Rattle.tcp_conn.specs.declared.connection.Connection.{Connection}
use Rattle.tcp_conn.specs.RoundTrip.{with_sample}
use Rattle.tcp_conn.specs.Send.{Stepped, silently, with_effect, and_then, first_again, first_size, resent, in_flight, next_size, may_send, data_sent, fin_sent, sends_data, pumped, resends, controlled, timer_at, timer_restarted, sent, repeated, acknowledged, written_end}
use Rattle.tcp_conn.specs.Step.{reset, dropped, established, in_syn_sent, sampled, advanced, moved_on, told_room, goes_on, settled, new_ack, is_duplicate, dup_ack, took_window, counted_ack, acks, answers_syn, hears_reset, sent_again, timed_out, times_out}
use Rattle.tcp_conn.specs.Begin.{writes, closes, with_bytes}
use Rattle.tcp_conn.specs.Following.{told_by, IsQuiet}

pub told_by-append : (xs ys : List Effect) → told_by (xs ++ ys) ≡ told_by xs ++ told_by ys
told_by-append [] ys = refl
told_by-append (Deliver bytes ∷ xs) ys = ap (λ l. Delivered bytes ∷ l) (told_by-append xs ys)
told_by-append (End ∷ xs) ys = ap (λ l. Ended ∷ l) (told_by-append xs ys)
told_by-append (other ∷ xs) ys = told_by-append xs ys

pub quiet-then : (c : Connection) (s : Stepped) (f : Connection → Stepped) → IsQuiet c s → IsQuiet s.now (f s.now) → IsQuiet c (and_then s f)
quiet-then c s f q r =
    record {
      sink = r.sink ∙ q.sink;
      side = r.side ∙ q.side;
      told = told_by-append s.effects (f s.now).effects ∙ ap (λ l. l ++ told_by (f s.now).effects) q.told ∙ r.told;
    }

pub quiet-if : (c : Connection) (b : Bool) (x y : Stepped) → IsQuiet c x → IsQuiet c y → IsQuiet c (cond b x y)
quiet-if c true x y p q = p
quiet-if c false x y p q = q

-- a change of what a connection sends keeps its sink
pub quiet-from : (c d : Connection) (s : Stepped) → d.sink ≡ c.sink → d.opener ≡ c.opener → IsQuiet d s → IsQuiet c s
quiet-from c d s sink side q = record { sink = q.sink ∙ sink; side = q.side ∙ side; told = q.told }

pub silent : (c : Connection) → IsQuiet c (silently c)
silent c = record { sink = refl; side = refl; told = refl }

none-or-timer : (b : Bool) (now : ℕ) (c : Connection) → told_by (cond b [] (timer_at now c ∷ [])) ≡ []
none-or-timer true now c = refl
none-or-timer false now c = refl

timer-or-none : (b : Bool) (now : ℕ) (c : Connection) → told_by (cond b (timer_at now c ∷ []) []) ≡ []
timer-or-none true now c = refl
timer-or-none false now c = refl

pub restarted-quiet : (now : ℕ) (c : Connection) → IsQuiet c (timer_restarted now c)
restarted-quiet now c = record { sink = refl; side = refl; told = timer-or-none (nat_lt c.una c.max) now c }

pub sent-quiet : (now : ℕ) (syn fin : Bool) (bytes : ℕ) (c : Connection) → IsQuiet c (sent now syn fin bytes c)
sent-quiet now syn fin bytes c = record { sink = refl; side = refl; told = none-or-timer c.timer now c }

pub repeated-quiet : (now : ℕ) (syn fin : Bool) (bytes : ℕ) (c : Connection) → IsQuiet c (repeated now syn fin bytes c)
repeated-quiet now syn fin bytes c = record { sink = refl; side = refl; told = none-or-timer c.timer now c }

pub acknowledged-quiet : (c : Connection) → IsQuiet c (acknowledged c)
acknowledged-quiet c = record { sink = refl; side = refl; told = refl }

pub reset-quiet : (c : Connection) → IsQuiet c (reset c)
reset-quiet c = record { sink = refl; side = refl; told = refl }

pub dropped-quiet : (c : Connection) → IsQuiet c (dropped c)
dropped-quiet c = record { sink = refl; side = refl; told = refl }

resent-quiet : (now : ℕ) (c : Connection) → IsQuiet c (resent now c)
resent-quiet now c =
    quiet-if c (nat_lt c.una c.max) (first_again now c) (silently c)
    (quiet-if c (c.una == 0) (repeated now true false 0 c) (repeated now false (first_size c == 0) (first_size c) c)
    (repeated-quiet now true false 0 c)
    (repeated-quiet now false (first_size c == 0) (first_size c) c))
    (silent c)

data-quiet : (now more : ℕ) (c : Connection) → IsQuiet c (data_sent now more c)
unfolding data_sent
data-quiet now zero c = silent c
data-quiet now (suc more) c =
    quiet-if c (may_send c) (and_then (sent now false false (next_size c) c) (data_sent now more)) (silently c)
    (quiet-then c (sent now false false (next_size c) c) (data_sent now more)
    (sent-quiet now false false (next_size c) c)
    (data-quiet now more (sent now false false (next_size c) c).now))
    (silent c)

fin-quiet : (now : ℕ) (c : Connection) → IsQuiet c (fin_sent now c)
fin-quiet now c =
    quiet-if c (c.closing && c.nxt == written_end c) (sent now false true 0 (record c { phase = FinWait1 })) (silently c)
    (quiet-from c (record c { phase = FinWait1 }) (sent now false true 0 (record c { phase = FinWait1 })) refl refl
    (sent-quiet now false true 0 (record c { phase = FinWait1 })))
    (silent c)

pub pumped-quiet : (now : ℕ) (c : Connection) → IsQuiet c (pumped now c)
pumped-quiet now c =
    quiet-if c (c.opener && sends_data c.phase) (and_then (data_sent now (written_end c - c.nxt) c) (fin_sent now)) (silently c)
    (quiet-then c (data_sent now (written_end c - c.nxt) c) (fin_sent now)
    (data-quiet now (written_end c - c.nxt) c)
    (fin-quiet now (data_sent now (written_end c - c.nxt) c).now))
    (silent c)

resends-quiet : (now : ℕ) (acts : List RenoAct) (c : Connection) → IsQuiet c (resends now acts c)
resends-quiet now [] c = silent c
resends-quiet now (act ∷ acts) c = resent-quiet now c

controlled-quiet : (now : ℕ) (input : RenoIn) (c : Connection) → IsQuiet c (controlled now input c)
controlled-quiet now input c =
    let answer = reno.step c.reno input in
    let d = record c { reno = answer.state } in
    quiet-from c d (resends now answer.acts d) refl refl (resends-quiet now answer.acts d)

-- acknowledgements take nothing in

sampled-sink : (now ack : ℕ) (timed : Option Timed) (c : Connection) → (sampled now ack timed c).sink ≡ c.sink
sampled-sink now ack None c = refl
sampled-sink now ack (Some t) c =
    elim (nat_le t.end ack) as (λ b. (cond b (record c { round_trip = with_sample (now - t.at.0) c.round_trip; timed = None }) c).sink ≡ c.sink) [ true ↦ refl | false ↦ refl ]

sampled-side : (now ack : ℕ) (timed : Option Timed) (c : Connection) → (sampled now ack timed c).opener ≡ c.opener
sampled-side now ack None c = refl
sampled-side now ack (Some t) c =
    elim (nat_le t.end ack) as (λ b. (cond b (record c { round_trip = with_sample (now - t.at.0) c.round_trip; timed = None }) c).opener ≡ c.opener) [ true ↦ refl | false ↦ refl ]

settled-quiet : (now ack : ℕ) (c : Connection) → IsQuiet c (settled now ack c)
unfolding settled
settled-quiet now ack c =
    let d = moved_on ack (advanced ack (sampled now ack c.timed c)) in
    quiet-from c d (timer_restarted now d) (sampled-sink now ack c.timed c) (sampled-side now ack c.timed c) (restarted-quiet now d)

goes_on-quiet : (now ack acked : ℕ) (c : Connection) → IsQuiet c (goes_on now ack acked c)
unfolding goes_on
goes_on-quiet now ack acked c =
    let s = controlled now (NewAck ack acked (in_flight c)) c in
    let t = and_then s (pumped now) in
    quiet-if c (sends_data c.phase) (and_then t told_room) (silently c)
    (quiet-then c t told_room
    (quiet-then c s (pumped now) (controlled-quiet now (NewAck ack acked (in_flight c)) c) (pumped-quiet now s.now))
    (record { sink = refl; side = refl; told = refl }))
    (silent c)

new_ack-quiet : (now ack : ℕ) (c : Connection) → IsQuiet c (new_ack now ack c)
unfolding new_ack
new_ack-quiet now ack c =
    quiet-then c (settled now ack c) (goes_on now ack (ack - c.una)) (settled-quiet now ack c) (goes_on-quiet now ack (ack - c.una) (settled now ack c).now)

dup_ack-quiet : (now ack : ℕ) (c : Connection) → IsQuiet c (dup_ack now ack c)
dup_ack-quiet now ack c =
    let s = controlled now (DupAck ack (in_flight c) c.max) c in
    quiet-then c s (pumped now) (controlled-quiet now (DupAck ack (in_flight c) c.max) c) (pumped-quiet now s.now)

counted-quiet : (now : ℕ) (s : Heard) (bytes : List ℕ) (c : Connection) → IsQuiet c (counted_ack now s bytes c)
unfolding counted_ack
counted-quiet now s bytes c =
    quiet-if c (nat_lt c.una s.ack) (new_ack now s.ack c) (cond (is_duplicate s bytes c) (dup_ack now s.ack c) (silently c))
    (new_ack-quiet now s.ack c)
    (quiet-if c (is_duplicate s bytes c) (dup_ack now s.ack c) (silently c) (dup_ack-quiet now s.ack c) (silent c))

pub acks-quiet : (now : ℕ) (s : Heard) (bytes : List ℕ) (c : Connection) → IsQuiet c (acks now s bytes c)
unfolding acks
acks-quiet now s bytes c =
    let t = counted_ack now s bytes c in
    quiet-if c (nat_lt s.ack c.una || nat_lt c.max s.ack) (silently c) (and_then t (took_window s.window))
    (silent c)
    (quiet-then c t (took_window s.window) (counted-quiet now s bytes c) (record { sink = refl; side = refl; told = refl }))

-- nor do a SYN, a reset, a timeout, and what the application asks for

pub answers-quiet : (now : ℕ) (p : Phase) (c : Connection) → IsQuiet c (answers_syn now p c)
answers-quiet now SynReceived c = repeated-quiet now true false 0 c
answers-quiet now other c = acknowledged-quiet c

pub hears_reset-quiet : (s : Heard) (c : Connection) → IsQuiet c (hears_reset s c)
hears_reset-quiet s c = quiet-if c (s.seq == c.sink.rcv) (reset c) (dropped c) (reset-quiet c) (dropped-quiet c)

pub syn_sent-quiet : (now : ℕ) (s : Heard) (c : Connection) → IsQuiet c (in_syn_sent now s c)
syn_sent-quiet now s c =
    let d = established c s in
    let a = and_then (acknowledged d) (pumped now) in
    quiet-if c (s.rst && s.ack == 1) (reset c) (cond (s.syn && (s.has_ack && (s.seq == 0 && s.ack == 1))) (and_then a (with_effect Connected)) (dropped c))
    (reset-quiet c)
    (quiet-if c (s.syn && (s.has_ack && (s.seq == 0 && s.ack == 1))) (and_then a (with_effect Connected)) (dropped c)
    (quiet-from c d (and_then a (with_effect Connected)) refl refl
    (quiet-then d a (with_effect Connected)
    (quiet-then d (acknowledged d) (pumped now) (acknowledged-quiet d) (pumped-quiet now d))
    (record { sink = refl; side = refl; told = refl })))
    (dropped-quiet c))

again-quiet : (now : ℕ) (p : Phase) (c : Connection) → IsQuiet c (sent_again now p c)
again-quiet now SynSent c = sent-quiet now true false 0 c
again-quiet now SynReceived c = sent-quiet now true false 0 c
again-quiet now LastAck c = sent-quiet now false true 0 c
again-quiet now other c = pumped-quiet now c

pub times_out-quiet : (now : ℕ) (c : Connection) → IsQuiet c (times_out now c)
unfolding times_out
times_out-quiet now c =
    let d = timed_out c in
    let s = sent_again now c.phase d in
    let t = and_then s (timer_restarted now) in
    quiet-if c (not c.timer) (silently c) (cond (nat_le 12 c.tries) (reset c) t)
    (silent c)
    (quiet-if c (nat_le 12 c.tries) (reset c) t (reset-quiet c)
    (quiet-from c d t refl refl (quiet-then d s (timer_restarted now) (again-quiet now c.phase d) (restarted-quiet now s.now))))

pub writes-quiet : (now : ℕ) (bytes : List ℕ) (c : Connection) → IsQuiet c (writes now bytes c)
unfolding writes
writes-quiet now bytes c =
    let d = with_bytes bytes c in quiet-from c d (pumped now d) refl refl (pumped-quiet now d)

pub closes-quiet : (now : ℕ) (c : Connection) → IsQuiet c (closes now c)
unfolding closes
closes-quiet now c =
    let d = record c { closing = true } in quiet-from c d (pumped now d) refl refl (pumped-quiet now d)
