-- The table of a connection (RFC 9293, 3.10), by its state and by what a segment carries.
use Rattle.std.specs.Prelude.{ℕ, ◌+◌, ◌-◌, ◌==◌, ◌&&◌, ◌||◌, not, nat_le, nat_lt, Bool, true, false, if◌then◌else◌, List, length, map, drop, Option, None, Some, min, max}
use Rattle.tcp_reno.specs.declared.RenoIn.TheVariants.{NewAck, DupAck, Timeout}
use Rattle.tcp_reno.specs.NewReno.{start}
use Rattle.tcp_reno.specs.Step as reno
use Rattle.tcp_stream.specs.History.{Sink, Told, Segment, receive}
use Rattle.tcp_stream.specs.History.Told.{Deliver as Delivered, End as Ended}
use Rattle.tcp_conn.specs.declared.words.Heard.{Heard}
use Rattle.tcp_conn.specs.declared.words.Effect.{Effect}
use Rattle.tcp_conn.specs.declared.words.Effect.TheVariants.{Connected, Room, Deliver, End, Reset, Dropped}
use Rattle.tcp_conn.specs.declared.connection.Phase.{Phase}
use Rattle.tcp_conn.specs.declared.connection.Phase.TheVariants.{SynSent, SynReceived, Established, FinWait1, FinWait2, TimeWait, LastAck, Closed}
use Rattle.tcp_conn.specs.declared.connection.Timed.{Timed}
use Rattle.tcp_conn.specs.declared.connection.Connection.{Connection}
use Rattle.tcp_conn.specs.RoundTrip.{with_sample, backed_off}
use Rattle.tcp_conn.specs.Send.{Stepped, silently, with_effect, and_then, room, timer_restarted, sent, repeated, acknowledged, in_flight, sends_data, pumped, controlled}

abbrev pub reset : Connection → Stepped
reset c = with_effect Reset (record c { phase = Closed; timer = false })

abbrev pub dropped : Connection → Stepped
dropped c = with_effect Dropped c

-- SynSent (3.10.7.3)

-- full segments are no longer than either side's greatest size: 536 where the other side names none, and never below 64
abbrev pub named_size : Option ℕ → ℕ
named_size None = 536
named_size (Some mss) = max mss 64

abbrev pub agreed_size : Connection → Heard → ℕ
agreed_size c s = min c.mss (named_size s.mss)

abbrev pub established : Connection → Heard → Connection
established c s =
    record c {
      phase = Established;
      una = 1;
      nxt = max c.nxt 1;
      timer = false;
      reno = start (agreed_size c s) (nat_lt 0 c.tries);
    }

abbrev pub in_syn_sent : ℕ → Heard → Connection → Stepped
in_syn_sent now s c =
    if s.rst && s.ack == 1 then reset c
    else (if s.syn && (s.has_ack && (s.seq == 0 && s.ack == 1)) then and_then (and_then (acknowledged (established c s)) (pumped now)) (with_effect Connected)
    else dropped c)

-- acknowledgements (3.10.7.4, fifth)

-- a timed segment that is covered gives a sample
abbrev pub sampled : ℕ → ℕ → Option Timed → Connection → Connection
sampled now ack None c = c
sampled now ack (Some t) c =
    if nat_le t.end ack then record c { round_trip = with_sample (now - t.at.0) c.round_trip; timed = None } else c

abbrev pub advanced : ℕ → Connection → Connection
advanced ack c = record c { una = ack; nxt = max c.nxt ack; buffer = drop (ack - c.una) c.buffer; tries = 0 }

-- what a state becomes when more of what was sent is acknowledged, or all
abbrev pub acked_phase : Bool → Phase → Phase
acked_phase all SynReceived = Established
acked_phase all FinWait1 = if all then FinWait2 else FinWait1
acked_phase all LastAck = Closed
acked_phase all other = other

abbrev pub moved_on : ℕ → Connection → Connection
moved_on ack c = record c { phase = acked_phase (ack == c.max) c.phase }

abbrev pub told_room : Connection → Stepped
told_room c = with_effect (Room (room c)) c

-- in Established and FinWait1: congestion control, what may be sent now, and room
unfoldable pub goes_on : ℕ → ℕ → ℕ → Connection → Stepped
goes_on now ack acked c =
    if sends_data c.phase then and_then (and_then (controlled now (NewAck ack acked (in_flight c)) c) (pumped now)) told_room
    else silently c

-- more is acknowledged: a sample, what is given up, the state, and the timer
unfoldable pub settled : ℕ → ℕ → Connection → Stepped
settled now ack c = timer_restarted now (moved_on ack (advanced ack (sampled now ack c.timed c)))

unfoldable pub new_ack : ℕ → ℕ → Connection → Stepped
new_ack now ack c = and_then (settled now ack c) (goes_on now ack (ack - c.una))

-- an acknowledgement of what is acknowledged already, while something is in flight, that says nothing else
abbrev pub is_duplicate : Heard → List ℕ → Connection → Bool
is_duplicate s bytes c =
    s.ack == c.una && (nat_lt c.una c.nxt && (length bytes == 0 && (not s.fin && s.window == c.peer_window)))

abbrev pub dup_ack : ℕ → ℕ → Connection → Stepped
dup_ack now ack c = and_then (controlled now (DupAck ack (in_flight c) c.max) c) (pumped now)

abbrev pub took_window : ℕ → Connection → Stepped
took_window window c = silently (record c { peer_window = window })

unfoldable pub counted_ack : ℕ → Heard → List ℕ → Connection → Stepped
counted_ack now s bytes c =
    if nat_lt c.una s.ack then new_ack now s.ack c else (if is_duplicate s bytes c then dup_ack now s.ack c else silently c)

-- a number of what was acknowledged before, or of what was never sent, is passed over
unfoldable pub acks : ℕ → Heard → List ℕ → Connection → Stepped
acks now s bytes c =
    if nat_lt s.ack c.una || nat_lt c.max s.ack then silently c
    else and_then (counted_ack now s bytes c) (took_window s.window)

-- data and FIN (3.10.7.4, seventh and eighth)

abbrev pub effect_of : Told → Effect
effect_of (Delivered bytes) = Deliver bytes
effect_of Ended = End

abbrev pub has_content : Heard → List ℕ → Bool
has_content s bytes = nat_lt 0 (length bytes) || s.fin

-- the sink takes data and FIN in, and acknowledges; where the end has come it sends its own FIN
abbrev pub carried : Heard → List ℕ → Segment
carried s bytes = record { seq = s.seq; syn = false; fin = s.fin; bytes = bytes }

abbrev pub answered : ℕ → Connection → Stepped
answered now c =
    if c.sink.ended then sent now false true 0 (record c { phase = LastAck }) else acknowledged c

abbrev pub received : Heard → List ℕ → Connection → Stepped
received s bytes c =
    let r = receive c.sink (carried s bytes) in record { now = record c { sink = r.0 }; effects = map effect_of r.1 }

-- where the end has come already, nothing more is taken in
abbrev pub taken_in : ℕ → Heard → List ℕ → Connection → Stepped
taken_in now s bytes c =
    if c.sink.ended then acknowledged c else and_then (received s bytes c) (answered now)

abbrev pub sink_takes : ℕ → Heard → List ℕ → Phase → Connection → Stepped
sink_takes now s bytes Established c = taken_in now s bytes c
sink_takes now s bytes LastAck c = acknowledged c
sink_takes now s bytes other c = silently c

-- the opener passes data over; the sink's FIN ends the connection's work
abbrev pub past_fin : Sink → Sink
past_fin k = if k.ended then k else record k { rcv = k.rcv + 1; ended = true }

abbrev pub ended : Connection → Stepped
ended c = acknowledged (record c { phase = TimeWait; sink = past_fin c.sink })

abbrev pub fin_taken : Heard → Phase → Connection → Stepped
fin_taken s FinWait2 c = if s.seq == c.sink.rcv then ended c else silently c
fin_taken s TimeWait c = acknowledged c
fin_taken s other c = silently c

abbrev pub opener_takes : Heard → Connection → Stepped
opener_takes s c = if s.fin then fin_taken s c.phase c else silently c

unfoldable pub takes : ℕ → Heard → List ℕ → Connection → Stepped
takes now s bytes c =
    if c.opener then opener_takes s c
    else (if has_content s bytes then sink_takes now s bytes c.phase c else silently c)

-- the states behind SynSent (3.10.7.4): reset, SYN, and then acknowledgement, data and FIN

abbrev pub answers_syn : ℕ → Phase → Connection → Stepped
answers_syn now SynReceived c = repeated now true false 0 c
answers_syn now other c = acknowledged c

abbrev pub hears_reset : Heard → Connection → Stepped
hears_reset s c = if s.seq == c.sink.rcv then reset c else dropped c

abbrev pub in_later_states : ℕ → Heard → List ℕ → Connection → Stepped
in_later_states now s bytes c =
    if s.rst then hears_reset s c
    else (if s.syn then answers_syn now c.phase c
    else (if s.has_ack then and_then (acks now s bytes c) (takes now s bytes) else dropped c))

abbrev pub hears_in : Phase → ℕ → Heard → List ℕ → Connection → Stepped
hears_in SynSent now s bytes c = in_syn_sent now s c
hears_in Closed now s bytes c = silently c
hears_in other now s bytes c = in_later_states now s bytes c

-- a segment comes
unfoldable pub hears : ℕ → Heard → List ℕ → Connection → Stepped
hears now s bytes c = hears_in c.phase now s bytes c

-- the retransmission timer fires (3.10.8)

-- what is sent again from una on
abbrev pub sent_again : ℕ → Phase → Connection → Stepped
sent_again now SynSent c = sent now true false 0 c
sent_again now SynReceived c = sent now true false 0 c
sent_again now LastAck c = sent now false true 0 c
sent_again now other c = pumped now c

abbrev pub timed_out : Connection → Connection
timed_out c =
    record c {
      tries = c.tries + 1;
      reno = (reno.step c.reno (Timeout c.una (in_flight c) c.max)).state;
      round_trip = backed_off c.round_trip;
      timed = None;
      nxt = c.una;
    }

unfoldable pub times_out : ℕ → Connection → Stepped
times_out now c =
    if not c.timer then silently c
    else (if nat_le 12 c.tries then reset c else and_then (sent_again now c.phase (timed_out c)) (timer_restarted now))
