-- What a connection sends: a segment at nxt, one again at una, an acknowledgement, and what the windows let it send.
use Rattle.std.specs.Prelude.{ℕ, zero, suc, ◌+◌, ◌-◌, ◌==◌, ◌^◌, ◌&&◌, nat_le, nat_lt, Bool, true, false, if◌then◌else◌, List, [], ◌∷◌, ◌++◌, length, Option, None, Some, min, max}
use Rattle.std.specs.Option.{option_or}
use Rattle.tcp_reno.specs.declared.RenoIn.{RenoIn}
use Rattle.tcp_reno.specs.declared.RenoAct.{RenoAct}
use Rattle.tcp_reno.specs.Step as reno
use Rattle.tcp_conn.specs.declared.words.Outgoing.{Outgoing}
use Rattle.tcp_conn.specs.declared.words.Effect.{Effect}
use Rattle.tcp_conn.specs.declared.words.Effect.TheVariants.{Emit, TimerAt}
use Rattle.tcp_conn.specs.declared.connection.Phase.{Phase}
use Rattle.tcp_conn.specs.declared.connection.Phase.TheVariants.{Established, FinWait1}
use Rattle.tcp_conn.specs.declared.connection.Timed.{Timed}
use Rattle.tcp_conn.specs.declared.connection.Connection.{Connection}

-- a connection after a step, and what it asks for then, in this order
pub record Stepped : Type 0 where
  pub now : Connection
  pub effects : List Effect

abbrev pub silently : Connection → Stepped
silently c = record { now = c; effects = [] }

abbrev pub with_effect : Effect → Connection → Stepped
with_effect e c = record { now = c; effects = e ∷ [] }

-- one thing after another
abbrev pub and_then : Stepped → (Connection → Stepped) → Stepped
and_then s f = record { now = (f s.now).now; effects = s.effects ++ (f s.now).effects }

-- the position behind the last byte written
abbrev pub written_end : Connection → ℕ
written_end c = max c.una 1 + length c.buffer

-- how many bytes can be written: the buffer holds 131072, and a connection carries 2 ^ 30 in all; none after a close
abbrev pub room : Connection → ℕ
room c = if c.closing then 0 else min (131072 - length c.buffer) (2 ^ 30 + 1 - written_end c)

-- SYN and FIN have a position of their own
abbrev pub one : Bool → ℕ
one b = if b then 1 else 0

-- every segment but the opener's SYN has an acknowledgement, and a SYN names the greatest segment size
abbrev pub outgoing : Connection → ℕ → Bool → Bool → ℕ → Outgoing
outgoing c position syn fin bytes =
    record {
      position = position;
      ack = (if syn && c.opener then None else Some c.sink.rcv);
      syn = syn;
      fin = fin;
      mss = (if syn then Some c.mss else None);
      bytes = bytes;
    }

abbrev pub timer_at : ℕ → Connection → Effect
timer_at now c = TimerAt (record { 0 = now + c.round_trip.rto })

-- sending starts the timer, where it doesn't run (RFC 6298, 5.1)
abbrev pub timer_started : ℕ → Connection → Stepped
timer_started now c = record { now = record c { timer = true }; effects = (if c.timer then [] else timer_at now c ∷ []) }

-- an acknowledgement starts it anew, or stops it where nothing is left to be acknowledged (RFC 6298, 5.2 and 5.3)
abbrev pub timer_restarted : ℕ → Connection → Stepped
timer_restarted now c =
    record {
      now = record c { timer = nat_lt c.una c.max };
      effects = (if nat_lt c.una c.max then timer_at now c ∷ [] else []);
    }

-- a segment sent for the first time is timed, while none is; a repetition is never timed, and ends what is (RFC 6298, 3)
abbrev pub timed_by : ℕ → Connection → ℕ → Option Timed
timed_by now c end =
    if nat_lt c.nxt c.max then None else option_or c.timed (Some (record { end = end; at = record { 0 = now } }))

-- a segment at nxt
abbrev pub sent : ℕ → Bool → Bool → ℕ → Connection → Stepped
sent now syn fin bytes c =
    let end = c.nxt + bytes + one syn + one fin in
    and_then (with_effect (Emit (outgoing c c.nxt syn fin bytes)) (record c { nxt = end; max = max c.max end; timed = timed_by now c end })) (timer_started now)

-- the segment at una again
abbrev pub repeated : ℕ → Bool → Bool → ℕ → Connection → Stepped
repeated now syn fin bytes c =
    and_then (with_effect (Emit (outgoing c c.una syn fin bytes)) (record c { timed = None })) (timer_started now)

-- an acknowledgement alone
abbrev pub acknowledged : Connection → Stepped
acknowledged c = with_effect (Emit (outgoing c c.nxt false false 0)) c

-- the first segment of what was sent and isn't acknowledged: data, or the FIN behind all data
abbrev pub first_size : Connection → ℕ
first_size c = min c.reno.smss (min c.max (written_end c) - c.una)

abbrev pub first_again : ℕ → Connection → Stepped
first_again now c =
    if c.una == 0 then repeated now true false 0 c else repeated now false (first_size c == 0) (first_size c) c

abbrev pub resent : ℕ → Connection → Stepped
resent now c = if nat_lt c.una c.max then first_again now c else silently c

abbrev pub in_flight : Connection → ℕ
in_flight c = c.nxt - c.una

-- how many bytes the next segment carries, and whether the windows let it go
abbrev pub next_size : Connection → ℕ
next_size c = min c.reno.smss (written_end c - c.nxt)

abbrev pub may_send : Connection → Bool
may_send c = nat_lt 0 (next_size c) && nat_le (in_flight c + next_size c) (min c.reno.cwnd c.peer_window)

-- segments of data while the windows let them go, so many at most
unfoldable pub data_sent : ℕ → ℕ → Connection → Stepped
data_sent now zero c = silently c
data_sent now (suc more) c =
    if may_send c then and_then (sent now false false (next_size c) c) (data_sent now more) else silently c

-- behind all data, after a close, the FIN
abbrev pub fin_sent : ℕ → Connection → Stepped
fin_sent now c =
    if c.closing && c.nxt == written_end c then sent now false true 0 (record c { phase = FinWait1 }) else silently c

abbrev pub sends_data : Phase → Bool
sends_data Established = true
sends_data FinWait1 = true
sends_data other = false

-- all that may be sent now
abbrev pub pumped : ℕ → Connection → Stepped
pumped now c =
    if c.opener && sends_data c.phase then and_then (data_sent now (written_end c - c.nxt) c) (fin_sent now) else silently c

-- what congestion control asks for
abbrev pub resends : ℕ → List RenoAct → Connection → Stepped
resends now [] c = silently c
resends now (act ∷ acts) c = resent now c

abbrev pub controlled : ℕ → RenoIn → Connection → Stepped
controlled now input c =
    let answer = reno.step c.reno input in resends now answer.acts (record c { reno = answer.state })
