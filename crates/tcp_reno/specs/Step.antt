-- What NewReno makes of acknowledgements and timeouts.
use Rattle.std.specs.Prelude.{ℕ, ◌+◌, ◌-◌, ◌*◌, ◌/◌, ◌^◌, ◌≤◌, ◌==◌, ◌&&◌, nat_le, nat_lt, Bool, true, false, if◌then◌else◌, Option, None, Some, List, [], ◌∷◌, min, max}
use Rattle.tcp_reno.specs.declared.RenoIn.{RenoIn}
use Rattle.tcp_reno.specs.declared.RenoIn.TheVariants.{NewAck, DupAck, Timeout}
use Rattle.tcp_reno.specs.declared.RenoAct.{RenoAct}
use Rattle.tcp_reno.specs.declared.RenoAct.TheVariants.{Resend}
use Rattle.tcp_reno.specs.NewReno.{NewReno, bounded}

-- the state after an input, and whether the first segment that isn't acknowledged is sent again
pub record Answer : Type 0 where
  pub state : NewReno
  pub acts : List RenoAct

abbrev pub silently : NewReno → Answer
silently r = record { state = r; acts = [] }

abbrev pub resending : NewReno → Answer
resending r = record { state = r; acts = Resend ∷ [] }

-- half of what is in flight, at least two full segments (RFC 5681, equation 4)
abbrev pub half_flight : NewReno → ℕ → ℕ
half_flight r flight = max (flight / 2) (2 * r.smss)

-- RFC 6582, 3.2, step 2: the third duplicate begins fast recovery
abbrev pub lost : NewReno → ℕ → ℕ → NewReno
lost r flight highest =
    record r {
      ssthresh = half_flight r flight;
      recover = highest;
      cwnd = half_flight r flight + 3 * r.smss;
      dup = 3;
      recovering = true;
    }

-- RFC 6582, 3.2, step 3, a full acknowledgement: fast recovery ends, and the window deflates
abbrev pub recovered : NewReno → ℕ → NewReno
recovered r flight =
    record r { cwnd = min r.ssthresh (max flight r.smss + r.smss); dup = 0; recovering = false }

-- RFC 6582, 3.2, step 3, a partial acknowledgement: the window deflates by what was acknowledged, and a full segment is
-- added back where at least so much was
abbrev pub deflated : NewReno → ℕ → NewReno
deflated r acked = record r { cwnd = r.cwnd - acked + (if nat_le r.smss acked then r.smss else 0) }

-- RFC 5681, 3.1: slow start below ssthresh, and congestion avoidance from there on
abbrev pub growth : NewReno → ℕ → ℕ
growth r acked = if nat_lt r.cwnd r.ssthresh then min acked r.smss else max 1 (r.smss * r.smss / r.cwnd)

abbrev pub grown : NewReno → ℕ → NewReno
grown r acked = record r { cwnd = r.cwnd + growth r acked; dup = 0 }

abbrev pub new_ack : NewReno → ℕ → ℕ → ℕ → Answer
new_ack r ack acked flight =
    if r.recovering then (if nat_le r.recover ack then silently (recovered r flight) else resending (deflated r acked))
    else silently (grown r acked)

-- one more duplicate, as far as 32 bits count
abbrev pub counted : ℕ → ℕ
counted dup = min (dup + 1) (2 ^ 32 - 1)

-- RFC 6582, 3.2, step 2: the third duplicate tells of a loss, unless the acknowledgement is of data from before the last
-- one; RFC 5681, 3.2, step 4: each further one tells that a segment has left
abbrev pub dup_ack : NewReno → ℕ → ℕ → ℕ → Answer
dup_ack r ack flight highest =
    if r.recovering then silently (record r { cwnd = r.cwnd + r.smss })
    else (if counted r.dup == 3 && nat_lt r.recover ack then resending (lost r flight highest)
    else silently (record r { dup = counted r.dup }))

abbrev pub is_at : Option ℕ → ℕ → Bool
is_at None una = false
is_at (Some timed_out) una = timed_out == una

-- RFC 5681, 3.1, and RFC 6582, 3.2, step 4: a timeout begins again with one full segment, and the threshold sinks once for
-- what is lost at one position
abbrev pub timeout : NewReno → ℕ → ℕ → ℕ → Answer
timeout r una flight highest =
    silently (record r {
      ssthresh = (if is_at r.timed_out una then r.ssthresh else half_flight r flight);
      cwnd = r.smss;
      recover = highest;
      dup = 0;
      recovering = false;
      timed_out = Some una;
    })

abbrev pub rule : NewReno → RenoIn → Answer
rule r (NewAck ack acked flight) = new_ack r ack acked flight
rule r (DupAck ack flight highest) = dup_ack r ack flight highest
rule r (Timeout una flight highest) = timeout r una flight highest

-- a rule's answer, with the window held within its bounds
abbrev pub within_bounds : Answer → Answer
within_bounds a = record a { state = bounded a.state }

abbrev pub step : NewReno → RenoIn → Answer
step r input = within_bounds (rule r input)

-- the state after a list of inputs
abbrev pub run : NewReno → List RenoIn → NewReno
run r [] = r
run r (input ∷ inputs) = run (step r input).state inputs

-- an acknowledgement of nothing above a position
abbrev pub IsAckUpTo : ℕ → RenoIn → Type 0
IsAckUpTo position (NewAck ack acked flight) = ack ≤ position
IsAckUpTo position (DupAck ack flight highest) = ack ≤ position
IsAckUpTo position (Timeout una flight highest) = ⊥
