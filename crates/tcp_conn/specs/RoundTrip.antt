-- The retransmission timeout (RFC 6298), in nanoseconds.
use Rattle.std.specs.Prelude.{ℕ, ◌+◌, ◌*◌, ◌/◌, ◌^◌, min, max, Bool, true, false, if◌then◌else◌}
use Rattle.std.specs.Int.{abs_diff}

pub record Estimate : Type 0 where
  pub srtt : ℕ  -- the smoothed round-trip time
  pub rttvar : ℕ  -- its variation
  pub rto : ℕ  -- the retransmission timeout
  pub sampled : Bool

abbrev pub millisecond : ℕ
millisecond = 10 ^ 6

abbrev pub second : ℕ
second = 10 ^ 9

-- before any sample (2.1)
abbrev pub unsampled : Estimate
unsampled = record { srtt = 0; rttvar = 0; rto = second; sampled = false }

-- the timeout that an estimate gives, from one second to sixty (2.2 to 2.5)
abbrev pub timeout_of : ℕ → ℕ → ℕ
timeout_of srtt rttvar = min (max (srtt + max millisecond (4 * rttvar)) second) (60 * second)

abbrev pub estimate : ℕ → ℕ → Estimate
estimate srtt rttvar = record { srtt = srtt; rttvar = rttvar; rto = timeout_of srtt rttvar; sampled = true }

-- after a sample: the first (2.2), and each later one (2.3), whose variation is taken before the mean
abbrev pub with_sample : ℕ → Estimate → Estimate
with_sample r e =
    if e.sampled then estimate ((7 * e.srtt + r) / 8) ((3 * e.rttvar + abs_diff e.srtt r) / 4)
    else estimate r (r / 2)

-- after a timeout (5.5)
abbrev pub backed_off : Estimate → Estimate
backed_off e = record e { rto = min (2 * e.rto) (60 * second) }
