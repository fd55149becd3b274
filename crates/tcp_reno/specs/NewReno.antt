-- NewReno's part of a connection, under the names of RFC 5681 and RFC 6582, and its start.
use Rattle.std.specs.Prelude.{ℕ, ◌*◌, ◌^◌, nat_le, Bool, false, if◌then◌else◌, Option, None, min, max}

pub record NewReno : Type 0 where
  pub smss : ℕ  -- the size of a full segment, in bytes
  pub cwnd : ℕ  -- how many bytes may be in flight
  pub ssthresh : ℕ  -- where slow start ends
  pub dup : ℕ  -- duplicate acknowledgements in a row
  pub recover : ℕ  -- the highest position sent when the last loss was noticed
  pub recovering : Bool  -- in fast recovery
  pub timed_out : Option ℕ  -- una at the last timeout

-- the congestion window is never less than one full segment, and never more than 2 ^ 30 bytes
abbrev pub bounded : NewReno → NewReno
bounded r = record r { cwnd = max (min r.cwnd (2 ^ 30)) r.smss }

-- the initial window (RFC 5681, 3.1): one full segment after a SYN that was lost
abbrev pub initial_window : ℕ → Bool → ℕ
initial_window smss repeated =
    if repeated then smss
    else (if nat_le smss 1095 then 4 * smss else (if nat_le smss 2190 then 3 * smss else 2 * smss))

abbrev pub start : ℕ → Bool → NewReno
start smss repeated =
    record {
      smss = smss;
      cwnd = initial_window smss repeated;
      ssthresh = 65535;
      dup = 0;
      recover = 0;
      recovering = false;
      timed_out = None;
    }
