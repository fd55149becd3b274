-- The windows of rounds: when each begins, and what becomes of a group in it.
use Rattle.std.specs.Prelude.{ℕ, List, fold, min, nat_lt, Option, Some, None, if◌then◌else◌}
use Rattle.sim_base.specs.declared.key.Key.{Key}
use Rattle.sim_base.specs.declared.time.Time.{Time}
use Rattle.lp_run.specs.declared.stop.LpStop.{LpStop}
use Rattle.lp_run.specs.Lp.{HasRun, HasStopped, PlainLp}
use Rattle.lp_run.specs.Pending.{first_key}

-- a group after a round, and why it has stopped before the window's end, if it has
abbrev pub Gone : Type 0
Gone = PlainLp × Option LpStop

-- a group has run to the window's end, or has stopped before it
abbrev pub HasGone : ℕ → PlainLp → PlainLp → Option LpStop → Type 0
HasGone end old new None = HasRun end old new
HasGone end old new (Some stop) = HasStopped end old new stop

-- the sooner of a time and that of a key
abbrev pub sooner_time : Time → Option Time → Option Time
sooner_time time None = Some time
sooner_time time (Some least) = Some (record { 0 = min least.0 time.0 })

abbrev pub sooner_of : Option Time → Option Key → Option Time
sooner_of least None = least
sooner_of least (Some key) = sooner_time key.time least

-- when the first event of groups comes
abbrev pub least_time : List Gone → Option Time
least_time groups = fold (λ least group. sooner_of least (first_key group.0.pending)) None groups

-- a time that comes before the stop
abbrev pub before_stop : Time → Option Time → Option Time
before_stop stop None = None
before_stop stop (Some time) = if nat_lt time.0 stop.0 then Some time else None
