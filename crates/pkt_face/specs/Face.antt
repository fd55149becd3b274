-- What the calls of a packet answer about its tags.
use Rattle.std.specs.Prelude.{ℕ, ◌≡◌, ◌≢◌, Option, Result, Ok, Err, MatchOption, IsErr}
use Rattle.sim_base.specs.declared.tags.TagStop.{TagStop}
use Rattle.sim_base.specs.declared.tags.TagStop.TheVariants.{Present}
use Rattle.sim_base.specs.declared.tags.Absent.{Absent}

-- the call stopped at a held tag exactly where there was one, and gives its value
abbrev pub StopsAtHeld : Option ℕ → Result (Unit {0}) TagStop → Type 0
StopsAtHeld held result = MatchOption held ((value : ℕ) → result ≢ Err (Present value)) (λ value. result ≡ Err (Present value))

-- the call gives the held value, and answers that there is none exactly where there is none
abbrev pub GivesHeld : Option ℕ → Result ℕ Absent → Type 0
GivesHeld held result = MatchOption held (IsErr result) (λ value. result ≡ Ok value)
