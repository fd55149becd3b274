-- A device at one end of a link.
use Rattle.std.specs.Prelude.{ℕ, ◌≤◌, ◌^◌, Bool}
use Rattle.sim_base.specs.Losses.{PlainLoss}

-- bits per second, the link's delay in nanoseconds, whether its frames are traced, whether it is sending one, and which of the frames
-- that come to it are lost or damaged
pub record Device : Type 0 where
  pub rate : ℕ
  pub delay : ℕ
  pub traced : Bool
  pub busy : Bool
  pub loss : PlainLoss

-- a device within the limits
abbrev pub IsDevice : Device → Type 0
IsDevice d = (1 ≤ d.rate) × (d.rate ≤ 10 ^ 12) × (d.delay ≤ 10 ^ 12)
