-- A device of a LAN.
use Rattle.std.specs.Prelude.{ℕ, ◌≤◌, ◌<◌, ◌^◌, Bool, true, false, List}
use Rattle.sim_base.specs.Losses.{PlainLoss}
use Rattle.sim_base.specs.Packet.{Packet, len}
use Rattle.csma_dev.specs.declared.device.Use.{Use}
use Rattle.csma_dev.specs.declared.device.Use.TheVariants.{Idle, Sending, Waiting}

-- its MAC address, bits per second, the bus's delay in nanoseconds, whether its frames are traced, what it does, and which of the frames
-- that come to it are lost or damaged
pub record Device : Type 0 where
  pub mac : List ℕ
  pub rate : ℕ
  pub delay : ℕ
  pub traced : Bool
  pub does : Use Packet
  pub loss : PlainLoss

abbrev pub plain_use : {P : Type 0} → (P → Packet) → Use P → Use Packet
plain_use plain Idle = Idle
plain_use plain Sending = Sending
plain_use plain (Waiting frame tries) = Waiting (plain frame) tries

-- a device that sends, or has a frame that waits, takes no other frame
abbrev pub is_busy : Use Packet → Bool
is_busy Idle = false
is_busy Sending = true
is_busy (Waiting frame tries) = true

-- a frame that waits has its header and trailer, and was tried less than a thousand times
abbrev pub IsUse : Use Packet → Type 0
IsUse Idle = Unit {0}
IsUse Sending = Unit {0}
IsUse (Waiting frame tries) = (18 ≤ len frame) × (tries < 1000)

-- a device within the limits
abbrev pub IsDevice : Device → Type 0
IsDevice d = (1 ≤ d.rate) × (d.rate ≤ 10 ^ 12) × (d.delay ≤ 10 ^ 12) × IsUse d.does
