-- What holds of a bridge after all its steps, and of each step.
use Rattle.std.specs.Prelude.{ℕ, ◌≡◌, ◌≤◌, ◌==◌, Bool, false, List, [], ◌∷◌, fold, count_by, Option, None, Some, if◌then◌else◌}
use Rattle.std.specs.List.{AllByRecursion}
use Rattle.std.specs.Option.{option_or}
use Rattle.std.specs.Str.{bytes_eq}
use Rattle.sim_base.specs.Packet.{Packet}
use Rattle.bridge_dev.specs.declared.bridge.Sighting.{Sighting}
use Rattle.bridge_dev.specs.declared.words.In.{In}
use Rattle.bridge_dev.specs.declared.words.In.TheVariants.{Frame}
use Rattle.bridge_dev.specs.declared.words.Act.{Act}
use Rattle.bridge_dev.specs.declared.words.Act.TheVariants.{Out, Ignored}
use Rattle.bridge_dev.specs.Step.{source, step}
use Rattle.bridge_dev.specs.Table.{PlainBridge, empty}

abbrev pub stepped : PlainBridge → In Packet → PlainBridge
stepped b input = (step b input).state

-- a new bridge after steps
abbrev pub after : ℕ → List (In Packet) → PlainBridge
after ports inputs = fold stepped (empty ports) inputs

-- the port and the time of a frame, where a station sent it
abbrev pub sighting_in : List ℕ → In Packet → Option Sighting
sighting_in mac (Frame now port frame) = if bytes_eq mac (source frame) then Some (record { port = port; at = now }) else None

-- the port and the time of the last frame that a station sent
abbrev pub last_of : List ℕ → List (In Packet) → Option Sighting
last_of mac [] = None
last_of mac (input ∷ later) = option_or (last_of mac later) (sighting_in mac input)

-- the port and the frame of an input
abbrev pub port_of : In Packet → ℕ
port_of (Frame now port frame) = port

abbrev pub frame_of : In Packet → Packet
frame_of (Frame now port frame) = frame

abbrev pub is_out_at : ℕ → Act Packet → Bool
is_out_at port (Out other frame) = other == port
is_out_at port Ignored = false

-- what goes out is this frame
abbrev pub HasFrame : Packet → Act Packet → Type 0
HasFrame frame (Out port sent) = sent ≡ frame
HasFrame frame Ignored = Unit {0}

pub record IsSentOn (input : In Packet) (acts : List (Act Packet)) : Type 0 where
  pub elsewhere : count_by (is_out_at (port_of input)) acts ≡ 0
  pub once : (port : ℕ) → count_by (is_out_at port) acts ≤ 1
  pub same : AllByRecursion (HasFrame (frame_of input)) acts
