-- What a point-to-point device does.
use Rattle.std.specs.Prelude.{ℕ, ◌+◌, ◌≤◌, ◌^◌, true, false, List, [], ◌∷◌, ◌++◌, slice_range, if◌then◌else◌}
use Rattle.std.specs.Int.{from_be_bytes, w16}
use Rattle.sim_base.specs.Draws.{PlainRandom}
use Rattle.sim_base.specs.Losses.{after_loss, with_frame}
use Rattle.sim_base.specs.Packet.{Packet, len, pop_front}
use Rattle.sim_base.specs.Time.{frame_time}
use Rattle.frame_loss.specs.declared.fate.Fate.{Fate}
use Rattle.frame_loss.specs.declared.fate.Fate.TheVariants.{Lost as LostFrame, Received}
use Rattle.frame_loss.specs.Fate.{fate}
use Rattle.p2p_dev.specs.declared.In.{In}
use Rattle.p2p_dev.specs.declared.In.TheVariants.{Start, Sent, Arrive}
use Rattle.p2p_dev.specs.declared.Act.{Act}
use Rattle.p2p_dev.specs.declared.Act.TheVariants.{SentAt, ArriveAt, Save, Lost, Up}
use Rattle.p2p_dev.specs.Device.{Device}

-- a device and its node's generator after a step, and what is to be done then, in this order
pub record Own : Type 0 where
  pub device : Device
  pub random : PlainRandom
  pub acts : List (Act Packet)

-- a traced device saves each frame that it starts and each that it receives
abbrev pub saved : Device → Packet → List (Act Packet)
saved d frame = if d.traced then Save frame ∷ [] else []

-- the protocol of the packet in a frame, which the frame's header of two bytes gives (RFC 1661, section 2)
abbrev pub protocol : Packet → ℕ
protocol frame = from_be_bytes w16 (slice_range frame.bytes 0 2)

-- when the last bit of a frame that starts at a time has left
abbrev pub leaves : Device → ℕ → Packet → ℕ
leaves d start frame = start + frame_time d.rate (len frame)

-- when the last bit of a frame that starts at a time has come to the other end
abbrev pub arrives : Device → ℕ → Packet → ℕ
arrives d start frame = leaves d start frame + d.delay

abbrev pub starts : ℕ → Packet → Device → List (Act Packet)
starts now frame d =
    saved d frame ++ SentAt (record { 0 = leaves d now frame }) ∷ ArriveAt (record { 0 = arrives d now frame }) frame ∷ []

-- a packet without its header, for its protocol
abbrev pub lifted : Packet → Act Packet
lifted frame = Up (protocol frame) (pop_front 2 frame)

-- a frame that is received goes up without its header
abbrev pub comes_as : Device → Fate Packet → List (Act Packet)
comes_as d (LostFrame frame) = Lost frame ∷ []
comes_as d (Received frame) = saved d frame ++ lifted frame ∷ []

-- a frame is sent with the device busy until it has left; one that comes is counted, and lost or received
abbrev pub step : Device → PlainRandom → In Packet → Own
step d r (Start now frame) = record { device = record d { busy = true }; random = r; acts = starts now.0 frame d }
step d r Sent = record { device = record d { busy = false }; random = r; acts = [] }
step d r (Arrive frame) = record {
  device = record d { loss = with_frame d.loss };
  random = after_loss r d.loss;
  acts = comes_as d (fate r d.loss frame);
}

-- a frame has its header, and starts at a time of a run
abbrev pub CanTake : In Packet → Type 0
CanTake (Start now frame) = (now.0 ≤ 10 ^ 12) × (2 ≤ len frame)
CanTake Sent = Unit {0}
CanTake (Arrive frame) = 2 ≤ len frame
