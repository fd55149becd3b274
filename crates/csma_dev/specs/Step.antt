-- What a device of a LAN does: carrier sense with a wait that is drawn, after IEEE 802.3's backoff, with this profile's numbers.
use Rattle.std.specs.Prelude.{ℕ, ◌+◌, ◌*◌, ◌≤◌, ◌^◌, ◌||◌, nat_le, min, Bool, List, [], ◌∷◌, ◌++◌, nat_eq, slice_range, if◌then◌else◌}
use Rattle.std.specs.Cmp.Lexicographic.{pointwise}
use Rattle.std.specs.Int.{from_be_bytes, w16}
use Rattle.sim_base.specs.Losses.{after_loss, with_frame}
use Rattle.sim_base.specs.Packet.{Packet, len, pop_back, pop_front}
use Rattle.sim_base.specs.Time.{frame_time}
use Rattle.sim_base.specs.Draws.{PlainRandom, drawn, after_draw}
use Rattle.frame_loss.specs.declared.fate.Fate.{Fate}
use Rattle.frame_loss.specs.declared.fate.Fate.TheVariants.{Lost as LostFrame, Received}
use Rattle.frame_loss.specs.Fate.{fate}
use Rattle.csma_dev.specs.declared.bus.Bus.{Bus}
use Rattle.csma_dev.specs.declared.device.Use.{Use}
use Rattle.csma_dev.specs.declared.device.Use.TheVariants.{Idle, Sending, Waiting}
use Rattle.csma_dev.specs.declared.words.In.{In}
use Rattle.csma_dev.specs.declared.words.In.TheVariants.{Start, BusFree, BackoffOver, Arrive}
use Rattle.csma_dev.specs.declared.words.Act.{Act}
use Rattle.csma_dev.specs.declared.words.Act.TheVariants.{Save, ArriveAt, SentAt, BackoffAt, GaveUp, Lost, Up}
use Rattle.csma_dev.specs.Device.{Device}

-- the device, its bus and the node's generator after a step, and what is to be done then, in this order
pub record Shared : Type 0 where
  pub device : Device
  pub bus : Bus
  pub random : PlainRandom
  pub acts : List (Act Packet)

-- a traced device saves each frame that it starts and each that it receives
abbrev pub saved : Device → Packet → List (Act Packet)
saved d frame = if d.traced then Save frame ∷ [] else []

-- when a frame that starts at a time has come to the other devices; till then it has the bus
abbrev pub leaves : Device → ℕ → Packet → ℕ
leaves d start frame = start + frame_time d.rate (len frame) + d.delay

abbrev pub starts : ℕ → Packet → Device → List (Act Packet)
starts now frame d =
    saved d frame ++ ArriveAt (record { 0 = leaves d now frame }) frame ∷ SentAt (record { 0 = leaves d now frame }) ∷ []

-- a bus is free from a time on
abbrev pub is_free : ℕ → Bus → Bool
is_free now bus = nat_le bus.busy_until.0 now

abbrev pub sends : ℕ → Packet → Device → PlainRandom → Shared
sends now frame d r = record {
  device = record d { does = Sending };
  bus = record { busy_until = record { 0 = leaves d now frame } };
  random = r;
  acts = starts now frame d;
}

-- waits are drawn from 2, 4, 8 and so on up to 1024 slots
abbrev pub doubled : ℕ → ℕ
doubled tries = 2 ^ min tries 10

-- a wait has at least one slot of a microsecond
abbrev pub wait : ℕ → PlainRandom → ℕ
wait tries r = 1000 * (1 + drawn (doubled tries) r)

-- a device and its node's generator, where its bus stays as it is
pub record Own : Type 0 where
  pub device : Device
  pub random : PlainRandom
  pub acts : List (Act Packet)

-- a frame waits for a time that is drawn, and is given up with the thousandth try
abbrev pub backs_off : ℕ → Packet → ℕ → Device → PlainRandom → Own
backs_off now frame tries d r =
    if nat_le 1000 tries then record { device = record d { does = Idle }; random = r; acts = GaveUp frame ∷ [] }
    else record {
      device = record d { does = Waiting frame tries };
      random = after_draw r;
      acts = BackoffAt (record { 0 = now + wait tries r }) ∷ [];
    }

abbrev pub on_bus : Bus → Own → Shared
on_bus bus w = record { device = w.device; bus = bus; random = w.random; acts = w.acts }

-- a frame that was tried so often is sent if the bus is free, and waits if it isn't
abbrev pub tries_once : ℕ → Packet → ℕ → Device → Bus → PlainRandom → Shared
tries_once now frame tries d bus r =
    if is_free now bus then sends now frame d r else on_bus bus (backs_off now frame (tries + 1) d r)

abbrev pub with_acts : Device → Bus → PlainRandom → List (Act Packet) → Shared
with_acts d bus r acts = record { device = d; bus = bus; random = r; acts = acts }

-- a wait is over: nothing happens where no frame waits
abbrev pub retries : Use Packet → ℕ → Device → Bus → PlainRandom → Shared
retries Idle now d bus r = with_acts d bus r []
retries Sending now d bus r = with_acts d bus r []
retries (Waiting frame tries) now d bus r = tries_once now frame tries d bus r

-- Ethernet's header: the destination in six bytes, the source in six, and the protocol in two
abbrev pub destination : Packet → List ℕ
destination frame = slice_range frame.bytes 0 6

abbrev pub protocol : Packet → ℕ
protocol frame = from_be_bytes w16 (slice_range frame.bytes 12 14)

abbrev pub broadcast : List ℕ
broadcast = 255 ∷ 255 ∷ 255 ∷ 255 ∷ 255 ∷ 255 ∷ []

-- a frame is for a device, or for everyone
abbrev pub is_heard : Device → Packet → Bool
is_heard d frame = pointwise nat_eq (destination frame) d.mac || pointwise nat_eq (destination frame) broadcast

-- a packet without its header and trailer, for its protocol
abbrev pub lifted : Packet → Act Packet
lifted frame = Up (protocol frame) (pop_front 14 (pop_back 4 frame))

-- a frame that is received goes up without its header and trailer
abbrev pub comes_as : Device → Fate Packet → List (Act Packet)
comes_as d (LostFrame frame) = Lost frame ∷ []
comes_as d (Received frame) = saved d frame ++ lifted frame ∷ []

-- the device and its node's generator, after a frame that it hears
abbrev pub hears : Packet → Device → PlainRandom → Own
hears frame d r = record {
  device = record d { loss = with_frame d.loss };
  random = after_loss r d.loss;
  acts = comes_as d (fate r d.loss frame);
}

abbrev pub ignores : Device → PlainRandom → Own
ignores d r = record { device = d; random = r; acts = [] }

-- a frame for others is ignored, and isn't counted either
abbrev pub arrives : Packet → Device → PlainRandom → Own
arrives frame d r = if is_heard d frame then hears frame d r else ignores d r

abbrev pub step : Device → Bus → PlainRandom → In Packet → Shared
step d bus r (Start now frame) = tries_once now.0 frame 0 d bus r
step d bus r BusFree = with_acts (record d { does = Idle }) bus r []
step d bus r (BackoffOver now) = retries d.does now.0 d bus r
step d bus r (Arrive frame) = on_bus bus (arrives frame d r)

-- a frame has its header and trailer, and times are those of a run
abbrev pub CanTake : In Packet → Type 0
CanTake (Start now frame) = (now.0 ≤ 10 ^ 12) × (18 ≤ len frame)
CanTake BusFree = Unit {0}
CanTake (BackoffOver now) = now.0 ≤ 10 ^ 12
CanTake (Arrive frame) = 18 ≤ len frame
