-- What holds of each step of an interface.
use Rattle.std.specs.Prelude.{ℕ, ◌≡◌, ◌<◌, ◌≤◌, ◌⊎◌, List, [], ◌∷◌, Option, None, Some}
use Rattle.sim_base.specs.Packet.{Packet, len}
use Rattle.queue_discs.specs.declared.bucket.Bucket.{Bucket}
use Rattle.queue_discs.specs.Disc.{AllHeld}
use Rattle.p2p_dev.specs.Device.{IsDevice as IsLinkDevice}
use Rattle.csma_dev.specs.Device.{IsDevice as IsLanDevice}
use Rattle.iface_step.specs.declared.words.Act.{Act}
use Rattle.iface_step.specs.declared.words.Act.TheVariants.{Schedule, Write, Up, Dropped}
use Rattle.iface_step.specs.declared.words.Happening.{Happening}
use Rattle.iface_step.specs.declared.words.Happening.TheVariants.{Arrive, Sent, BusFree, BackoffOver, DiscReady, ArpTimer}
use Rattle.iface_step.specs.declared.words.In.{In}
use Rattle.iface_step.specs.declared.words.In.TheVariants.{Send, Happens}
use Rattle.iface_step.specs.declared.words.Place.{Place}
use Rattle.iface_step.specs.Attachment.{PlainAttachment, OnLink, OnLan, least_frame, neighbours}
use Rattle.iface_step.specs.Iface.{PlainIface}

abbrev pub HasDevice : PlainAttachment → Type 0
HasDevice (OnLink e) = IsLinkDevice e.device
HasDevice (OnLan e) = IsLanDevice e.device

-- a bucket gets credit
abbrev pub HasRate : Option Bucket → Type 0
HasRate None = Unit {0}
HasRate (Some b) = 1 ≤ b.rate

-- an interface within the limits: each frame that waits has its header, and disc and device are within theirs
pub record IsIface (i : PlainIface) : Type 0 where
  pub frames : AllHeld (λ frame. least_frame i.at ≤ len frame) i.disc
  pub bucket : HasRate i.disc.bucket
  pub device : HasDevice i.at

abbrev pub time_of : In Packet → ℕ
time_of (Send now hop packet) = now.0
time_of (Happens now what) = now.0

-- an act asks for no time but a later one
abbrev pub IsLater : ℕ → Act Packet → Type 0
IsLater now (Schedule at to what) = now < at.0
IsLater now (Write sign frame) = Unit {0}
IsLater now (Up packet) = Unit {0}
IsLater now Dropped = Unit {0}

-- one of these interfaces
abbrev pub IsAmong : Place → List Place → Type 0
IsAmong to [] = ⊥
IsAmong to (place ∷ places) = (to ≡ place) ⊎ IsAmong to places

-- a frame arrives at a neighbour, with its header, and all else happens at the interface itself
abbrev pub IsFor : PlainIface → Place → Happening Packet → Type 0
IsFor i to (Arrive frame) = IsAmong to (neighbours i.at) × (least_frame i.at ≤ len frame)
IsFor i to Sent = to ≡ i.place
IsFor i to BusFree = to ≡ i.place
IsFor i to BackoffOver = to ≡ i.place
IsFor i to DiscReady = to ≡ i.place
IsFor i to (ArpTimer addr stamp) = to ≡ i.place

abbrev pub IsNear : PlainIface → Act Packet → Type 0
IsNear i (Schedule at to what) = IsFor i to what
IsNear i (Write sign frame) = Unit {0}
IsNear i (Up packet) = Unit {0}
IsNear i Dropped = Unit {0}

-- nothing goes up
abbrev pub StaysBelow : Act Packet → Type 0
StaysBelow (Schedule at to what) = Unit {0}
StaysBelow (Write sign frame) = Unit {0}
StaysBelow (Up packet) = ⊥
StaysBelow Dropped = Unit {0}

-- no frame comes
abbrev pub IsOwn : Happening Packet → Type 0
IsOwn (Arrive frame) = ⊥
IsOwn Sent = Unit {0}
IsOwn BusFree = Unit {0}
IsOwn BackoffOver = Unit {0}
IsOwn DiscReady = Unit {0}
IsOwn (ArpTimer addr stamp) = Unit {0}

abbrev pub BringsNoFrame : In Packet → Type 0
BringsNoFrame (Send now hop packet) = Unit {0}
BringsNoFrame (Happens now what) = IsOwn what
