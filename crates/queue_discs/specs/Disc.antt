-- A queue disc: frames wait in it until the device takes them.
use Rattle.std.specs.Prelude.{ℕ, ◌≤◌, ◌^◌, nat_le, Bool, true, false, List, Option, None, Some, All, length}
use Rattle.sim_base.specs.Packet.{Packet}
use Rattle.queue_discs.specs.declared.bucket.Bucket.{Bucket}
use Rattle.queue_discs.specs.declared.disc.DiscKind.{DiscKind}
use Rattle.queue_discs.specs.declared.disc.DiscKind.TheVariants.{Fifo, Prio, Tbf}
use Rattle.queue_discs.specs.Band.{band_of}
use Rattle.queue_discs.specs.Bands.{PlainBands, all_of, no_frames, pushed}
use Rattle.queue_discs.specs.Bucket.{IsBucket, full}

-- how many frames may wait, whether each waits in the band of its priority, those that do, and the bucket whose credit they need, if
-- there is one
pub record PlainDisc : Type 0 where
  pub limit : ℕ
  pub by_priority : Bool
  pub bands : PlainBands
  pub bucket : Option Bucket

-- all frames that wait
abbrev pub held : PlainDisc → List Packet
held d = all_of d.bands

-- each frame that waits is so
abbrev pub AllHeld : (Packet → Type 0) → PlainDisc → Type 0
AllHeld P d = All P d.bands.first × All P d.bands.second × All P d.bands.third

abbrev pub HasBucket : Option Bucket → Type 0
HasBucket None = Unit {0}
HasBucket (Some b) = IsBucket b

-- no more frames wait than may, and a bucket is within the limits
abbrev pub IsDisc : PlainDisc → Type 0
IsDisc d = (length (held d) ≤ d.limit) × HasBucket d.bucket

-- a bucket has a rate of 1 to 10^12 bits per second and holds 1 to 10^9 bytes
abbrev pub IsKind : DiscKind → Type 0
IsKind (Fifo limit) = Unit {0}
IsKind (Prio limit) = Unit {0}
IsKind (Tbf limit rate burst) = (1 ≤ rate.0) × (rate.0 ≤ 10 ^ 12) × (1 ≤ burst) × (burst ≤ 10 ^ 9)

-- a disc of a kind, in which no frame waits
abbrev pub empty : DiscKind → PlainDisc
empty (Fifo limit) = record { limit = limit; by_priority = false; bands = no_frames; bucket = None }
empty (Prio limit) = record { limit = limit; by_priority = true; bands = no_frames; bucket = None }
empty (Tbf limit rate burst) =
    record { limit = limit; by_priority = false; bands = no_frames; bucket = Some (full rate.0 burst) }

abbrev pub is_full : PlainDisc → Bool
is_full d = nat_le d.limit (length (held d))

-- a disc that has kept one more frame
abbrev pub with_frame : Packet → PlainDisc → PlainDisc
with_frame frame d = record d { bands = pushed (band_of d.by_priority frame) frame d.bands }
