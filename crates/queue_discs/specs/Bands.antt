-- The frames that wait, in three bands.
use Rattle.std.specs.Prelude.{ℕ, List, [], ◌∷◌, ◌++◌, Option, None, Some, option_map, slice_get}
use Rattle.sim_base.specs.Packet.{Packet, len}
use Rattle.queue_discs.specs.declared.band.Band.{Band}
use Rattle.queue_discs.specs.declared.band.Band.TheVariants.{First, Second, Third}

-- the frames of each band, the first to leave first
pub record PlainBands : Type 0 where
  pub first : List Packet
  pub second : List Packet
  pub third : List Packet

abbrev pub no_frames : PlainBands
no_frames = record { first = []; second = []; third = [] }

abbrev pub frames_of : Band → PlainBands → List Packet
frames_of First b = b.first
frames_of Second b = b.second
frames_of Third b = b.third

-- all frames that wait
abbrev pub all_of : PlainBands → List Packet
all_of b = b.first ++ b.second ++ b.third

-- one more frame waits, as the last of its band
abbrev pub pushed : Band → Packet → PlainBands → PlainBands
pushed First frame b = record b { first = b.first ++ frame ∷ [] }
pushed Second frame b = record b { second = b.second ++ frame ∷ [] }
pushed Third frame b = record b { third = b.third ++ frame ∷ [] }

-- the frame that leaves next, if one waits, and those that wait then
pub record Front : Type 0 where
  pub frame : Option Packet
  pub left : PlainBands

abbrev pub front_of : List Packet → List Packet → List Packet → Front
front_of (frame ∷ first) second third =
    record { frame = Some frame; left = record { first = first; second = second; third = third } }
front_of [] (frame ∷ second) third =
    record { frame = Some frame; left = record { first = []; second = second; third = third } }
front_of [] [] (frame ∷ third) = record { frame = Some frame; left = record { first = []; second = []; third = third } }
front_of [] [] [] = record { frame = None; left = no_frames }

-- the frame that has waited longest in the first band that isn't empty
abbrev pub front : PlainBands → Front
front b = front_of b.first b.second b.third

-- the length of the first frame, if there is one
abbrev pub first_len : List Packet → Option ℕ
first_len frames = option_map len (slice_get frames 0)

-- the length of the frame that leaves next, if one waits
abbrev pub front_len : PlainBands → Option ℕ
front_len b = option_map len (front b).frame
