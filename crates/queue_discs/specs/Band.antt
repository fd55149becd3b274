-- The band in which a frame waits.
use Rattle.std.specs.Prelude.{ℕ, ◌%◌, ◌==◌, ◌||◌, Bool, true, false, unwrap_or, if◌then◌else◌}
use Rattle.sim_base.specs.Packet.{Packet}
use Rattle.sim_base.specs.PacketTags.{find_tag}
use Rattle.queue_discs.specs.declared.band.Band.{Band}
use Rattle.queue_discs.specs.declared.band.Band.TheVariants.{First, Second, Third}

-- of the priorities 0 to 15, 6 and 7 go first, and 1, 2, 3 and 5 last (Linux's pfifo_fast); others count modulo 16
abbrev pub band_of_priority : ℕ → Band
band_of_priority priority =
    let p = priority % 16 in
    if p == 6 || p == 7 then First else if p == 1 || p == 2 || p == 3 || p == 5 then Third else Second

-- a frame's priority is its packet tag 1, or 0 where it has none
abbrev pub priority_of : Packet → ℕ
priority_of frame = unwrap_or (find_tag 1 frame.tags) 0

-- a frame waits in the band of its priority, or in the first one where priorities don't count
abbrev pub band_of : Bool → Packet → Band
band_of by_priority frame = if by_priority then band_of_priority (priority_of frame) else First

abbrev pub is_same_band : Band → Band → Bool
is_same_band First First = true
is_same_band First Second = false
is_same_band First Third = false
is_same_band Second First = false
is_same_band Second Second = true
is_same_band Second Third = false
is_same_band Third First = false
is_same_band Third Second = false
is_same_band Third Third = true
