-- What becomes of a frame that comes to an interface: it is lost, or received, maybe with one bit inverted.
use Rattle.std.specs.Prelude.{ℕ, ◌*◌, ◌/◌, ◌%◌, ◌^◌, List, Option, None, Some, bit_xor, slice_index, slice_set, if◌then◌else◌}
use Rattle.sim_base.specs.Draws.{PlainRandom}
use Rattle.sim_base.specs.Losses.{PlainLoss, flipped, is_lost, with_frame}
use Rattle.sim_base.specs.Packet.{Packet, from_bytes, len}
use Rattle.frame_loss.specs.declared.fate.Fate.{Fate}
use Rattle.frame_loss.specs.declared.fate.Fate.TheVariants.{Lost, Received}

-- one bit is inverted, counted from the high bit of the first byte
abbrev pub with_bit_inverted : ℕ → List ℕ → List ℕ
with_bit_inverted bit bytes = slice_set bytes (bit / 8) (bit_xor (slice_index bytes (bit / 8)) (128 / 2 ^ (bit % 8)))

-- a new packet of the same number and bytes but for one bit, whose place is counted round the frame; it has no tags and one item
abbrev pub damaged : ℕ → Packet → Packet
damaged bit frame = from_bytes frame.uid (with_bit_inverted (bit % (8 * len frame)) frame.bytes)

-- a frame as it comes, with a bit inverted where one is named
abbrev pub received : Option ℕ → Packet → Packet
received None frame = frame
received (Some bit) frame = damaged bit frame

-- a frame is counted, and lost or received
abbrev pub fate : PlainRandom → PlainLoss → Packet → Fate Packet
fate r l frame = if is_lost r l then Lost frame else Received (received (flipped (with_frame l)) frame)
