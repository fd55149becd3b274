-- The fate of a frame, seen with plain packets.
use Rattle.sim_base.specs.Packet.{Packet}
use Rattle.frame_loss.specs.declared.fate.Fate.{Fate}
use Rattle.frame_loss.specs.declared.fate.Fate.TheVariants.{Lost, Received}

abbrev pub plain_fate : {P : Type 0} → (P → Packet) → Fate P → Fate Packet
plain_fate plain (Lost frame) = Lost (plain frame)
plain_fate plain (Received frame) = Received (plain frame)

-- the frame, whatever becomes of it
abbrev pub frame_of : {P : Type 0} → Fate P → P
frame_of (Lost frame) = frame
frame_of (Received frame) = frame
