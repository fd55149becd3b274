-- What a disc answers, and what it has become then.
use Rattle.std.specs.Prelude.{ℕ, ◌≡◌, ◌+◌, nat_le, true, false, Option, None, Some, length, if◌then◌else◌}
use Rattle.sim_base.specs.Packet.{Packet}
use Rattle.pkt_face.specs.declared.offer.Offer.{Offer}
use Rattle.pkt_face.specs.declared.offer.Offer.TheVariants.{Kept, Full, NoMemory}
use Rattle.queue_discs.specs.declared.bucket.Bucket.{Bucket}
use Rattle.queue_discs.specs.declared.disc.Next.{Next}
use Rattle.queue_discs.specs.declared.disc.Next.TheVariants.{Frame, Wait, Empty}
use Rattle.queue_discs.specs.Bands.{front, front_len}
use Rattle.queue_discs.specs.Bucket.{cost, filled, paid, wait}
use Rattle.queue_discs.specs.Disc.{PlainDisc, held, is_full, with_frame}

-- The frame is kept unless the disc is full; where it isn't kept it comes back, and the disc is as before. Want of memory is
-- answered by a disc that isn't full
abbrev pub OfferIs : {P : Type 0} → (P → Packet) → Packet → PlainDisc → PlainDisc → Offer P → Type 0
OfferIs see frame old new Kept = (is_full old ≡ false) × (new ≡ with_frame frame old)
OfferIs see frame old new (Full packet count) = (is_full old ≡ true) × (new ≡ old) × (see packet ≡ frame) × (count ≡ length (held old))
OfferIs see frame old new (NoMemory packet) = (is_full old ≡ false) × (new ≡ old) × (see packet ≡ frame)

-- an answer, with plain packets
abbrev pub plain_next : {P : Type 0} → (P → Packet) → Next P → Next Packet
plain_next see (Frame packet) = Frame (see packet)
plain_next see (Wait until) = Wait until
plain_next see Empty = Empty

pub record Taken : Type 0 where
  pub answer : Next Packet
  pub disc : PlainDisc

abbrev pub given : Option Packet → Next Packet
given None = Empty
given (Some frame) = Frame frame

-- the frame in front leaves, if one waits
abbrev pub gives : PlainDisc → Taken
gives d = let f = front d.bands in record { answer = given f.frame; disc = record d { bands = f.left } }

-- so many bytes leave where the bucket has the credit for them, which they pay; else they wait for what is missing
abbrev pub gives_bytes : ℕ → ℕ → Bucket → PlainDisc → Taken
gives_bytes bytes now b d =
    if nat_le (cost bytes) b.credit then gives (record d { bucket = Some (paid bytes b) })
    else record { answer = Wait (record { 0 = now + wait bytes b }); disc = record d { bucket = Some b } }

abbrev pub gives_for : Option ℕ → ℕ → Bucket → PlainDisc → Taken
gives_for None now b d = record { answer = Empty; disc = record d { bucket = Some b } }
gives_for (Some bytes) now b d = gives_bytes bytes now b d

-- what a disc gives at a time: the frame in front, where there is no bucket or one with the credit for it
abbrev pub next : ℕ → PlainDisc → Taken
next now d = elim d.bucket [
  | None ↦ gives d
  | Some b ↦ gives_for (front_len d.bands) now (filled now b) d
]
