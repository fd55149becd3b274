-- What becomes of frames in a disc, from when it was made.
use Rattle.std.specs.Prelude.{ℕ, ◌≡◌, ◌+◌, ◌*◌, ◌≤◌, max, ◌++◌, Bool, false, List, [], ◌∷◌, count_by, filter, fold, sum_by, if◌then◌else◌}
use Rattle.sim_base.specs.declared.time.Rate.{Rate}
use Rattle.sim_base.specs.Packet.{Packet, len}
use Rattle.queue_discs.specs.declared.band.Band.{Band}
use Rattle.queue_discs.specs.declared.disc.DiscKind.{DiscKind}
use Rattle.queue_discs.specs.declared.disc.DiscKind.TheVariants.{Tbf}
use Rattle.queue_discs.specs.declared.disc.Next.{Next}
use Rattle.queue_discs.specs.declared.disc.Next.TheVariants.{Frame, Wait, Empty}
use Rattle.queue_discs.specs.Answers.{next}
use Rattle.queue_discs.specs.Band.{band_of, is_same_band}
use Rattle.queue_discs.specs.Bands.{frames_of}
use Rattle.queue_discs.specs.Bucket.{cost}
use Rattle.queue_discs.specs.Disc.{PlainDisc, empty, held, is_full, with_frame}

-- a call of a disc: a frame is offered, or the next one is asked for at a time
pub data Call : Type 0 where
  offered : Packet → Call
  asked : ℕ → Call

-- a disc, the frames that it has kept, and those that it has given, each list in order
pub record History : Type 0 where
  pub disc : PlainDisc
  pub kept : List Packet
  pub given : List Packet

abbrev pub begun : DiscKind → History
begun kind = record { disc = empty kind; kept = []; given = [] }

-- the frame of an answer
abbrev pub frame_of : Next Packet → List Packet
frame_of (Frame frame) = frame ∷ []
frame_of (Wait until) = []
frame_of Empty = []

abbrev pub with_call : History → Call → History
with_call h (offered frame) =
    if is_full h.disc then h else record h { disc = with_frame frame h.disc; kept = h.kept ++ frame ∷ [] }
with_call h (asked now) = record h { disc = (next now h.disc).disc; given = h.given ++ frame_of (next now h.disc).answer }

-- after calls of a new disc
abbrev pub after : DiscKind → List Call → History
after kind calls = fold with_call (begun kind) calls

-- the frames of a band, among some
abbrev pub in_band : Bool → Band → List Packet → List Packet
in_band by_priority band frames = filter (λ frame. is_same_band (band_of by_priority frame) band) frames

-- what was given and what is held are what was kept: each frame once, first in and first out in each band, and first in and first
-- out in all where priorities don't count
pub record IsInOrder (h : History) : Type 0 where
  pub once : (test : Packet → Bool) → count_by test h.given + count_by test (held h.disc) ≡ count_by test h.kept
  pub by_band : (band : Band) → in_band h.disc.by_priority band h.given ++ frames_of band h.disc.bands ≡ in_band h.disc.by_priority band h.kept
  pub in_all : h.disc.by_priority ≡ false → h.given ++ held h.disc ≡ h.kept

-- the greatest time at which the next frame was asked for
abbrev pub latest_of : List Call → ℕ
latest_of [] = 0
latest_of (offered frame ∷ calls) = latest_of calls
latest_of (asked now ∷ calls) = max now (latest_of calls)

-- what frames cost together
abbrev pub cost_of : List Packet → ℕ
cost_of frames = sum_by (λ frame. cost (len frame)) frames

-- what has left a token bucket is at most what the bucket held at first and what the rate has brought since
abbrev pub IsInBudget : ℕ → Rate → ℕ → List Call → Type 0
IsInBudget limit rate burst calls = cost_of (after (Tbf limit rate burst) calls).given ≤ cost burst + rate.0 * latest_of calls
