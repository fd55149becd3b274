-- What a call of a disc leaves, and what holds of each frame that waits.
use Rattle.std.proofs.Common.{ℕ, ◌+◌, leb, List, [], ◌∷◌, Option, None, Some, All}
use Rattle.std.proofs.lemmas.Bool.{cond_both}
use Rattle.std.proofs.lemmas.List.Elements.{All-head, All-push, All-tail}
use Rattle.sim_base.specs.declared.time.Time.{Time}
use Rattle.sim_base.specs.Packet.{Packet}
use Rattle.queue_discs.specs.declared.band.Band.{Band}
use Rattle.queue_discs.specs.declared.band.Band.TheVariants.{First, Second, Third}
use Rattle.queue_discs.specs.declared.bucket.Bucket.{Bucket}
use Rattle.queue_discs.specs.declared.disc.Next.{Next}
use Rattle.queue_discs.specs.declared.disc.Next.TheVariants.{Frame, Wait, Empty}
use Rattle.queue_discs.specs.Answers.{Taken, given, gives, gives_bytes, gives_for, next}
use Rattle.queue_discs.specs.Band.{band_of}
use Rattle.queue_discs.specs.Bands.{PlainBands, front, front_len, front_of, pushed}
use Rattle.queue_discs.specs.Bucket.{cost, filled, paid, wait}
use Rattle.queue_discs.specs.Disc.{AllHeld, PlainDisc, with_frame}

-- What holds where nothing leaves and where the frame in front leaves, whatever becomes of the bucket, holds after each call
pub record HoldsOfAll (Q : PlainDisc → Next Packet → Type 0) (d : PlainDisc) : Type 0 where
  pub empty : (b : Option Bucket) → Q (record d { bucket = b }) Empty
  pub waits : (b : Option Bucket) (until : Time) → Q (record d { bucket = b }) (Wait until)
  pub leaves : (b : Option Bucket) → Q (record d { bands = (front d.bands).left; bucket = b }) (given (front d.bands).frame)

at_bytes : (Q : PlainDisc → Next Packet → Type 0) (bytes now : ℕ) (b : Bucket) (d : PlainDisc) → HoldsOfAll Q d → Q (gives_bytes bytes now b d).disc (gives_bytes bytes now b d).answer
at_bytes Q bytes now b d h =
    cond_both (leb (cost bytes) b.credit)
    (gives (record d { bucket = Some (paid bytes b) }))
    (record { answer = Wait (record { 0 = now + wait bytes b }); disc = record d { bucket = Some b } })
    (λ (t : Taken). Q t.disc t.answer)
    (λ _. h.leaves (Some (paid bytes b))) (λ _. h.waits (Some b) (record { 0 = now + wait bytes b }))

at_some_bytes : (Q : PlainDisc → Next Packet → Type 0) (bytes : Option ℕ) (now : ℕ) (b : Bucket) (d : PlainDisc) → HoldsOfAll Q d → Q (gives_for bytes now b d).disc (gives_for bytes now b d).answer
at_some_bytes Q None now b d h = h.empty (Some b)
at_some_bytes Q (Some bytes) now b d h = at_bytes Q bytes now b d h

-- at a disc with this bucket
at_bucket : (Q : PlainDisc → Next Packet → Type 0) (b : Option Bucket) (now : ℕ) (d : PlainDisc) → HoldsOfAll Q d → Q (next now (record d { bucket = b })).disc (next now (record d { bucket = b })).answer
at_bucket Q None now d h = h.leaves None
at_bucket Q (Some b) now d h = at_some_bytes Q (front_len d.bands) now (filled now b) (record d { bucket = Some b }) (record { empty = h.empty; waits = h.waits; leaves = h.leaves })

pub after_next : (Q : PlainDisc → Next Packet → Type 0) (now : ℕ) (d : PlainDisc) → HoldsOfAll Q d → Q (next now d).disc (next now d).answer
after_next Q now d h = at_bucket Q d.bucket now d h

-- what holds of each frame that waits

abbrev AllIn : (Packet → Type 0) → PlainBands → Type 0
AllIn P b = All P b.first × All P b.second × All P b.third

all-pushed : (P : Packet → Type 0) (band : Band) (frame : Packet) (b : PlainBands) → P frame → AllIn P b → AllIn P (pushed band frame b)
all-pushed P First frame b p h = (All-push P b.first frame h.0 p, h.1, h.2)
all-pushed P Second frame b p h = (h.0, All-push P b.second frame h.1 p, h.2)
all-pushed P Third frame b p h = (h.0, h.1, All-push P b.third frame h.2 p)

-- a frame that is kept
pub AllHeld-with_frame : (P : Packet → Type 0) (frame : Packet) (d : PlainDisc) → P frame → AllHeld P d → AllHeld P (with_frame frame d)
AllHeld-with_frame P frame d p h = all-pushed P (band_of d.by_priority frame) frame d.bands p h

all-left : (P : Packet → Type 0) (first second third : List Packet) → All P first → All P second → All P third → AllIn P (front_of first second third).left
all-left P (frame ∷ first) second third h i j = (All-tail P frame first h, i, j)
all-left P [] (frame ∷ second) third h i j = (h, All-tail P frame second i, j)
all-left P [] [] (frame ∷ third) h i j = (h, i, All-tail P frame third j)
all-left P [] [] [] h i j = (h, i, j)

abbrev pub IfFrame : (Packet → Type 0) → Next Packet → Type 0
IfFrame P (Frame frame) = P frame
IfFrame P (Wait until) = Unit {0}
IfFrame P Empty = Unit {0}

front-is : (P : Packet → Type 0) (first second third : List Packet) → All P first → All P second → All P third → IfFrame P (given (front_of first second third).frame)
front-is P (frame ∷ first) second third h i j = All-head P frame first h
front-is P [] (frame ∷ second) third h i j = All-head P frame second i
front-is P [] [] (frame ∷ third) h i j = All-head P frame third j
front-is P [] [] [] h i j = tt

-- those that are left
pub AllHeld-next : (P : Packet → Type 0) (now : ℕ) (d : PlainDisc) → AllHeld P d → AllHeld P (next now d).disc
AllHeld-next P now d h = after_next (λ e answer. AllHeld P e) now d (record {
  empty = λ b. h;
  waits = λ b until. h;
  leaves = λ b. all-left P d.bands.first d.bands.second d.bands.third h.0 h.1 h.2;
})

-- the one that leaves
pub IfFrame-next : (P : Packet → Type 0) (now : ℕ) (d : PlainDisc) → AllHeld P d → IfFrame P (next now d).answer
IfFrame-next P now d h = after_next (λ e answer. IfFrame P answer) now d (record {
  empty = λ b. tt;
  waits = λ b until. tt;
  leaves = λ b. front-is P d.bands.first d.bands.second d.bands.third h.0 h.1 h.2;
})
