-- A disc is asked again only later, and its bucket goes on to get credit.
use Rattle.std.proofs.Common.{ℕ, ◌+◌, ◌-◌, ◌*◌, ◌<◌, ◌≤◌, zero, suc, Option, None, Some, leb, arith}
use Rattle.std.proofs.lemmas.Bool.{cond_both, leb-false}
use Rattle.std.proofs.lemmas.Grind.{div_ceil_times}
use Rattle.sim_base.specs.Packet.{Packet}
use Rattle.queue_discs.specs.declared.bucket.Bucket.{Bucket}
use Rattle.queue_discs.specs.declared.disc.Next.{Next}
use Rattle.queue_discs.specs.declared.disc.Next.TheVariants.{Frame, Wait, Empty}
use Rattle.queue_discs.specs.Answers.{Taken, given, gives, gives_bytes, gives_for, next}
use Rattle.queue_discs.specs.Bands.{front, front_len}
use Rattle.queue_discs.specs.Bucket.{cost, filled, paid, wait}
use Rattle.queue_discs.specs.Disc.{PlainDisc}
use Rattle.node_rules.specs.Health.{IsPaced}

-- a disc that is to be asked again is to be asked later
abbrev pub IsWaitLater : ℕ → Next Packet → Type 0
IsWaitLater now (Frame frame) = Unit {0}
IsWaitLater now (Wait until) = now < until.0
IsWaitLater now Empty = Unit {0}

record IsPacedAfter (now : ℕ) (t : Taken) : Type 0 where
  paced : IsPaced t.disc.bucket
  later : IsWaitLater now t.answer

given-later : (now : ℕ) (frame : Option Packet) → IsWaitLater now (given frame)
given-later now None = tt
given-later now (Some frame) = tt

positive : (c r a : ℕ) → a ≤ c * r → 1 ≤ a → 1 ≤ c
positive zero r a h some = omega (arith, h)
positive (suc c) r a h some = omega arith

wait-positive : (bytes : ℕ) (b : Bucket) → 1 ≤ b.rate → b.credit < cost bytes → 1 ≤ wait bytes b
wait-positive bytes b some less =
    positive (wait bytes b) b.rate (cost bytes - b.credit) (div_ceil_times (cost bytes - b.credit) b.rate some).0 (omega arith)

after-bytes : (bytes now : ℕ) (b : Bucket) (d : PlainDisc) → 1 ≤ b.rate → IsPacedAfter now (gives_bytes bytes now b d)
after-bytes bytes now b d some =
    cond_both (leb (cost bytes) b.credit)
    (gives (record d { bucket = Some (paid bytes b) }))
    (record { answer = Wait (record { 0 = now + wait bytes b }); disc = record d { bucket = Some b } })
    (IsPacedAfter now)
    (λ _. record { paced = some; later = given-later now (front d.bands).frame })
    (λ short. record {
      paced = some;
      later = let positive : 1 ≤ wait bytes b = wait-positive bytes b some (leb-false (cost bytes) b.credit short) in omega arith;
    })

after-some_bytes : (bytes : Option ℕ) (now : ℕ) (b : Bucket) (d : PlainDisc) → 1 ≤ b.rate → IsPacedAfter now (gives_for bytes now b d)
after-some_bytes None now b d some = record { paced = some; later = tt }
after-some_bytes (Some bytes) now b d some = after-bytes bytes now b d some

after-bucket : (b : Option Bucket) (now : ℕ) (d : PlainDisc) → IsPaced b → IsPacedAfter now (next now (record d { bucket = b }))
after-bucket None now d h = record { paced = tt; later = given-later now (front d.bands).frame }
after-bucket (Some b) now d h = after-some_bytes (front_len d.bands) now (filled now b) (record d { bucket = Some b }) h

pub paced-next : (now : ℕ) (d : PlainDisc) → IsPaced d.bucket → IsPaced (next now d).disc.bucket
paced-next now d h = (after-bucket d.bucket now d h).paced

pub later-next : (now : ℕ) (d : PlainDisc) → IsPaced d.bucket → IsWaitLater now (next now d).answer
later-next now d h = (after-bucket d.bucket now d h).later
