-- Which frames an interface loses, and which come with one bit inverted.
use Rattle.std.specs.Prelude.{ℕ, ◌+◌, ◌-◌, ◌<◌, ◌^◌, ◌==◌, min, nat_lt, Bool, false, Option, None as Nothing, Some, List, [], ◌∷◌, if◌then◌else◌}
use Rattle.std.specs.List.{list_any}
use Rattle.sim_base.specs.Draws.{PlainRandom, drawn, after_draw}
use Rattle.sim_base.specs.declared.loss.LossKind.{LossKind}
use Rattle.sim_base.specs.declared.loss.LossKind.TheVariants.{None, Frames, Millionths}

-- what decides whether a frame is lost, the numbers of the frames that are lost where numbers decide, the numbers of those in which a bit is
-- inverted, the place of that bit, and how many frames have come
pub record PlainLoss : Type 0 where
  pub kind : LossKind
  pub frames : List ℕ
  pub flip_frames : List ℕ
  pub flip_bit : ℕ
  pub counted : ℕ

-- nothing is lost, and no bit is inverted
abbrev pub no_loss : PlainLoss
no_loss = record { kind = None; frames = []; flip_frames = []; flip_bit = 0; counted = 0 }

-- numbers above a number, each above the one before
abbrev pub AreRisingAbove : ℕ → List ℕ → Type 0
AreRisingAbove low [] = Unit {0}
AreRisingAbove low (n ∷ ns) = (low < n) × AreRisingAbove n ns

abbrev pub is_listed : ℕ → List ℕ → Bool
is_listed number numbers = list_any (λ n. n == number) numbers

-- whether a frame is lost: where its number is listed, or where a draw of a million is below the millionths
abbrev pub decided : LossKind → List ℕ → PlainRandom → ℕ → Bool
decided None frames random number = false
decided Frames frames random number = is_listed number frames
decided (Millionths millionths) frames random number = nat_lt (drawn 1000000 random) millionths

-- millionths draw for each frame, also where none or all are lost; nothing else draws
abbrev pub drawn_for : LossKind → PlainRandom → PlainRandom
drawn_for None random = random
drawn_for Frames random = random
drawn_for (Millionths millionths) random = after_draw random

-- the number of the frame that comes next: frames are counted from 1, and the count stays at 2^64 - 1 once it is there
abbrev pub next_frame : PlainLoss → ℕ
next_frame l = min (l.counted + 1) (2 ^ 64 - 1)

-- whether the frame that comes next is lost, and the generator behind it
abbrev pub is_lost : PlainRandom → PlainLoss → Bool
is_lost random l = decided l.kind l.frames random (next_frame l)

abbrev pub after_loss : PlainRandom → PlainLoss → PlainRandom
after_loss random l = drawn_for l.kind random

-- one more frame has come
abbrev pub with_frame : PlainLoss → PlainLoss
with_frame l = record l { counted = next_frame l }

-- the place of the bit that is inverted in the frame that came last
abbrev pub flipped : PlainLoss → Option ℕ
flipped l = if is_listed l.counted l.flip_frames then Some l.flip_bit else Nothing
