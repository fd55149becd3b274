-- What a push does to the window of a buffer. The window grows in its place, or its bytes are copied to a new block where its place was refused.
use Rattle.std.specs.Prelude.{◌≡◌, ℕ, ◌+◌, ◌<◌, ◌≤◌, ◌⊎◌, true, List, ◌++◌, length}
use Rattle.edge_claims.specs.Window.{Seen}
use Rattle.edge_claims.specs.Grown.{GrownFront, GrownBack, Kept}
use Rattle.edge_claims.specs.declared.window.Grow.{Grow}
use Rattle.edge_claims.specs.declared.window.Grow.TheVariants.{NoRoom, Moved}
use Rattle.zero_buffer.specs.declared.growth.Grown.{Grown}
use Rattle.zero_buffer.specs.declared.growth.Grown.TheVariants.{InPlace, Copied}

-- Why the window w can be refused n places in front: it has fewer there, or its start is not the edge that it last saw, or other windows were on the block.
abbrev pub CanRefuseFront : ℕ → Seen → Grow → Type 0
CanRefuseFront n w (NoRoom room) = (room ≡ w.start) × (w.start < n)
CanRefuseFront n w (Moved seen) = (n ≤ w.start) × (seen < w.start) × (w.alone ≡ true → w.start ≡ w.low_seen → ⊥)

-- the same of n places behind
abbrev pub CanRefuseBack : ℕ → Seen → Grow → Type 0
CanRefuseBack n w (NoRoom room) = (w.end + room ≡ w.capacity) × (w.capacity < w.end + n)
CanRefuseBack n w (Moved seen) = (w.end + n ≤ w.capacity) × (w.end < seen) × (w.alone ≡ true → w.end ≡ w.high_seen → ⊥)

abbrev pub PushedFront : List ℕ → Seen → Seen → Grown → Type 0
PushedFront bs old new InPlace = GrownFront bs old new
PushedFront bs old new (Copied why) = (new.bytes ≡ bs ++ old.bytes) × CanRefuseFront (length bs) old why

abbrev pub PushedBack : List ℕ → Seen → Seen → Grown → Type 0
PushedBack bs old new InPlace = GrownBack bs old new
PushedBack bs old new (Copied why) = (new.bytes ≡ old.bytes ++ bs) × CanRefuseBack (length bs) old why

-- memory was wanting for the copy: the window is as it was, and was refused n places in front
pub record RefusedFront (n : ℕ) (old new : Seen) : Type 0 where
  pub kept : Kept old new
  pub cause : (old.start < n) ⊎ (new.low_seen < new.start)

pub record RefusedBack (n : ℕ) (old new : Seen) : Type 0 where
  pub kept : Kept old new
  pub cause : (old.capacity < old.end + n) ⊎ (new.end < new.high_seen)
