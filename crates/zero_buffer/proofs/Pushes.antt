-- The bytes of a window after a push, in place or copied.
use Rattle.std.proofs.Common.{◌≡◌, ℕ, List, ◌++◌}
use Rattle.edge_claims.specs.Window.{Seen}
use Rattle.zero_buffer.specs.declared.growth.Grown.{Grown}
use Rattle.zero_buffer.specs.declared.growth.Grown.TheVariants.{InPlace, Copied}
use Rattle.zero_buffer.specs.Pushed.{PushedFront, PushedBack}

pub pushed_front : (bs : List ℕ) (old new : Seen) (grown : Grown) → PushedFront bs old new grown → new.bytes ≡ bs ++ old.bytes
pushed_front bs old new InPlace pushed = pushed.bytes
pushed_front bs old new (Copied why) pushed = pushed.0

pub pushed_back : (bs : List ℕ) (old new : Seen) (grown : Grown) → PushedBack bs old new grown → new.bytes ≡ old.bytes ++ bs
pushed_back bs old new InPlace pushed = pushed.bytes
pushed_back bs old new (Copied why) pushed = pushed.0
