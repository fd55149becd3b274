-- What holds of the fields of a buffer.
use Rattle.std.specs.Prelude.{◌≤◌, ◌+◌, length}
use Rattle.zero_buffer.specs.declared.buffer.Buffer.TheInside.{Inside}
use Rattle.zero_buffer.specs.Contents.{LONGEST}

-- the zeros stand within the window's bytes, or at an end of them
pub record IsBuffer (b : Inside) : Type 0 where
  pub within : b.first ≤ length b.window.bytes
  pub small : length b.window.bytes + b.zeros ≤ LONGEST
