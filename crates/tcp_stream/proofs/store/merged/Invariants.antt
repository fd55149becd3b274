use Rattle.std.proofs.Common.{◌≡◌, ◌+◌, ◌<◌, ◌^◌, ◌++◌, length}
use Rattle.std.specs.VecDeque.{deque_len}
use Rattle.tcp_stream.specs.Pieces.{merge}
use Rattle.tcp_stream.proofs.store.merged.Given as goal

abbrev pub invariant-loop-piece : goal.invariant-loop-piece
invariant-loop-piece l =
    record {
      small : l.start + length l.bytes < 2 ^ 63;
      all : l.all.items ++ merge l.pieces.items l.start l.bytes ≡ merge l.fn.pieces.items l.fn.start l.fn.bytes;
    }

abbrev pub decreases-loop-piece : goal.decreases-loop-piece
decreases-loop-piece l = deque_len l.pieces
