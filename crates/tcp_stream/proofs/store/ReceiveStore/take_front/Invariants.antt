use Rattle.std.proofs.Common.{◌≡◌, ◌+◌, ◌<◌, ◌^◌, ◌++◌, length}
use Rattle.std.specs.VecDeque.{deque_len}
use Rattle.tcp_stream.specs.Held.{window}
use Rattle.tcp_stream.specs.Pieces.{InOrder, behind, joined}
use Rattle.tcp_stream.proofs.store.ReceiveStore.take_front.Given as goal

abbrev pub invariant-loop-piece : goal.invariant-loop-piece
invariant-loop-piece l =
    record {
      bytes : l.bytes.items ++ joined l.self-inside.next l.self-inside.pieces.items ≡ joined l.initial.self-inside.next l.initial.self-inside.pieces.items;
      rest : behind l.self-inside.next l.self-inside.pieces.items ≡ behind l.initial.self-inside.next l.initial.self-inside.pieces.items;
      next : l.self-inside.next ≡ l.initial.self-inside.next + length l.bytes.items;
      small : l.self-inside.next < 2 ^ 63;
      order : InOrder l.self-inside.next (l.initial.self-inside.next + window) l.self-inside.pieces.items;
    }

abbrev pub decreases-loop-piece : goal.decreases-loop-piece
decreases-loop-piece l = deque_len l.self-inside.pieces
