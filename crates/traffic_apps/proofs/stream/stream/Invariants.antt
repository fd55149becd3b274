use Rattle.std.proofs.Common.{◌+◌, length}
use Rattle.traffic_apps.proofs.Turns.{IsCopied, IsRest}
use Rattle.traffic_apps.proofs.stream.stream.Given as goal

abbrev pub invariant-turns : goal.invariant-turns
invariant-turns l = record {
  so_far : IsCopied l.bytes.items l.left l.count l.from;
  rest : IsRest (l.from + length l.bytes.items) l.turn;
}

abbrev pub decreases-turns : goal.decreases-turns
decreases-turns l = l.left
