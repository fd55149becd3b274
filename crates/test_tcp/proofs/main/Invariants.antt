use Rattle.std.specs.Prelude.{IfSome}
use Rattle.tcp_conn.specs.Fits.{Fits}
use Rattle.test_tcp.proofs.main.Given as goal

abbrev pub invariant-loop-line : goal.invariant-loop-line
invariant-loop-line l =
    (goal.iterator-loop-line).can_next l.line-iterator
    × (goal.iterator-loop-line).is_finite l.line-iterator
    × IfSome l.connection (λ c. Fits c)
