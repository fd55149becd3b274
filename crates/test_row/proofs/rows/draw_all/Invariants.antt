use Rattle.std.proofs.Common.{◌≡◌, ◌-◌, length}
use Rattle.work_claims.specs.Drawn.{AllGiven}
use Rattle.test_row.proofs.rows.draw_all.Given as goal

abbrev pub invariant-loop-number : goal.invariant-loop-number
invariant-loop-number l = record {
  row : l.pass.row ≡ l.initial.pass.row;
  given : AllGiven l.pass.drawn;
}

abbrev pub decreases-loop-number : goal.decreases-loop-number
decreases-loop-number l = length l.row.items - length l.pass.drawn
