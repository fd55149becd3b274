use Rattle.std.proofs.Common.{◌≡◌, length}
use Rattle.std.specs.List.{All}
use Rattle.work_claims.specs.Gathered.{IsGathered}
use Rattle.work_claims.proofs.row.gather.Given as goal

abbrev pub invariant-loop-other : goal.invariant-loop-other
invariant-loop-other g l =
    record {
      gathered : IsGathered l.fn.row l.passes.items l.fn.passes.items l.seat.table_id l.seat.me l.emptied;
      rows : All (λ pass. pass.row ≡ l.fn.row) l.passes.items;
    }

abbrev pub decreases-loop-other : goal.decreases-loop-other
decreases-loop-other g l = length l.passes.items
