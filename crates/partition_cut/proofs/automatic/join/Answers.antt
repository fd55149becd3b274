use Rattle.std.proofs.Common.{arith}
use Rattle.partition_cut.proofs.ForestLaws.{join-roots, lower-parent}
use Rattle.partition_cut.proofs.automatic.join.Goals as goal

pub returns-clause-below : goal.returns-clause-below
returns-clause-below c = lower-parent c.root_of-second.new.parents c.max-high.result c.min-low.result c.root_of-second.ensures.below (omega arith) (omega arith)

pub returns-clause-leads : goal.returns-clause-leads
returns-clause-leads c labels lead =
    let first = c.root_of-first.ensures.leads labels lead in
    let second = c.root_of-second.ensures.leads labels first.0 in
    rw (c.max-high.ensures, c.min-low.ensures) (join-roots c.root_of-second.new.parents labels c.args.a c.args.b c.root_of-first.result c.root_of-second.result
    c.root_of-second.ensures.below second.0 first.1 second.1 first.2 second.2 (omega arith) (omega arith))
