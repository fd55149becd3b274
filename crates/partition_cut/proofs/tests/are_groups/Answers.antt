use Rattle.std.proofs.lemmas.Bool.{OnTrue_at, OnTrue_from}
use Rattle.partition_cut.proofs.TestLaws.{groups-of}
use Rattle.partition_cut.proofs.tests.are_groups.Goals as goal

pub returns-then-are_full : goal.returns-then-are_full
returns-then-are_full c = OnTrue_from c.have_nodes.result _ (λ t.
    groups-of c.args.shape.now c.args.groups.now (OnTrue_at c.if-are_full.true c.are_full.ensures) (OnTrue_at t c.have_nodes.ensures))
