use Rattle.std.proofs.lemmas.Bool.{OnTrue_at, OnTrue_from}
use Rattle.partition_cut.proofs.TestLaws.{shape-of}
use Rattle.partition_cut.proofs.tests.is_shape.Goals as goal

pub returns-then-are_named : goal.returns-then-are_named
returns-then-are_named c = OnTrue_from c.is_small.result _ (λ t.
    let named = OnTrue_at c.if-are_named.true c.are_named.ensures in
    let small = OnTrue_at t c.is_small.ensures in
    shape-of c.args.shape.now named.0 named.1 small.0 small.1)
