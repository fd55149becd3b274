use Rattle.std.proofs.Common.{◌∙◌, length, sym, ap, arith}
use Rattle.partition_cut.specs.Network.{node_lists}
use Rattle.partition_cut.proofs.VerdictLaws.{counts-refuse, refused-places}
use Rattle.partition_cut.proofs.verdict.check.Goals as goal

pub place_refusal_of-requires : goal.place_refusal_of-requires
place_refusal_of-requires c = let l = ap length c.as_slice.ensures.value in omega (arith, c.in_ok-counts.ensures.few)

pub returns-in-Some-clause-bad : goal.returns-in-Some-clause-bad
returns-in-Some-clause-bad c = refused-places c.args.shape.now (node_lists c.args.groups.now) c.as_slice.result.now c.in_ok-counts.counts.items
    c.in-Some.bad c.in_ok-counts.ensures.counts c.as_slice.ensures.value c.in-Some.ensures

pub check_placed-requires-clause-placed : goal.check_placed-requires-clause-placed
check_placed-requires-clause-placed c =
    sym (counts-refuse c.args.shape.now (node_lists c.args.groups.now) c.as_slice.result.now (c.as_slice.ensures.value ∙ c.in_ok-counts.ensures.counts))
    ∙ sym c.in-None.ensures
