use Rattle.std.proofs.Common.{arith}
use Rattle.trace_merge.proofs.MergeLaws.{merged-empty, merged-more, merged-one}
use Rattle.trace_merge.proofs.merging.merge.Goals as goal

pub pairs-preserved : goal.pairs-preserved
pairs-preserved g c = merged-more _ _ _ c.pairs.invariant c.in_ok-merge_front.ensures

pub returns-in-Some : goal.returns-in-Some
returns-in-Some g c =
    merged-one _ c.pairs.lists.items c.pop_front.new.self.items c.in-Some.lines c.args.limit c.keep_below.result.items c.pairs.invariant
    c.in-Some.ensures.items (omega (arith, c.pairs.lists.ok.0)) c.keep_below.ensures

pub returns : goal.returns
returns g c =
    merged-empty _ c.pairs.lists.items c.args.limit c.new.result.items c.pairs.invariant
    (omega (arith, c.pairs.lists.ok.0, c.in-None.ensures.cases.0)) c.new.ensures.items
