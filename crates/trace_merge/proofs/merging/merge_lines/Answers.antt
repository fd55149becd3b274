use Rattle.trace_merge.proofs.MergeLaws.{merging-ends, merging-next, merging-start}
use Rattle.trace_merge.proofs.merging.merge_lines.Goals as goal

pub lines-init : goal.lines-init
lines-init g c =
    merging-start c.args.first.items c.args.second.items c.in_ok-lines.lines.items c.from-left.result.items c.from-right.result.items
    c.requires.rise c.requires.apart c.in_ok-lines.ensures.items c.from-left.ensures.0 c.from-right.ensures.0

pub lines-preserved : goal.lines-preserved
lines-preserved g c =
    merging-next c.args.first.items c.args.second.items c.lines.lines.items c.push.new.self.items c.lines.left.items c.lines.right.items
    c.take_next.new.first.items c.take_next.new.second.items c.in-Some.line c.lines.invariant c.in-Some.ensures.some c.in_ok-push.ensures.items

pub returns : goal.returns
returns g c =
    merging-ends c.args.first.items c.args.second.items c.lines.lines.items c.lines.left.items c.lines.right.items c.lines.invariant
    c.in_default.ensures.none.0 c.in_default.ensures.none.1
