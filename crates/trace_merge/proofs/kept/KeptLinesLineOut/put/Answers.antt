use Rattle.trace_merge.proofs.KeptLaws.{kept-stopped, kept-all}
use Rattle.trace_merge.proofs.kept.KeptLinesLineOut.put.Goals as goal

pub returns-in_default-clause-lines : goal.returns-in_default-clause-lines
returns-in_default-clause-lines g c start before held =
    rw c.loop-line.invariant.failed
    (kept-stopped g.P.Pkt.plain start.lines.items before c.args.lines.now c.loop-line.line-index _ _ _ c.requires.going c.loop-line.invariant.lines held)

pub returns-in_default-push-clause-lines : goal.returns-in_default-push-clause-lines
returns-in_default-push-clause-lines g c start before held =
    rw (c.loop-line.invariant.failed, c.in_default-push.ensures.items)
    (kept-stopped g.P.Pkt.plain start.lines.items before c.args.lines.now c.loop-line.line-index _ _ _ c.requires.going c.loop-line.invariant.lines held)

pub returns-clause-lines : goal.returns-clause-lines
returns-clause-lines g c start before held =
    kept-all g.P.Pkt.plain start.lines.items before c.args.lines.now c.loop-line.line-index _ _ _ c.loop-line-test.false c.requires.going c.loop-line.invariant.lines held
