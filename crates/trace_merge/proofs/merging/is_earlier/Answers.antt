use Rattle.std.proofs.Common.{◌∙◌, sym}
use Rattle.trace_merge.proofs.MergeLaws.{first-key, last-key, same-keys}
use Rattle.trace_merge.proofs.merging.is_earlier.Goals as goal

pub returns-then-first : goal.returns-then-first
returns-then-first g c = first-key c.args.a.now c.args.b.now (sym c.is_before-first.ensures ∙ c.if-first.true)

pub returns-then-last : goal.returns-then-last
returns-then-last g c = last-key c.args.a.now c.args.b.now (sym c.is_before-first.ensures ∙ c.if-first.false) (sym c.is_before-last.ensures ∙ c.if-last.true)

pub returns : goal.returns
returns g c = same-keys c.args.a.now c.args.b.now (sym c.is_before-first.ensures ∙ c.if-first.false) (sym c.is_before-last.ensures ∙ c.if-last.false)
