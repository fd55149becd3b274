use Rattle.std.proofs.Common.{◌∙◌, ap, filter, rules, sym, Option}
use Rattle.std.proofs.lemmas.Fn.{filter_same}
use Rattle.sim_base.specs.declared.key.Key.{Key}
use Rattle.sim_base.specs.KeyOrder.{before}
use Rattle.trace_merge.specs.Merge.{is_below}
use Rattle.trace_merge.proofs.MergeLaws.{all-kept}
use Rattle.trace_merge.proofs.merging.keep_below.Goals as goal

pub returns-in-None : goal.returns-in-None
returns-in-None g c = all-kept c.args.lines.items ∙ ap (λ (o : Option Key). filter (is_below o) c.args.lines.items) (sym c.in-None.is)

pub returns-in-Some : goal.returns-in-Some
returns-in-Some g c =
    filter_same _ (λ line. before line.key c.in-Some.limit) _ (λ x b f' k. search rules) _ _ c.retain.ensures.filtered
    ∙ ap (λ (o : Option Key). filter (is_below o) c.args.lines.items) (sym c.in-Some.is)
