use Rattle.std.proofs.Common.{sym, ap, ◌∷◌, ◌++◌, [], ◌∙◌}
use Rattle.row_work.proofs.OrderLaws.{numbers-more}
use Rattle.row_work.proofs.order.numbers_below.Goals as goal

pub loop-number-preserved : goal.loop-number-preserved
loop-number-preserved c = c.in_ok-push.ensures.items ∙ ap (λ l. l ++ c.loop-number.number ∷ []) c.loop-number.invariant ∙ sym (numbers-more c.loop-number.number)
