use Rattle.std.proofs.Common.{rules, of_calls}
use Rattle.std.proofs.lemmas.Fn.{always_returns_same}
use Rattle.row_work.proofs.OrderLaws.{falls, falls-strictly, in-order, numbers-moved}
use Rattle.row_work.proofs.order.put_in_order.Goals as goal

pub returns : goal.returns
returns c =
    in-order c.args.estimates.now _ c.requires.few (numbers-moved _ c.args.numbers.now _ c.requires.numbers c.sort_unstable_by.ensures.permutation)
    (c.sort_unstable_by.ensures.sorted (falls c.args.estimates.now) (falls-strictly c.args.estimates.now)
    (always_returns_same _ _ _ (λ a r f k. search (rules, of_calls))))
