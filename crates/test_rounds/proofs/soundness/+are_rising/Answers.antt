use Rattle.std.proofs.lemmas.Bool.{OnTrue_at, OnTrue_from}
use Rattle.test_rounds.proofs.OwnLaws.{first-rises}
use Rattle.test_rounds.proofs.soundness.+are_rising.Goals as goal

pub returns-then-comes_before : goal.returns-then-comes_before
returns-then-comes_before t c = OnTrue_from c.are_rising.result _ (λ yes.
    first-rises c.args.tokens.now _ c.in-len1-up.len_at_least (OnTrue_at c.if-comes_before.true c.comes_before.ensures) (OnTrue_at yes c.are_rising.ensures))
