use Rattle.std.proofs.Common.{rules}
use Rattle.std.proofs.lemmas.Bool.{OnTrue_at, OnTrue_from}
use Rattle.test_rounds.proofs.OwnLaws.{part-may_run}
use Rattle.test_rounds.proofs.soundness.may_run.Goals as goal

pub returns : goal.returns
returns c = OnTrue_from c.are_own_tokens.result _ (λ t.
    part-may_run c.args.net.now c.args.groups.now c.args.group c.args.part.now c.len-nodes.result c.as_slice.result.now c.as_slice-tokens.result.now
    (search rules) (search rules) c.as_slice.ensures.value c.as_slice-tokens.ensures.value c.if-not-are_rising.ensures (OnTrue_at t c.are_own_tokens.ensures))
