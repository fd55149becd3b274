use Rattle.partition_cut.proofs.VerdictLaws.{refusal-exact}
use Rattle.partition_cut.proofs.verdict.refusals_are_exact.Goals as goal

pub returns : goal.returns
returns c shape groups = refusal-exact shape groups
