use Rattle.round_kernel.proofs.FitLaws.{cut-fits}
use Rattle.round_kernel.proofs.laws.allowed_cuts_fit.Goals as goal

pub returns : goal.returns
returns c s shape cut are some few is = cut-fits s shape cut are some few is
