use Rattle.sim_base.proofs.PacketLaws.{cut-all, cut-cut}
use Rattle.sim_base.proofs.CutJoinLaws.{cut-join-first, cut-join-second, join-cut}
use Rattle.sim_base.proofs.laws.cuts_and_joins_are_undone.Goals as goal

pub returns-clause-all : goal.returns-clause-all
returns-clause-all c = cut-all

pub returns-clause-twice : goal.returns-clause-twice
returns-clause-twice c = cut-cut

pub returns-clause-first : goal.returns-clause-first
returns-clause-first c = cut-join-first

pub returns-clause-second : goal.returns-clause-second
returns-clause-second c = cut-join-second

pub returns-clause-halves : goal.returns-clause-halves
returns-clause-halves c = join-cut
