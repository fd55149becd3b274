use Rattle.partition_cut.specs.NamedCut.{one_cut}
use Rattle.sim_run.proofs.PartitionLaws.{allowed-for, named-for}
use Rattle.sim_run.proofs.partition.one_cut.Goals as goal

pub returns-clause-allowed : goal.returns-clause-allowed
returns-clause-allowed c = allowed-for c.args.scenario.now c.in_ok-shape.shape c.one.result c.in_ok-shape.ensures.network c.one.ensures.allowed

pub returns-clause-named : goal.returns-clause-named
returns-clause-named c = named-for c.args.scenario.now c.in_ok-shape.shape one_cut c.one.result c.in_ok-shape.ensures.network c.one.ensures.named
