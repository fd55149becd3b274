use Rattle.std.proofs.Common.{rules}
use Rattle.partition_cut.specs.Network.{plain_shape}
use Rattle.partition_cut.proofs.NamedLaws.{named-one}
use Rattle.partition_cut.proofs.whole.one.Goals as goal

pub returns-clause-named : goal.returns-clause-named
returns-clause-named c = named-one (plain_shape c.args.shape.now) c.in_ok-group_of.group_of.items c.min.result (search rules) c.min.ensures
