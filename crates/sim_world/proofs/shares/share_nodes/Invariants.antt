use Rattle.std.proofs.Common.{length}
use Rattle.sim_world.proofs.ShareLaws.{Sharing}
use Rattle.sim_world.proofs.shares.share_nodes.Given as goal

abbrev pub invariant-nodes : goal.invariant-nodes
invariant-nodes g l = Sharing l.group_of l.fn.nodes.items l.fn.shares.items l.nodes.items l.shares.items

abbrev pub decreases-nodes : goal.decreases-nodes
decreases-nodes g l = length l.nodes.items
