use Rattle.std.proofs.Common.{ℕ}
use Rattle.node_step.specs.Node.{PlainNode}
use Rattle.round_kernel.specs.Report.{AreCounted, AreNodes}
use Rattle.round_kernel.proofs.report.count_nodes.Given as goal

-- the nodes before this one are counted
abbrev pub invariant-loop-number : goal.invariant-loop-number
invariant-loop-number g l = (nodes : ℕ → PlainNode) → AreNodes l.groups.items l.group_of nodes →
    AreCounted nodes l.number l.counts.drops l.counts.apps.items
