use Rattle.std.proofs.Common.{◌≡◌, ◌++◌, map, take}
use Rattle.node_step.specs.LocalApp.{app_count}
use Rattle.node_step.proofs.node.Node.add_counts.Given as goal

-- the applications so far are counted
abbrev pub invariant-loop-app : goal.invariant-loop-app
invariant-loop-app g l = l.counts.items ≡ l.fn.counts.items ++ map app_count (take l.app-index l.app-items)
