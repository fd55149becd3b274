use Rattle.std.proofs.Common.{◌≡◌, [], fold, length, take}
use Rattle.std.specs.List.{enumerate_from}
use Rattle.sim_world.specs.Grouping.{grouped}
use Rattle.sim_world.specs.Ends.{node_of, with_lan, with_link}
use Rattle.sim_world.proofs.ends.ends_by_node.Given as goal

-- the ends of links, and the faces on the LANs so far
abbrev pub invariant-loop-number : goal.invariant-loop-number
invariant-loop-number l =
    l.ends.items ≡ grouped node_of l.nodes (fold (with_lan (length l.links)) (fold with_link [] (enumerate_from 0 l.links)) (take l.number (enumerate_from 0 l.lans)))
