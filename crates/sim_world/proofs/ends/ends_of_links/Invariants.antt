use Rattle.std.proofs.Common.{◌≡◌, [], fold, take}
use Rattle.std.specs.List.{enumerate_from}
use Rattle.sim_world.specs.Grouping.{grouped}
use Rattle.sim_world.specs.Ends.{node_of, with_link}
use Rattle.sim_world.proofs.ends.ends_of_links.Given as goal

-- the ends of the links so far
abbrev pub invariant-loop-number : goal.invariant-loop-number
invariant-loop-number l = l.ends.items ≡ grouped node_of l.nodes (fold with_link [] (take l.number (enumerate_from 0 l.links)))
