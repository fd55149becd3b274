use Rattle.std.proofs.Common.{◌≡◌, ◌++◌, drop, map}
use Rattle.std.specs.List.{enumerate_from}
use Rattle.scenario_form.specs.Across.{indexed, link_network}
use Rattle.scenario_form.proofs.across.add_link_networks.Given as goal

-- the networks so far and those of the links that are left are all
abbrev pub invariant-loop-index : goal.invariant-loop-index
invariant-loop-index l =
    l.networks.items ++ map link_network (enumerate_from l.index (drop l.index l.links)) ≡ l.fn.networks.items ++ map link_network (indexed l.links)
