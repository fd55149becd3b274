use Rattle.std.proofs.Common.{◌≡◌, ◌++◌, drop, map}
use Rattle.std.specs.List.{enumerate_from}
use Rattle.scenario_form.specs.Across.{indexed, lan_network}
use Rattle.scenario_form.proofs.across.add_lan_networks.Given as goal

-- the networks so far and those of the LANs that are left are all
abbrev pub invariant-loop-index : goal.invariant-loop-index
invariant-loop-index l =
    l.networks.items ++ map lan_network (enumerate_from l.index (drop l.index l.lans)) ≡ l.fn.networks.items ++ map lan_network (indexed l.lans)
