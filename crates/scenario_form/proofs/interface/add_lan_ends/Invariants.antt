use Rattle.std.proofs.Common.{◌≡◌, ◌++◌, drop}
use Rattle.std.specs.List.{flat_map, enumerate_from}
use Rattle.scenario_form.specs.Across.{lan_ends, ends_of_lans}
use Rattle.scenario_form.proofs.interface.add_lan_ends.Given as goal

-- the ends so far and those of the LANs that are left are all
abbrev pub invariant-loop-index : goal.invariant-loop-index
invariant-loop-index l =
    l.ends.items ++ flat_map lan_ends (enumerate_from l.index (drop l.index l.lans)) ≡ l.fn.ends.items ++ ends_of_lans l.lans
