use Rattle.std.proofs.Common.{◌≡◌, ◌++◌, drop}
use Rattle.std.specs.List.{flat_map, enumerate_from}
use Rattle.scenario_form.specs.Across.{link_ends, ends_of_links}
use Rattle.scenario_form.proofs.interface.ends_of_links.Given as goal

-- the ends so far and those of the links that are left are those of all
abbrev pub invariant-loop-index : goal.invariant-loop-index
invariant-loop-index l =
    l.ends.items ++ flat_map link_ends (enumerate_from l.index (drop l.index l.links)) ≡ ends_of_links l.links
