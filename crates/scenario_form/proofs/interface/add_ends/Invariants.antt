use Rattle.std.proofs.Common.{◌≡◌, ◌++◌, drop}
use Rattle.scenario_form.specs.Across.{ends_from}
use Rattle.scenario_form.proofs.interface.add_ends.Given as goal

-- the ends so far and those of the members that are left are all
abbrev pub invariant-loop-number : goal.invariant-loop-number
invariant-loop-number l =
    l.ends.items ++ ends_from l.index l.prefix (drop l.number l.members) (drop l.number l.addresses)
    ≡ l.fn.ends.items ++ ends_from l.index l.prefix l.members l.addresses
