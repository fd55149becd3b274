use Rattle.std.proofs.Common.{◌≡◌, drop}
use Rattle.scenario_form.specs.Across.{none_twice}
use Rattle.scenario_form.proofs.twice.check_none_twice.Given as goal

-- the check of the keys that are left is that of all
abbrev pub invariant-loop-place : goal.invariant-loop-place
invariant-loop-place g l =
    none_twice g.K.PartialEq.eq l.held.keys (drop l.place-index l.keys) ≡ none_twice g.K.PartialEq.eq l.fn.held.keys l.keys
