use Rattle.std.proofs.Common.{◌≡◌, ℕ, drop, nat_eq, None}
use Rattle.std.specs.HashMap.{get}
use Rattle.scenario_form.specs.Lookups.{found_from}
use Rattle.scenario_form.proofs.lookups.by_address.Given as goal

-- what is found so far and among those that are left is what is found among all
abbrev pub invariant-loop-end : goal.invariant-loop-end
invariant-loop-end l =
    (a : ℕ) → found_from (get nat_eq l.found a) (drop l.end-index l.ends) a ≡ found_from None l.ends a
