use Rattle.std.proofs.Common.{◌≡◌, ◌≤◌, ◌++◌, drop, length}
use Rattle.std.specs.Prelude.{All}
use Rattle.traffic_apps.specs.App.{IsKind}
use Rattle.sim_world.specs.Apps.{installed_from}
use Rattle.sim_world.proofs.apps.install.Given as goal

-- those so far, and then those that are left, are all
abbrev pub invariant-loop-it : goal.invariant-loop-it
invariant-loop-it l = record {
  all : l.apps.items ++ installed_from l.taken (drop l.it-index l.listed) ≡ installed_from 0 l.listed;
  kinds : All (λ i. IsKind i.kind) l.apps.items;
  few : l.taken ≤ l.it-index;
  count : length l.apps.items ≤ l.it-index;
}
