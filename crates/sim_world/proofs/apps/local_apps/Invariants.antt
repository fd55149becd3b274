use Rattle.std.proofs.Common.{◌≡◌, take, map}
use Rattle.sim_world.specs.Apps.{local_app}
use Rattle.sim_world.proofs.apps.local_apps.Given as goal

-- the applications so far
abbrev pub invariant-loop-app : goal.invariant-loop-app
invariant-loop-app l = l.local.items ≡ map local_app (take l.app-index l.apps)
