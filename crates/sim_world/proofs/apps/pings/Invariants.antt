use Rattle.std.proofs.Common.{◌≡◌, [], drop}
use Rattle.sim_world.specs.Apps.{pings_from}
use Rattle.sim_world.proofs.apps.pings.Given as goal

-- those so far, and then those that are left, are all
abbrev pub invariant-loop-place : goal.invariant-loop-place
invariant-loop-place l = pings_from l.place l.pings.entries (drop l.place l.apps) ≡ pings_from 0 [] l.apps
