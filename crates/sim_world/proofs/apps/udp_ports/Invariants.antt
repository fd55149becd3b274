use Rattle.std.proofs.Common.{◌≡◌, [], drop}
use Rattle.sim_world.specs.Apps.{udp_from}
use Rattle.sim_world.proofs.apps.udp_ports.Given as goal

-- the ports so far, and then those that are left, are all
abbrev pub invariant-loop-place : goal.invariant-loop-place
invariant-loop-place l = udp_from l.place l.udp.entries (drop l.place l.apps) ≡ udp_from 0 [] l.apps
