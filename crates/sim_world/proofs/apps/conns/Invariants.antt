use Rattle.std.proofs.Common.{◌≡◌, drop}
use Rattle.tcp_flow.specs.Conns.{no_conns}
use Rattle.sim_world.specs.Apps.{conns_from}
use Rattle.sim_world.proofs.apps.conns.Given as goal

-- those so far, and then those that are left, are all
abbrev pub invariant-loop-place : goal.invariant-loop-place
invariant-loop-place l = conns_from l.place l.conns (drop l.place l.apps) ≡ conns_from 0 no_conns l.apps
