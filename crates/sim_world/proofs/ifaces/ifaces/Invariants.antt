use Rattle.std.proofs.Common.{◌≡◌, take, map}
use Rattle.sim_world.specs.Ifaces.{iface_of}
use Rattle.sim_world.specs.Plan.{planned_around}
use Rattle.sim_world.proofs.ifaces.ifaces.Given as goal

-- the interfaces so far
abbrev pub invariant-loop-end : goal.invariant-loop-end
invariant-loop-end g l = l.ifaces.items ≡ map (iface_of (planned_around l.told l.losses l.plan)) (take l.end-index l.ends)
