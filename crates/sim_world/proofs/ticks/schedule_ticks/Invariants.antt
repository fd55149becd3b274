use Rattle.std.proofs.Common.{◌≡◌, ◌≤◌, ◌++◌, drop, map}
use Rattle.node_step.specs.Loads.{plain_event}
use Rattle.sim_world.specs.Ticks.{ticks_from, ticks_of}
use Rattle.sim_world.proofs.ticks.schedule_ticks.Given as goal

-- the ticks so far, and then those that are left, are all
abbrev pub invariant-loop-place : goal.invariant-loop-place
invariant-loop-place g l = record {
  all : map (plain_event g.P.Pkt.plain) l.first.items ++ ticks_from l.node l.place l.count (drop l.place l.apps)
      ≡ map (plain_event g.P.Pkt.plain) l.fn.first.items ++ ticks_of l.node l.apps;
  few : l.count ≤ l.place;
}
