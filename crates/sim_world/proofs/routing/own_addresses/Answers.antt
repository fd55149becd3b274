use Rattle.sim_world.proofs.RouteLaws.{own_next}
use Rattle.sim_world.proofs.routing.own_addresses.Goals as goal

pub loop-end-preserved : goal.loop-end-preserved
loop-end-preserved c = own_next c.loop-end.end-index c.args.ends.now _ c.loop-end.own.keys c.insert.new.self.keys _ c.loop-end-test.true c.loop-end.invariant c.in_ok-insert.ensures.keys
