use Rattle.sim_world.proofs.RouteLaws.{way_next}
use Rattle.sim_world.proofs.routing.ways.Goals as goal

pub loop-entry-preserved : goal.loop-entry-preserved
loop-entry-preserved c =
    way_next c.loop-entry.entry-index c.args.entries.now _ c.loop-entry.ways.entries c.insert.new.self.entries _ c.loop-entry-test.true c.loop-entry.invariant c.in_ok-insert.ensures.entries
