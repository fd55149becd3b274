use Rattle.test_group.proofs.GroupLaws.{stop-world_of}
use Rattle.test_group.proofs.run.run_scenario.Goals as goal

pub run_world-requires-clause-stop : goal.run_world-requires-clause-stop
run_world-requires-clause-stop g c κs = stop-world_of c.args.scenario.now c.in-Ok.world c.in-Ok.ensures.world c.requires.limits.stop_ns.to
