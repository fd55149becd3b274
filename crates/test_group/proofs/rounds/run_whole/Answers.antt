use Rattle.test_group.proofs.GroupLaws.{stop-world_of}
use Rattle.test_group.proofs.rounds.run_whole.Goals as goal

pub run_plain-answer-requires-clause-stop : goal.run_plain-answer-requires-clause-stop
run_plain-answer-requires-clause-stop c κs = stop-world_of c.args.scenario.now c.in-Ok.world c.in-Ok.ensures.world c.requires.limits.stop_ns.to
