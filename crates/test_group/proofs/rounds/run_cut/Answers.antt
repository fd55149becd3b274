use Rattle.std.proofs.Common.{subst, sym, arith}
use Rattle.sim_world.specs.World.{PlainWorld}
use Rattle.round_kernel.specs.Cut.{Fits}
use Rattle.round_kernel.proofs.FitLaws.{cut-fits}
use Rattle.test_group.proofs.GroupLaws.{stop-world_of}
use Rattle.test_group.proofs.rounds.run_cut.Goals as goal

pub run_rounds-answer-requires-clause-stop : goal.run_rounds-answer-requires-clause-stop
run_rounds-answer-requires-clause-stop g c κs lives = stop-world_of c.args.scenario.now c.in-Ok.world c.in-Ok.ensures.world c.requires.limits.stop_ns.to

pub run_rounds-answer-requires-clause-fits : goal.run_rounds-answer-requires-clause-fits
run_rounds-answer-requires-clause-fits g c κs lives =
    let limits = c.requires.limits.nodes in
    subst (λ (w : PlainWorld). Fits w c.in_ok-cut.cut) (sym c.in-Ok.ensures.world)
    (cut-fits c.args.scenario.now c.in_ok-shape.shape c.in_ok-cut.cut c.in_ok-shape.ensures.network limits.from (let most = limits.to in omega arith)
    c.in_ok-cut.ensures.allowed)
