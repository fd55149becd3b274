use Rattle.std.proofs.Common.{◌≤◌, ◌^◌, subst, sym, arith}
use Rattle.sim_world.specs.World.{PlainWorld}
use Rattle.round_kernel.specs.Cut.{Fits}
use Rattle.round_kernel.proofs.FitLaws.{cut-fits}
use Rattle.sim_run.proofs.RunLaws.{world_of-stop}
use Rattle.sim_run.proofs.SavingLaws.{heads-begin, saves-cut, saves-files, saves-own}
use Rattle.sim_run.proofs.simulate.write_traces.Goals as goal

pub save_run-requires-clause-stop : goal.save_run-requires-clause-stop
save_run-requires-clause-stop g c κs within =
    subst (λ (w : PlainWorld). w.stop.0 ≤ 10 ^ 12) (sym c.in-Ok-make.ensures.world) (world_of-stop c.args.scenario.now c.requires.limits)

pub save_run-requires-clause-fits : goal.save_run-requires-clause-fits
save_run-requires-clause-fits g c κs within =
    let is = c.requires.cut in
    let nodes = c.requires.limits.nodes in
    let some = nodes.from in
    let few = nodes.to in
    subst (λ (w : PlainWorld). Fits w c.args.cut.now) (sym c.in-Ok-make.ensures.world)
    (cut-fits c.args.scenario.now is.shape c.args.cut.now is.network some (omega arith) is.is_cut)

pub returns-in_default-clause-file_prefixes : goal.returns-in_default-clause-file_prefixes
returns-in_default-clause-file_prefixes g c =
    heads-begin c.args.scenario.now c.in-Ok.opened.first (g.F.TraceStore.files c.args.store.now) (g.F.TraceStore.files c.open_traces.new.store) c.in-Ok.ensures.ok

pub returns-clause-files : goal.returns-clause-files
returns-clause-files g c =
    let s = c.args.scenario.now in
    let first = c.in-Ok.opened.first in
    let mid = g.F.TraceStore.files c.open_traces.new.store in
    let after = g.F.TraceStore.files c.save_run.new.store in
    saves-files s c.args.cut.now first (g.F.TraceStore.files c.args.store.now) mid after c.in-Ok.ensures.ok c.save_run.result
    (saves-own s c.in-Ok-make.world c.args.cut.now c.in-Ok.opened.pieces.traces first mid after c.save_run.result c.in-Ok-make.ensures.world c.in-Ok.ensures.traces c.save_run.ensures.saves)

pub returns-clause-file_prefixes : goal.returns-clause-file_prefixes
returns-clause-file_prefixes g c =
    let s = c.args.scenario.now in
    let first = c.in-Ok.opened.first in
    let mid = g.F.TraceStore.files c.open_traces.new.store in
    let after = g.F.TraceStore.files c.save_run.new.store in
    saves-cut s c.args.cut.now first (g.F.TraceStore.files c.args.store.now) mid after c.in-Ok.ensures.ok c.save_run.result
    (saves-own s c.in-Ok-make.world c.args.cut.now c.in-Ok.opened.pieces.traces first mid after c.save_run.result c.in-Ok-make.ensures.world c.in-Ok.ensures.traces c.save_run.ensures.saves)
