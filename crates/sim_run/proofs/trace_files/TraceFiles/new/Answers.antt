use Rattle.std.proofs.Common.{length}
use Rattle.sim_run.proofs.PieceLaws.{goes_on-new}
use Rattle.sim_run.proofs.trace_files.TraceFiles.new.Goals as goal

pub returns-clause-going : goal.returns-clause-going
returns-clause-going g c =
    goes_on-new c.args.first (length c.args.pieces.now.traces) (g.F.TraceStore.made c.args.store.now) c.requires.made c.requires.numbers
