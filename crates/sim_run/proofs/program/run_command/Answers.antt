use Rattle.std.proofs.Common.{refl}
use Rattle.sim_run.proofs.ShowLaws.{shown-begins_none, shown-makes_none, untouched_both}
use Rattle.sim_run.proofs.WholeInput.{for_any}
use Rattle.sim_run.proofs.program.run_command.Goals as goal

pub returns-in-Demo-clause-answer : goal.returns-in-Demo-clause-answer
returns-in-Demo-clause-answer g c = rw c.in-Demo.is (for_any (g.S.Source.left c.args.source.now) _ c.run_demo.ensures.answer)

pub returns-in-Demo-clause-files : goal.returns-in-Demo-clause-files
returns-in-Demo-clause-files g c = rw c.in-Demo.is (for_any (g.S.Source.left c.args.source.now) _ c.run_demo.ensures.files)

pub returns-in-Demo-clause-text : goal.returns-in-Demo-clause-text
returns-in-Demo-clause-text g c = rw c.in-Demo.is (for_any (g.S.Source.left c.args.source.now) _ c.run_demo.ensures.text)

pub returns-in-Demo-clause-file_prefixes : goal.returns-in-Demo-clause-file_prefixes
returns-in-Demo-clause-file_prefixes g c = rw c.in-Demo.is (for_any (g.S.Source.left c.args.source.now) _ c.run_demo.ensures.file_prefixes)

pub returns-in-Demo-clause-text_prefix : goal.returns-in-Demo-clause-text_prefix
returns-in-Demo-clause-text_prefix g c = rw c.in-Demo.is (for_any (g.S.Source.left c.args.source.now) _ c.run_demo.ensures.text_prefix)

pub returns-in-Show-clause-answer : goal.returns-in-Show-clause-answer
returns-in-Show-clause-answer g c = rw c.in-Show.is c.show.ensures.answer

pub returns-in-Show-clause-untouched : goal.returns-in-Show-clause-untouched
returns-in-Show-clause-untouched g c = untouched_both c.show.result _ _ _ _ refl c.show.ensures.untouched

pub returns-in-Show-clause-files : goal.returns-in-Show-clause-files
returns-in-Show-clause-files g c =
    rw c.in-Show.is (shown-makes_none (g.S.Source.left c.args.source.now) (g.F.TraceStore.files c.args.store.now) c.show.result)

pub returns-in-Show-clause-text : goal.returns-in-Show-clause-text
returns-in-Show-clause-text g c = rw c.in-Show.is c.show.ensures.text

pub returns-in-Show-clause-file_prefixes : goal.returns-in-Show-clause-file_prefixes
returns-in-Show-clause-file_prefixes g c =
    rw c.in-Show.is (shown-begins_none (g.S.Source.left c.args.source.now) (g.F.TraceStore.files c.args.store.now))

pub returns-in-Show-clause-text_prefix : goal.returns-in-Show-clause-text_prefix
returns-in-Show-clause-text_prefix g c = rw c.in-Show.is c.show.ensures.text_prefix
