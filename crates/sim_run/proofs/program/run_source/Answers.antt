use Rattle.std.proofs.Common.{◌≡◌, Result}
use Rattle.scenario_form.specs.declared.refusal.Refusal.{Refusal}
use Rattle.scenario_form.specs.declared.scenario.Scenario.{Scenario}
use Rattle.sim_run.specs.Output.{HasFiles, HasGot, HasFilePrefixes, HasGotPrefix}
use Rattle.sim_run.specs.Plain.{answered, IsAnswer}
use Rattle.sim_run.proofs.WholeInput.{on_input}
use Rattle.sim_run.proofs.program.run_source.Goals as goal

pub returns-clause-answer : goal.returns-clause-answer
returns-clause-answer g c =
    on_input (g.S.Source.left c.args.source.now) _ _ (λ (r : Result Scenario Refusal). IsAnswer (answered c.args.command r).status c.run_bytes.result) c.in-Ok.ensures.read
    (rw c.as_slice.ensures.value at c.run_bytes.ensures.answer)

pub returns-clause-file_prefixes : goal.returns-clause-file_prefixes
returns-clause-file_prefixes g c =
    on_input (g.S.Source.left c.args.source.now) _ _
    (λ (r : Result Scenario Refusal). HasFilePrefixes (g.F.TraceStore.files c.args.store.now) (g.F.TraceStore.files c.run_bytes.new.store) (answered c.args.command r).files)
    c.in-Ok.ensures.read (rw c.as_slice.ensures.value at c.run_bytes.ensures.file_prefixes)

pub returns-clause-text_prefix : goal.returns-clause-text_prefix
returns-clause-text_prefix g c =
    on_input (g.S.Source.left c.args.source.now) _ _
    (λ (r : Result Scenario Refusal). HasGotPrefix (g.O.Sink.got c.args.out.now) (g.O.Sink.got c.run_bytes.new.out) (answered c.args.command r).text)
    c.in-Ok.ensures.read (rw c.as_slice.ensures.value at c.run_bytes.ensures.text_prefix)

pub returns-clause-files : goal.returns-clause-files
returns-clause-files g c =
    on_input (g.S.Source.left c.args.source.now) _ _
    (λ (r : Result Scenario Refusal). c.run_bytes.result ≡ (answered c.args.command r).status → HasFiles (g.F.TraceStore.files c.args.store.now) (g.F.TraceStore.files c.run_bytes.new.store) (answered c.args.command r).files)
    c.in-Ok.ensures.read (rw c.as_slice.ensures.value at c.run_bytes.ensures.files)

pub returns-clause-text : goal.returns-clause-text
returns-clause-text g c =
    on_input (g.S.Source.left c.args.source.now) _ _
    (λ (r : Result Scenario Refusal). c.run_bytes.result ≡ (answered c.args.command r).status → HasGot (g.O.Sink.got c.args.out.now) (g.O.Sink.got c.run_bytes.new.out) (answered c.args.command r).text)
    c.in-Ok.ensures.read (rw c.as_slice.ensures.value at c.run_bytes.ensures.text)
