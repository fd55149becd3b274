use Rattle.std.proofs.Common.{◌≡◌, ◌++◌, [], if◌then◌else◌, OnOk, ap, subst, ◌∙◌}
use Rattle.sim_run.specs.Output.{HasGot, HasGotPrefix}
use Rattle.sim_run.specs.Plain.{run_text}
use Rattle.sim_run.specs.Report.{report_text}
use Rattle.sim_run.specs.Run.{ending_of}
use Rattle.sim_run.specs.Summary.{summary}
use Rattle.sim_run.proofs.RunLaws.{text-ended, written-front}
use Rattle.sim_run.proofs.simulate.write_summary.Goals as goal

pub returns-clause-ok : goal.returns-clause-ok
returns-clause-ok g c =
    let s = c.args.scenario.now in
    let report = c.args.report.now in
    let text : c.as_bytes.result.now ≡ run_text c.args.settings s (ending_of s) =
    c.as_bytes.ensures.value ∙ c.in-Ok.ensures
    ∙ ap (λ apps. summary report.events report.drops apps report.apps.items ++ (if c.args.settings.report then report_text report.windows report.group_events.items else [])) c.as_slice.ensures
    ∙ text-ended s c.args.settings c.args.cut.now report c.requires.ended c.requires.named in
    subst (λ bytes. OnOk c.write_all.result (HasGot (g.O.Sink.got c.args.out.now) (g.O.Sink.got c.write_all.new.out) bytes)) text c.write_all.ensures.ok

pub returns-clause-prefix : goal.returns-clause-prefix
returns-clause-prefix g c =
    let s = c.args.scenario.now in
    let report = c.args.report.now in
    let text : c.as_bytes.result.now ≡ run_text c.args.settings s (ending_of s) =
    c.as_bytes.ensures.value ∙ c.in-Ok.ensures
    ∙ ap (λ apps. summary report.events report.drops apps report.apps.items ++ (if c.args.settings.report then report_text report.windows report.group_events.items else [])) c.as_slice.ensures
    ∙ text-ended s c.args.settings c.args.cut.now report c.requires.ended c.requires.named in
    subst (λ bytes. HasGotPrefix (g.O.Sink.got c.args.out.now) (g.O.Sink.got c.write_all.new.out) bytes) text
    (written-front c.write_all.result (g.O.Sink.got c.args.out.now) (g.O.Sink.got c.write_all.new.out) c.as_bytes.result.now c.write_all.ensures.ok c.write_all.ensures.err)
