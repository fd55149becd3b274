use Rattle.std.proofs.Common.{[], ◌∙◌, subst}
use Rattle.sim_run.specs.Traces.{trace_files}
use Rattle.sim_run.specs.Growth.{HasNewFiles}
use Rattle.sim_run.specs.Output.{HasFilePrefixes}
use Rattle.sim_run.proofs.RunFiles.{empty-cut, empty_files, heads-cut, with_heads-made}
use Rattle.sim_run.proofs.create.open_traces.Goals as goal

pub returns-in-Err-clause-err : goal.returns-in-Err-clause-err
returns-in-Err-clause-err g c lines =
    subst (λ cs. HasFilePrefixes (g.F.TraceStore.files c.args.store.now) (g.F.TraceStore.files c.create_files.new.store) (trace_files cs lines))
    (c.deref.ensures.value ∙ c.in-Ok.ensures.traces) (c.in-Err.ensures.err lines)

pub returns-in_default-make-clause-err : goal.returns-in_default-make-clause-err
returns-in_default-make-clause-err g c lines =
    subst (λ cs. HasFilePrefixes (g.F.TraceStore.files c.args.store.now) (g.F.TraceStore.files c.create_files.new.store) (trace_files cs lines))
    (c.deref.ensures.value ∙ c.in-Ok.ensures.traces)
    (empty-cut (g.F.TraceStore.files c.args.store.now) (g.F.TraceStore.files c.create_files.new.store) c.in-Ok-create_files.first c.deref.result.now lines
    c.in-Ok-create_files.ensures.ok)

pub returns-in-Ok-append_pieces-clause-ok : goal.returns-in-Ok-append_pieces-clause-ok
returns-in-Ok-append_pieces-clause-ok g c =
    let before = g.F.TraceStore.files c.args.store.now in
    let mid = g.F.TraceStore.files c.create_files.new.store in
    let after = g.F.TraceStore.files c.append_pieces.new.store in
    let first = c.in-Ok-create_files.first in
    let traces = c.in-Ok.traces.items in
    let made = subst (λ cs. HasNewFiles before mid first (empty_files cs)) c.deref.ensures.value c.in-Ok-create_files.ensures.ok in
    subst (λ cs. HasNewFiles before after first (trace_files cs [])) c.in-Ok.ensures.traces
    (with_heads-made before mid after first traces made (rw c.in-Ok-make.ensures at c.in-Ok-append_pieces.ensures.ok))

pub returns-in-Err-append_pieces-clause-err : goal.returns-in-Err-append_pieces-clause-err
returns-in-Err-append_pieces-clause-err g c lines =
    let before = g.F.TraceStore.files c.args.store.now in
    let mid = g.F.TraceStore.files c.create_files.new.store in
    let after = g.F.TraceStore.files c.append_pieces.new.store in
    let first = c.in-Ok-create_files.first in
    let traces = c.in-Ok.traces.items in
    let made = subst (λ cs. HasNewFiles before mid first (empty_files cs)) c.deref.ensures.value c.in-Ok-create_files.ensures.ok in
    subst (λ cs. HasFilePrefixes before after (trace_files cs lines)) c.in-Ok.ensures.traces
    (heads-cut before mid after first traces lines made (rw c.in-Ok-make.ensures at c.in-Err-append_pieces.ensures.err))
