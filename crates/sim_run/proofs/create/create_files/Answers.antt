use Rattle.std.proofs.Common.{◌≡◌, ◌<◌, ◌∙◌, length, take, drop, get_or, subst, arith}
use Rattle.std.proofs.lemmas.List.{take-append-drop}
use Rattle.sim_run.specs.declared.traces.Trace.{Trace}
use Rattle.sim_run.specs.declared.traces.Trace.TheVariants.{Packets}
use Rattle.sim_run.specs.Traces.{trace_files, trace_name}
use Rattle.sim_run.specs.Output.{HasFilePrefixes}
use Rattle.sim_run.proofs.CreateLaws.{any-default, takes-first, takes-next, new_files-push, new_files-refused, first-within}
use Rattle.sim_run.proofs.RunFiles.{made-cut, nothing-new}
use Rattle.sim_run.proofs.create.create_files.Goals as goal

pub loop-i-init : goal.loop-i-init
loop-i-init g c = record {
  new = nothing-new (g.F.TraceStore.files c.args.store.now) 0;
  made = omega arith;
  numbers = omega arith;
  known = omega arith;
  takes = takes-first (g.F.TraceStore.takes c.args.store.now) c.requires.names c.args.traces.now;
  later = omega arith;
}

pub returns-in_default-clause-err : goal.returns-in_default-clause-err
returns-in_default-clause-err g c lines =
    let i = c.loop-i.i in
    subst (λ cs. HasFilePrefixes (g.F.TraceStore.files c.args.store.now) (g.F.TraceStore.files c.loop-i.store) (trace_files cs lines))
    (take-append-drop i c.args.traces.now)
    (made-cut (g.F.TraceStore.files c.args.store.now) (g.F.TraceStore.files c.loop-i.store) c.loop-i.first (take i c.args.traces.now) (drop i c.args.traces.now) lines c.loop-i.invariant.new)

pub returns-in-Err-clause-err : goal.returns-in-Err-clause-err
returns-in-Err-clause-err g c lines =
    let i = c.loop-i.i in
    let before = g.F.TraceStore.files c.args.store.now in
    let after = g.F.TraceStore.files c.create.new.self in
    subst (λ cs. HasFilePrefixes before after (trace_files cs lines)) (take-append-drop i c.args.traces.now)
    (made-cut before after c.loop-i.first (take i c.args.traces.now) (drop i c.args.traces.now) lines
    (new_files-refused before (g.F.TraceStore.files c.loop-i.store) after c.loop-i.first _ _ c.in-Err.stop c.loop-i.invariant.new c.in-Err.ensures.files))

pub loop-i-preserved : goal.loop-i-preserved
loop-i-preserved g c =
    let traces = c.args.traces.now in
    let i = c.loop-i.i in
    let none : Trace = Packets (record { node = record { 0 = 0 }; iface = 0; linktype = 0 }) in
    let item : Trace = get_or traces i none in
    let within : i < length traces = omega arith in
    let is : item ≡ get_or traces i item = any-default traces i none item within in
    let called : c.as_str.result.now ≡ trace_name item = c.as_str.ensures.value ∙ c.in-Ok.ensures in
    let bounds =
    first-within i c.loop-i.first c.in-Ok-create.number (g.F.TraceStore.made c.loop-i.store) (g.F.TraceStore.made c.create.new.self) (g.F.TraceStore.made c.args.store.now)
    c.loop-i.invariant.known c.in-Ok-create.ensures.number c.in-Ok-create.ensures.made c.loop-i.invariant.made c.first_of-first.ensures.fits in record {
      new = rw c.first_of-first.ensures.first
          (new_files-push (g.F.TraceStore.files c.args.store.now) (g.F.TraceStore.files c.loop-i.store) (g.F.TraceStore.files c.create.new.self) traces i c.loop-i.first
          c.in-Ok-create.number c.as_str.result.now item within is called c.loop-i.invariant.new c.in-Ok-create.ensures.files);
      made = rw c.first_of-first.ensures.first bounds.0;
      numbers = rw c.first_of-first.ensures.first bounds.1;
      known = omega (arith, c.in-Ok-create.ensures.made, c.loop-i.invariant.known);
      takes = takes-next traces i item (g.F.TraceStore.takes c.loop-i.store) (g.F.TraceStore.takes c.create.new.self) within is c.requires.own_names
          (λ other apart. c.in-Ok-create.ensures.takes other (λ same. apart (same ∙ called))) c.loop-i.invariant.takes;
      later = omega (arith, c.in-Ok-create.ensures.cause.later, c.loop-i.invariant.later);
    }
