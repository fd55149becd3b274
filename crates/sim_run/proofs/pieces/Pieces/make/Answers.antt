use Rattle.std.proofs.Common.{◌≡◌, ◌<◌, ◌≤◌, ◌∙◌, ◌++◌, length, take, get_or, ap, sym, subst, arith}
use Rattle.std.proofs.lemmas.List.{length-take-le}
use Rattle.sim_run.specs.declared.traces.Trace.{Trace}
use Rattle.sim_run.specs.declared.traces.Trace.TheVariants.{Packets}
use Rattle.sim_run.specs.Places.{FindsPlaces}
use Rattle.sim_run.specs.Traces.{trace_head}
use Rattle.sim_run.proofs.CreateLaws.{any-default}
use Rattle.sim_run.proofs.PlaceLaws.{finds-all, heads-more, heads-count, own-more, traces-more}
use Rattle.sim_run.proofs.pieces.Pieces.make.Goals as goal

pub loop-place-preserved : goal.loop-place-preserved
loop-place-preserved c =
    let traces = c.args.traces.items in
    let place = c.loop-place.place in
    let none : Trace = Packets (record { node = record { 0 = 0 }; iface = 0; linktype = 0 }) in
    let item : Trace = get_or traces place none in
    let within : place < length traces = omega (arith, ap length c.deref-trace-items.ensures.value) in
    let is : item ≡ get_or traces place item = any-default traces place none item within in
    let at : place ≡ length (take place traces) = sym (length-take-le place traces (omega arith)) in record {
      found = subst (λ ts. FindsPlaces c.note.new.self ts) (traces-more traces place item within is)
          ((rw c.deref-trace-items.ensures.value at c.in_ok-note.ensures) (take place traces) c.loop-place.invariant.found (own-more traces place item within is c.requires) at);
      heads = heads-more traces place item c.loop-place.pieces.items c.push.new.self.items c.write_trace_head.new.piece within is c.loop-place.invariant.heads
          c.in_ok-push.ensures.items
          (rw c.deref-trace-items.ensures.value at c.in_ok-write_trace_head.ensures ∙ ap (λ front. front ++ trace_head item) c.new-piece.ensures.items);
    }

pub invariant_of-result : goal.invariant_of-result
invariant_of-result c =
    let all : length c.args.traces.items ≤ c.loop-place.place = omega (arith, ap length c.deref-trace-items.ensures.value) in record {
      own = c.requires;
      found = finds-all c.loop-place.places c.args.traces.items c.loop-place.place all c.loop-place.invariant.found;
      count = heads-count c.args.traces.items c.loop-place.place c.loop-place.pieces.items all c.loop-place.invariant.heads;
    }
