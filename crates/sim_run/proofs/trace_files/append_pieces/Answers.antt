use Rattle.std.proofs.Common.{◌<◌, ◌≤◌, length, subst, refl, arith, rules}
use Rattle.std.proofs.lemmas.List.{take_all}
use Rattle.sim_run.specs.Pieces.{HasGrownFrom}
use Rattle.sim_run.proofs.PieceLaws.{grown-none, grown-more, grown-stopped}
use Rattle.sim_run.proofs.trace_files.append_pieces.Goals as goal

pub loop-place-init : goal.loop-place-init
loop-place-init g c = record {
  grown = grown-none (g.F.TraceStore.files c.args.store.now) c.args.first;
  made = refl;
  later = omega arith;
}

pub loop-place-preserved : goal.loop-place-preserved
loop-place-preserved g c =
    let within : c.loop-place.place < length c.args.pieces.now.pieces =
    omega (arith, c.count-place-end.ensures.pieces) in record {
      grown = grown-more (g.F.TraceStore.files c.args.store.now) (g.F.TraceStore.files c.loop-place.store) (g.F.TraceStore.files c.append_all.new.store)
          c.args.first c.loop-place.place c.args.pieces.now.pieces within c.loop-place.invariant.grown
          (rw c.piece.ensures at c.in-Ok.ensures.ok);
      made = search rules;
      later = search rules;
    }

pub returns-in-Err-clause-err : goal.returns-in-Err-clause-err
returns-in-Err-clause-err g c =
    let within : c.loop-place.place < length c.args.pieces.now.pieces =
    omega (arith, c.count-place-end.ensures.pieces) in
    grown-stopped (g.F.TraceStore.files c.args.store.now) (g.F.TraceStore.files c.loop-place.store) (g.F.TraceStore.files c.append_all.new.store)
    c.args.first c.loop-place.place c.args.pieces.now.pieces within c.loop-place.invariant.grown
    (rw c.piece.ensures at c.in-Err.ensures.err)

pub returns-clause-ok : goal.returns-clause-ok
returns-clause-ok g c =
    let all : length c.args.pieces.now.pieces ≤ c.loop-place.place =
    omega (arith, c.count-place-end.ensures.pieces) in
    subst (λ ps. HasGrownFrom (g.F.TraceStore.files c.args.store.now) (g.F.TraceStore.files c.loop-place.store) c.args.first ps)
    (take_all c.loop-place.place c.args.pieces.now.pieces all) c.loop-place.invariant.grown
