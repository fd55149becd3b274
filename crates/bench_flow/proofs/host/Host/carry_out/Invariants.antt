use Rattle.bench_flow.proofs.host.Host.carry_out.Given as goal

abbrev pub invariant-loop-act : goal.invariant-loop-act
invariant-loop-act l =
    (goal.iterator-loop-act).can_next l.act-iterator × (goal.iterator-loop-act).is_finite l.act-iterator
