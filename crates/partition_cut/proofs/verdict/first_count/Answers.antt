use Rattle.std.proofs.Common.{◌==◌, get_or, sym, arith, eq-eqb}
use Rattle.partition_cut.proofs.Positions.{position-some, position-none}
use Rattle.partition_cut.proofs.verdict.first_count.Goals as goal

pub returns-then-held-count : goal.returns-then-held-count
returns-then-held-count c = sym (position-some (λ held. held == c.args.count) c.args.counts.now c.loop-node.node 0
    c.loop-node-test.true c.loop-node.invariant
    (eq-eqb (get_or c.args.counts.now c.loop-node.node 0) c.args.count c.if-held-count.true))

pub returns : goal.returns
returns c = sym (position-none (λ held. held == c.args.count) c.args.counts.now 0 (λ k lt. c.loop-node.invariant k (omega arith)))
