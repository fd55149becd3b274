use Rattle.std.proofs.Common.{◌∙◌, ◌==◌, ℕ, List, length, take, get_or, if◌then◌else◌, ap, arith}
use Rattle.std.proofs.lemmas.List.{length-map, length-take-le}
use Rattle.partition_cut.specs.AutoCut.{rank}
use Rattle.partition_cut.proofs.RankLaws.{next-more, numbers-more, rank-le}
use Rattle.partition_cut.proofs.automatic.numbers_of.Goals as goal

pub number_for-number-requires-clause-label : goal.number_for-number-requires-clause-label
number_for-number-requires-clause-label c = (c.requires.settled c.loop-node.node c.loop-node-test.true).0

pub number_for-number-requires-clause-each : goal.number_for-number-requires-clause-each
number_for-number-requires-clause-each c =
    let e = ap length (c.as_slice.ensures.value ∙ c.loop-node.invariant.numbers) in
    let m = length-map (take c.loop-node.node c.args.labels.now) (rank c.args.labels.now) in
    let t = length-take-le c.loop-node.node c.args.labels.now (omega arith) in omega arith

pub next_after-next-requires : goal.next_after-next-requires
next_after-next-requires c = let e = c.loop-node.invariant.next in let r = rank-le c.args.labels.now c.loop-node.node in
    omega (arith, c.requires.few)

pub loop-node-preserved : goal.loop-node-preserved
loop-node-preserved c =
    let labels = c.args.labels.now in
    let i = c.loop-node.node in
    record {
      numbers = c.in_ok-push.ensures.items
          ∙ numbers-more labels c.loop-node.numbers.items i c.loop-node.next c.number_for-number.result c.loop-node-test.true c.requires.settled
          c.loop-node.invariant.numbers c.loop-node.invariant.next
          (c.number_for-number.ensures
          ∙ ap (λ (xs : List ℕ). if get_or labels i 0 == i then c.loop-node.next else get_or xs (get_or labels i 0) 0) c.as_slice.ensures.value);
      next = c.next_after-next.ensures ∙ next-more labels i c.loop-node.next c.loop-node.invariant.next;
    }
