use Rattle.std.proofs.Common.{refl, get_or, arith}
use Rattle.partition_cut.proofs.ForestLaws.{goes-up, root-found}
use Rattle.partition_cut.proofs.automatic.root_of.Goals as goal

pub loop-parents-init : goal.loop-parents-init
loop-parents-init c = record {
  each = refl;
  below = c.requires.below;
  at_in = c.requires.node_in;
  leads = λ labels lead. (lead, refl);
}

pub loop-parents-preserved : goal.loop-parents-preserved
loop-parents-preserved c = goes-up c.args.parents.now c.loop-parents.parents c.args.node c.loop-parents.at _ c.loop-parents.invariant refl

pub loop-parents-smaller : goal.loop-parents-smaller
loop-parents-smaller c =
    let first = c.loop-parents.invariant.below c.loop-parents.at c.loop-parents.invariant.at_in in
    let at_in = c.loop-parents.invariant.at_in in
    let second = c.loop-parents.invariant.below (get_or c.loop-parents.parents c.loop-parents.at 0) (omega arith) in
    let other = c.loop-parents-test.true in
    omega arith

pub returns-clause-leads : goal.returns-clause-leads
returns-clause-leads c = root-found c.args.parents.now c.loop-parents.parents c.args.node c.loop-parents.at c.loop-parents.invariant c.loop-parents-test.false
