use Rattle.std.proofs.Common.{◌≡◌, ◌∙◌, length, ap, arith}
use Rattle.partition_cut.proofs.CountLaws.{whole-written}
use Rattle.partition_cut.proofs.automatic.labels_of.Goals as goal

pub join_and_label-requires-clause-own : goal.join_and_label-requires-clause-own
join_and_label-requires-clause-own c = c.deref_mut.ensures.value ∙ c.in_ok-nodes.ensures

pub returns-clause-labels : goal.returns-clause-labels
returns-clause-labels c =
    let l = ap length c.deref_mut.ensures.value in
    let same : length c.join_and_label.new.nodes ≡ length c.in_ok-nodes.nodes.items = omega arith in
    whole-written c.join_and_label.new.nodes c.in_ok-nodes.nodes.items c.in_ok-nodes.nodes.len (omega (arith, c.in_ok-nodes.nodes.ok.0)) same
    ∙ c.join_and_label.ensures
