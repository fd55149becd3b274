use Rattle.std.proofs.Common.{ℕ, List, length, fold, sym, ap, subst, ◌∙◌}
use Rattle.std.proofs.lemmas.List.FromFn.{length-range_with_len}
use Rattle.partition_cut.specs.AutoCut.{joined, pairs_of}
use Rattle.partition_cut.specs.Forest.{AreParents, LeadTo}
use Rattle.partition_cut.specs.Network.{nodes_of}
use Rattle.partition_cut.proofs.ForestLaws.{range-leads, range-parents}
use Rattle.partition_cut.proofs.automatic.join_and_label.Goals as goal

pub join_all-requires-clause-below : goal.join_all-requires-clause-below
join_all-requires-clause-below c =
    let P : List ℕ → Type 0 = λ l. AreParents l in subst P (sym c.requires.own) (range-parents c.args.shape.now.nodes)

pub join_all-requires-clause-each : goal.join_all-requires-clause-each
join_all-requires-clause-each c = ap length c.requires.own ∙ length-range_with_len 0 c.args.shape.now.nodes

pub returns : goal.returns
returns c =
    let labels = nodes_of c.args.shape.now in
    let P : List ℕ → Type 0 = λ l. LeadTo l labels in
    c.label_nodes.ensures (fold joined labels (pairs_of c.args.threshold c.args.shape.now))
    (c.join_all.ensures.leads labels (subst P (sym c.requires.own) (range-leads c.args.shape.now.nodes)))
