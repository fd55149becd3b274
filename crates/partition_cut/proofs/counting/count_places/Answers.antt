use Rattle.std.proofs.Common.{◌≡◌, ◌==◌, ◌∙◌, ℕ, List, count_by, length, get_or, min, sym, ap, arith}
use Rattle.std.proofs.lemmas.List.{take_all}
use Rattle.std.proofs.lemmas.List.FromFn.{fill_by_all}
use Rattle.partition_cut.specs.Network.{node_lists}
use Rattle.partition_cut.specs.Refusal.{places}
use Rattle.partition_cut.proofs.CountLaws.{whole-written, get_or-node_lists, length-node_lists, members-below, named, places-more}
use Rattle.partition_cut.proofs.counting.count_places.Goals as goal

pub count_members-requires-clause-members_in : goal.count_members-requires-clause-members_in
count_members-requires-clause-members_in c k d lt =
    let low = members-below c.args.groups.now c.args.shape.now.nodes c.loop-group.group-index c.group-item.result c.as_slice.result.now
    (named c.args.shape.now.nodes (node_lists c.args.groups.now) c.requires) c.loop-group-test.true c.group-item.is c.as_slice.ensures.value k d lt in
    let l = ap length c.deref_mut.ensures.value in
    let e = c.loop-group.invariant.each in omega arith

pub loop-group-preserved : goal.loop-group-preserved
loop-group-preserved c =
    let l = ap length c.deref_mut.ensures.value in
    let each = c.loop-group.invariant.each in
    let same : length c.count_members.new.counts ≡ length c.loop-group.counts.items = omega arith in
    let whole = whole-written c.count_members.new.counts c.loop-group.counts.items c.loop-group.counts.len
    (omega (arith, c.loop-group.counts.ok.0)) same in
    let groups = node_lists c.args.groups.now in
    let i = c.loop-group.group-index in
    record {
      each = ap length whole ∙ same ∙ each;
      so_far = λ node lt.
          let counted = c.count_members.ensures.counts node (omega arith) in
          let before_it = ap (λ (xs : List ℕ). get_or xs node 0) c.deref_mut.ensures.value in
          let so_far = c.loop-group.invariant.so_far node lt in
          let n = length-node_lists c.args.groups.now in
          let more = places-more groups i node (omega arith) in
          let here = ap (count_by (λ member. member == node))
          (get_or-node_lists c.args.groups.now i c.group-item.result c.loop-group-test.true c.group-item.is ∙ sym c.as_slice.ensures.value) in
          ap (λ (xs : List ℕ). get_or xs node 0) whole ∙ (omega arith);
    }

pub returns-clause-counts : goal.returns-clause-counts
returns-clause-counts c =
    let groups = node_lists c.args.groups.now in
    let n = length-node_lists c.args.groups.now in
    fill_by_all (λ node. min 2 (places groups node)) c.loop-group.counts.items c.args.shape.now.nodes 0 c.loop-group.invariant.each
    (λ k lt. c.loop-group.invariant.so_far k lt ∙ ap (λ (l : List (List ℕ)). min 2 (places l k)) (take_all c.loop-group.group-index groups (omega arith)))
