use Rattle.std.proofs.Common.{◌≡◌, ◌==◌, ◌∙◌, ℕ, List, length, take, get_or, if◌then◌else◌, sym, ap, arith}
use Rattle.std.specs.List.{list_any}
use Rattle.std.proofs.lemmas.List.{take_all}
use Rattle.std.proofs.lemmas.List.FromFn.{fill_by_all}
use Rattle.partition_cut.specs.Network.{node_lists}
use Rattle.partition_cut.specs.Refusal.{group_in}
use Rattle.partition_cut.proofs.CountLaws.{whole-written, get_or-node_lists, length-node_lists, members-below, named, group_in-more}
use Rattle.partition_cut.proofs.counting.number_groups.Goals as goal

pub number_members-requires : goal.number_members-requires
number_members-requires c k d lt =
    let low = members-below c.args.groups.now c.args.shape.now.nodes c.loop-number.number c.index-groups-number.result c.as_slice.result.now
    (named c.args.shape.now.nodes (node_lists c.args.groups.now) c.requires.named) c.loop-number-test.true c.index-groups-number.is c.as_slice.ensures.value k d lt in
    let l = ap length c.deref_mut.ensures.value in
    let e = c.loop-number.invariant.each in omega arith

pub loop-number-preserved : goal.loop-number-preserved
loop-number-preserved c =
    let l = ap length c.deref_mut.ensures.value in
    let each = c.loop-number.invariant.each in
    let same : length c.number_members.new.numbers ≡ length c.loop-number.numbers.items = omega arith in
    let whole = whole-written c.number_members.new.numbers c.loop-number.numbers.items c.loop-number.numbers.len
    (omega (arith, c.loop-number.numbers.ok.0)) same in
    let groups = node_lists c.args.groups.now in
    let i = c.loop-number.number in
    let n = length-node_lists c.args.groups.now in
    record {
      each = ap length whole ∙ same ∙ each;
      so_far = λ node lt.
          let members = c.as_slice.result.now in
          let here = get_or-node_lists c.args.groups.now i c.index-groups-number.result c.loop-number-test.true c.index-groups-number.is
          ∙ sym c.as_slice.ensures.value in
          ap (λ (xs : List ℕ). get_or xs node 0) whole
          ∙ c.number_members.ensures node (omega arith)
          ∙ ap (λ (k : ℕ). if list_any (λ member. member == node) members then i else k)
          (ap (λ (xs : List ℕ). get_or xs node 0) c.deref_mut.ensures.value ∙ c.loop-number.invariant.so_far node lt)
          ∙ ap (λ (xs : List ℕ). if list_any (λ member. member == node) xs then i else group_in (take i groups) node) (sym here)
          ∙ sym (group_in-more groups i node (omega arith));
    }

pub returns-clause-numbers : goal.returns-clause-numbers
returns-clause-numbers c =
    let groups = node_lists c.args.groups.now in
    let n = length-node_lists c.args.groups.now in
    fill_by_all (group_in groups) c.loop-number.numbers.items c.args.shape.now.nodes 0 c.loop-number.invariant.each
    (λ k lt. c.loop-number.invariant.so_far k lt ∙ ap (λ (l : List (List ℕ)). group_in l k) (take_all c.loop-number.number groups (omega arith)))
