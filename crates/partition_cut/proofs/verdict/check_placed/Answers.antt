use Rattle.std.proofs.Common.{◌≡◌, ◌∙◌, ◌<◌, ℕ, List, All, None, length, sym, ap, subst, arith}
use Rattle.std.proofs.lemmas.List.FromFn.{length-map-range_with_len}
use Rattle.partition_cut.specs.AllowedCut.{IsLookahead}
use Rattle.partition_cut.specs.Network.{Link, group_at, node_lists}
use Rattle.partition_cut.specs.Refusal.{group_in, network_refusal}
use Rattle.partition_cut.proofs.CountLaws.{length-node_lists}
use Rattle.partition_cut.proofs.FewGroups.{few-groups}
use Rattle.partition_cut.proofs.UsedGroups.{used-groups}
use Rattle.partition_cut.proofs.VerdictLaws.{network-allowed, numbers-within, placed-once, refused-network}
use Rattle.partition_cut.proofs.verdict.check_placed.Goals as goal

pub number_groups-requires-clause-few : goal.number_groups-requires-clause-few
number_groups-requires-clause-few c =
    let few = few-groups c.args.shape.now.nodes (node_lists c.args.groups.now) c.requires.groups
    (placed-once c.args.shape.now (node_lists c.args.groups.now) c.requires.placed) in
    let n = length-node_lists c.args.groups.now in omega arith

pub network_refusal_of-requires-clause-each : goal.network_refusal_of-requires-clause-each
network_refusal_of-requires-clause-each c =
    ap length (c.as_slice-numbers.ensures.value ∙ c.in_ok-group_of.ensures.numbers)
    ∙ length-map-range_with_len (group_in (node_lists c.args.groups.now)) 0 c.args.shape.now.nodes

pub returns-in-Some-clause-bad : goal.returns-in-Some-clause-bad
returns-in-Some-clause-bad c = refused-network c.args.shape.now (node_lists c.args.groups.now) c.as_slice-numbers.result.now
    c.in_ok-group_of.group_of.items _ c.requires.placed c.in_ok-group_of.ensures.numbers c.as_slice-numbers.ensures.value c.in-Some.ensures

pub least_cut_delay-lookahead-requires : goal.least_cut_delay-lookahead-requires
least_cut_delay-lookahead-requires c =
    let l = ap length (c.as_slice-numbers.ensures.value ∙ c.in_ok-group_of.ensures.numbers)
    ∙ length-map-range_with_len (group_in (node_lists c.args.groups.now)) 0 c.args.shape.now.nodes in
    let P : List Link → ℕ → Type 0 = λ links n. All (λ link. (link.0 < n) × (link.1 < n)) links in
    let Q : List Link → Type 0 = λ links. P links (length c.as_slice-numbers.result.now) in
    subst Q (sym c.deref.ensures.value) (subst (P c.args.shape.now.links.items) (sym l) c.requires.shape.links)

pub returns-in-None-clause-allowed : goal.returns-in-None-clause-allowed
returns-in-None-clause-allowed c =
    let groups = node_lists c.args.groups.now in
    let items = c.in_ok-group_of.group_of.items in
    let e = c.in_ok-group_of.ensures.numbers in
    let n = length-node_lists c.args.groups.now in
    let none : network_refusal c.args.shape.now (group_at items) ≡ None =
    ap (λ (l : List ℕ). network_refusal c.args.shape.now (group_at l)) (sym c.as_slice-numbers.ensures.value) ∙ sym c.in-None.ensures in
    let few = few-groups c.args.shape.now.nodes groups c.requires.groups (placed-once c.args.shape.now groups c.requires.placed) in
    let P : List ℕ → Type 0 = λ l. IsLookahead (group_at l) c.args.shape.now.links.items c.least_cut_delay-lookahead.result in
    let Q : List Link → Type 0 = λ l. IsLookahead (group_at c.as_slice-numbers.result.now) l c.least_cut_delay-lookahead.result in
    record {
      each = ap length e ∙ length-map-range_with_len (group_in groups) 0 c.args.shape.now.nodes;
      within = λ k d lt. let h = numbers-within c.args.shape.now groups items e c.requires.placed k d lt in omega arith;
      used = λ g lt. used-groups c.args.shape.now groups items e c.requires.groups (placed-once c.args.shape.now groups c.requires.placed) g (omega arith);
      few = omega arith;
      allowed = network-allowed c.args.shape.now (group_at items) none;
      lookahead = subst P c.as_slice-numbers.ensures.value (subst Q c.deref.ensures.value c.least_cut_delay-lookahead.ensures.least);
    }

pub returns-in-None-clause-good : goal.returns-in-None-clause-good
returns-in-None-clause-good c = refused-network c.args.shape.now (node_lists c.args.groups.now) c.as_slice-numbers.result.now
    c.in_ok-group_of.group_of.items None c.requires.placed c.in_ok-group_of.ensures.numbers c.as_slice-numbers.ensures.value c.in-None.ensures
