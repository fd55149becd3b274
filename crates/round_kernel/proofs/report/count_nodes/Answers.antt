use Rattle.std.proofs.Common.{◌≡◌, ◌<◌, ℕ, Some, length, slice_get, slice_index, subst}
use Rattle.node_step.specs.Part.{place_of}
use Rattle.round_kernel.specs.Window.{Gone}
use Rattle.round_kernel.proofs.EndLaws.{counted-more}
use Rattle.round_kernel.proofs.LoopLaws.{same-group}
use Rattle.round_kernel.proofs.report.count_nodes.Goals as goal

pub loop-number-preserved : goal.loop-number-preserved
loop-number-preserved g c nodes are =
    let number : ℕ = c.loop-number.number in
    let there = are number c.loop-number-test.true in
    let found = same-group c.args.groups.now.items (slice_index c.args.group_of.now number) there.0 c.index.result.now
    (c.requires.within number 0 c.loop-number-test.true) there.1 c.index.ensures in
    let here = subst (λ (x : Gone). (number < length x.0.part.places) × (slice_get x.0.part.nodes (place_of number x.0.part) ≡ Some (nodes number))) found
    (there.2, there.3) in
    counted-more nodes number c.loop-number.counts.drops c.count_number.new.counts.drops c.loop-number.counts.apps.items
    c.count_number.new.counts.apps.items (c.loop-number.invariant nodes are) (c.in_ok-count_number.ensures.drops (nodes number) here.0 here.1)
    (c.in_ok-count_number.ensures.apps (nodes number) here.0 here.1)
