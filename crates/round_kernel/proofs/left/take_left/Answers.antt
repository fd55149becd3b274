use Rattle.std.proofs.Common.{◌≡◌, ◌<◌, ◌∙◌, ap, length, arith}
use Rattle.round_kernel.specs.Left.{emptied_group, full}
use Rattle.round_kernel.specs.Window.{Gone}
use Rattle.round_kernel.proofs.LoopLaws.{changed-length, changed-more, lists-more}
use Rattle.round_kernel.proofs.left.take_left.Goals as goal

pub loop-at-preserved : goal.loop-at-preserved
loop-at-preserved g c =
    let t = c.loop-at-test.true in
    let l = c.len-at-end.ensures in
    let low : c.loop-at.at < length c.args.groups.now.items = omega (arith, c.args.groups.now.ok.0) in
    let same : length c.loop-at.groups.items ≡ length c.args.groups.now.items =
    ap length c.loop-at.invariant.groups ∙ changed-length emptied_group c.args.groups.now.items c.loop-at.at (omega arith) in
    let more = changed-more emptied_group c.args.groups.now.items c.loop-at.groups.items c.loop-at.at c.index_mut.result.now _ c.take_from.new.group
    (omega arith) same c.loop-at.invariant.groups c.index_mut.ensures.value c.in_ok-take_from.ensures.group in
    record {
      groups = more.1;
      lines = lists-more c.args.groups.now.items c.loop-at.at c.index_mut.result.now low more.0 (λ (group : Gone). full group.0.lines) _ _
          c.loop-at.invariant.lines c.in_ok-take_from.ensures.lines;
      sends = lists-more c.args.groups.now.items c.loop-at.at c.index_mut.result.now low more.0 (λ (group : Gone). group.0.sends) _ _
          c.loop-at.invariant.sends c.in_ok-take_from.ensures.sends;
    }
