use Rattle.round_kernel.specs.Left.{plain_sends}
use Rattle.round_kernel.proofs.PlayLaws.{can-merge, have-played}
use Rattle.round_kernel.proofs.round.play.Goals as goal

pub merge-requires-after_bounds : goal.merge-requires-after_bounds
merge-requires-after_bounds g c κs within =
    can-merge g.P.Pkt.plain c.args.end.0 c.args.groups.now.items c.run_groups.new.groups.items c.in_ok-run_groups.ensures c.in_ok-stop.ensures.memory
    c.in_ok-lines.field-0.lines.items c.in_ok-lines.ensures.lines c.requires.apart

pub returns : goal.returns
returns g c =
    have-played g.P.Pkt.plain c.args.end.0 c.args.groups.now.items c.run_groups.new.groups.items c.in_ok-run_groups.ensures c.in_ok-stop.ensures.memory
    c.in_ok-lines.field-0.lines.items c.in_ok-lines.ensures.lines c.take_left.new.groups.items c.in_ok-lines-2.lines.items
    (plain_sends g.P.Pkt.plain c.in_ok-lines.field-0.sends.items) c.in_ok-stop.stop c.key_of.result c.in_ok-stop.ensures.least
    c.in_ok-lines.ensures.groups c.in_ok-lines.ensures.sends c.key_of.ensures c.in_ok-lines-2.ensures
