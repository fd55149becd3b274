use Rattle.std.proofs.Common.{◌==◌, ◌&&◌, ◌∙◌, sym, arith}
use Rattle.partition_cut.specs.AllowedCut.{is_cut}
use Rattle.partition_cut.specs.Network.{Link, group_at}
use Rattle.partition_cut.proofs.Positions.{position-some, position-none}
use Rattle.partition_cut.proofs.verdict.first_link_without_delay.Goals as goal

pub returns : goal.returns
returns c =
    let d : Link = (0, 0, record { 0 = 0 }) in
    sym (position-none (λ link. is_cut (group_at c.args.group_of.now) link && (link.2.0 == 0)) c.args.links.now d
    (λ k lt. c.loop-number.invariant k d (omega arith)))

pub returns-then-is_link_without_delay : goal.returns-then-is_link_without_delay
returns-then-is_link_without_delay c =
    let d : Link = (0, 0, record { 0 = 0 }) in
    sym (position-some (λ link. is_cut (group_at c.args.group_of.now) link && (link.2.0 == 0)) c.args.links.now c.loop-number.number d
    c.loop-number-test.true (λ k lt. c.loop-number.invariant k d lt)
    (sym c.is_link_without_delay.ensures ∙ c.if-is_link_without_delay.true))
