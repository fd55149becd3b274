use Rattle.std.proofs.Common.{ap, ◌++◌, ◌∙◌, map, reverse}
use Rattle.sim_world.specs.Shares.{as_part, part_seen}
use Rattle.sim_world.proofs.ShareLaws.{made-more}
use Rattle.sim_world.proofs.shares.parts_of.Goals as goal

pub shares-preserved : goal.shares-preserved
shares-preserved g c =
    let limit = c.args.limit in
    let lans = c.args.lans.now in
    ap (λ parts. map (part_seen g.P.Pkt.plain) parts ++ map (as_part lans limit) (reverse c.pop.new.self.items)) c.in_ok-push.ensures.items
    ∙ made-more (part_seen g.P.Pkt.plain) (as_part lans limit) c.shares.parts.items c.in_ok-part.field-0
    c.shares.shares.items c.pop.new.self.items c.in-Some.share _
    c.shares.invariant c.in-Some.ensures.items c.in_ok-part.ensures
