use Rattle.std.proofs.Common.{ℕ, List, length, map, ap, subst, ◌∙◌}
use Rattle.sim_base.specs.Packet.{Packet}
use Rattle.node_step.specs.declared.loads.Event.{Event}
use Rattle.node_step.specs.Loads.{plain_event}
use Rattle.node_step.specs.Part.{PlainPart}
use Rattle.sim_world.specs.Shares.{AreSplit, as_part, part_seen}
use Rattle.sim_world.specs.World.{PlainWorld}
use Rattle.sim_world.proofs.ShareLaws.{are-split, firsts-empty}
use Rattle.sim_world.proofs.world.World.split.Goals as goal

pub share_events-requires-clause-empty : goal.share_events-requires-clause-empty
share_events-requires-clause-empty g c κs within =
    firsts-empty _ c.self.inside.nodes.items _ c.share_nodes.new.shares.items c.in_ok-share_nodes.ensures

pub returns : goal.returns
returns g c =
    let w : PlainWorld = record {
      nodes = c.self.inside.nodes.items;
      lans = length c.self.inside.lans.items;
      first = map (plain_event g.P.Pkt.plain) c.self.inside.first.items;
      stop = c.self.inside.stop;
      limit = c.self.inside.limit;
    } in
    let parts : List (PlainPart × List (Event Packet)) = map (part_seen g.P.Pkt.plain) c.in_ok-parts.parts.items in
    let groups : ℕ = c.args.cut.now.groups in
    subst (λ (x : PlainWorld). AreSplit x c.args.cut.now.group_of.items groups parts) c.self.view_is
    (subst (λ (l : List ℕ). AreSplit w l groups parts) c.as_slice-group_of.ensures.value
    (are-split w c.as_slice-group_of.result.now groups c.in_ok-shares.shares.items c.share_nodes.new.shares.items c.share_events.new.shares.items parts
    c.in_ok-shares.ensures.count c.in_ok-share_nodes.ensures c.in_ok-share_events.ensures
    (c.in_ok-parts.ensures
    ∙ ap (λ buses. map (as_part buses c.self.inside.limit) c.share_events.new.shares.items) (c.as_slice.ensures.value ∙ c.self.invariant.1))))
