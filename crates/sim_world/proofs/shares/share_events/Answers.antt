use Rattle.std.proofs.Common.{◌<◌, List, length, map, reverse, slice_index, sym, ap, subst, ◌∙◌, arith}
use Rattle.std.proofs.lemmas.List.{take_at}
use Rattle.std.proofs.lemmas.List.Elements.{recursion_from_All}
use Rattle.std.specs.List.{AllByRecursion}
use Rattle.sim_base.specs.Packet.{Packet}
use Rattle.node_step.specs.declared.loads.Event.{Event}
use Rattle.node_step.specs.Loads.{plain_event}
use Rattle.sim_world.specs.Shares.{KeepNodes}
use Rattle.sim_world.proofs.ShareLaws.{keeping-first, keeping-more, turned-back, turned-pop}
use Rattle.sim_world.proofs.shares.share_events.Goals as goal

pub events-init : goal.events-init
events-init g c =
    let turned = take_at c.reverse.new.self _ _ (omega arith) ∙ c.reverse.ensures.after ∙ ap reverse c.as_mut_slice.ensures.value in
    let same = turned-back (plain_event g.P.Pkt.plain) c.args.events.items _ turned in
    let all : List (Event Packet) = map (plain_event g.P.Pkt.plain) c.args.events.items in
    record {
      known = subst (λ (l : List (Event Packet)). AllByRecursion (λ e. e.key.node.0 < length c.args.group_of.now) l) (sym same)
          (recursion_from_All (λ (e : Event Packet). e.key.node.0 < length c.args.group_of.now) all c.requires.known);
      keep = subst (λ (l : List (Event Packet)). KeepNodes c.args.group_of.now all l c.args.shares.now.items c.args.shares.now.items) (sym same)
          (keeping-first c.args.group_of.now all c.args.shares.now.items c.requires.empty);
    }

pub give_event-requires-clause-there : goal.give_event-requires-clause-there
give_event-requires-clause-there g c κs within =
    (subst (λ (l : List (Event Packet)). AllByRecursion (λ e. e.key.node.0 < length c.args.group_of.now) l)
    (turned-pop (plain_event g.P.Pkt.plain) c.events.events.items c.pop.new.self.items c.in-Some.event c.in-Some.ensures.items) c.events.invariant.known).0

pub give_event-requires-clause-within : goal.give_event-requires-clause-within
give_event-requires-clause-within g c κs within k d lt =
    let w = c.requires.within k d lt in let n = c.events.invariant.keep.count in omega arith

pub events-preserved : goal.events-preserved
events-preserved g c =
    let all : List (Event Packet) = map (plain_event g.P.Pkt.plain) c.args.events.items in
    let left : List (Event Packet) = map (plain_event g.P.Pkt.plain) (reverse c.pop.new.self.items) in
    let e : Event Packet = plain_event g.P.Pkt.plain c.in-Some.event in
    let popped = turned-pop (plain_event g.P.Pkt.plain) c.events.events.items c.pop.new.self.items c.in-Some.event c.in-Some.ensures.items in
    let known = subst (λ (l : List (Event Packet)). AllByRecursion (λ x. x.key.node.0 < length c.args.group_of.now) l) popped c.events.invariant.known in
    let keep = subst (λ (l : List (Event Packet)). KeepNodes c.args.group_of.now all l c.args.shares.now.items c.events.shares.items) popped c.events.invariant.keep in
    let there : slice_index c.args.group_of.now e.key.node.0 < length c.events.shares.items =
    (let w = c.requires.within e.key.node.0 0 known.0 in let n = c.events.invariant.keep.count in omega arith) in
    record {
      known = known.1;
      keep = keeping-more c.args.group_of.now all c.args.shares.now.items e left c.events.shares.items c.give_event.new.shares.items keep there c.in_ok-give_event.ensures;
    }
