use Rattle.std.proofs.Common.{◌<◌, List, length, reverse, slice_index, sym, ap, subst, ◌∙◌, arith}
use Rattle.std.proofs.lemmas.List.{take_at}
use Rattle.std.proofs.lemmas.List.Elements.{recursion_from_All}
use Rattle.std.specs.List.{AllByRecursion}
use Rattle.sim_base.specs.Packet.{Packet}
use Rattle.partition_cut.specs.Network.{group_at}
use Rattle.round_core.specs.World.{Event}
use Rattle.node_step.specs.declared.loads.Load.{Load}
use Rattle.node_step.specs.Loads.{plain_event}
use Rattle.node_rules.specs.Worlds.{event_of}
use Rattle.lp_run.proofs.Seen.{none-left}
use Rattle.round_kernel.specs.Left.{plain_sends}
use Rattle.round_kernel.proofs.DeliverLaws.{Handing, handing-first, handing-last, handing-more, no-key, sends-pop, sends-turned}
use Rattle.round_kernel.proofs.GroupLists.{group-there, length-lps}
use Rattle.round_kernel.proofs.handing.hand_over.Goals as goal

pub sends-init : goal.sends-init
sends-init g c =
    let turned = take_at c.reverse.new.self _ _ (omega arith) ∙ c.reverse.ensures.after ∙ ap reverse c.as_mut_slice.ensures.value in
    let same = sends-turned g.P.Pkt.plain c.args.sends.items _ turned in
    let all : List (Event (Load Packet)) = plain_sends g.P.Pkt.plain c.args.sends.items in
    record {
      known = subst (λ (l : List (Event (Load Packet))). AllByRecursion (λ e. e.key.node.0 < length c.args.group_of.now) l) (sym same)
          (recursion_from_All (λ (e : Event (Load Packet)). e.key.node.0 < length c.args.group_of.now) all c.requires.known);
      handing = subst (λ (l : List (Event (Load Packet))). Handing (group_at c.args.group_of.now) all c.args.groups.now.items c.args.groups.now.items l) (sym same)
          (handing-first (group_at c.args.group_of.now) all c.args.groups.now.items);
    }

pub deliver-requires-clause-known : goal.deliver-requires-clause-known
deliver-requires-clause-known g c κs within =
    (subst (λ (l : List (Event (Load Packet))). AllByRecursion (λ e. e.key.node.0 < length c.args.group_of.now) l)
    (sends-pop g.P.Pkt.plain c.sends.sends.items c.pop.new.self.items c.in-Some.event c.in-Some.ensures.items) c.sends.invariant.known).0

pub deliver-requires-clause-within : goal.deliver-requires-clause-within
deliver-requires-clause-within g c κs within k d lt =
    let w = c.requires.within k d lt in let n = c.sends.invariant.handing.got.count in
    let a = length-lps c.sends.groups.items in let b = length-lps c.args.groups.now.items in omega arith

pub deliver-requires-clause-new : goal.deliver-requires-clause-new
deliver-requires-clause-new g c κs within =
    let all : List (Event (Load Packet)) = plain_sends g.P.Pkt.plain c.args.sends.items in
    let left : List (Event (Load Packet)) = plain_sends g.P.Pkt.plain (reverse c.pop.new.self.items) in
    let e : Event (Load Packet) = event_of (plain_event g.P.Pkt.plain c.in-Some.event) in
    let handing = subst (λ (l : List (Event (Load Packet))). Handing (group_at c.args.group_of.now) all c.args.groups.now.items c.sends.groups.items l)
    (sends-pop g.P.Pkt.plain c.sends.sends.items c.pop.new.self.items c.in-Some.event c.in-Some.ensures.items) c.sends.invariant.handing in
    no-key (group_at c.args.group_of.now) all c.args.groups.now.items c.requires.can c.sends.groups.items e left handing

pub sends-preserved : goal.sends-preserved
sends-preserved g c =
    let all : List (Event (Load Packet)) = plain_sends g.P.Pkt.plain c.args.sends.items in
    let left : List (Event (Load Packet)) = plain_sends g.P.Pkt.plain (reverse c.pop.new.self.items) in
    let e : Event (Load Packet) = event_of (plain_event g.P.Pkt.plain c.in-Some.event) in
    let popped = sends-pop g.P.Pkt.plain c.sends.sends.items c.pop.new.self.items c.in-Some.event c.in-Some.ensures.items in
    let known = subst (λ (l : List (Event (Load Packet))). AllByRecursion (λ x. x.key.node.0 < length c.args.group_of.now) l) popped c.sends.invariant.known in
    let handing = subst (λ (l : List (Event (Load Packet))). Handing (group_at c.args.group_of.now) all c.args.groups.now.items c.sends.groups.items l) popped c.sends.invariant.handing in
    let there = group-there (slice_index c.args.group_of.now e.key.node.0) c.sends.groups.items
    (let w = c.requires.within e.key.node.0 0 known.0 in let n = c.sends.invariant.handing.got.count in
    let a = length-lps c.sends.groups.items in let b = length-lps c.args.groups.now.items in omega arith) in
    record {
      known = known.1;
      handing = handing-more (group_at c.args.group_of.now) all c.args.groups.now.items c.requires.can c.sends.groups.items e left handing there.0
          c.deliver.new.groups.items there.1 (c.in_ok-deliver.ensures there.0 there.1);
    }

pub returns : goal.returns
returns g c =
    let all : List (Event (Load Packet)) = plain_sends g.P.Pkt.plain c.args.sends.items in
    let none = none-left c.sends.sends.items (λ more. c.in_default.ensures.variant.1 (omega (arith, c.sends.sends.ok.0))) in
    handing-last (group_at c.args.group_of.now) all c.args.groups.now.items c.sends.groups.items
    (subst (λ (l : List (Event (Load Packet))). Handing (group_at c.args.group_of.now) all c.args.groups.now.items c.sends.groups.items l)
    (ap (λ l. plain_sends g.P.Pkt.plain (reverse l)) none) c.sends.invariant.handing)
