use Rattle.std.proofs.Common.{take, ap, ◌∙◌, arith}
use Rattle.std.proofs.lemmas.List.{take_all}
use Rattle.sim_world.specs.Grouping.{grouped}
use Rattle.sim_world.specs.Routing.{prefix_of}
use Rattle.sim_world.proofs.GroupLaws.{grouped-nil, next_pushed, node_there}
use Rattle.sim_world.proofs.RouteLaws.{short_at}
use Rattle.sim_world.proofs.routing.by_prefix.Goals as goal

pub loop-entry-init : goal.loop-entry-init
loop-entry-init c = c.in_ok-groups.ensures ∙ grouped-nil prefix_of 31

pub put-requires : goal.put-requires
put-requires c =
    node_there prefix_of 31 (take c.loop-entry.entry-index c.args.entries.now) c.loop-entry.groups.items _ c.loop-entry.invariant
    (short_at c.args.entries.now c.loop-entry.entry-index _ c.requires c.loop-entry-test.true)

pub loop-entry-preserved : goal.loop-entry-preserved
loop-entry-preserved c =
    next_pushed prefix_of 31 c.args.entries.now c.loop-entry.entry-index _ c.loop-entry.groups.items c.put.new.groups.items c.loop-entry-test.true
    (short_at c.args.entries.now c.loop-entry.entry-index _ c.requires c.loop-entry-test.true) c.loop-entry.invariant c.in_ok-put.ensures

pub returns : goal.returns
returns c =
    c.loop-entry.invariant ∙ ap (grouped prefix_of 31) (take_all c.loop-entry.entry-index c.args.entries.now (omega (arith, c.loop-entry-test.false)))
