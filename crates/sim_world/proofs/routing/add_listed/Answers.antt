use Rattle.std.proofs.Common.{ap, sym, ◌∙◌}
use Rattle.std.specs.Ordering.{nat_cmp}
use Rattle.std.specs.BTreeMap.{get}
use Rattle.sim_world.specs.Routing.{listed}
use Rattle.sim_world.proofs.RouteLaws.{listed_some, listed_none}
use Rattle.sim_world.proofs.routing.add_listed.Goals.{in-Some+in_ok-push, in_default}
use Rattle.sim_world.proofs.routing.add_listed.Goals as goal

pub loop-route-preserved : goal.loop-route-preserved
loop-route-preserved c = elim c.match-listed.branch [
  | in-Some+in_ok-push w ↦
      listed_some (listed (get nat_cmp c.args.holders.now) (get nat_cmp c.args.on.now)) c.args.routes.now c.loop-route.route-index _ w.in-Some.entry c.loop-route.entries.items c.match-listed.entries.items _ c.loop-route-test.true
      c.loop-route.invariant (sym c.listed.ensures ∙ w.in-Some.is) (ap (λ v. v.items) w.entries-is ∙ w.in_ok-push.ensures.items)
  | in_default w ↦
      listed_none (listed (get nat_cmp c.args.holders.now) (get nat_cmp c.args.on.now)) c.args.routes.now c.loop-route.route-index _ c.loop-route.entries.items c.match-listed.entries.items _ c.loop-route-test.true
      c.loop-route.invariant (sym c.listed.ensures ∙ w.in_default.is) (ap (λ v. v.items) w.entries-is)
]
