use Rattle.std.proofs.Common.{◌≡◌, ◌++◌, drop}
use Rattle.std.specs.List.{filter_map}
use Rattle.std.specs.Ordering.{nat_cmp}
use Rattle.std.specs.BTreeMap.{get}
use Rattle.sim_world.specs.Routing.{listed}
use Rattle.sim_world.proofs.routing.add_listed.Given as goal

-- the entries so far, and then those of the routes that are left, are all
abbrev pub invariant-loop-route : goal.invariant-loop-route
invariant-loop-route l =
    l.entries.items ++ filter_map (listed (get nat_cmp l.holders) (get nat_cmp l.on)) (drop l.route-index l.routes)
    ≡ l.fn.entries.items ++ filter_map (listed (get nat_cmp l.holders) (get nat_cmp l.on)) l.routes
