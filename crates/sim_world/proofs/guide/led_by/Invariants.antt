use Rattle.std.proofs.Common.{◌≡◌}
use Rattle.std.specs.List.{filter_map, range_with_len}
use Rattle.sim_world.specs.Guide.{led_by}
use Rattle.sim_world.proofs.guide.led_by.Given as goal

-- the routes to the networks so far
abbrev pub invariant-loop-t : goal.invariant-loop-t
invariant-loop-t l = l.entries.items ≡ filter_map (led_by l.row l.on l.ends) (range_with_len 0 l.t)
