-- The world in which a run begins, as the laws of runs see it.
use Rattle.std.specs.Prelude.{map}
use Rattle.round_core.specs.Opening.{IsOpening}
use Rattle.node_step.specs.Firing.{free}
use Rattle.node_rules.specs.Health.{health}
use Rattle.node_rules.specs.Rules.{rules}
use Rattle.node_rules.specs.Worlds.{event_of, node_at, shape_of}
use Rattle.sim_world.specs.World.{PlainWorld}

-- its nodes are well, each link leads to an interface that there is, each first event is for an application that its node has,
-- has a key of its own and is counted by its node
abbrev pub OpensRuns : PlainWorld → Type 0
OpensRuns w = IsOpening (rules w.limit (shape_of w.lans w.nodes)) (health (shape_of w.lans w.nodes)) (node_at w.nodes) (λ lan. free)
    (map event_of w.first)
