-- Cuts that rounds over a world may use.
use Rattle.std.specs.Prelude.{ℕ, ◌≡◌, ◌<◌, ◌≤◌, ◌^◌, All, Option, Some, None, length}
use Rattle.sim_base.specs.declared.time.Time.{Time}
use Rattle.partition_cut.specs.declared.network.Cut.{Cut}
use Rattle.partition_cut.specs.Network.{group_at}
use Rattle.round_core.specs.Lookahead.{IsPositive, lookahead_cut}
use Rattle.round_core.specs.Rounds.{Cut as RoundsCut}
use Rattle.node_rules.specs.Health.{IsCutBy}
use Rattle.sim_world.specs.World.{PlainWorld}
use Rattle.plain_kernel.specs.Run.{shape_in}

abbrev pub group_of : Cut → ℕ → ℕ
group_of cut node = group_at cut.group_of.items node

abbrev pub nanoseconds : Option Time → Option ℕ
nanoseconds None = None
nanoseconds (Some time) = Some time.0

-- the cut as the laws of rounds see it
abbrev pub rounds_cut : PlainWorld → Cut → RoundsCut
rounds_cut w cut = lookahead_cut (group_of cut) (nanoseconds cut.lookahead) w.stop.0

-- each node of the world is in one of the groups, each LAN lies within one, and no link between two groups has less delay than
-- the lookahead, which is positive
pub record Fits (w : PlainWorld) (cut : Cut) : Type 0 where
  pub each : length cut.group_of.items ≡ length w.nodes
  pub within : All (λ group. group < cut.groups) cut.group_of.items
  pub some : 1 ≤ cut.groups
  pub few : length w.nodes < 2 ^ 32
  pub positive : IsPositive (nanoseconds cut.lookahead)
  pub cut_by : IsCutBy (shape_in w) (group_of cut) (nanoseconds cut.lookahead)
