use Rattle.std.proofs.Common.{◌≡◌, drop}
use Rattle.sim_world.specs.Losses.{loss_at}
use Rattle.sim_world.proofs.losses.loss_on.Given as goal

-- it is among those that are left
abbrev pub invariant-loop-loss : goal.invariant-loop-loss
invariant-loop-loss l = loss_at l.place (drop l.loss-index l.losses) ≡ loss_at l.place l.losses
