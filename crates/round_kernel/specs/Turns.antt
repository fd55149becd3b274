-- The order in which groups are entered.
use Rattle.std.specs.Prelude.{◌≡◌, ◌<◌, ◌^◌, ℕ, length}
use Rattle.row_work.specs.Order.{IsOrderOf}
use Rattle.round_kernel.specs.declared.entering.Turns.{Turns}

-- the order of so many groups, by their estimates
pub record AreTurns (groups : ℕ) (turns : Turns) : Type 0 where
  pub order : IsOrderOf turns.estimates.items turns.order.items
  pub estimates : length turns.estimates.items ≡ groups
  pub fired : length turns.fired.items ≡ groups
  pub few : groups < 2 ^ 32
