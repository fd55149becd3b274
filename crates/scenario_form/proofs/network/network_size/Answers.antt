use Rattle.std.proofs.Common.{ℕ, ◌*◌, ◌%◌, ◌^◌, ◌≤◌, arith}
use Rattle.std.proofs.Math.Pow.{pow_mono}
use Rattle.scenario_form.proofs.network.network_size.Goals as goal

within : (k : ℕ) → k ≤ 32 → 1 * 2 ^ k % 2 ^ 64 ≤ 2 ^ 32
within k h = let p : 2 ^ k ≤ 2 ^ 32 = pow_mono h in omega arith

pub returns-clause-bound : goal.returns-clause-bound
returns-clause-bound c = within c.saturating_sub.result (omega (arith, c.saturating_sub.ensures))
