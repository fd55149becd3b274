use Rattle.std.proofs.Common.{◌≡◌, length}
use Rattle.round_kernel.proofs.entering.estimate.Given as goal

-- there are as many numbers as before
abbrev pub invariant-loop-at : goal.invariant-loop-at
invariant-loop-at g l = record {
  fired : length l.fired.items ≡ length l.fn.fired.items;
  estimates : length l.estimates.items ≡ length l.fn.estimates.items;
}
