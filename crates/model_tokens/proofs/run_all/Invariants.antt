use Rattle.std.proofs.Common.{◌≡◌, ◌≤◌, ℕ, length, slice_get}
use Rattle.model_tokens.specs.TokenParts.{HaveRun}
use Rattle.model_tokens.proofs.run_all.Given as goal

abbrev pub invariant-loop-group : goal.invariant-loop-group
invariant-loop-group l = record {
  length_same : length l.parts ≡ length l.fn.parts;
  runs : HaveRun l.net l.groups l.end l.group l.fn.parts l.parts;
  rest : (g : ℕ) → l.group ≤ g → slice_get l.parts g ≡ slice_get l.fn.parts g;
}
