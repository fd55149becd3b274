use Rattle.std.proofs.Common.{◌≡◌, length}
use Rattle.model_tokens.proofs.RunLaws.{Runs, firings_left}
use Rattle.model_tokens.specs.Tokens.{group_of}
use Rattle.model_tokens.specs.TokenParts.{part_of}
use Rattle.model_tokens.proofs.Part.run_below.Given as goal

abbrev pub invariant-firings : goal.invariant-firings
invariant-firings l = record {
  runs : Runs l.net (group_of l.groups) l.group l.end (part_of l.fn.self) (part_of l.self);
  nodes : length l.self.counts.items ≡ length l.fn.self.counts.items;
}

abbrev pub decreases-firings : goal.decreases-firings
decreases-firings l = firings_left l.net (part_of l.self)
