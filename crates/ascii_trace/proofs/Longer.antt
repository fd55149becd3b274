-- What was appended in steps was appended.
use Rattle.std.proofs.Common.{◌≡◌, ℕ, List, ◌++◌, ap, ◌∙◌, append_assoc}
use Rattle.ascii_trace.specs.Numbers.{IsLonger}

pub longer_behind : (old mid new text : List ℕ) → mid ≡ old ++ text → IsLonger mid new → IsLonger old new
longer_behind old mid new text is rest = record {
  more = text ++ rest.more;
  is = rest.is ∙ ap (λ s. s ++ rest.more) is ∙ append_assoc old text rest.more;
}
