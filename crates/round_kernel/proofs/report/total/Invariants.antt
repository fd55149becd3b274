use Rattle.std.proofs.Common.{◌≡◌, fold, take}
use Rattle.layer_words.specs.Counting.{count_up}
use Rattle.round_kernel.proofs.report.total.Given as goal

abbrev pub invariant-loop-count : goal.invariant-loop-count
invariant-loop-count l = l.total ≡ fold (λ total count. count_up count total) 0 (take l.count-index l.counts)
