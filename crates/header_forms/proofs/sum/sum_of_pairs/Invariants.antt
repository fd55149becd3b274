use Rattle.std.proofs.Common.{◌≡◌, ◌*◌, false, take}
use Rattle.header_forms.specs.Checksum.{folded, with_bytes}
use Rattle.header_forms.proofs.sum.sum_of_pairs.Given as goal

abbrev pub invariant-loop-i : goal.invariant-loop-i
invariant-loop-i l =
    with_bytes (record { sum = folded l.fn.sum; odd = false }) (take (2 * l.i) l.bytes) ≡ record { sum = folded l.total; odd = false }
