use Rattle.std.proofs.Common.{◌≡◌, take}
use Rattle.header_forms.specs.Checksum.{with_bytes}
use Rattle.header_forms.proofs.sum.Sum.add_each.Given as goal

abbrev pub invariant-loop-byte : goal.invariant-loop-byte
invariant-loop-byte l = l.self ≡ with_bytes l.fn.self (take l.byte-index l.bytes)
