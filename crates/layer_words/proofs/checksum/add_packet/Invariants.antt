use Rattle.std.proofs.Common.{◌-◌, ◌≤◌}
use Rattle.layer_words.proofs.PieceLaws.{AreAdded}
use Rattle.layer_words.proofs.checksum.add_packet.Given as goal

-- the bytes before `at` were added
abbrev pub invariant-loop-at : goal.invariant-loop-at
invariant-loop-at g l = (l.at ≤ l.len) × AreAdded (g.P.Pkt.plain l.packet).bytes l.initial.sum l.sum l.at

abbrev pub decreases-loop-at : goal.decreases-loop-at
decreases-loop-at g l = l.len - l.at
