use Rattle.std.proofs.Common.{length, ◌-◌}
use Rattle.pcap_form.proofs.LoopLaws.{HasRead}
use Rattle.pcap_form.proofs.reader.read_packets.Given as goal

abbrev pub invariant-loop-at : goal.invariant-loop-at
invariant-loop-at l = HasRead l.form l.bytes l.at l.packets

abbrev pub decreases-loop-at : goal.decreases-loop-at
decreases-loop-at l = length l.bytes - l.at
