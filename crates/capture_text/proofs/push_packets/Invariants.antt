use Rattle.std.proofs.Common.{◌≡◌, ◌++◌, take}
use Rattle.std.specs.List.{flat_map}
use Rattle.capture_text.specs.Listing.{packet_line}
use Rattle.capture_text.proofs.push_packets.Given as goal

abbrev pub invariant-loop-packet : goal.invariant-loop-packet
invariant-loop-packet l = l.out.items ≡ l.initial.out.items ++ flat_map (packet_line l.nano) (take l.packet-index l.packets)
