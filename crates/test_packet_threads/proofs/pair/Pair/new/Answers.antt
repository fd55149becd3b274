use denote.Param.Send.{sendable}
use Rattle.shared_packet.proofs.Crosses.{shared_packet-sync}
use Rattle.test_packet_threads.proofs.pair.Pair.new.Goals as goal

pub opening-requires-sync-P : goal.opening-requires-sync-P
opening-requires-sync-P c κs = search (shared_packet-sync, sendable) depth 20
