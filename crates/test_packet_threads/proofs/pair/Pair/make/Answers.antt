use denote.Param.Send.{sendable}
use Rattle.shared_packet.proofs.Crosses.{shared_packet-sync}
use Rattle.test_packet_threads.proofs.pair.Pair.make.Goals as goal

pub make-requires-sync-P : goal.make-requires-sync-P
make-requires-sync-P c κs = search (shared_packet-sync, sendable) depth 20
