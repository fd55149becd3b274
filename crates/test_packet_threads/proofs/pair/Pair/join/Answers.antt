use denote.Param.Send.{sendable}
use Rattle.shared_packet.proofs.Crosses.{shared_packet-sync}
use Rattle.test_packet_threads.proofs.pair.Pair.join.Goals as goal

pub join-requires-sync-P : goal.join-requires-sync-P
join-requires-sync-P c κs = search (shared_packet-sync, sendable) depth 20
