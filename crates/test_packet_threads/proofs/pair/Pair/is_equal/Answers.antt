use denote.Param.Send.{sendable}
use Rattle.shared_packet.proofs.Crosses.{shared_packet-sync}
use Rattle.test_packet_threads.proofs.pair.Pair.is_equal.Goals as goal

pub bytes_of-requires-sync-P : goal.bytes_of-requires-sync-P
bytes_of-requires-sync-P c κs = search (shared_packet-sync, sendable) depth 20
