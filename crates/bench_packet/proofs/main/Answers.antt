use denote.Param.Send.{sendable}
use Rattle.shared_packet.proofs.Crosses.{shared_packet-sync}
use Rattle.bench_packet.proofs.main.Goals as goal

pub run-requires-in-shared-sync-P : goal.run-requires-in-shared-sync-P
run-requires-in-shared-sync-P c κs = search (shared_packet-sync, sendable) depth 20
