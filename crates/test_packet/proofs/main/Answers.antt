use denote.Param.Send.{sendable}
use Rattle.shared_packet.proofs.Crosses.{shared_packet-sync}
use Rattle.test_packet.proofs.main.Goals as goal

pub new-shared-requires-sync-P : goal.new-shared-requires-sync-P
new-shared-requires-sync-P c κs = search (shared_packet-sync, sendable) depth 20

pub run-requires-in-loop-line-sync-P : goal.run-requires-in-loop-line-sync-P
run-requires-in-loop-line-sync-P c κs = search (shared_packet-sync, sendable) depth 20
