use denote.Param.Send.{sendable}
use Rattle.shared_packet.proofs.Crosses.{shared_packet-sync}
use Rattle.sim_main.proofs.run.Goals as goal

pub run_program-requires-sync-P : goal.run_program-requires-sync-P
run_program-requires-sync-P g c κs = search (shared_packet-sync, sendable) depth 20
