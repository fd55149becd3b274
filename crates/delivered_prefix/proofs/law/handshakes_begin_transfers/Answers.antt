use Rattle.delivered_prefix.proofs.Handshakes.{begins-transfer}
use Rattle.delivered_prefix.proofs.law.handshakes_begin_transfers.Goals as goal

pub returns : goal.returns
returns c ask later listener there n here m limits ready =
    begins-transfer c.segments_are_read_as_written.ensures ask later listener there n here m limits ready
