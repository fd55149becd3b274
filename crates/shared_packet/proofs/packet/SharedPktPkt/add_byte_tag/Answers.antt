use Rattle.shared_packet.specs.Shared.{plain_packet}
use Rattle.shared_packet.proofs.Answered.{on_ok}
use Rattle.shared_packet.proofs.Made.{parts-add_byte_tag}
use Rattle.shared_packet.proofs.packet.SharedPktPkt.add_byte_tag.Goals as goal

pub returns-clause-ok : goal.returns-clause-ok
returns-clause-ok c =
    on_ok c.add_byte.result c.add_byte.ensures.ok
    (λ e. parts-add_byte_tag (plain_packet c.args.self.now) c.args.tag c.args.value c.len-len.result c.add_byte.new.self c.len-len.ensures e)
