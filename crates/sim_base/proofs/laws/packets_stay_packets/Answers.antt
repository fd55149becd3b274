use Rattle.sim_base.proofs.PacketLaws.{IsPacket-from_bytes, IsPacket-push_front, IsPacket-push_back, IsPacket-cut, IsPacket-join, IsPacket-add_byte_tag, IsPacket-add_tag, IsPacket-replace_tag, IsPacket-remove_tag}
use Rattle.sim_base.proofs.laws.packets_stay_packets.Goals as goal

pub returns-clause-from_bytes : goal.returns-clause-from_bytes
returns-clause-from_bytes c = IsPacket-from_bytes

pub returns-clause-push_front : goal.returns-clause-push_front
returns-clause-push_front c = IsPacket-push_front

pub returns-clause-push_back : goal.returns-clause-push_back
returns-clause-push_back c = IsPacket-push_back

pub returns-clause-cut : goal.returns-clause-cut
returns-clause-cut c = IsPacket-cut

pub returns-clause-join : goal.returns-clause-join
returns-clause-join c = IsPacket-join

pub returns-clause-add_byte_tag : goal.returns-clause-add_byte_tag
returns-clause-add_byte_tag c = IsPacket-add_byte_tag

pub returns-clause-add_tag : goal.returns-clause-add_tag
returns-clause-add_tag c = IsPacket-add_tag

pub returns-clause-replace_tag : goal.returns-clause-replace_tag
returns-clause-replace_tag c = IsPacket-replace_tag

pub returns-clause-remove_tag : goal.returns-clause-remove_tag
returns-clause-remove_tag c = IsPacket-remove_tag
