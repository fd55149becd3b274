-- What a packet over a shared block stands for.
use Rattle.std.specs.Prelude.{◌≡◌, ℕ, ◌+◌}
use Rattle.sim_base.specs.Packet.{Packet}
use Rattle.zero_buffer.specs.Contents.{ready}
use Rattle.shared_packet.specs.declared.packet.SharedPkt.{SharedPkt}

abbrev pub plain_packet : SharedPkt → Packet
plain_packet p =
    record { uid = p.uid; bytes = p.bytes.bytes; byte_tags = p.tags.byte_tags; tags = p.tags.packet_tags; items = p.items }

-- the bytes of both lie on one block
abbrev pub SharesBlock : SharedPkt → SharedPkt → Type 0
SharesBlock p q = p.bytes.window.block ≡ q.bytes.window.block

-- how many bytes a push in front is sure to put in place
abbrev pub ready_of : SharedPkt → ℕ
ready_of p = ready p.bytes

-- n bytes were put in free places of the packet's own block
pub record PutsInPlace (n : ℕ) (old new : SharedPkt) : Type 0 where
  pub block : SharesBlock old new
  pub ready : ready_of new + n ≡ ready_of old
