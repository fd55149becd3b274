-- What contracts see of the tags of a packet.
use Rattle.std.specs.Prelude.{ℕ, List, []}
use Rattle.sim_base.specs.declared.tags.ByteTag.{ByteTag}
use Rattle.sim_base.specs.declared.tags.PacketTag.{PacketTag}

-- the tags on its bytes and those on the whole packet, each in the order in which they came
pub record TagLists : Type 0 where
  pub byte_tags : List ByteTag
  pub packet_tags : List PacketTag

abbrev pub no_tags : TagLists
no_tags = record { byte_tags = []; packet_tags = [] }

-- the same with other tags on the bytes, and with others on the packet
abbrev pub with_byte_tags : List ByteTag → TagLists → TagLists
with_byte_tags ts t = record { byte_tags = ts; packet_tags = t.packet_tags }

abbrev pub with_packet_tags : List PacketTag → TagLists → TagLists
with_packet_tags ts t = record { byte_tags = t.byte_tags; packet_tags = ts }

-- how many tags of each list stand in the value itself
abbrev pub INLINE : ℕ
INLINE = 4
