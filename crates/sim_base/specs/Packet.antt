-- A plain packet, and what becomes of it.
use Rattle.std.specs.Prelude.{ℕ, ◌≡◌, ◌-◌, ◌≤◌, List, [], ◌++◌, length, replicate, All, slice_range}
use Rattle.sim_base.specs.declared.numbers.Uid.{Uid}
use Rattle.sim_base.specs.declared.tags.ByteTag.{ByteTag}
use Rattle.sim_base.specs.declared.tags.PacketTag.{PacketTag}
use Rattle.sim_base.specs.declared.item.Item.{Item}
use Rattle.sim_base.specs.declared.item.Kind.{Kind}
use Rattle.sim_base.specs.declared.item.Kind.TheVariants.{Payload}
use Rattle.sim_base.specs.ByteTags as on_bytes
use Rattle.sim_base.specs.PacketTags as on_packets
use Rattle.sim_base.specs.Items as parts

pub record Packet : Type 0 where
  pub uid : Uid
  pub bytes : List ℕ
  pub byte_tags : List ByteTag
  pub tags : List PacketTag
  pub items : List Item

abbrev pub longest : ℕ
longest = 131072

abbrev pub len : Packet → ℕ
len p = length p.bytes

-- what holds of every packet
pub record IsPacket (p : Packet) : Type 0 where
  pub small : len p ≤ longest
  pub byte_tags_within : All (on_bytes.IsTagWithin (len p)) p.byte_tags
  pub tags_distinct : on_packets.HaveDistinctTags p.tags
  pub items_left : All parts.IsLeft p.items
  pub items_apart : parts.StandApart p.items
  pub items_cover : parts.total_left p.items ≡ len p

unfoldable pub from_bytes : Uid → List ℕ → Packet
from_bytes uid bytes =
    record { uid = uid; bytes = bytes; byte_tags = []; tags = []; items = parts.whole Payload (length bytes) }

unfoldable pub zeros : Uid → ℕ → Packet
zeros uid n = from_bytes uid (replicate n 0)

unfoldable pub push_front : Kind → List ℕ → Packet → Packet
push_front kind bytes p =
    record p {
      bytes = bytes ++ p.bytes;
      byte_tags = on_bytes.shift (length bytes) p.byte_tags;
      items = parts.whole kind (length bytes) ++ p.items;
    }

unfoldable pub push_back : Kind → List ℕ → Packet → Packet
push_back kind bytes p = record p { bytes = p.bytes ++ bytes; items = p.items ++ parts.whole kind (length bytes) }

-- the bytes from a up to b
unfoldable pub cut : ℕ → ℕ → Packet → Packet
cut a b p =
    record p {
      bytes = slice_range p.bytes a b;
      byte_tags = on_bytes.clip a b p.byte_tags;
      items = parts.cut_items a b p.items;
    }

abbrev pub pop_front : ℕ → Packet → Packet
pop_front n p = cut n (len p) p

abbrev pub pop_back : ℕ → Packet → Packet
pop_back n p = cut 0 (len p - n) p

unfoldable pub join : Packet → Packet → Packet
join p q =
    record p {
      bytes = p.bytes ++ q.bytes;
      byte_tags = p.byte_tags ++ on_bytes.shift (len p) q.byte_tags;
      items = parts.join_items p.items q.items;
    }

unfoldable pub add_byte_tag : ℕ → ℕ → Packet → Packet
add_byte_tag tag value p = record p { byte_tags = p.byte_tags ++ on_bytes.tag_over (len p) tag value }

unfoldable pub add_tag : ℕ → ℕ → Packet → Packet
add_tag tag value p = record p { tags = on_packets.add_tag tag value p.tags }

unfoldable pub replace_tag : ℕ → ℕ → Packet → Packet
replace_tag tag value p = record p { tags = on_packets.replace_tag tag value p.tags }

unfoldable pub remove_tag : ℕ → Packet → Packet
remove_tag tag p = record p { tags = on_packets.remove_tag tag p.tags }
