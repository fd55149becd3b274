-- A plain packet by its bytes, its tags and its items: what a call leaves, where it leaves each part as its word says.
use Rattle.std.proofs.Common.{ℕ, ◌≡◌, List, ◌++◌, length, refl, sym, ap, ◌∙◌}
use Rattle.std.specs.Prelude.{slice_range, replicate}
use Rattle.sim_base.specs.declared.numbers.Uid.{Uid}
use Rattle.sim_base.specs.declared.item.Item.{Item}
use Rattle.sim_base.specs.declared.item.Kind.{Kind}
use Rattle.sim_base.specs.declared.item.Kind.TheVariants.{Payload}
use Rattle.sim_base.specs.ByteTags as on_bytes
use Rattle.sim_base.specs.PacketTags as on_packets
use Rattle.sim_base.specs.Items as parts
use Rattle.sim_base.specs.Packet.{Packet, len, from_bytes, zeros, push_front, cut, join, add_byte_tag, add_tag, replace_tag, remove_tag}
use Rattle.sim_base.proofs.PacketMade.{made-from_bytes, made-zeros, made-push_front, made-cut, made-join, made-add_tag, made-replace_tag, made-remove_tag}
use Rattle.tag_lists.specs.TagLists.{TagLists, no_tags, with_byte_tags, with_packet_tags}

abbrev pub packet_of : Uid → List ℕ → TagLists → List Item → Packet
packet_of uid bs t is = record { uid = uid; bytes = bs; byte_tags = t.byte_tags; tags = t.packet_tags; items = is }

abbrev pub tags_of : Packet → TagLists
tags_of p = record { byte_tags = p.byte_tags; packet_tags = p.tags }

pub parts-from_bytes : (uid : Uid) (bytes bs : List ℕ) (t : TagLists) (is : List Item) → bs ≡ bytes → t ≡ no_tags → is ≡ parts.whole Payload (length bytes) → packet_of uid bs t is ≡ from_bytes uid bytes
parts-from_bytes uid bytes bs t is b e i =
    ap (λ xs. packet_of uid xs t is) b ∙ made-from_bytes uid bytes t.byte_tags t.packet_tags is (ap (λ (s : TagLists). s.byte_tags) e) (ap (λ (s : TagLists). s.packet_tags) e) i

pub parts-zeros : (uid : Uid) (n : ℕ) (bs : List ℕ) (t : TagLists) (is : List Item) → bs ≡ replicate n 0 → length bs ≡ n → t ≡ no_tags → is ≡ parts.whole Payload n → packet_of uid bs t is ≡ zeros uid n
parts-zeros uid n bs t is b long e i =
    parts-from_bytes uid bs bs t is refl e (i ∙ ap (parts.whole Payload) (sym long)) ∙ sym (made-zeros uid n bs b)

module _ (p : Packet) where
  pub parts-push_front : (kind : Kind) (bytes bs : List ℕ) (t : TagLists) (is : List Item) → bs ≡ bytes ++ p.bytes → t ≡ with_byte_tags (on_bytes.shift (length bytes) p.byte_tags) (tags_of p)
      → is ≡ parts.whole kind (length bytes) ++ p.items → packet_of p.uid bs t is ≡ push_front kind bytes p
  parts-push_front kind bytes bs t is b e i = ap (λ s. packet_of p.uid bs s is) e ∙ made-push_front kind bytes p bs _ is b refl i

  pub parts-cut : (from to : ℕ) (bs : List ℕ) (t : TagLists) (is : List Item) → bs ≡ slice_range p.bytes from to → t ≡ with_byte_tags (on_bytes.clip from to p.byte_tags) (tags_of p)
      → is ≡ parts.cut_items from to p.items → packet_of p.uid bs t is ≡ cut from to p
  parts-cut from to bs t is b e i = ap (λ s. packet_of p.uid bs s is) e ∙ made-cut from to p bs _ is b refl i

  pub parts-join : (q : Packet) (bs : List ℕ) (t : TagLists) (is : List Item) → bs ≡ p.bytes ++ q.bytes → t ≡ with_byte_tags (p.byte_tags ++ on_bytes.shift (len p) q.byte_tags) (tags_of p)
      → is ≡ parts.join_items p.items q.items → packet_of p.uid bs t is ≡ join p q
  parts-join q bs t is b e i = ap (λ s. packet_of p.uid bs s is) e ∙ made-join p q bs _ is b refl i

  pub parts-add_byte_tag : (tag value n : ℕ) (t : TagLists) → n ≡ len p → t ≡ with_byte_tags (p.byte_tags ++ on_bytes.tag_over n tag value) (tags_of p)
      → packet_of p.uid p.bytes t p.items ≡ add_byte_tag tag value p
  unfolding add_byte_tag
  parts-add_byte_tag tag value n t long e =
      ap (λ s. packet_of p.uid p.bytes s p.items) e ∙ ap (λ m. packet_of p.uid p.bytes (with_byte_tags (p.byte_tags ++ on_bytes.tag_over m tag value) (tags_of p)) p.items) long

  pub parts-add_tag : (tag value : ℕ) (t : TagLists) → t ≡ with_packet_tags (on_packets.add_tag tag value p.tags) (tags_of p) → packet_of p.uid p.bytes t p.items ≡ add_tag tag value p
  parts-add_tag tag value t e = ap (λ s. packet_of p.uid p.bytes s p.items) e ∙ made-add_tag tag value p _ refl

  pub parts-replace_tag : (tag value : ℕ) (t : TagLists) → t ≡ with_packet_tags (on_packets.replace_tag tag value p.tags) (tags_of p)
      → packet_of p.uid p.bytes t p.items ≡ replace_tag tag value p
  parts-replace_tag tag value t e = ap (λ s. packet_of p.uid p.bytes s p.items) e ∙ made-replace_tag tag value p _ refl

  pub parts-remove_tag : (tag : ℕ) (t : TagLists) → t ≡ with_packet_tags (on_packets.remove_tag tag p.tags) (tags_of p) → packet_of p.uid p.bytes t p.items ≡ remove_tag tag p
  parts-remove_tag tag t e = ap (λ s. packet_of p.uid p.bytes s p.items) e ∙ made-remove_tag tag p _ refl

  pub parts-same : (bs : List ℕ) (is : List Item) → bs ≡ p.bytes → is ≡ p.items → packet_of p.uid bs (tags_of p) is ≡ p
  parts-same bs is b i = ap (λ xs. packet_of p.uid xs (tags_of p) is) b ∙ ap (λ ys. packet_of p.uid p.bytes (tags_of p) ys) i
