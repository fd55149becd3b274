-- A plain packet by its parts: what a call leaves, where it leaves each part as its word says. An implementation cites
-- these, and so opens none of the words.
use Rattle.std.proofs.Common.{ℕ, ◌≡◌, ◌<◌, ◌==◌, List, [], ◌∷◌, ◌++◌, length, refl, ap, ◌∙◌, sym, arith}
use Rattle.std.specs.Prelude.{slice_range, replicate}
use Rattle.std.proofs.lemmas.Bool.{cond-false, ne_eqb}
use Rattle.sim_base.specs.declared.numbers.Uid.{Uid}
use Rattle.sim_base.specs.declared.tags.ByteTag.{ByteTag}
use Rattle.sim_base.specs.declared.tags.PacketTag.{PacketTag}
use Rattle.sim_base.specs.declared.item.Item.{Item}
use Rattle.sim_base.specs.declared.item.Kind.{Kind}
use Rattle.sim_base.specs.declared.item.Kind.TheVariants.{Payload}
use Rattle.sim_base.specs.ByteTags as on_bytes
use Rattle.sim_base.specs.PacketTags as on_packets
use Rattle.sim_base.specs.Items as parts
use Rattle.sim_base.specs.Packet.{Packet, len, from_bytes, zeros, push_front, push_back, cut, join, add_byte_tag, add_tag, replace_tag, remove_tag}
use Rattle.sim_base.proofs.PacketLaws.{same_packet}

pub made-from_bytes : (uid : Uid) (bytes : List ℕ) (ts : List ByteTag) (gs : List PacketTag) (is : List Item) → ts ≡ [] → gs ≡ [] → is ≡ parts.whole Payload (length bytes) → record { uid = uid; bytes = bytes; byte_tags = ts; tags = gs; items = is } ≡ from_bytes uid bytes
unfolding from_bytes
made-from_bytes uid bytes ts gs is t g i = same_packet _ _ refl refl t g i

pub made-push_front : (kind : Kind) (bytes : List ℕ) (p : Packet) (bs : List ℕ) (ts : List ByteTag) (is : List Item) → bs ≡ bytes ++ p.bytes → ts ≡ on_bytes.shift (length bytes) p.byte_tags → is ≡ parts.whole kind (length bytes) ++ p.items → record p { bytes = bs; byte_tags = ts; items = is } ≡ push_front kind bytes p
unfolding push_front
made-push_front kind bytes p bs ts is b t i = same_packet _ _ refl b t refl i

pub made-push_back : (kind : Kind) (bytes : List ℕ) (p : Packet) (bs : List ℕ) (is : List Item) → bs ≡ p.bytes ++ bytes → is ≡ p.items ++ parts.whole kind (length bytes) → record p { bytes = bs; items = is } ≡ push_back kind bytes p
unfolding push_back
made-push_back kind bytes p bs is b i = same_packet _ _ refl b refl refl i

pub made-cut : (a b : ℕ) (p : Packet) (bs : List ℕ) (ts : List ByteTag) (is : List Item) → bs ≡ slice_range p.bytes a b → ts ≡ on_bytes.clip a b p.byte_tags → is ≡ parts.cut_items a b p.items → record p { bytes = bs; byte_tags = ts; items = is } ≡ cut a b p
unfolding cut
made-cut a b p bs ts is e t i = same_packet _ _ refl e t refl i

pub made-join : (p q : Packet) (bs : List ℕ) (ts : List ByteTag) (is : List Item) → bs ≡ p.bytes ++ q.bytes → ts ≡ p.byte_tags ++ on_bytes.shift (len p) q.byte_tags → is ≡ parts.join_items p.items q.items → record p { bytes = bs; byte_tags = ts; items = is } ≡ join p q
unfolding join
made-join p q bs ts is b t i = same_packet _ _ refl b t refl i

pub made-add_byte_tag : (tag value : ℕ) (p : Packet) (ts : List ByteTag) → 0 < len p → ts ≡ p.byte_tags ++ (record { tag = tag; from = 0; to = len p; value = value } ∷ []) → record p { byte_tags = ts } ≡ add_byte_tag tag value p
unfolding add_byte_tag
made-add_byte_tag tag value p ts some t =
    same_packet _ _ refl refl
    (t ∙ ap (λ xs. p.byte_tags ++ xs) (sym (cond-false (len p == 0) [] _ (ne_eqb (len p) 0 (λ none. omega arith))))) refl refl

pub made-add_tag : (tag value : ℕ) (p : Packet) (gs : List PacketTag) → gs ≡ on_packets.add_tag tag value p.tags → record p { tags = gs } ≡ add_tag tag value p
unfolding add_tag
made-add_tag tag value p gs g = same_packet _ _ refl refl refl g refl

pub made-replace_tag : (tag value : ℕ) (p : Packet) (gs : List PacketTag) → gs ≡ on_packets.replace_tag tag value p.tags → record p { tags = gs } ≡ replace_tag tag value p
unfolding replace_tag
made-replace_tag tag value p gs g = same_packet _ _ refl refl refl g refl

pub made-remove_tag : (tag : ℕ) (p : Packet) (gs : List PacketTag) → gs ≡ on_packets.remove_tag tag p.tags → record p { tags = gs } ≡ remove_tag tag p
unfolding remove_tag
made-remove_tag tag p gs g = same_packet _ _ refl refl refl g refl

pub made-zeros : (uid : Uid) (n : ℕ) (bytes : List ℕ) → bytes ≡ replicate n 0 → zeros uid n ≡ from_bytes uid bytes
unfolding zeros
made-zeros uid n bytes b = ap (from_bytes uid) (sym b)
