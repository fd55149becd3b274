-- Laws of plain packets: what holds of every packet is kept, and what one call did another undoes.
use Rattle.std.proofs.Common.{ℕ, ◌≡◌, ◌+◌, ◌-◌, ◌<◌, ◌≤◌, List, [], ◌∷◌, ◌++◌, length, take, drop, replicate, None, refl, sym, ap, ◌∙◌, subst, arith, length-append, length-take, length-drop}
use Rattle.std.specs.Prelude.{slice_range, slice_get, nat_lt, true, false, ◌==◌, Some}
use Rattle.std.specs.Option.{option_map_or}
use Rattle.std.proofs.lemmas.Bool.{and_from, lt-ltb, eq-eqb, eqb-false, cond_both, cond-true}
use Rattle.sim_base.specs.Kind.{kind_number}
use Rattle.std.specs.List.{All}
use Rattle.std.proofs.lemmas.List.{take_at, drop_at, take_all, take-take, drop-drop, drop-take, append-nil, take-append-le, length-replicate, length_push}
use Rattle.std.proofs.lemmas.List.Elements.{All-nil, All-cons, All-append}
use Rattle.std.proofs.lemmas.Slice.{between_is}
use Rattle.sim_base.specs.declared.numbers.Uid.{Uid}
use Rattle.sim_base.specs.declared.tags.ByteTag.{ByteTag}
use Rattle.sim_base.specs.declared.tags.PacketTag.{PacketTag}
use Rattle.sim_base.specs.declared.item.Item.{Item}
use Rattle.sim_base.specs.declared.item.Kind.{Kind}
use Rattle.sim_base.specs.declared.item.Kind.TheVariants.{Payload}
use Rattle.sim_base.specs.ByteTags as on_bytes
use Rattle.sim_base.specs.PacketTags as on_packets
use Rattle.sim_base.specs.Items as parts
use Rattle.sim_base.specs.Packet.{Packet, IsPacket, len, longest, from_bytes, zeros, push_front, push_back, cut, pop_front, pop_back, join, add_byte_tag, add_tag, replace_tag, remove_tag}
use Rattle.sim_base.proofs.ByteTagLaws.{shift-zero, clip-all, clip-shift, clip-clip, All-clip, All-longer, All-shift}
use Rattle.sim_base.proofs.ItemLaws.{whole-some, total_left-whole, total_left-append, All-whole, cut_items-append, cut_items-all, cut_items-none, cut_items-end, All-cut_items, total_left-cut_items, cut_items-cut_items}
use Rattle.sim_base.proofs.JoinLaws.{total_left-join_items, All-join_items}
use Rattle.sim_base.proofs.ApartLaws.{StandApart-whole, StandApart-whole_front, StandApart-whole_back, StandApart-cut_items, StandApart-join_items}
use Rattle.sim_base.proofs.PacketTagLaws.{HaveDistinctTags-add_tag, HaveDistinctTags-replace_tag, HaveDistinctTags-remove_tag, remove_tag-none}

-- packets with the same parts are the same
pub same_packet : (p q : Packet) → p.uid ≡ q.uid → p.bytes ≡ q.bytes → p.byte_tags ≡ q.byte_tags → p.tags ≡ q.tags → p.items ≡ q.items → p ≡ q
same_packet p q u b t g i =
    let by_uid : Uid → Packet = λ x. record { uid = x; bytes = p.bytes; byte_tags = p.byte_tags; tags = p.tags; items = p.items } in
    let by_bytes : List ℕ → Packet = λ x. record { uid = q.uid; bytes = x; byte_tags = p.byte_tags; tags = p.tags; items = p.items } in
    let by_byte_tags : List ByteTag → Packet = λ x. record { uid = q.uid; bytes = q.bytes; byte_tags = x; tags = p.tags; items = p.items } in
    let by_tags : List PacketTag → Packet = λ x. record { uid = q.uid; bytes = q.bytes; byte_tags = q.byte_tags; tags = x; items = p.items } in
    let by_items : List Item → Packet = λ x. record { uid = q.uid; bytes = q.bytes; byte_tags = q.byte_tags; tags = q.tags; items = x } in
    ap by_uid u ∙ ap by_bytes b ∙ ap by_byte_tags t ∙ ap by_tags g ∙ ap by_items i

-- the bytes and the length afterwards

pub bytes-from_bytes : (uid : Uid) (bytes : List ℕ) → (from_bytes uid bytes).bytes ≡ bytes
unfolding from_bytes
bytes-from_bytes uid bytes = refl

pub bytes-zeros : (uid : Uid) (n : ℕ) → (zeros uid n).bytes ≡ replicate n 0
unfolding zeros from_bytes
bytes-zeros uid n = refl

pub bytes-push_front : (kind : Kind) (bytes : List ℕ) (p : Packet) → (push_front kind bytes p).bytes ≡ bytes ++ p.bytes
unfolding push_front
bytes-push_front kind bytes p = refl

pub bytes-push_back : (kind : Kind) (bytes : List ℕ) (p : Packet) → (push_back kind bytes p).bytes ≡ p.bytes ++ bytes
unfolding push_back
bytes-push_back kind bytes p = refl

pub bytes-cut : (a b : ℕ) (p : Packet) → (cut a b p).bytes ≡ slice_range p.bytes a b
unfolding cut
bytes-cut a b p = refl

pub bytes-join : (p q : Packet) → (join p q).bytes ≡ p.bytes ++ q.bytes
unfolding join
bytes-join p q = refl

pub len-zeros : (uid : Uid) (n : ℕ) → len (zeros uid n) ≡ n
len-zeros uid n = ap length (bytes-zeros uid n) ∙ length-replicate n 0

pub len-push_front : (kind : Kind) (bytes : List ℕ) (p : Packet) → len (push_front kind bytes p) ≡ length bytes + len p
len-push_front kind bytes p = ap length (bytes-push_front kind bytes p) ∙ length-append bytes p.bytes

pub len-push_back : (kind : Kind) (bytes : List ℕ) (p : Packet) → len (push_back kind bytes p) ≡ len p + length bytes
len-push_back kind bytes p = ap length (bytes-push_back kind bytes p) ∙ length-append p.bytes bytes

pub len-cut : (a b : ℕ) (p : Packet) → a ≤ b → b ≤ len p → len (cut a b p) ≡ b - a
len-cut a b p order inside =
    ap length (bytes-cut a b p) ∙ omega (arith, length-take (b - a) (drop a p.bytes), length-drop a p.bytes)

pub len-join : (p q : Packet) → len (join p q) ≡ len p + len q
len-join p q = ap length (bytes-join p q) ∙ length-append p.bytes q.bytes

-- what holds of every packet

pub IsPacket-from_bytes : (uid : Uid) (bytes : List ℕ) → length bytes ≤ longest → IsPacket (from_bytes uid bytes)
unfolding from_bytes
IsPacket-from_bytes uid bytes small =
    record {
      small = small;
      byte_tags_within = All-nil _;
      tags_distinct = λ i j d order in_range. absurd (omega arith);
      items_left = All-whole Payload (length bytes);
      items_apart = StandApart-whole Payload (length bytes);
      items_cover = total_left-whole Payload (length bytes);
    }

pub IsPacket-zeros : (uid : Uid) (n : ℕ) → n ≤ longest → IsPacket (zeros uid n)
unfolding zeros
IsPacket-zeros uid n small = IsPacket-from_bytes uid (replicate n 0) (omega (arith, length-replicate {A = ℕ} n 0))

pub IsPacket-push_front : (kind : Kind) (bytes : List ℕ) (p : Packet) → IsPacket p → length bytes + len p ≤ longest → IsPacket (push_front kind bytes p)
unfolding push_front
IsPacket-push_front kind bytes p is small =
    let n = length bytes in
    let total : length (bytes ++ p.bytes) ≡ n + len p = length-append bytes p.bytes in
    record {
      small = omega arith;
      byte_tags_within = subst (λ (m : ℕ). All (on_bytes.IsTagWithin m) (on_bytes.shift n p.byte_tags)) (sym total) (All-shift n (len p) p.byte_tags is.byte_tags_within);
      tags_distinct = is.tags_distinct;
      items_left = All-append parts.IsLeft (parts.whole kind n) p.items (All-whole kind n) is.items_left;
      items_apart = StandApart-whole_front kind n p.items is.items_left is.items_apart;
      items_cover = total_left-append (parts.whole kind n) p.items ∙ omega (arith, total_left-whole kind n, is.items_cover);
    }

pub IsPacket-push_back : (kind : Kind) (bytes : List ℕ) (p : Packet) → IsPacket p → len p + length bytes ≤ longest → IsPacket (push_back kind bytes p)
unfolding push_back
IsPacket-push_back kind bytes p is small =
    let n = length bytes in
    let total : length (p.bytes ++ bytes) ≡ len p + n = length-append p.bytes bytes in
    record {
      small = omega arith;
      byte_tags_within = All-longer (len p) (length (p.bytes ++ bytes)) p.byte_tags (omega arith) is.byte_tags_within;
      tags_distinct = is.tags_distinct;
      items_left = All-append parts.IsLeft p.items (parts.whole kind n) is.items_left (All-whole kind n);
      items_apart = StandApart-whole_back kind n p.items is.items_left is.items_apart;
      items_cover = total_left-append p.items (parts.whole kind n) ∙ omega (arith, total_left-whole kind n, is.items_cover);
    }

pub IsPacket-cut : (a b : ℕ) (p : Packet) → IsPacket p → a ≤ b → b ≤ len p → IsPacket (cut a b p)
unfolding cut
IsPacket-cut a b p is order inside =
    let total : length (slice_range p.bytes a b) ≡ b - a = omega (arith, length-take (b - a) (drop a p.bytes), length-drop a p.bytes) in
    record {
      small = omega (arith, is.small);
      byte_tags_within = All-longer (b - a) (length (slice_range p.bytes a b)) _ (omega arith) (All-clip a b p.byte_tags);
      tags_distinct = is.tags_distinct;
      items_left = All-cut_items a b p.items;
      items_apart = StandApart-cut_items a b p.items is.items_left is.items_apart;
      items_cover = total_left-cut_items a b p.items order ∙ omega (arith, is.items_cover);
    }

pub IsPacket-join : (p q : Packet) → IsPacket p → IsPacket q → len p + len q ≤ longest → IsPacket (join p q)
unfolding join
IsPacket-join p q is also small =
    let total : length (p.bytes ++ q.bytes) ≡ len p + len q = length-append p.bytes q.bytes in
    let n = length (p.bytes ++ q.bytes) in
    record {
      small = omega arith;
      byte_tags_within =
          All-append (on_bytes.IsTagWithin n) p.byte_tags (on_bytes.shift (len p) q.byte_tags)
          (All-longer (len p) n p.byte_tags (omega arith) is.byte_tags_within)
          (All-longer (len p + len q) n (on_bytes.shift (len p) q.byte_tags) (omega arith) (All-shift (len p) (len q) q.byte_tags also.byte_tags_within));
      tags_distinct = is.tags_distinct;
      items_left = All-join_items p.items q.items is.items_left also.items_left;
      items_apart = StandApart-join_items p.items q.items is.items_apart also.items_apart;
      items_cover = total_left-join_items p.items q.items is.items_left also.items_left ∙ omega (arith, is.items_cover, also.items_cover);
    }

above_zero : (n : ℕ) → (n ≡ 0 → ⊥) → 0 < n
above_zero n some = omega arith

All-tag_over : (n tag value : ℕ) → All (on_bytes.IsTagWithin n) (on_bytes.tag_over n tag value)
All-tag_over n tag value =
    let P = on_bytes.IsTagWithin n in
    let t : ByteTag = record { tag = tag; from = 0; to = n; value = value } in
    cond_both (n == 0) [] (t ∷ []) (All P) (λ at. All-nil P)
    (λ above. let some = eqb-false n 0 above in All-cons P t [] (above_zero n some, omega arith) (All-nil P))

pub IsPacket-add_byte_tag : (tag value : ℕ) (p : Packet) → IsPacket p → IsPacket (add_byte_tag tag value p)
unfolding add_byte_tag
IsPacket-add_byte_tag tag value p is =
    record {
      small = is.small;
      byte_tags_within = All-append (on_bytes.IsTagWithin (len p)) p.byte_tags (on_bytes.tag_over (len p) tag value) is.byte_tags_within (All-tag_over (len p) tag value);
      tags_distinct = is.tags_distinct;
      items_left = is.items_left;
      items_apart = is.items_apart;
      items_cover = is.items_cover;
    }

pub IsPacket-add_tag : (tag value : ℕ) (p : Packet) → IsPacket p → on_packets.find_tag tag p.tags ≡ None → IsPacket (add_tag tag value p)
unfolding add_tag
IsPacket-add_tag tag value p is none =
    record {
      small = is.small;
      byte_tags_within = is.byte_tags_within;
      tags_distinct = HaveDistinctTags-add_tag tag value p.tags none is.tags_distinct;
      items_left = is.items_left;
      items_apart = is.items_apart;
      items_cover = is.items_cover;
    }

pub IsPacket-replace_tag : (tag value : ℕ) (p : Packet) → IsPacket p → IsPacket (replace_tag tag value p)
unfolding replace_tag
IsPacket-replace_tag tag value p is =
    record {
      small = is.small;
      byte_tags_within = is.byte_tags_within;
      tags_distinct = HaveDistinctTags-replace_tag tag value p.tags is.tags_distinct;
      items_left = is.items_left;
      items_apart = is.items_apart;
      items_cover = is.items_cover;
    }

pub IsPacket-remove_tag : (tag : ℕ) (p : Packet) → IsPacket p → IsPacket (remove_tag tag p)
unfolding remove_tag
IsPacket-remove_tag tag p is =
    record {
      small = is.small;
      byte_tags_within = is.byte_tags_within;
      tags_distinct = HaveDistinctTags-remove_tag tag p.tags is.tags_distinct;
      items_left = is.items_left;
      items_apart = is.items_apart;
      items_cover = is.items_cover;
    }

-- lists that the laws below stand on

slice_range-slice_range : (a b c d : ℕ) (xs : List ℕ) → c ≤ d → a + d ≤ b → slice_range (slice_range xs a b) c d ≡ slice_range xs (a + c) (a + d)
slice_range-slice_range a b c d xs order inside =
    let split : b - a ≡ c + (b - a - c) = omega arith in
    let same : d - c ≡ (a + d) - (a + c) = omega arith in
    ap (λ m. take (d - c) (drop c (take m (drop a xs)))) split
    ∙ ap (take (d - c)) (drop-take c (b - a - c) (drop a xs))
    ∙ take-take (d - c) (b - a - c) (drop c (drop a xs)) (omega arith)
    ∙ ap (take (d - c)) (drop-drop c a xs) ∙ ap (λ m. take m (drop (a + c) xs)) same

slice_range_past : (front xs : List ℕ) (a b : ℕ) → slice_range (front ++ xs) (length front + a) (length front + b) ≡ slice_range xs a b
slice_range_past front xs a b =
    let same : (length front + b) - (length front + a) ≡ b - a = omega arith in
    ap (λ m. take m (drop (length front + a) (front ++ xs))) same
    ∙ ap (take (b - a)) (sym (drop-drop a (length front) (front ++ xs)) ∙ ap (drop a) (drop_at front xs (length front) refl))

slice_range_before : (xs back : List ℕ) (a b : ℕ) → b ≤ length xs → slice_range (xs ++ back) a b ≡ slice_range xs a b
slice_range_before xs back a b inside =
    between_is (xs ++ back) a b ∙ ap (drop a) (take-append-le b xs back inside) ∙ sym (between_is xs a b)

cut_items_past : (n : ℕ) (front is : List Item) (a b : ℕ) → parts.total_left front ≡ n → parts.cut_items (n + a) (n + b) (front ++ is) ≡ parts.cut_items a b is
cut_items_past n front is a b total =
    let at_a : n + a - parts.total_left front ≡ a = omega arith in
    let at_b : n + b - parts.total_left front ≡ b = omega arith in
    cut_items-append (n + a) (n + b) front is
    ∙ ap (λ xs. xs ++ parts.cut_items (n + a - parts.total_left front) (n + b - parts.total_left front) is)
    (cut_items-none (n + a) (n + b) front (omega arith))
    ∙ ap (λ m. parts.cut_items m (n + b - parts.total_left front) is) at_a ∙ ap (λ m. parts.cut_items a m is) at_b

cut_items_before : (is back : List Item) (a b : ℕ) → b ≤ parts.total_left is → parts.cut_items a b (is ++ back) ≡ parts.cut_items a b is
cut_items_before is back a b inside =
    let at_end : b - parts.total_left is ≡ 0 = omega arith in
    cut_items-append a b is back
    ∙ ap (λ m. parts.cut_items a b is ++ parts.cut_items (a - parts.total_left is) m back) at_end
    ∙ ap (λ xs. parts.cut_items a b is ++ xs) (cut_items-end (a - parts.total_left is) back) ∙ append-nil (parts.cut_items a b is)

is_whole-whole_item : (kind : Kind) (n : ℕ) → 0 < n → parts.is_whole kind n (parts.whole_item kind n) ≡ true
is_whole-whole_item kind n some =
    let m = kind_number kind in
    and_from (nat_lt 0 n) _ (lt-ltb 0 n some)
    (and_from (m == m) _ (eq-eqb m m refl) (and_from (n == n) true (eq-eqb n n refl) refl))

slice_get-push : {X : Type 0} (xs : List X) (y : X) → slice_get (xs ++ (y ∷ [])) (length xs) ≡ Some y
slice_get-push [] y = refl
slice_get-push (x ∷ xs) y = slice_get-push xs y

last_is_whole-push : (kind : Kind) (n : ℕ) (is : List Item) → 0 < n → parts.last_is_whole kind n (is ++ (parts.whole_item kind n ∷ [])) ≡ true
last_is_whole-push kind n is some =
    let item = parts.whole_item kind n in
    let at_end : length (is ++ (item ∷ [])) - 1 ≡ length is = omega (arith, length_push is item) in
    ap (λ m. option_map_or (parts.is_whole kind n) (slice_get (is ++ (item ∷ [])) m) false) at_end
    ∙ ap (λ o. option_map_or (parts.is_whole kind n) o false) (slice_get-push is item) ∙ is_whole-whole_item kind n some

-- what one call did another undoes

-- where all bytes stay
pub cut-all : (p : Packet) → IsPacket p → cut 0 (len p) p ≡ p
unfolding cut
cut-all p is =
    same_packet _ p refl (take_all (len p - 0) p.bytes (omega arith)) (clip-all (len p) (len p) p.byte_tags is.byte_tags_within (omega arith)) refl
    (cut_items-all (len p) p.items is.items_left (omega (arith, is.items_cover)))

-- a cut of what was cut
pub cut-cut : (a b c d : ℕ) (p : Packet) → c ≤ d → a + d ≤ b → cut c d (cut a b p) ≡ cut (a + c) (a + d) p
unfolding cut
cut-cut a b c d p order inside =
    same_packet _ _ refl (slice_range-slice_range a b c d p.bytes order inside) (clip-clip a b c d p.byte_tags inside) refl
    (cut_items-cut_items a b c d p.items order inside)

-- bytes in front are passed over
pub cut-push_front : (kind : Kind) (bytes : List ℕ) (p : Packet) (a b : ℕ) → cut (length bytes + a) (length bytes + b) (push_front kind bytes p) ≡ cut a b p
unfolding cut push_front
cut-push_front kind bytes p a b =
    let n = length bytes in
    same_packet _ _ refl (slice_range_past bytes p.bytes a b) (clip-shift n a b p.byte_tags) refl
    (cut_items_past n (parts.whole kind n) p.items a b (total_left-whole kind n))

-- bytes behind are left out
pub cut-push_back : (kind : Kind) (bytes : List ℕ) (p : Packet) (a b : ℕ) → b ≤ len p → IsPacket p → cut a b (push_back kind bytes p) ≡ cut a b p
unfolding cut push_back
cut-push_back kind bytes p a b inside is =
    same_packet _ _ refl (slice_range_before p.bytes bytes a b inside) refl refl
    (cut_items_before p.items (parts.whole kind (length bytes)) a b (omega (arith, is.items_cover)))

-- a popped header is gone
pub pop_front-push_front : (kind : Kind) (bytes : List ℕ) (p : Packet) → IsPacket p → pop_front (length bytes) (push_front kind bytes p) ≡ p
pop_front-push_front kind bytes p is =
    let n = length bytes in
    let at_front : n ≡ n + 0 = omega arith in
    ap (λ m. cut n m (push_front kind bytes p)) (len-push_front kind bytes p)
    ∙ ap (λ m. cut m (n + len p) (push_front kind bytes p)) at_front ∙ cut-push_front kind bytes p 0 (len p) ∙ cut-all p is

-- a popped trailer is gone
pub pop_back-push_back : (kind : Kind) (bytes : List ℕ) (p : Packet) → IsPacket p → pop_back (length bytes) (push_back kind bytes p) ≡ p
pop_back-push_back kind bytes p is =
    let at_end : len (push_back kind bytes p) - length bytes ≡ len p = omega (arith, len-push_back kind bytes p) in
    ap (λ m. cut 0 m (push_back kind bytes p)) at_end
    ∙ cut-push_back kind bytes p 0 (len p) (omega arith) is ∙ cut-all p is

-- what a pop answers

pub first_is_whole-push_front : (kind : Kind) (bytes : List ℕ) (p : Packet) → 0 < length bytes → parts.first_is_whole kind (length bytes) (push_front kind bytes p).items ≡ true
unfolding push_front
first_is_whole-push_front kind bytes p some =
    ap (λ is. parts.first_is_whole kind (length bytes) (is ++ p.items)) (whole-some kind (length bytes) some)
    ∙ is_whole-whole_item kind (length bytes) some

pub last_is_whole-push_back : (kind : Kind) (bytes : List ℕ) (p : Packet) → 0 < length bytes → parts.last_is_whole kind (length bytes) (push_back kind bytes p).items ≡ true
unfolding push_back
last_is_whole-push_back kind bytes p some =
    ap (λ is. parts.last_is_whole kind (length bytes) (p.items ++ is)) (whole-some kind (length bytes) some)
    ∙ last_is_whole-push kind (length bytes) p.items some

-- no bytes change nothing

pub push_front-nil : (kind : Kind) (p : Packet) → push_front kind [] p ≡ p
unfolding push_front
push_front-nil kind p = same_packet _ p refl refl (shift-zero p.byte_tags) refl refl

pub push_back-nil : (kind : Kind) (p : Packet) → push_back kind [] p ≡ p
unfolding push_back
push_back-nil kind p = same_packet _ p refl (append-nil p.bytes) refl refl (append-nil p.items)

pub add_byte_tag-empty : (tag value : ℕ) (p : Packet) → len p ≡ 0 → add_byte_tag tag value p ≡ p
unfolding add_byte_tag
add_byte_tag-empty tag value p empty =
    same_packet _ p refl refl
    (ap (λ ts. p.byte_tags ++ ts) (cond-true (len p == 0) [] _ (eq-eqb (len p) 0 empty)) ∙ append-nil p.byte_tags) refl refl

pub len-from_bytes : (uid : Uid) (bytes : List ℕ) → len (from_bytes uid bytes) ≡ length bytes
len-from_bytes uid bytes = ap length (bytes-from_bytes uid bytes)

-- the lengths of packets that calls made
pub ruleset lengths = (len-zeros, len-from_bytes, len-push_front, len-push_back, len-cut, len-join)

-- the bytes at the front of a packet are those that were pushed there
pub peek-push_front : (kind : Kind) (bytes : List ℕ) (p : Packet) → slice_range (push_front kind bytes p).bytes 0 (length bytes) ≡ bytes
peek-push_front kind bytes p =
    let same : length bytes - 0 ≡ length bytes = omega arith in
    ap (λ xs. slice_range xs 0 (length bytes)) (bytes-push_front kind bytes p)
    ∙ ap (λ n. take n (bytes ++ p.bytes)) same ∙ take_at bytes p.bytes (length bytes) refl

-- where no tag has this number, the packet stays as it is
pub remove_tag-absent : (tag : ℕ) (p : Packet) → on_packets.find_tag tag p.tags ≡ None → remove_tag tag p ≡ p
unfolding remove_tag
remove_tag-absent tag p none = same_packet _ p refl refl refl (remove_tag-none tag p.tags none) refl
