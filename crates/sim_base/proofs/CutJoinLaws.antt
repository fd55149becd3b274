-- Laws of packets joined and cut again, and cut and joined again.
use Rattle.std.proofs.Common.{ℕ, ◌≡◌, ◌+◌, ◌-◌, ◌≤◌, List, [], ◌∷◌, ◌++◌, length, take, drop, refl, sym, ap, ◌∙◌, arith}
use Rattle.std.specs.Prelude.{slice_range}
use Rattle.std.specs.List.{All}
use Rattle.std.proofs.lemmas.List.{take_at, drop_at, take_all, append-nil, drop-drop}
use Rattle.std.proofs.Math.Seq.{take-add}
use Rattle.std.proofs.lemmas.List.Elements.{All-head, All-tail}
use Rattle.std.proofs.lemmas.Bool.{cond_both}
use Rattle.sim_base.specs.declared.item.Item.{Item}
use Rattle.sim_base.specs.ByteTags as on_bytes
use Rattle.sim_base.specs.Items.{left, IsLeft, total_left, cut_items, goes_on, join_items}
use Rattle.sim_base.specs.Packet.{Packet, IsPacket, len, cut, join}
use Rattle.sim_base.proofs.ByteTagLaws.{clip-append, clip-all, clip-past, clip-shift, clip-shift_past}
use Rattle.sim_base.proofs.ItemLaws.{same_item, total_left-cons, cut_items-all, cut_items-none, cut_items-end}
use Rattle.sim_base.proofs.CutItemLaws.{cut_items-stays, cut_items-goes, cut_items-at}
use Rattle.sim_base.proofs.ApartLaws.{join-cut_items}
use Rattle.sim_base.proofs.JoinLaws.{goes_on-true, total_left-one, left-joined}
use Rattle.sim_base.proofs.PacketLaws.{same_packet}

-- the first of two lists of items that were joined
cut-join_items-first : (is js : List Item) → All IsLeft is → All IsLeft js → cut_items 0 (total_left is) (join_items is js) ≡ is
cut-join_items-first [] js front back = cut_items-end 0 js
cut-join_items-first (i ∷ []) [] front back = cut_items-all (total_left (i ∷ [])) (i ∷ []) front (omega arith)
cut-join_items-first (i ∷ []) (j ∷ js) front back =
    let here : IsLeft i = All-head IsLeft i [] front in
    let there : IsLeft j = All-head IsLeft j js back in
    let one = total_left-one i in
    let n = total_left (i ∷ []) in
    let joined = record i { cut_back = j.cut_back } in
    cond_both (goes_on i j) (joined ∷ js) (i ∷ j ∷ js) (λ xs. cut_items 0 n xs ≡ i ∷ [])
    (λ on.
    let both = goes_on-true i j on in
    let sum = left-joined i j here there both in
    cut_items-stays 0 n joined i js []
    (same_item _ _ refl refl (omega arith) (omega (arith, here, there, one, both.size, both.place)))
    here (cut_items-at (0 - left joined) (n - left joined) 0 0 js (omega arith) (omega (arith, sum, one)) ∙ cut_items-end 0 js))
    (λ off.
    cut_items-stays 0 n i i (j ∷ js) [] (same_item _ _ refl refl (omega arith) (omega (arith, one))) here
    (cut_items-at (0 - left i) (n - left i) 0 0 (j ∷ js) (omega arith) (omega (arith, one)) ∙ cut_items-end 0 (j ∷ js)))
cut-join_items-first (i ∷ k ∷ is) js front back =
    let here : IsLeft i = All-head IsLeft i (k ∷ is) front in
    let n = total_left (i ∷ k ∷ is) in
    let total : n ≡ left i + total_left (k ∷ is) = total_left-cons i (k ∷ is) in
    let later = join_items (k ∷ is) js in
    cut_items-stays 0 n i i later (k ∷ is) (same_item _ _ refl refl (omega arith) (omega (arith, total))) here
    (cut_items-at (0 - left i) (n - left i) 0 (total_left (k ∷ is)) later (omega arith) (omega (arith, total))
    ∙ cut-join_items-first (k ∷ is) js (All-tail IsLeft i (k ∷ is) front) back)

-- the second of two lists of items that were joined
cut-join_items-second : (is js : List Item) → All IsLeft is → All IsLeft js → cut_items (total_left is) (total_left is + total_left js) (join_items is js) ≡ js
cut-join_items-second [] js front back = cut_items-all (total_left [] + total_left js) js back (omega arith)
cut-join_items-second (i ∷ []) [] front back = cut_items-none (total_left (i ∷ [])) _ (i ∷ []) (omega arith)
cut-join_items-second (i ∷ []) (j ∷ js) front back =
    let here : IsLeft i = All-head IsLeft i [] front in
    let there : IsLeft j = All-head IsLeft j js back in
    let one = total_left-one i in
    let n = total_left (i ∷ []) in
    let m = total_left (j ∷ js) in
    let total : m ≡ left j + total_left js = total_left-cons j js in
    let joined = record i { cut_back = j.cut_back } in
    cond_both (goes_on i j) (joined ∷ js) (i ∷ j ∷ js) (λ xs. cut_items n (n + m) xs ≡ j ∷ js)
    (λ on.
    let both = goes_on-true i j on in
    let sum = left-joined i j here there both in
    cut_items-stays n (n + m) joined j js js
    (same_item _ _ both.kind both.size (omega (arith, here, there, one, sum, both.size, both.place)) (omega (arith, sum, one, total)))
    there
    (cut_items-at (n - left joined) (n + m - left joined) 0 (total_left js) js (omega (arith, sum, one)) (omega (arith, sum, one, total))
    ∙ cut_items-all (total_left js) js (All-tail IsLeft j js back) (omega arith)))
    (λ off.
    cut_items-goes n (n + m) i (j ∷ js) (omega (arith, one))
    ∙ cut_items-at (n - left i) (n + m - left i) 0 m (j ∷ js) (omega (arith, one)) (omega (arith, one))
    ∙ cut_items-all m (j ∷ js) back (omega arith))
cut-join_items-second (i ∷ k ∷ is) js front back =
    let n = total_left (i ∷ k ∷ is) in
    let m = total_left js in
    let total : n ≡ left i + total_left (k ∷ is) = total_left-cons i (k ∷ is) in
    let later = join_items (k ∷ is) js in
    cut_items-goes n (n + m) i later (omega (arith, total))
    ∙ cut_items-at (n - left i) (n + m - left i) (total_left (k ∷ is)) (total_left (k ∷ is) + m) later (omega (arith, total)) (omega (arith, total))
    ∙ cut-join_items-second (k ∷ is) js (All-tail IsLeft i (k ∷ is) front) back

-- a packet that another was joined to is in front
pub cut-join-first : (p q : Packet) → IsPacket p → IsPacket q → cut 0 (len p) (join p q) ≡ p
unfolding cut join
cut-join-first p q is also =
    let n = len p in
    let shifted = on_bytes.shift n q.byte_tags in
    same_packet _ p refl (take_at p.bytes q.bytes (n - 0) (omega arith))
    (clip-append 0 n p.byte_tags shifted
    ∙ ap (λ ts. on_bytes.clip 0 n p.byte_tags ++ ts) (clip-shift_past n 0 n q.byte_tags (omega arith))
    ∙ ap (λ ts. ts ++ []) (clip-all n n p.byte_tags is.byte_tags_within (omega arith)) ∙ append-nil p.byte_tags)
    refl
    (cut_items-at 0 n 0 (total_left p.items) (join_items p.items q.items) refl (sym is.items_cover)
    ∙ cut-join_items-first p.items q.items is.items_left also.items_left)

-- a packet that was joined to another is behind it, but for its number and its tags
pub cut-join-second : (p q : Packet) → IsPacket p → IsPacket q → cut (len p) (len p + len q) (join p q) ≡ record q { uid = p.uid; tags = p.tags }
unfolding cut join
cut-join-second p q is also =
    let n = len p in
    let m = len q in
    let shifted = on_bytes.shift n q.byte_tags in
    let at_front : n ≡ n + 0 = omega arith in
    same_packet _ (record q { uid = p.uid; tags = p.tags }) refl
    (ap (take (n + m - n)) (drop_at p.bytes q.bytes n refl) ∙ take_all (n + m - n) q.bytes (omega arith))
    (clip-append n (n + m) p.byte_tags shifted
    ∙ ap (λ ts. ts ++ on_bytes.clip n (n + m) shifted) (clip-past n n (n + m) p.byte_tags is.byte_tags_within (omega arith))
    ∙ ap (λ x. on_bytes.clip x (n + m) shifted) at_front ∙ clip-shift n 0 m q.byte_tags
    ∙ clip-all m m q.byte_tags also.byte_tags_within (omega arith))
    refl
    (cut_items-at n (n + m) (total_left p.items) (total_left p.items + total_left q.items) (join_items p.items q.items) (sym is.items_cover) (omega (arith, is.items_cover, also.items_cover))
    ∙ cut-join_items-second p.items q.items is.items_left also.items_left)

slice_range-append : (xs : List ℕ) (a b c : ℕ) → a ≤ b → b ≤ c → slice_range xs a b ++ slice_range xs b c ≡ slice_range xs a c
slice_range-append xs a b c first second =
    let same : (b - a) + (c - b) ≡ c - a = omega (arith, first, second) in
    let at : a + (b - a) ≡ b = omega (arith, first) in
    ap (λ n. take (b - a) (drop a xs) ++ take (c - b) (drop n xs)) (sym at)
    ∙ ap (λ ys. take (b - a) (drop a xs) ++ take (c - b) ys) (sym (drop-drop (b - a) a xs))
    ∙ sym (take-add (b - a) (c - b) (drop a xs)) ∙ ap (λ n. take n (drop a xs)) same

-- a packet without tags on bytes that was cut in two is joined again
pub join-cut : (a b c : ℕ) (p : Packet) → IsPacket p → p.byte_tags ≡ [] → a ≤ b → b ≤ c → join (cut a b p) (cut b c p) ≡ cut a c p
unfolding cut join
join-cut a b c p is bare first second =
    let n = length (slice_range p.bytes a b) in
    same_packet _ _ refl (slice_range-append p.bytes a b c first second)
    (ap (λ ts. on_bytes.clip a b ts ++ on_bytes.shift n (on_bytes.clip b c ts)) bare ∙ sym (ap (on_bytes.clip a c) bare))
    refl
    (join-cut_items a b c p.items is.items_left is.items_apart first second)
