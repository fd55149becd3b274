-- A cut that cuts nothing, and one that takes off just the first item.
use Rattle.std.proofs.Common.{ℕ, ◌≡◌, ◌+◌, ◌-◌, ◌≤◌, ◌==◌, ◌&&◌, nat_lt, Bool, true, false, List, [], ◌∷◌, length, drop, refl, sym, ◌∙◌, inl, inr, arith, take_all, length-drop}
use Rattle.std.specs.Prelude.{All, IsSome, IfSome, slice_get, slice_range}
use Rattle.std.proofs.lemmas.Bool.Decides.{eqb_tells}
use Rattle.std.proofs.lemmas.List.Sums.{sum_by-cons}
use Rattle.std.proofs.lemmas.List.Elements.{All-tail}
use Rattle.sim_base.specs.declared.item.Item.{Item}
use Rattle.sim_base.specs.declared.item.Kind.{Kind}
use Rattle.sim_base.specs.Kind.{same_kind}
use Rattle.sim_base.specs.Items.{IsLeft, left, total_left, first_is_whole, cut_items}
use Rattle.sim_base.specs.Packet.{Packet, IsPacket, len, cut}
use Rattle.sim_base.proofs.ItemLaws.{cut_items-all}
use Rattle.sim_base.proofs.CutItemLaws.{cut_items-goes, cut_items-at}
use Rattle.sim_base.proofs.PacketLaws.{cut-all}

pub cut-none : (p : Packet) (from to : ℕ) → IsPacket p → from ≡ 0 → to ≡ len p → p ≡ cut from to p
cut-none p from to is first last = sym (cut-all p is) ∙ (λ i. cut (sym first i) (sym last i) p)

-- the bytes from n on, to the end
pub slice_range-rest : (xs : List ℕ) (n m : ℕ) → length xs ≤ m → slice_range xs n m ≡ drop n xs
slice_range-rest xs n m all = take_all (m - n) (drop n xs) (omega (arith, all, length-drop n xs))

-- a cut of just the first item's bytes takes off just the first item
pub cut_items-first : (n b : ℕ) (is : List Item) → IsSome (slice_get is 0) → IfSome (slice_get is 0) (λ i. left i ≡ n) → All IsLeft is → total_left is ≤ b → cut_items n b is ≡ drop 1 is
cut_items-first n b [] some first all fits = absurd (let d : false ≡ true = some in cc)
cut_items-first n b (i ∷ is) some first all fits =
    let sum : total_left (i ∷ is) ≡ left i + total_left is = sum_by-cons left i is in
    cut_items-goes n b i is (omega (arith, first))
    ∙ cut_items-at (n - left i) (b - left i) 0 (b - left i) is (omega (arith, first)) refl
    ∙ cut_items-all (b - left i) is (All-tail IsLeft i is all) (omega (arith, sum, fits))

both : (p q : Bool) → (p && q) ≡ true → (p ≡ true) × (q ≡ true)
both true q h = (refl, h)
both false q h = absurd (let d : false ≡ true = h in cc)

same_number : (a b : ℕ) → (a == b) ≡ true → a ≡ b
same_number a b h = elim (eqb_tells a b) [
  | inl same ↦ same.1
  | inr other ↦ absurd (let d : false ≡ true = sym other.0 ∙ h in cc)
]

-- of a whole item all bytes are left
pub whole-left : (kind : Kind) (n : ℕ) (is : List Item) → first_is_whole kind n is ≡ true → IsSome (slice_get is 0) × IfSome (slice_get is 0) (λ i. left i ≡ n)
whole-left kind n [] h = absurd (let d : false ≡ true = h in cc)
whole-left kind n (i ∷ is) h =
    let of_kind = both (nat_lt 0 n) (same_kind i.kind kind && (i.size == n && (i.cut_front == 0 && i.cut_back == 0))) h in
    let of_size = both (same_kind i.kind kind) (i.size == n && (i.cut_front == 0 && i.cut_back == 0)) of_kind.1 in
    let uncut = both (i.size == n) (i.cut_front == 0 && i.cut_back == 0) of_size.1 in
    let ends = both (i.cut_front == 0) (i.cut_back == 0) uncut.1 in
    let size = same_number i.size n uncut.0 in
    let front = same_number i.cut_front 0 ends.0 in
    let back = same_number i.cut_back 0 ends.1 in
    (refl, omega (arith, size, front, back))

-- the first item is no longer than the packet
pub first-fits : (n : ℕ) (is : List Item) → IsSome (slice_get is 0) → IfSome (slice_get is 0) (λ i. left i ≡ n) → n ≤ total_left is
first-fits n [] some first = absurd (let d : false ≡ true = some in cc)
first-fits n (i ∷ is) some first =
    let sum : total_left (i ∷ is) ≡ left i + total_left is = sum_by-cons left i is in
    omega (arith, first, sum)
