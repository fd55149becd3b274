-- Laws of cut items, one item at a time.
use Rattle.std.proofs.Common.{ℕ, ◌≡◌, ◌-◌, ◌≤◌, List, [], ◌∷◌, refl, ap, ◌∙◌, arith}
use Rattle.std.specs.List.{filter}
use Rattle.std.proofs.lemmas.Bool.{lt-ltb, le-ltb}
use Rattle.sim_base.specs.declared.item.Item.{Item}
use Rattle.sim_base.specs.Items.{left, IsLeft, is_left, cut_item, cut_each, cut_items}
use Rattle.sim_base.proofs.ListLaws.{filter-passes, filter-fails}

-- an item that has a byte left stays
pub cut_items-stays : (a b : ℕ) (i k : Item) (is ks : List Item) → cut_item a b i ≡ k → IsLeft k → cut_items (a - left i) (b - left i) is ≡ ks → cut_items a b (i ∷ is) ≡ k ∷ ks
cut_items-stays a b i k is ks part full rest =
    let later = cut_each (a - left i) (b - left i) is in
    ap (λ x. filter is_left (x ∷ later)) part
    ∙ filter-passes is_left k later (lt-ltb 0 (left k) (omega arith)) ∙ ap (λ xs. k ∷ xs) rest

-- an item that has no byte left goes
pub cut_items-goes : (a b : ℕ) (i : Item) (is : List Item) → left (cut_item a b i) ≤ 0 → cut_items a b (i ∷ is) ≡ cut_items (a - left i) (b - left i) is
cut_items-goes a b i is bare =
    filter-fails is_left (cut_item a b i) (cut_each (a - left i) (b - left i) is) (le-ltb 0 _ bare)

-- the same places of the same items
pub cut_items-at : (a b c d : ℕ) (is : List Item) → a ≡ c → b ≡ d → cut_items a b is ≡ cut_items c d is
cut_items-at a b c d is front back = ap (λ x. cut_items x b is) front ∙ ap (λ x. cut_items c x is) back

-- a range without a place has no item
pub cut_items-bare : (a b : ℕ) (is : List Item) → b ≤ a → cut_items a b is ≡ []
cut_items-bare a b [] bare = refl
cut_items-bare a b (i ∷ is) bare =
    cut_items-goes a b i is (omega (arith, bare)) ∙ cut_items-bare (a - left i) (b - left i) is (omega (arith, bare))
