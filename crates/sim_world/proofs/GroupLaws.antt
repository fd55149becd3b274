-- Lists grouped by a number.
use Rattle.std.proofs.Common.{◌≡◌, ◌≢◌, ℕ, ◌+◌, ◌<◌, ◌≤◌, nat_eq, Bool, true, false, cond, not, List, [], ◌∷◌, ◌++◌, length, get_or, set, take, inl, inr, filter, replicate, refl, sym, ap, ◌∙◌, arith, length-set}
use Rattle.std.specs.Prelude.{All, ◌==◌}
use Rattle.std.specs.List.{range_with_len}
use Rattle.std.proofs.lemmas.Bool.{cases_eq}
use Rattle.std.proofs.lemmas.List.{take_more, length-replicate, get_or-set_same, get_or-set_other, get_or-replicate, append-nil}
use Rattle.std.proofs.lemmas.List.Elements.{filter-append, All-map, All-filter}
use Rattle.std.proofs.lemmas.List.Filters.{length-filter_both}
use Rattle.std.proofs.lemmas.List.FromFn.{fill_by_all, length-map-range_with_len, get_or-map-range_with_len}
use Rattle.sim_world.specs.Grouping.{under, grouped, with_item}

pub length-grouped : {A : Type 0} (node_of : A → ℕ) (nodes : ℕ) (items : List A) → length (grouped node_of nodes items) ≡ nodes
length-grouped node_of nodes items = length-map-range_with_len (λ n. under node_of n items) 0 nodes

-- what stands at a node
pub get_or-grouped : {A : Type 0} (node_of : A → ℕ) (nodes : ℕ) (items : List A) (n : ℕ) (d : List A) → n < nodes → get_or (grouped node_of nodes items) n d ≡ under node_of n items
get_or-grouped node_of nodes items n d lt = get_or-map-range_with_len (λ k. under node_of k items) 0 nodes n n d lt (omega arith)

-- nothing, for each node
pub grouped-nil : {A : Type 0} (node_of : A → ℕ) (nodes : ℕ) → replicate nodes (let none : List A = [] in none) ≡ grouped node_of nodes []
grouped-nil {A} node_of nodes =
    let none : List A = [] in
    fill_by_all (λ n. under node_of n []) (replicate nodes none) nodes none (length-replicate nodes none) (λ k lt. get_or-replicate nodes k none none lt)

same_numbers : (n : ℕ) → nat_eq n n ≡ true
same_numbers n = grind arith

other_numbers : (n m : ℕ) → n ≢ m → nat_eq n m ≡ false
other_numbers n m ne = grind arith

-- the last item stands behind the others of its node
pub at_its_node : {A : Type 0} (node_of : A → ℕ) (items : List A) (x : A) (n : ℕ) → (node_of x) ≡ n → under node_of n (items ++ x ∷ []) ≡ under node_of n items ++ x ∷ []
at_its_node node_of items x n is =
    filter-append (λ item. (node_of item) == n) items (x ∷ [])
    ∙ ap (λ b. under node_of n items ++ cond b (x ∷ []) []) (ap (λ m. nat_eq m n) is ∙ same_numbers n)

pub at_another : {A : Type 0} (node_of : A → ℕ) (items : List A) (x : A) (n : ℕ) → (node_of x) ≢ n → under node_of n (items ++ x ∷ []) ≡ under node_of n items
at_another node_of items x n ne =
    filter-append (λ item. (node_of item) == n) items (x ∷ [])
    ∙ ap (λ b. under node_of n items ++ cond b (x ∷ []) []) (other_numbers (node_of x) n ne)
    ∙ append-nil (under node_of n items)

place : (A : Type 0) (node_of : A → ℕ) (nodes : ℕ) (items : List A) (x : A) (n k : ℕ) (d : List A) → (node_of x) ≡ n → n < nodes → k < nodes
    → get_or (with_item n x (grouped node_of nodes items)) k d ≡ under node_of k (items ++ x ∷ [])
place A node_of nodes items x n k d is lt lk =
    let groups : List (List A) = grouped node_of nodes items in
    let there : List A = get_or groups n [] ++ x ∷ [] in
    let within : n < length groups = rw (length-grouped node_of nodes items) lt in
    elim (cases_eq k n) [
      | inl same ↦
          ap (λ j. get_or (set groups n there) j d) same ∙ get_or-set_same groups n there d within
          ∙ ap (λ l. l ++ x ∷ []) (get_or-grouped node_of nodes items n [] lt) ∙ sym (at_its_node node_of items x n is)
          ∙ ap (λ j. under node_of j (items ++ x ∷ [])) (sym same)
      | inr other ↦
          get_or-set_other groups n k there d other ∙ get_or-grouped node_of nodes items k d lk ∙ sym (at_another node_of items x k (λ e. other (sym e ∙ is)))
    ]

-- one more item
pub grouped-push : {A : Type 0} (node_of : A → ℕ) (nodes : ℕ) (items : List A) (x : A) (n : ℕ) → (node_of x) ≡ n → n < nodes
    → with_item n x (grouped node_of nodes items) ≡ grouped node_of nodes (items ++ x ∷ [])
grouped-push {A} node_of nodes items x n is lt =
    fill_by_all (λ k. under node_of k (items ++ x ∷ [])) (with_item n x (grouped node_of nodes items)) nodes []
    (length-set (grouped node_of nodes items) n (get_or (grouped node_of nodes items) n [] ++ x ∷ []) ∙ length-grouped node_of nodes items)
    (λ k lk. place A node_of nodes items x n k [] is lt lk)

-- the next of some items
pub next_pushed : {A : Type 0} (node_of : A → ℕ) (nodes : ℕ) (items : List A) (i : ℕ) (d : A) (groups more : List (List A)) → i < length items
    → (node_of (get_or items i d)) < nodes → groups ≡ grouped node_of nodes (take i items)
    → more ≡ with_item (node_of (get_or items i d)) (get_or items i d) groups → more ≡ grouped node_of nodes (take (i + 1) items)
next_pushed {A} node_of nodes items i d groups more lt below so_far added =
    let x : A = get_or items i d in
    added ∙ ap (with_item (node_of x) x) so_far ∙ grouped-push node_of nodes (take i items) x (node_of x) refl below
    ∙ ap (grouped node_of nodes) (sym (take_more items i d lt))

-- a node that there is has its list
pub node_there : {A : Type 0} (node_of : A → ℕ) (nodes : ℕ) (items : List A) (groups : List (List A)) (n : ℕ) → groups ≡ grouped node_of nodes items → n < nodes → n < length groups
node_there node_of nodes items groups n is lt = let long : length groups ≡ nodes = ap length is ∙ length-grouped node_of nodes items in omega (arith, long, lt)

-- each node's items are as all are
pub all_grouped : {A : Type 0} (node_of : A → ℕ) (nodes : ℕ) (P : A → Type 0) (items : List A) → All P items → All (All P) (grouped node_of nodes items)
all_grouped node_of nodes P items are =
    All-map (All P) (λ n. under node_of n items) (range_with_len 0 nodes) (λ k d lt. All-filter (λ item. (node_of item) == get_or (range_with_len 0 nodes) k d) P items are)

-- no node has more than there is
few_pass : {A : Type 0} (p : A → Bool) (items : List A) (most : ℕ) → length items ≤ most → length (filter p items) ≤ most
few_pass p items most few =
    let both : length (filter p items) + length (filter (λ a. not (p a)) items) ≡ length items = length-filter_both p (λ a. not (p a)) (λ a. refl) items in
    omega arith

pub few_at : {A : Type 0} (node_of : A → ℕ) (n most : ℕ) (items : List A) → length items ≤ most → length (under node_of n items) ≤ most
few_at node_of n most items few = few_pass (λ item. (node_of item) == n) items most few

pub few_grouped : {A : Type 0} (node_of : A → ℕ) (nodes most : ℕ) (items : List A) → length items ≤ most → All (λ there. length there ≤ most) (grouped node_of nodes items)
few_grouped node_of nodes most items few = All-map (λ there. length there ≤ most) (λ n. under node_of n items) (range_with_len 0 nodes) (λ k d lt. few_at node_of (get_or (range_with_len 0 nodes) k d) most items few)
