-- Counting the places of nodes in groups, and numbering their groups.
use Rattle.std.proofs.Common.{◌≡◌, ◌==◌, ℕ, ◌<◌, ◌+◌, List, [], ◌++◌, length, get_or, take, drop, count_by, Vec, All, suc, fold, ◌∷◌, if◌then◌else◌, ap, ◌∙◌, sym, subst, arith}
use Rattle.std.specs.Global.{Global}
use Rattle.std.specs.List.{list_any, enumerate_from}
use Rattle.std.proofs.Math.Seq.{drop-length}
use Rattle.std.proofs.lemmas.List.{get_or-map, take_all, take_more, length-map, length-take-le, append-nil}
use Rattle.std.proofs.lemmas.List.Sums.{sum_by_more, fold_push}
use Rattle.partition_cut.specs.Network.{node_lists}
use Rattle.partition_cut.specs.Refusal.{places, group_in}

-- a slice that was written as a whole
pub whole-written : (new old : List ℕ) (len : ℕ) → len ≡ length old → length new ≡ length old →
    take len (new ++ drop (length new) old) ≡ new
whole-written new old len e same =
    ap (λ n. take len (new ++ drop n old)) same ∙ ap (λ l. take len (new ++ l)) (drop-length old)
    ∙ ap (take len) (append-nil new) ∙ take_all len new (omega arith)

-- a list of nodes at its place
pub get_or-node_lists : (lists : List (Vec ℕ Global)) (i : ℕ) (list : Vec ℕ Global) → i < length lists → list ≡ get_or lists i list →
    get_or (node_lists lists) i [] ≡ list.items
get_or-node_lists lists i list lt is = get_or-map (λ (l : Vec ℕ Global). l.items) lists i list [] lt ∙ ap (λ (l : Vec ℕ Global). l.items) (sym is)

pub length-node_lists : (lists : List (Vec ℕ Global)) → length (node_lists lists) ≡ length lists
length-node_lists lists = length-map lists (λ (l : Vec ℕ Global). l.items)

-- the places in one more group
pub places-more : (groups : List (List ℕ)) (i node : ℕ) → i < length groups →
    places (take (i + 1) groups) node ≡ places (take i groups) node + count_by (λ member. member == node) (get_or groups i [])
places-more groups i node lt = sum_by_more (count_by (λ member. member == node)) groups i [] lt

-- a list's members are below the number of nodes
pub members-below : (lists : List (Vec ℕ Global)) (nodes i : ℕ) (list : Vec ℕ Global) (slice : List ℕ) →
    All (λ group. All (λ node. node < nodes) group) (node_lists lists) → i < length lists → list ≡ get_or lists i list →
    slice ≡ list.items → All (λ node. node < nodes) slice
members-below lists nodes i list slice all lt is value =
    let P : List ℕ → Type 0 = λ l. All (λ node. node < nodes) l in
    let n = length-node_lists lists in
    subst P (get_or-node_lists lists i list lt is ∙ sym value) (all i [] (omega arith))

abbrev pub held-by : ℕ → ℕ → ℕ × List ℕ → ℕ
held-by node held group = if list_any (λ member. member == node) group.1 then group.0 else held

enumerate-push : {X : Type 0} (n : ℕ) (xs : List X) (x : X) → enumerate_from n (xs ++ x ∷ []) ≡ enumerate_from n xs ++ (n + length xs, x) ∷ []
enumerate-push n [] x = let e : n ≡ n + 0 = omega arith in ap (λ k. (k, x) ∷ []) e
enumerate-push n (y ∷ ys) x =
    let e : n + 1 + length ys ≡ n + suc (length ys) = omega arith in
    ap (λ t. (n, y) ∷ t) (enumerate-push (n + 1) ys x ∙ ap (λ k. enumerate_from (n + 1) ys ++ (k, x) ∷ []) e)

-- the number of a node's group among one more group
pub group_in-more : (groups : List (List ℕ)) (i node : ℕ) → i < length groups → group_in (take (i + 1) groups) node
    ≡ (if list_any (λ member. member == node) (get_or groups i []) then i else group_in (take i groups) node)
group_in-more groups i node lt =
    let front = take i groups in
    let group = get_or groups i [] in
    let e : 0 + length front ≡ i = (let l = length-take-le i groups (omega arith) in omega arith) in
    ap (λ l. group_in l node) (take_more groups i [] lt)
    ∙ ap (fold (held-by node) 0) (enumerate-push 0 front group)
    ∙ fold_push (held-by node) 0 (enumerate_from 0 front) (0 + length front, group)
    ∙ ap (λ k. if list_any (λ member. member == node) group then k else group_in front node) e

-- groups that aren't empty name nodes
pub named : (nodes : ℕ) (groups : List (List ℕ)) → All (λ group. (0 < length group) × All (λ node. node < nodes) group) groups →
    All (λ group. All (λ node. node < nodes) group) groups
named nodes groups all k d lt = (all k d lt).1
