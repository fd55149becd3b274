-- Tables of routes, addresses, and look-ups of interfaces.
use Rattle.std.proofs.Common.{◌≡◌, ◌≢◌, ℕ, zero, suc, ◌+◌, ◌<◌, ◌≤◌, nat_eq, nat_lt, Bool, true, false, cond, List, [], ◌∷◌, ◌++◌, length, take, drop, fold, find, map, get_or, Option, Some, None, is_some, IfSome, refl, sym, ap, subst, ◌∙◌, arith, append_assoc}
use Rattle.std.specs.Prelude.{◌==◌, All}
use Rattle.std.specs.List.{AllByRecursion, filter_map, cons_option}
use Rattle.std.specs.Option.{option_or}
use Rattle.std.specs.declared.cmp.Ordering.TheVariants.{Less, Equal, Greater}
use Rattle.std.specs.Ordering.{nat_cmp, is_eq}
use Rattle.std.specs.BTreeMap.{insert_entry}
use Rattle.std.specs.BTreeSet.{insert_key}
use Rattle.std.proofs.lemmas.List.{append-nil, take_more, at_drop_more}
use Rattle.std.proofs.lemmas.List.Elements.{All-append, All-head, All-map, All-tail}
use Rattle.std.proofs.lemmas.List.Folds.{find-append}
use Rattle.ipv4_core.specs.declared.routes.Way.{Way}
use Rattle.ipv4_core.specs.Routes.{PlainTable, IsFalling}
use Rattle.scenario_form.specs.declared.scenario.Route.{Route}
use Rattle.sim_world.specs.declared.ends.End.{End}
use Rattle.sim_world.specs.declared.routing.Entry.{Entry}
use Rattle.sim_world.specs.Networks.{IsNetwork}
use Rattle.sim_world.specs.Routing.{connected, entries_of, first_on, listed, prefix_of, ways_of, with_table, with_way, tables_below, with_own}
use Rattle.sim_world.specs.Grouping.{grouped, under}
use Rattle.sim_world.proofs.GroupLaws.{get_or-grouped}

-- ---- prefixes fall

still_below : (n : ℕ) (tables : List PlainTable) → AllByRecursion (λ t. t.prefix < n) tables → AllByRecursion (λ t. t.prefix < suc n) tables
still_below n [] h = tt
still_below n (t ∷ tables) h = (omega (arith, h.0), still_below n tables h.1)

below_all : (n : ℕ) (ways : List (ℕ × Way)) (tables : List PlainTable) → AllByRecursion (λ t. t.prefix < n) tables → AllByRecursion (λ t. t.prefix < suc n) (with_table n ways tables)
below_all n [] tables h = still_below n tables h
below_all n (way ∷ ways) tables h = (omega arith, still_below n tables h)

pub below : (n : ℕ) (entries : List Entry) → AllByRecursion (λ t. t.prefix < n) (tables_below n entries)
unfolding tables_below
below zero entries = tt
below (suc n) entries = below_all n (ways_of n entries) (tables_below n entries) (below n entries)

falling_with : (n : ℕ) (ways : List (ℕ × Way)) (tables : List PlainTable) → AllByRecursion (λ t. t.prefix < n) tables → IsFalling tables → IsFalling (with_table n ways tables)
falling_with n [] tables h falling = falling
falling_with n (way ∷ ways) tables h falling = (h, falling)

-- the tables are in order
pub falling : (n : ℕ) (entries : List Entry) → IsFalling (tables_below n entries)
unfolding tables_below
falling zero entries = tt
falling (suc n) entries = falling_with n (ways_of n entries) (tables_below n entries) (below n entries) (falling n entries)

-- ---- one prefix more

pub one_prefix : (n : ℕ) (entries : List Entry) → tables_below (suc n) entries ≡ with_table n (ways_of n entries) (tables_below n entries)
unfolding tables_below
one_prefix n entries = refl

pub some_table : (n : ℕ) (ways : List (ℕ × Way)) (tables : List PlainTable) (t : PlainTable) → t.prefix ≡ n → t.ways ≡ ways → length ways ≢ 0 → with_table n ways tables ≡ t ∷ tables
some_table n [] tables t p w some = absurd (some refl)
some_table n (way ∷ ways) tables t p w some = rw (← w, ← p) refl

pub no_table : (n : ℕ) (ways : List (ℕ × Way)) (tables : List PlainTable) → length ways ≡ 0 → with_table n ways tables ≡ tables
no_table n [] tables none = refl
no_table n (way ∷ ways) tables none = absurd (omega (arith, none))

pub not_both : (b : Bool) → b ≡ true → b ≡ false → ⊥
not_both true h k = cc
not_both false h k = cc

table_first : (n : ℕ) (ways : List (ℕ × Way)) (tables : List PlainTable) → with_table n ways [] ++ tables ≡ with_table n ways tables
table_first n [] tables = refl
table_first n (way ∷ ways) tables = refl

one_less : (m n : ℕ) (entries : List Entry) → m ≡ n + 1 → tables_below m entries ≡ with_table n (ways_of n entries) (tables_below n entries)
one_less m n entries is = ap (λ k. tables_below k entries) (let e : m ≡ suc n = omega (arith, is) in e) ∙ one_prefix n entries

-- one prefix more
pub table_step : (old new : List PlainTable) (all : List PlainTable) (ways : List (ℕ × Way)) (m n : ℕ) (entries : List Entry) → m ≡ n + 1
    → old ++ tables_below m entries ≡ all → ways ≡ ways_of n entries → new ≡ old ++ with_table n ways [] → new ++ tables_below n entries ≡ all
table_step old new all ways m n entries is so_far w grown =
    ap (λ ts. ts ++ tables_below n entries) grown
    ∙ append_assoc old (with_table n ways []) (tables_below n entries)
    ∙ ap (λ ts. old ++ ts) (table_first n ways (tables_below n entries))
    ∙ ap (λ ws. old ++ with_table n ws (tables_below n entries)) w
    ∙ ap (λ ts. old ++ ts) (sym (one_less m n entries is)) ∙ so_far

none_below : (n : ℕ) (entries : List Entry) → n ≡ 0 → tables_below n entries ≡ []
unfolding tables_below
none_below n entries is = ap (λ k. tables_below k entries) is

-- no prefix is left
pub all_tables : (old all : List PlainTable) (n : ℕ) (entries : List Entry) → n ≤ 0 → old ++ tables_below n entries ≡ all → old ≡ all
all_tables old all n entries le so_far =
    sym (append-nil old) ∙ ap (λ ts. old ++ ts) (sym (none_below n entries (let z : n ≡ 0 = omega (arith, le) in z))) ∙ so_far

-- ---- addresses

pub own_next : (i : ℕ) (ends : List End) (d : End) (old new all : List ℕ) → i < length ends → fold with_own old (drop i ends) ≡ all
    → new ≡ insert_key nat_cmp old (get_or ends i d).addr → fold with_own new (drop (i + 1) ends) ≡ all
own_next i ends d old new all lt so_far added =
    ap (λ own. fold with_own own (drop (i + 1) ends)) added ∙ sym (at_drop_more (fold with_own old) ends i d lt) ∙ so_far

-- ---- the first interface under a number

abbrev first_by : (End → ℕ) → List End → ℕ → Option End
first_by key ends n = find (λ e. key e == n) ends

-- the first of some, and then of one more
after_one : (key : End → ℕ) (n : ℕ) (ends : List End) (e : End)
    → first_by key (ends ++ e ∷ []) n ≡ option_or (first_by key ends n) (cond (nat_eq (key e) n) (Some e) None)
after_one key n ends e = find-append (λ x. key x == n) ends (e ∷ [])

same_number : (n m : ℕ) → nat_eq n m ≡ true → n ≡ m
same_number n m h = grind arith

cmp_cases : (a b : ℕ) (lower same : Bool) → nat_lt a b ≡ lower → nat_eq a b ≡ same → is_eq (cond lower Less (cond same Equal Greater)) ≡ same
cmp_cases a b true true l e = absurd (grind arith)
cmp_cases a b true false l e = refl
cmp_cases a b false true l e = refl
cmp_cases a b false false l e = refl

cmp_is : (a b : ℕ) → is_eq (nat_cmp a b) ≡ nat_eq a b
cmp_is a b = cmp_cases a b (nat_lt a b) (nat_eq a b) refl refl

-- an end under whose number none was before
first_at : (n k : ℕ) (e : End) (old new : Option End) (b : Bool) → nat_eq k n ≡ b → (k ≡ n → is_some old ≡ false) → new ≡ cond (nat_eq k n) (Some e) old
    → new ≡ option_or old (cond (nat_eq k n) (Some e) None)
first_at n k e None new b is none put = put
first_at n k e (Some o) new true is none put = let no : is_some (Some o) ≡ false = none (same_number k n is) in cc
first_at n k e (Some o) new false is none put = put ∙ rw is refl

pub first_inserted : (key : End → ℕ) (n : ℕ) (ends : List End) (e : End) (old new : ℕ → Option End) → ((m : ℕ) → old m ≡ first_by key ends m)
    → is_some (old (key e)) ≡ false → new n ≡ cond (is_eq (nat_cmp (key e) n)) (Some e) (old n)
    → new n ≡ first_by key (ends ++ e ∷ []) n
first_inserted key n ends e old new known none put =
    first_at n (key e) e (old n) (new n) (nat_eq (key e) n) refl (λ is. ap (λ m. is_some (old m)) (sym is) ∙ none)
    (put ∙ ap (λ b. cond b (Some e) (old n)) (cmp_is (key e) n))
    ∙ ap (λ o. option_or o (cond (nat_eq (key e) n) (Some e) None)) (known n)
    ∙ sym (after_one key n ends e)

later_at : (n k : ℕ) (e : End) (old : Option End) (b : Bool) → nat_eq k n ≡ b → (k ≡ n → is_some old ≡ true) → old ≡ option_or old (cond (nat_eq k n) (Some e) None)
later_at n k e (Some o) b is some = refl
later_at n k e None true is some = let no : is_some {T = End} None ≡ true = some (same_number k n is) in cc
later_at n k e None false is some = rw is refl

pub not_first : (key : End → ℕ) (n : ℕ) (ends : List End) (e : End) (old : ℕ → Option End) → ((m : ℕ) → old m ≡ first_by key ends m)
    → is_some (old (key e)) ≡ true → old n ≡ first_by key (ends ++ e ∷ []) n
not_first key n ends e old known some =
    later_at n (key e) e (old n) (nat_eq (key e) n) refl (λ is. ap (λ m. is_some (old m)) (sym is) ∙ some)
    ∙ ap (λ o. option_or o (cond (nat_eq (key e) n) (Some e) None)) (known n)
    ∙ sym (after_one key n ends e)

-- one end more of a list, behind others
pub next_first : (key : End → ℕ) (n : ℕ) (before ends : List End) (i : ℕ) (d : End) → i < length ends
    → first_by key ((before ++ take i ends) ++ get_or ends i d ∷ []) n ≡ first_by key (before ++ take (i + 1) ends) n
next_first key n before ends i d lt =
    ap (λ l. first_by key l n) (append_assoc before (take i ends) (get_or ends i d ∷ []) ∙ ap (λ l. before ++ l) (sym (take_more ends i d lt)))

found_first : (b : Bool) (e : End) (o : Option End) → IsNetwork e.network → IfSome o (λ e. IsNetwork e.network) → IfSome (cond b (Some e) o) (λ e. IsNetwork e.network)
found_first true e o is rest = is
found_first false e o is rest = rest

-- what is found is within the limits
found_at : (n : ℕ) (ends : List End) → All (λ e. IsNetwork e.network) ends → IfSome (first_on ends n) (λ e. IsNetwork e.network)
found_at n [] are = tt
found_at n (e ∷ ends) are =
    found_first (e.network.number == n) e (first_on ends n) (All-head (λ (x : End). IsNetwork x.network) e ends are)
    (found_at n ends (All-tail (λ (x : End). IsNetwork x.network) e ends are))

pub found : (n : ℕ) (ends : List End) (o : Option End) → o ≡ first_on ends n → All (λ e. IsNetwork e.network) ends → IfSome o (λ e. IsNetwork e.network)
found n ends o is are = subst (λ (x : Option End). IfSome x (λ e. IsNetwork e.network)) (sym is) (found_at n ends are)

-- ---- listed routes

pub same_listed : (holder on : ℕ → Option End) (ends : List End) (routes : List Route) → ((n : ℕ) → on n ≡ first_on ends n)
    → filter_map (listed holder on) routes ≡ filter_map (listed holder (first_on ends)) routes
same_listed holder on ends routes known = ap (λ (f : ℕ → Option End). filter_map (listed holder f) routes) (λ i n. known n i)

-- one listed route more, which leaves by an interface
pub listed_some : (f : Route → Option Entry) (routes : List Route) (i : ℕ) (d : Route) (e : Entry) (old new all : List Entry) → i < length routes
    → old ++ filter_map f (drop i routes) ≡ all → f (get_or routes i d) ≡ Some e → new ≡ old ++ e ∷ [] → new ++ filter_map f (drop (i + 1) routes) ≡ all
listed_some f routes i d e old new all lt so_far is grown =
    let rest : List Entry = filter_map f (drop (i + 1) routes) in
    ap (λ es. es ++ rest) grown ∙ append_assoc old (e ∷ []) rest ∙ ap (λ o. old ++ cons_option o rest) (sym is)
    ∙ ap (λ es. old ++ es) (sym (at_drop_more (filter_map f) routes i d lt)) ∙ so_far

-- one that leads nowhere
pub listed_none : (f : Route → Option Entry) (routes : List Route) (i : ℕ) (d : Route) (old new all : List Entry) → i < length routes
    → old ++ filter_map f (drop i routes) ≡ all → f (get_or routes i d) ≡ None → new ≡ old → new ++ filter_map f (drop (i + 1) routes) ≡ all
listed_none f routes i d old new all lt so_far is same =
    let rest : List Entry = filter_map f (drop (i + 1) routes) in
    ap (λ es. es ++ rest) same ∙ ap (λ o. old ++ cons_option o rest) (sym is)
    ∙ ap (λ es. old ++ es) (sym (at_drop_more (filter_map f) routes i d lt)) ∙ so_far

-- ---- ways

pub way_next : (i : ℕ) (entries : List Entry) (d : Entry) (old new all : List (ℕ × Way)) → i < length entries → fold with_way old (drop i entries) ≡ all
    → new ≡ insert_entry nat_cmp old (get_or entries i d).dest (get_or entries i d).way → fold with_way new (drop (i + 1) entries) ≡ all
way_next i entries d old new all lt so_far added =
    ap (λ ways. fold with_way ways (drop (i + 1) entries)) added ∙ sym (at_drop_more (fold with_way old) entries i d lt) ∙ so_far

-- those of one prefix length
pub prefix_at : (groups : List (List Entry)) (entries : List Entry) (prefix : ℕ) (there : List Entry) → prefix < 31 → groups ≡ grouped prefix_of 31 entries
    → get_or groups prefix there ≡ under prefix_of prefix entries
prefix_at groups entries prefix there lt are = ap (λ gs. get_or gs prefix there) are ∙ get_or-grouped prefix_of 31 entries prefix there lt

pub short_entries : (ends : List End) (beyond : List Entry) → All (λ e. IsNetwork e.network) ends → All (λ e. prefix_of e ≤ 30) beyond
    → All (λ e. prefix_of e ≤ 30) (entries_of ends beyond)
short_entries ends beyond are short =
    let P : Entry → Type 0 = λ e. prefix_of e ≤ 30 in
    All-append P (map connected ends) beyond (All-map P connected ends (λ k d lt. (are k d lt).prefix)) short

pub short_at : (entries : List Entry) (i : ℕ) (d : Entry) → All (λ e. prefix_of e ≤ 30) entries → i < length entries → prefix_of (get_or entries i d) < 31
short_at entries i d are lt = omega (arith, are i d lt)
