-- Merging lists of lines.
use Rattle.std.specs.Global.{Global}
use Rattle.std.specs.List.{AllByRecursion, filter}
use Rattle.std.proofs.Common.{ℕ, ◌≡◌, ◌≢◌, ◌⊎◌, ◌↔◌, ◌<◌, ◌≤◌, ◌||◌, ◌&&◌, ◌==◌, not, nat_lt, Bool, true, false, List, [], ◌∷◌, ◌++◌, Option, Some, None, length, length-append, map, Vec, refl, sym, ap, ◌∙◌, subst, arith, inl, inr}
use Rattle.std.proofs.lemmas.Bool.{cases_Bool, cases_lt, cases_eq, eq-eqb, ne_eqb, lt-ltb, le-ltb}
use Rattle.std.proofs.lemmas.Bool.Decides.{nat_tests}
use Rattle.sim_base.specs.declared.key.Key.{Key}
use Rattle.sim_base.specs.KeyOrder.{before, earlier, numbers}
use Rattle.sim_base.proofs.KeyLaws.{earlier-not_back, earlier-up}
use Rattle.pkt_face.specs.declared.line.Line.{Line}
use Rattle.round_core.specs.Parts.{IsIn}
use Rattle.round_core.proofs.ListLaws.{all-map, all-append}
use Rattle.round_core.proofs.Members.{all-in, filter-in, in-all, in-append, in-append_left, in-append_right, in-filter as filter-keeps}
use Rattle.trace_merge.specs.Merge.{AreGroups, AreMergedTwo, HasMergedFront, IsInSome, IsMerged, LinesRise, is_below, leads, place}

-- numbers with one more number each: what comes first is told by these, and by the last where neither comes first
last-tells : (xs ys : List ℕ) (i j : ℕ) → length xs ≡ length ys →
    earlier (xs ++ i ∷ []) (ys ++ j ∷ []) ≡ (earlier xs ys || (not (earlier ys xs) && nat_lt i j))
unfolding earlier
last-tells [] [] i j same = elim (cases_Bool (nat_lt i j)) [
  | inl less ↦ rw less refl
  | inr more ↦ elim (cases_Bool (i == j)) [ inl e ↦ rw (more, e) refl | inr e ↦ rw (more, e) refl ]
]
last-tells [] (y ∷ ys) i j same = absurd (omega arith)
last-tells (x ∷ xs) [] i j same = absurd (omega arith)
last-tells (x ∷ xs) (y ∷ ys) i j same = let ih = last-tells xs ys i j (omega arith) in elim (cases_lt x y) [
  | inl less ↦ let a = lt-ltb x y less in rw a refl
  | inr more ↦ elim (cases_eq x y) [
    | inl e ↦
        let a = le-ltb x y more in
        let b : nat_lt y x ≡ false = le-ltb y x (omega arith) in
        let c = eq-eqb x y e in
        let d : (y == x) ≡ true = eq-eqb y x (sym e) in
        rw (a, b, c, d) ih
    | inr other ↦
        let a = le-ltb x y more in
        let b : nat_lt y x ≡ true = lt-ltb y x (omega arith) in
        let c = ne_eqb x y other in
        rw (a, b, c) refl
  ]
]

pub place-before : {P : Type 0} (a b : Line P) →
    earlier (place a) (place b) ≡ (before a.key b.key || (not (before b.key a.key) && nat_lt a.index b.index))
unfolding before
place-before a b = last-tells (numbers a.key) (numbers b.key) a.index b.index refl

earlier-total : (xs ys : List ℕ) → earlier xs ys ≡ false → earlier ys xs ≡ false → xs ≡ ys
unfolding earlier
earlier-total [] [] h k = refl
earlier-total [] (y ∷ ys) h k = cc
earlier-total (x ∷ xs) [] h k = cc
earlier-total (x ∷ xs) (y ∷ ys) h k = let ih = earlier-total xs ys in grind (arith, nat_tests)

swap : {A B : Type 0} → A ⊎ B → B ⊎ A
swap (inl a) = inr a
swap (inr b) = inl b

swap-left : {A B C : Type 0} → A ⊎ (B ⊎ C) → A ⊎ (C ⊎ B)
swap-left (inl a) = inl a
swap-left (inr i) = inr (swap i)

-- a list that isn't longer than one
one-list : {A : Type 0} (xs rest : List A) (x : A) → xs ≡ x ∷ rest → length xs ≤ 1 → xs ≡ x ∷ []
one-list xs [] x is few = is
one-list xs (y ∷ rest) x is few = absurd (let l = ap length is in omega arith)

no-item : {A : Type 0} (xs : List A) → length xs ≡ 0 → xs ≡ []
no-item [] none = refl
no-item (x ∷ xs) none = absurd (omega arith)

module _ {P : Type 0} where
  -- what comes first of two lines is told by their keys, and then by their indices
  pub first-key : (a b : Line P) → before a.key b.key ≡ true → true ≡ earlier (place a) (place b)
  first-key a b h = sym (place-before a b ∙ rw h refl)

  pub last-key : (a b : Line P) → before a.key b.key ≡ false → before b.key a.key ≡ true → false ≡ earlier (place a) (place b)
  last-key a b h k = sym (place-before a b ∙ rw (h, k) refl)

  pub same-keys : (a b : Line P) → before a.key b.key ≡ false → before b.key a.key ≡ false → nat_lt a.index b.index ≡ earlier (place a) (place b)
  same-keys a b h k = sym (place-before a b ∙ rw (h, k) refl)

  abbrev Before : Line P → Line P → Type 0
  Before x y = earlier (place x) (place y) ≡ true

  before-trans : (x y z : Line P) → Before x y → Before y z → Before x z
  before-trans x y z h k = earlier-up (place x) (place y) (place z) h (earlier-not_back (place y) (place z) k)

  -- one of two places comes first
  one-before : (x y : Line P) → place x ≢ place y → earlier (place x) (place y) ≡ false → Before y x
  one-before x y apart h = elim (cases_Bool (earlier (place y) (place x))) [
    | inl first ↦ first
    | inr later ↦ absurd (apart (earlier-total (place x) (place y) h later))
  ]

  rise-end : (xs : List (Line P)) (z : Line P) → LinesRise xs → ((x : Line P) → IsIn x xs → Before x z) → LinesRise (xs ++ z ∷ [])
  rise-end [] z rise h = (tt, tt)
  rise-end (x ∷ xs) z rise h = (
    all-append (λ y. Before x y) xs (z ∷ []) rise.0 (h x (inl refl), tt),
    rise-end xs z rise.1 (λ y i. h y (inr i)),
  )

  -- two lists on the way to one: these lines are merged, and these are left of each
  pub record Merging (first second lines left right : List (Line P)) : Type 0 where
    pub rise : LinesRise lines
    pub ahead : (x y : Line P) → IsIn x lines → IsIn y left ⊎ IsIn y right → Before x y
    pub left_rise : LinesRise left
    pub right_rise : LinesRise right
    pub apart : (x y : Line P) → IsIn x left → IsIn y right → place x ≢ place y
    pub kept : (l : Line P) → IsIn l first ⊎ IsIn l second → IsIn l lines ⊎ (IsIn l left ⊎ IsIn l right)
    pub only : (l : Line P) → IsIn l lines ⊎ (IsIn l left ⊎ IsIn l right) → IsIn l first ⊎ IsIn l second

  pub merging-first : (first second : List (Line P)) → LinesRise first × LinesRise second →
      ((x y : Line P) → IsIn x first → IsIn y second → place x ≢ place y) → Merging first second [] first second
  merging-first first second rise apart = record {
    rise = tt;
    ahead = λ x y i j. absurd i;
    left_rise = rise.0;
    right_rise = rise.1;
    apart = apart;
    kept = λ l i. inr i;
    only = λ l i. elim i [ inl none ↦ absurd none | inr j ↦ j ];
  }

  merging-swap : (first second lines left right : List (Line P)) → Merging first second lines left right → Merging second first lines right left
  merging-swap first second lines left right m = record {
    rise = m.rise;
    ahead = λ x y i j. m.ahead x y i (swap j);
    left_rise = m.right_rise;
    right_rise = m.left_rise;
    apart = λ x y i j e. m.apart y x j i (sym e);
    kept = λ l i. swap-left (m.kept l (swap i));
    only = λ l i. swap (m.only l (swap-left i));
  }

  -- the first line that is left of one list is next, where it comes before all that is left of the other
  merging-step : (first second lines left right : List (Line P)) (x : Line P) → Merging first second lines (x ∷ left) right →
      ((y : Line P) → IsIn y right → Before x y) → Merging first second (lines ++ x ∷ []) left right
  merging-step first second lines left right x m next = record {
    rise = rise-end lines x m.rise (λ z i. m.ahead z x i (inl (inl refl)));
    ahead = λ z y i j. ahead z y (in-append z lines (x ∷ []) i) j;
    left_rise = m.left_rise.1;
    right_rise = m.right_rise;
    apart = λ z y i j. m.apart z y (inr i) j;
    kept = λ l i. kept l (m.kept l i);
    only = λ l i. m.only l (only l i);
  }
    where
      ahead : (z y : Line P) → IsIn z lines ⊎ IsIn z (x ∷ []) → IsIn y left ⊎ IsIn y right → Before z y
      ahead z y (inl i) (inl j) = m.ahead z y i (inl (inr j))
      ahead z y (inl i) (inr j) = m.ahead z y i (inr j)
      ahead z y (inr (inl same)) (inl j) = let Q : Line P → Type 0 = λ w. Before w y in
          subst Q (sym same) (in-all (λ w. Before x w) left m.left_rise.0 y j)
      ahead z y (inr (inl same)) (inr j) = let Q : Line P → Type 0 = λ w. Before w y in subst Q (sym same) (next y j)
      ahead z y (inr (inr none)) j = absurd none

      kept : (l : Line P) → IsIn l lines ⊎ (IsIn l (x ∷ left) ⊎ IsIn l right) → IsIn l (lines ++ x ∷ []) ⊎ (IsIn l left ⊎ IsIn l right)
      kept l (inl i) = inl (in-append_left l lines (x ∷ []) i)
      kept l (inr (inl (inl same))) = inl (in-append_right l lines (x ∷ []) (inl same))
      kept l (inr (inl (inr i))) = inr (inl i)
      kept l (inr (inr i)) = inr (inr i)

      here : (l : Line P) → IsIn l lines ⊎ IsIn l (x ∷ []) → IsIn l lines ⊎ (IsIn l (x ∷ left) ⊎ IsIn l right)
      here l (inl i) = inl i
      here l (inr (inl same)) = inr (inl (inl same))
      here l (inr (inr none)) = absurd none

      only : (l : Line P) → IsIn l (lines ++ x ∷ []) ⊎ (IsIn l left ⊎ IsIn l right) → IsIn l lines ⊎ (IsIn l (x ∷ left) ⊎ IsIn l right)
      only l (inl i) = here l (in-append l lines (x ∷ []) i)
      only l (inr (inl i)) = inr (inl (inr i))
      only l (inr (inr i)) = inr (inr i)

  -- what comes before the first of a list in order comes before all of it
  before-all : (x y : Line P) (ys : List (Line P)) → Before x y → LinesRise (y ∷ ys) → (z : Line P) → IsIn z (y ∷ ys) → Before x z
  before-all x y ys h rise z (inl same) = let Q : Line P → Type 0 = λ w. Before x w in subst Q (sym same) h
  before-all x y ys h rise z (inr i) = before-trans x y z h (in-all (λ w. Before y w) ys rise.0 z i)

  pub merging-left : (first second lines left right : List (Line P)) (x : Line P) → Merging first second lines (x ∷ left) right →
      leads (x ∷ left) right ≡ true → Merging first second (lines ++ x ∷ []) left right
  merging-left first second lines left [] x m h = merging-step first second lines left [] x m (λ y none. absurd none)
  merging-left first second lines left (y ∷ ys) x m h =
      merging-step first second lines left (y ∷ ys) x m (before-all x y ys h m.right_rise)

  pub merging-right : (first second lines left right : List (Line P)) (y : Line P) → Merging first second lines left (y ∷ right) →
      leads left (y ∷ right) ≡ false → Merging first second (lines ++ y ∷ []) left right
  merging-right first second lines [] right y m h =
      merging-swap second first (lines ++ y ∷ []) right []
      (merging-step second first lines right [] y (merging-swap first second lines [] (y ∷ right) m) (λ z none. absurd none))
  merging-right first second lines (x ∷ xs) right y m h =
      merging-swap second first (lines ++ y ∷ []) right (x ∷ xs)
      (merging-step second first lines right (x ∷ xs) y (merging-swap first second lines (x ∷ xs) (y ∷ right) m)
      (before-all y x xs (one-before x y (m.apart x y (inl refl) (inl refl)) h) m.left_rise))

  -- when nothing is left, the lists are merged
  pub merging-ends : (first second lines left right : List (Line P)) → Merging first second lines left right →
      left ≡ [] → right ≡ [] → AreMergedTwo first second lines
  merging-ends first second lines left right m none_left none_right = record {
    rise = m.rise;
    members = λ l. (λ i. m.only l (inl i), λ i. here l (m.kept l i));
  }
    where
      here : (l : Line P) → IsIn l lines ⊎ (IsIn l left ⊎ IsIn l right) → IsIn l lines
      here l (inl i) = i
      here l (inr (inl i)) = absurd (let Q : List (Line P) → Type 0 = λ xs. IsIn l xs in subst Q none_left i)
      here l (inr (inr i)) = absurd (let Q : List (Line P) → Type 0 = λ xs. IsIn l xs in subst Q none_right i)

  pub two-left : (first : List (Line P)) → LinesRise first → AreMergedTwo first [] first
  two-left first rise = record {
    rise = rise;
    members = λ l. (λ i. inl i, λ i. elim i [ inl j ↦ j | inr none ↦ absurd none ]);
  }

  pub two-right : (second : List (Line P)) → LinesRise second → AreMergedTwo [] second second
  two-right second rise = record {
    rise = rise;
    members = λ l. (λ i. inr i, λ i. elim i [ inl none ↦ absurd none | inr j ↦ j ]);
  }

  -- lists, and one more behind them
  pub in-some-end : (l : Line P) (gs : List (List (Line P))) (g : List (Line P)) → IsInSome l (gs ++ g ∷ []) → IsInSome l gs ⊎ IsIn l g
  in-some-end l [] g (inl i) = inr i
  in-some-end l [] g (inr none) = absurd none
  in-some-end l (h ∷ gs) g (inl i) = inl (inl i)
  in-some-end l (h ∷ gs) g (inr i) = elim (in-some-end l gs g i) [ inl j ↦ inl (inr j) | inr j ↦ inr j ]

  pub some-in-end : (l : Line P) (gs : List (List (Line P))) (g : List (Line P)) → IsInSome l gs ⊎ IsIn l g → IsInSome l (gs ++ g ∷ [])
  some-in-end l [] g (inl none) = absurd none
  some-in-end l [] g (inr i) = inl i
  some-in-end l (h ∷ gs) g (inl (inl i)) = inl i
  some-in-end l (h ∷ gs) g (inl (inr i)) = inr (some-in-end l gs g (inl i))
  some-in-end l (h ∷ gs) g (inr i) = inr (some-in-end l gs g (inr i))

  pub groups-end : (gs : List (List (Line P))) (g : List (Line P)) → AreGroups gs → LinesRise g →
      ((x y : Line P) → IsInSome x gs → IsIn y g → place x ≢ place y) → AreGroups (gs ++ g ∷ [])
  groups-end [] g are rise apart = (rise, λ x y i none. absurd none, tt)
  groups-end (h ∷ gs) g are rise apart = (
    are.0,
    λ x y i j. elim (in-some-end y gs g j) [ inl k ↦ are.1 x y i k | inr k ↦ apart x y (inl i) k ],
    groups-end gs g are.2 rise (λ x y i j. apart x y (inr i) j),
  )

  -- merging the first two of some groups leaves groups, which have the same lines
  pub front-groups : (old new : List (List (Line P))) → AreGroups old → HasMergedFront old new → AreGroups new
  front-groups [] new are h = let Q : List (List (Line P)) → Type 0 = λ xs. AreGroups xs in subst Q (sym h) tt
  front-groups (g ∷ []) new are h = let Q : List (List (Line P)) → Type 0 = λ xs. AreGroups xs in subst Q (sym h) are
  front-groups (a ∷ b ∷ gs) new are h = let Q : List (List (Line P)) → Type 0 = λ xs. AreGroups xs in subst Q (sym h.2)
      (groups-end gs h.0 are.2.2 h.1.rise (λ x y i j e. elim ((h.1.members y).0 j) [
        | inl k ↦ are.1 y x k (inr i) (sym e)
        | inr k ↦ are.2.1 y x k i (sym e)
      ]))

  pub front-in : (l : Line P) (old new : List (List (Line P))) → HasMergedFront old new → IsInSome l old → IsInSome l new
  front-in l [] new h i = absurd i
  front-in l (g ∷ []) new h i = let Q : List (List (Line P)) → Type 0 = λ xs. IsInSome l xs in subst Q (sym h) i
  front-in l (a ∷ b ∷ gs) new h i = let Q : List (List (Line P)) → Type 0 = λ xs. IsInSome l xs in
      subst Q (sym h.2) (some-in-end l gs h.0 (moved i))
    where
      moved : IsIn l a ⊎ (IsIn l b ⊎ IsInSome l gs) → IsInSome l gs ⊎ IsIn l h.0
      moved (inl j) = inr ((h.1.members l).1 (inl j))
      moved (inr (inl j)) = inr ((h.1.members l).1 (inr j))
      moved (inr (inr j)) = inl j

  pub in-front : (l : Line P) (old new : List (List (Line P))) → HasMergedFront old new → IsInSome l new → IsInSome l old
  in-front l [] new h i = let Q : List (List (Line P)) → Type 0 = λ xs. IsInSome l xs in subst Q h i
  in-front l (g ∷ []) new h i = let Q : List (List (Line P)) → Type 0 = λ xs. IsInSome l xs in subst Q h i
  in-front l (a ∷ b ∷ gs) new h i = let Q : List (List (Line P)) → Type 0 = λ xs. IsInSome l xs in
      moved (in-some-end l gs h.0 (subst Q h.2 i))
    where
      apart : IsIn l a ⊎ IsIn l b → IsIn l a ⊎ (IsIn l b ⊎ IsInSome l gs)
      apart (inl j) = inl j
      apart (inr j) = inr (inl j)

      moved : IsInSome l gs ⊎ IsIn l h.0 → IsIn l a ⊎ (IsIn l b ⊎ IsInSome l gs)
      moved (inl j) = inr (inr j)
      moved (inr j) = apart ((h.1.members l).0 j)

  -- lists that are groups, and have the lines of others
  pub record Merged (old new : List (List (Line P))) : Type 0 where
    pub groups : AreGroups new
    pub to : (l : Line P) → IsInSome l old → IsInSome l new
    pub from : (l : Line P) → IsInSome l new → IsInSome l old

  pub merged-first : (old : List (List (Line P))) → AreGroups old → Merged old old
  merged-first old are = record { groups = are; to = λ l i. i; from = λ l i. i }

  pub merged-more : (old mid new : List (List (Line P))) → Merged old mid → HasMergedFront mid new → Merged old new
  merged-more old mid new m h = record {
    groups = front-groups mid new m.groups h;
    to = λ l i. front-in l mid new h (m.to l i);
    from = λ l i. m.from l (in-front l mid new h i);
  }

  pub fewer : (old new : List (List (Line P))) → HasMergedFront old new → 1 < length old → length new < length old
  fewer [] new h more = absurd (omega arith)
  fewer (g ∷ []) new h more = absurd (omega arith)
  fewer (a ∷ b ∷ gs) new h more = let l = ap length h.2 in let e = length-append gs (h.0 ∷ []) in omega arith

  in-filter : (test : Line P → Bool) (l : Line P) (xs : List (Line P)) → IsIn l (filter test xs) → IsIn l xs × (test l ≡ true)
  in-filter test l xs i = filter-in test l xs i

  rise-filter : (test : Line P → Bool) (xs : List (Line P)) → LinesRise xs → LinesRise (filter test xs)
  rise-filter test [] rise = tt
  rise-filter test (x ∷ xs) rise = elim (cases_Bool (test x)) [
    | inl kept ↦ rw kept (
      all-in (λ y. Before x y) (filter test xs)
          (λ y i. in-all (λ y. Before x y) xs rise.0 y (in-filter test y xs i).0),
      rise-filter test xs rise.1,
    )
    | inr left ↦ rw left (rise-filter test xs rise.1)
  ]

  -- the one list that is left, below the limit, has the lines of all groups
  pub merged-last : (old : List (List (Line P))) (one : List (Line P)) (limit : Option Key) (lines : List (Line P)) → Merged old (one ∷ []) →
      lines ≡ filter (is_below limit) one → IsMerged old limit lines
  merged-last old one limit lines m is = record {
    rise = let Q : List (Line P) → Type 0 = λ xs. LinesRise xs in subst Q (sym is) (rise-filter (is_below limit) one m.groups.0);
    members = λ l. (to l, from l);
  }
    where
      only : (l : Line P) → IsInSome l (one ∷ []) → IsIn l one
      only l (inl i) = i
      only l (inr none) = absurd none

      to : (l : Line P) → IsIn l lines → IsInSome l old × (is_below limit l ≡ true)
      to l i = let both = in-filter (is_below limit) l one (subst (λ (xs : List (Line P)). IsIn l xs) is i) in (m.from l (inl both.0), both.1)

      from : (l : Line P) → IsInSome l old × (is_below limit l ≡ true) → IsIn l lines
      from l both = subst (λ (xs : List (Line P)). IsIn l xs) (sym is)
          (filter-keeps (is_below limit) l one (only l (m.to l both.0)) both.1)

  -- no list is left where there was none
  pub merged-none : (old : List (List (Line P))) (limit : Option Key) → Merged old [] → IsMerged old limit []
  merged-none old limit m = record {
    rise = tt;
    members = λ l. ((λ i. absurd i), (λ both. absurd (m.to l both.0)));
  }

  -- two lists that nothing was taken of
  pub merging-start : (first second lines left right : List (Line P)) → LinesRise first × LinesRise second →
      ((x y : Line P) → IsIn x first → IsIn y second → place x ≢ place y) → lines ≡ [] → left ≡ first → right ≡ second →
      Merging first second lines left right
  merging-start first second lines left right rise apart none left_is right_is =
      let Q : List (Line P) → Type 0 = λ xs. Merging first second xs left right in
      let L : List (Line P) → Type 0 = λ xs. Merging first second [] xs right in
      let R : List (Line P) → Type 0 = λ xs. Merging first second [] first xs in
      subst Q (sym none) (subst L (sym left_is) (subst R (sym right_is) (merging-first first second rise apart)))

  -- a line was taken of one of two lists
  abbrev pub IsTaken : Line P → List (Line P) → List (Line P) → List (Line P) → List (Line P) → Type 0
  IsTaken line left right left' right' = ((leads left right ≡ true) × (left ≡ line ∷ left') × (right' ≡ right))
      ⊎ ((leads left right ≡ false) × (right ≡ line ∷ right') × (left' ≡ left))

  pub merging-next : (first second lines lines' left right left' right' : List (Line P)) (line : Line P) → Merging first second lines left right →
      IsTaken line left right left' right' → lines' ≡ lines ++ line ∷ [] → Merging first second lines' left' right'
  merging-next first second lines lines' left right left' right' line m (inl taken) is =
      let Q : List (Line P) → Type 0 = λ xs. Merging first second xs left' right' in
      let L : List (Line P) → Type 0 = λ xs. Merging first second lines xs right in
      let R : List (Line P) → Type 0 = λ xs. Merging first second (lines ++ line ∷ []) left' xs in
      subst Q (sym is) (subst R (sym taken.2) (merging-left first second lines left' right line (subst L taken.1 m)
      (sym (ap (λ (xs : List (Line P)). leads xs right) taken.1) ∙ taken.0)))
  merging-next first second lines lines' left right left' right' line m (inr taken) is =
      let Q : List (Line P) → Type 0 = λ xs. Merging first second xs left' right' in
      let R : List (Line P) → Type 0 = λ xs. Merging first second lines left xs in
      let L : List (Line P) → Type 0 = λ xs. Merging first second (lines ++ line ∷ []) xs right' in
      subst Q (sym is) (subst L (sym taken.2) (merging-right first second lines left right' line (subst R taken.1 m)
      (sym (ap (λ (xs : List (Line P)). leads left xs) taken.1) ∙ taken.0)))

  abbrev lists_of : List (Vec (Line P) Global) → List (List (Line P))
  lists_of lists = map (λ list. list.items) lists

  pub merged-one : (old : List (List (Line P))) (lists rest : List (Vec (Line P) Global)) (lines : Vec (Line P) Global) (limit : Option Key)
      (kept : List (Line P)) → Merged old (lists_of lists) → lists ≡ lines ∷ rest → length lists ≤ 1 → kept ≡ filter (is_below limit) lines.items →
      IsMerged old limit kept
  merged-one old lists rest lines limit kept m is few kept_is =
      let Q : List (Vec (Line P) Global) → Type 0 = λ xs. Merged old (lists_of xs) in
      merged-last old lines.items limit kept (subst Q (one-list lists rest lines is few) m) kept_is

  pub merged-empty : (old : List (List (Line P))) (lists : List (Vec (Line P) Global)) (limit : Option Key) (kept : List (Line P)) →
      Merged old (lists_of lists) → length lists ≡ 0 → kept ≡ [] → IsMerged old limit kept
  merged-empty old lists limit kept m none kept_is =
      let Q : List (Vec (Line P) Global) → Type 0 = λ xs. Merged old (lists_of xs) in
      let R : List (Line P) → Type 0 = λ xs. IsMerged old limit xs in
      subst R (sym kept_is) (merged-none old limit (subst Q (no-item lists none) m))

  pub all-kept : (lines : List (Line P)) → lines ≡ filter (is_below None) lines
  all-kept [] = refl
  all-kept (x ∷ xs) = ap (λ l. x ∷ l) (all-kept xs)
