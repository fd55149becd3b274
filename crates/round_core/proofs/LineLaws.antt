-- The lines of firings in the order of their keys are in the order of their keys and indices.
use Rattle.std.proofs.Common.{◌≡◌, ℕ, ◌<◌, ◌≤◌, suc, length, true, false, List, [], ◌∷◌, ◌++◌, refl, sym, ap, ◌∙◌, subst, arith, inl, inr}
use Rattle.std.proofs.lemmas.Bool.Decides.{nat_tests}
use Rattle.std.specs.List.{AllByRecursion}
use Rattle.sim_base.specs.declared.key.Key.{Key}
use Rattle.sim_base.specs.KeyOrder.{before, earlier, numbers, IsRising}
use Rattle.round_core.specs.World.{Firing, Rules, World}
use Rattle.round_core.specs.Parts.{IsIn, Part, AreParts}
use Rattle.round_core.specs.Lines.{Line, numbered, lines_of, line_before, LinesRise, AreMergedLines}
use Rattle.sim_base.proofs.KeyLaws.{earlier-not_back, earlier-up}
use Rattle.round_core.proofs.ListLaws.{all-map, all-append}
use Rattle.round_core.proofs.Members.{in-all, in-append, in-append_left, in-append_right}

-- lists as long as each other stand as they do with one more number each
longer : (xs ys : List ℕ) (i j : ℕ) → length xs ≡ length ys → earlier xs ys ≡ true → earlier (xs ++ i ∷ []) (ys ++ j ∷ []) ≡ true
unfolding earlier
longer [] [] i j same h = absurd (let d : false ≡ true = h in cc)
longer [] (y ∷ ys) i j same h = absurd (omega arith)
longer (x ∷ xs) [] i j same h = absurd (omega arith)
longer (x ∷ xs) (y ∷ ys) i j same h = let ih = longer xs ys i j (omega arith) in grind (arith, nat_tests)

same_then : (xs : List ℕ) (i j : ℕ) → i < j → earlier (xs ++ i ∷ []) (xs ++ j ∷ []) ≡ true
unfolding earlier
same_then [] i j lt = grind (arith, nat_tests)
same_then (x ∷ xs) i j lt = let ih = same_then xs i j lt in grind (arith, nat_tests)

pub line-key : {Text : Type 0} (a b : Line Text) → before a.key b.key ≡ true → line_before a b ≡ true
unfolding line_before before
line-key a b h = longer (numbers a.key) (numbers b.key) a.index b.index refl h

pub line-index : {Text : Type 0} (a b : Line Text) → a.key ≡ b.key → a.index < b.index → line_before a b ≡ true
unfolding line_before
line-index a b same lt = let P : Key → Type 0 = λ k. earlier (numbers a.key ++ a.index ∷ []) (numbers k ++ b.index ∷ []) ≡ true in
    subst P same (same_then (numbers a.key) a.index b.index lt)

line-irreflexive : {Text : Type 0} (a : Line Text) → line_before a a ≡ true → ⊥
unfolding line_before
line-irreflexive a h = let back = earlier-not_back (numbers a.key ++ a.index ∷ []) (numbers a.key ++ a.index ∷ []) h in
    let d : true ≡ false = sym h ∙ back in cc

line-trans : {Text : Type 0} (a b c : Line Text) → line_before a b ≡ true → line_before b c ≡ true → line_before a c ≡ true
unfolding line_before
line-trans a b c h k = earlier-up (numbers a.key ++ a.index ∷ []) (numbers b.key ++ b.index ∷ []) (numbers c.key ++ c.index ∷ []) h
    (earlier-not_back (numbers b.key ++ b.index ∷ []) (numbers c.key ++ c.index ∷ []) k)

-- the lines of one firing
numbered-key : {Text : Type 0} (key : Key) (index : ℕ) (texts : List Text) →
    AllByRecursion (λ l. (l.key ≡ key) × (index ≤ l.index)) (numbered key index texts)
numbered-key key index [] = tt
numbered-key key index (t ∷ ts) = (
  (refl, omega arith),
  all-map _ _ (λ l h. (h.0, let le = h.1 in omega arith)) _ (numbered-key key (suc index) ts),
)

numbered-rise : {Text : Type 0} (key : Key) (index : ℕ) (texts : List Text) → LinesRise (numbered key index texts)
numbered-rise key index [] = tt
numbered-rise {Text} key index (t ∷ ts) =
    let first : Line Text = record { key = key; index = index; text = t } in
    (all-map _ _ (λ l h. line-index first l (sym h.0) (let le = h.1 in omega arith)) _ (numbered-key key (suc index) ts), numbered-rise key (suc index) ts)

lines-after : {Text : Type 0} (k : Key) (fired : List (Firing Text)) → AllByRecursion (λ f. before k f.key ≡ true) fired →
    AllByRecursion (λ l. before k l.key ≡ true) (lines_of fired)
lines-after k [] h = tt
lines-after k (f ∷ fs) h = all-append (λ l. before k l.key ≡ true) _ _
    (all-map _ _ (λ l p. let P : Key → Type 0 = λ x. before k x ≡ true in subst P (sym p.0) h.0) _ (numbered-key f.key 0 f.texts))
    (lines-after k fs h.1)

rise-append : {Text : Type 0} (xs ys : List (Line Text)) → LinesRise xs → LinesRise ys →
    AllByRecursion (λ x. AllByRecursion (λ y. line_before x y ≡ true) ys) xs → LinesRise (xs ++ ys)
rise-append [] ys rx ry h = ry
rise-append (x ∷ xs) ys rx ry h = (all-append (λ y. line_before x y ≡ true) xs ys rx.0 h.0, rise-append xs ys rx.1 ry h.1)

-- firings in the order of their keys have lines in the order of keys and indices
pub lines-rise : {Text : Type 0} (fired : List (Firing Text)) → IsRising (λ f. f.key) fired → LinesRise (lines_of fired)
lines-rise [] h = tt
lines-rise (f ∷ fs) h = rise-append (numbered f.key 0 f.texts) (lines_of fs) (numbered-rise f.key 0 f.texts) (lines-rise fs h.1)
    (all-map _ _ (λ x p. all-map _ _ (λ y up. line-key x y (let P : Key → Type 0 = λ k. before k y.key ≡ true in subst P (sym p.0) up)) _
    (lines-after f.key fs h.0)) _ (numbered-key f.key 0 f.texts))

pub in-lines : {Text : Type 0} (l : Line Text) (fired : List (Firing Text)) → IsIn l (lines_of fired) →
    (f : Firing Text) × IsIn f fired × IsIn l (numbered f.key 0 f.texts)
in-lines l [] i = absurd i
in-lines l (f ∷ fs) i = elim (in-append l (numbered f.key 0 f.texts) (lines_of fs) i) [
  | inl here ↦ (f, inl refl, here)
  | inr more ↦ let there = in-lines l fs more in (there.0, inr there.1, there.2)
]

pub lines-in : {Text : Type 0} (l : Line Text) (f : Firing Text) (fired : List (Firing Text)) → IsIn f fired →
    IsIn l (numbered f.key 0 f.texts) → IsIn l (lines_of fired)
lines-in l f [] i j = absurd i
lines-in {Text} l f (x ∷ xs) (inl same) j = let P : Firing Text → Type 0 = λ y. IsIn l (numbered y.key 0 y.texts) in
    in-append_left l _ _ (subst P same j)
lines-in l f (x ∷ xs) (inr more) j = in-append_right l (numbered x.key 0 x.texts) _ (lines-in l f xs more j)

-- rising lines with the same members are the same
same-lines : {Text : Type 0} (xs ys : List (Line Text)) → LinesRise xs → LinesRise ys →
    ((l : Line Text) → IsIn l xs → IsIn l ys) → ((l : Line Text) → IsIn l ys → IsIn l xs) → xs ≡ ys
same-lines [] [] rx ry to from = refl
same-lines [] (y ∷ ys) rx ry to from = absurd (from y (inl refl))
same-lines (x ∷ xs) [] rx ry to from = absurd (to x (inl refl))
same-lines {Text} (x ∷ xs) (y ∷ ys) rx ry to from =
    let heads = head-same (to x (inl refl)) (from y (inl refl)) in
    ap (λ h. h ∷ xs) heads ∙ ap (λ t. y ∷ t) (same-lines xs ys rx.1 ry.1
    (λ z i. elim (to z (inr i)) [
      | inl same ↦ absurd (line-irreflexive x (in-all (λ w. line_before x w ≡ true) xs rx.0 x (let P : Line Text → Type 0 = λ w. IsIn w xs in subst P (same ∙ sym heads) i)))
      | inr more ↦ more
    ])
    (λ z i. elim (from z (inr i)) [
      | inl same ↦ absurd (line-irreflexive y (in-all (λ w. line_before y w ≡ true) ys ry.0 y (let P : Line Text → Type 0 = λ w. IsIn w ys in subst P (same ∙ heads) i)))
      | inr more ↦ more
    ]))
  where
    head-same : IsIn x (y ∷ ys) → IsIn y (x ∷ xs) → x ≡ y
    head-same (inl same) j = same
    head-same (inr i) (inl same) = sym same
    head-same (inr i) (inr j) = absurd (line-irreflexive x (line-trans x y x
        (in-all (λ w. line_before x w ≡ true) xs rx.0 y j) (in-all (λ w. line_before y w ≡ true) ys ry.0 x i)))

-- the merged lines of the parts are the lines of the world, where its firings stand in the order of their keys
pub merged-lines : {Node Lan Load Text : Type 0} (rules : Rules Node Lan Load Text) (group_of : ℕ → ℕ) (end : ℕ)
    (parts : ℕ → Part Node Lan Load Text) (w : World Node Lan Load Text) (lines : List (Line Text)) →
    AreParts rules group_of end parts w → AreMergedLines parts lines → IsRising (λ f. f.key) w.fired → lines ≡ lines_of w.fired
merged-lines rules group_of end parts w lines are merged rising = same-lines lines (lines_of w.fired) merged.rise (lines-rise w.fired rising)
    (λ l i. let there = (merged.members l).0 i in let f = in-lines l (parts there.0).world.fired there.1 in
    lines-in l f.0 w.fired ((are.fired f.0).1 (there.0, f.1)) f.2)
    (λ l i. let f = in-lines l w.fired i in let there = (are.fired f.0).0 f.1 in
    (merged.members l).1 (there.0, lines-in l f.0 (parts there.0).world.fired there.1 f.2))
