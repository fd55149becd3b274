-- The earliest stop of groups.
use Rattle.std.proofs.Common.{◌≡◌, ◌≢◌, ◌⊎◌, ℕ, zero, suc, true, false, List, [], ◌∷◌, All, cond, fold, Option, Some, None, slice_get, refl, sym, ap, ◌∙◌, subst, arith, inl, inr}
use Rattle.std.specs.List.{AllByRecursion}
use Rattle.std.proofs.lemmas.Bool.{cases_Bool}
use Rattle.std.proofs.lemmas.List.Elements.{recursion_from_All}
use Rattle.std.proofs.lemmas.Option.{slice_get_within}
use Rattle.sim_base.specs.declared.key.Key.{Key}
use Rattle.sim_base.specs.declared.key.NodeId.{NodeId}
use Rattle.sim_base.specs.KeyOrder.{before}
use Rattle.sim_base.proofs.KeyLaws.{before-total, before-trans}
use Rattle.lp_run.specs.declared.stop.LpStop.{LpStop}
use Rattle.lp_run.specs.declared.stop.LpStop.TheVariants.{NoMemory, Limit}
use Rattle.lp_run.specs.Lp.{PlainLp}
use Rattle.round_kernel.specs.Stops.{IsStopOf, earlier_stop, least_stop, with_stop}
use Rattle.round_kernel.specs.Window.{Gone}

abbrev Stop : Type 0
Stop = Key × NodeId

-- a key is this one or comes after it
abbrev AtOrAfter : Key → Key → Type 0
AtOrAfter key k = (k ≡ key) ⊎ (before key k ≡ true)

after-trans : (a b c : Key) → AtOrAfter a b → AtOrAfter b c → AtOrAfter a c
after-trans a b c (inl same) (inl other) = inl (other ∙ same)
after-trans a b c (inl same) (inr later) = inr (subst (λ (k : Key). before k c ≡ true) same later)
after-trans a b c (inr later) (inl same) = inr (subst (λ (k : Key). before a k ≡ true) (sym same) later)
after-trans a b c (inr later) (inr more) = inr (before-trans a b c later more)

-- a key that doesn't come before another is at or after it
not-before : (a b : Key) → before b a ≡ false → AtOrAfter a b
not-before a b h = elim (cases_Bool (before a b)) [
  | inl yes_it ↦ inr yes_it
  | inr no_it ↦ inl (before-total b a h no_it)
]

-- the stop that is kept of two is one of them, and comes no later than both
pub record Earlier (stop : Stop) (acc r : Option Stop) : Type 0 where
  pub kept : (s : Stop) → r ≡ Some s → (acc ≡ Some s) ⊎ (s ≡ stop)
  pub some : r ≢ None
  pub first : (s : Stop) → r ≡ Some s → AtOrAfter s.0 stop.0
  pub others : (s a : Stop) → r ≡ Some s → acc ≡ Some a → AtOrAfter s.0 a.0

earlier-of : (stop : Stop) (acc : Option Stop) → Earlier stop acc (earlier_stop stop acc)
earlier-of stop None = record {
  kept = λ s is. inr (let d : Some stop ≡ Some s = is in cc);
  some = λ none. let d : Some stop ≡ None = none in cc;
  first = λ s is. inl (let d : Some stop ≡ Some s = is in ap (λ (x : Stop). x.0) (let e : stop ≡ s = cc in e));
  others = λ s a is held. absurd (let d : None ≡ Some a = held in cc);
}
earlier-of stop (Some least) = go (before stop.0 least.0) refl
  where
    go : (b : _) → before stop.0 least.0 ≡ b → Earlier stop (Some least) (cond b (Some stop) (Some least))
    go true h = record {
      kept = λ s is. inr (let d : Some stop ≡ Some s = is in cc);
      some = λ none. let d : Some stop ≡ None = none in cc;
      first = λ s is. let e : stop ≡ s = (let d : Some stop ≡ Some s = is in cc) in inl (ap (λ (x : Stop). x.0) e);
      others = λ s a is held. let e : stop ≡ s = (let d : Some stop ≡ Some s = is in cc) in
          let f : least ≡ a = (let d : Some least ≡ Some a = held in cc) in
          inr (subst (λ (x : Stop). before x.0 a.0 ≡ true) e (subst (λ (x : Stop). before stop.0 x.0 ≡ true) f h));
    }
    go false h = record {
      kept = λ s is. inl is;
      some = λ none. let d : Some least ≡ None = none in cc;
      first = λ s is. let e : least ≡ s = (let d : Some least ≡ Some s = is in cc) in
          subst (λ (x : Stop). AtOrAfter x.0 stop.0) e (not-before least.0 stop.0 h);
      others = λ s a is held. let e : least ≡ s = (let d : Some least ≡ Some s = is in cc) in
          let f : least ≡ a = (let d : Some least ≡ Some a = held in cc) in inl (ap (λ (x : Stop). x.0) (sym f ∙ e));
    }

-- what going over groups leaves of the least stop so far
pub record IsFold (acc : Option Stop) (groups : List Gone) (r : Option Stop) : Type 0 where
  pub none : r ≡ None → (acc ≡ None) × IsStopOf groups None
  pub some : (s : Stop) → r ≡ Some s → (acc ≡ Some s) ⊎ ((g : ℕ) × (lp : PlainLp) × (slice_get groups g ≡ Some (lp, Some (Limit s.0 s.1))))
  pub first : (s a : Stop) → r ≡ Some s → acc ≡ Some a → AtOrAfter s.0 a.0
  pub least : (s : Stop) → r ≡ Some s → (h : ℕ) (other : PlainLp) (k : Key) (n : NodeId) →
      slice_get groups h ≡ Some (other, Some (Limit k n)) → AtOrAfter s.0 k

fold-none : (acc : Option Stop) (lp : PlainLp) (groups : List Gone) (r : Option Stop) → IsFold acc groups r → IsFold acc ((lp, None) ∷ groups) r
fold-none acc lp groups r is = record {
  none = λ none. ((is.none none).0, elsewhere (is.none none).1);
  some = λ s h. elim (is.some s h) [ inl held ↦ inl held | inr there ↦ inr (suc there.0, there.1, there.2) ];
  first = is.first;
  least = later;
}
  where
    elsewhere : IsStopOf groups None → (g : ℕ) (l : PlainLp) (stop : LpStop) → slice_get ((lp, None) ∷ groups) g ≢ Some (l, Some stop)
    elsewhere h zero l stop there = let d : ◌≡◌ {A = Option Gone} (Some (lp, None)) (Some (l, Some stop)) = there in
        let e : ◌≡◌ {A = Option LpStop} None (Some stop) = ap (λ (x : Gone). x.1) (let f : ◌≡◌ {A = Gone} (lp, None) (l, Some stop) = cc in f) in cc
    elsewhere h (suc g) l stop there = h g l stop there

    later : (s : Stop) → r ≡ Some s → (h : ℕ) (other : PlainLp) (k : Key) (n : NodeId) →
        slice_get ((lp, None) ∷ groups) h ≡ Some (other, Some (Limit k n)) → AtOrAfter s.0 k
    later s h zero other k n there = absurd (let d : ◌≡◌ {A = Option Gone} (Some (lp, None)) (Some (other, Some (Limit k n))) = there in
        let e : ◌≡◌ {A = Option LpStop} None (Some (Limit k n)) = ap (λ (x : Gone). x.1) (let f : ◌≡◌ {A = Gone} (lp, None) (other, Some (Limit k n)) = cc in f) in cc)
    later s h (suc g) other k n there = is.least s h g other k n there

fold-stop : (acc : Option Stop) (lp : PlainLp) (key : Key) (node : NodeId) (groups : List Gone) (r : Option Stop) →
    IsFold (earlier_stop (key, node) acc) groups r → IsFold acc ((lp, Some (Limit key node)) ∷ groups) r
fold-stop acc lp key node groups r is = record {
  none = λ none. absurd (kept.some (is.none none).0);
  some = λ s h. elim (is.some s h) [
    | inl held ↦ elim (kept.kept s held) [
      | inl old ↦ inl old
      | inr new ↦ inr (0, lp, ap (λ (x : Stop). Some (lp, Some (Limit x.0 x.1))) (sym new))
    ]
    | inr there ↦ inr (suc there.0, there.1, there.2)
  ];
  first = λ s a h held. go (earlier_stop (key, node) acc) refl s a h held;
  least = later;
}
  where
    kept : Earlier (key, node) acc (earlier_stop (key, node) acc)
    kept = earlier-of (key, node) acc

    go : (o : Option Stop) → earlier_stop (key, node) acc ≡ o → (s a : Stop) → r ≡ Some s → acc ≡ Some a → AtOrAfter s.0 a.0
    go None none s a h held = absurd (kept.some none)
    go (Some m) m_is s a h held = after-trans s.0 m.0 a.0 (is.first s m h m_is) (kept.others m a m_is held)

    here : (o : Option Stop) → earlier_stop (key, node) acc ≡ o → (s : Stop) → r ≡ Some s → AtOrAfter s.0 key
    here None none s h = absurd (kept.some none)
    here (Some m) m_is s h = after-trans s.0 m.0 key (is.first s m h m_is) (kept.first m m_is)

    later : (s : Stop) → r ≡ Some s → (h : ℕ) (other : PlainLp) (k : Key) (n : NodeId) →
        slice_get ((lp, Some (Limit key node)) ∷ groups) h ≡ Some (other, Some (Limit k n)) → AtOrAfter s.0 k
    later s h zero other k n there =
        let d : ◌≡◌ {A = Option Gone} (Some (lp, Some (Limit key node))) (Some (other, Some (Limit k n))) = there in
        let pairs : ◌≡◌ {A = Gone} (lp, Some (Limit key node)) (other, Some (Limit k n)) = cc in
        let stopped : ◌≡◌ {A = Option LpStop} (Some (Limit key node)) (Some (Limit k n)) = ap (λ (x : Gone). x.1) pairs in
        let same : key ≡ k = cc in
        subst (λ (x : Key). AtOrAfter s.0 x) same (here (earlier_stop (key, node) acc) refl s h)
    later s h (suc g) other k n there = is.least s h g other k n there

fold-is : (groups : List Gone) (acc : Option Stop) → AllByRecursion (λ group. group.1 ≢ Some NoMemory) groups →
    IsFold acc groups (fold (λ least group. with_stop least group.1) acc groups)
fold-is [] acc memory = record {
  none = λ none. (none, λ g lp stop there. let low = slice_get_within {A = Gone} [] g (lp, Some stop) there in omega arith);
  some = λ s h. inl h;
  first = λ s a h held. inl (let d : Some s ≡ Some a = sym h ∙ held in ap (λ (x : Stop). x.0) (let e : a ≡ s = cc in e));
  least = λ s h g other k n there. absurd (let low = slice_get_within {A = Gone} [] g (other, Some (Limit k n)) there in omega arith);
}
fold-is (group ∷ groups) acc memory = go (λ more. fold-is groups more memory.1) group.1 refl
  where
    go : ((more : Option Stop) → IsFold more groups (fold (λ least group. with_stop least group.1) more groups)) → (o : Option LpStop) → group.1 ≡ o →
        IsFold acc (group ∷ groups) (fold (λ least group. with_stop least group.1) (with_stop acc group.1) groups)
    go rest None is = subst (λ (x : Gone). IsFold acc (x ∷ groups) (fold (λ least group. with_stop least group.1) (with_stop acc x.1) groups))
        (ap (λ (o : Option LpStop). (group.0, o)) (sym is)) (fold-none acc group.0 groups _ (rest acc))
    go rest (Some NoMemory) is = absurd (memory.0 is)
    go rest (Some (Limit key node)) is = subst (λ (x : Gone). IsFold acc (x ∷ groups) (fold (λ least group. with_stop least group.1) (with_stop acc x.1) groups))
        (ap (λ (o : Option LpStop). (group.0, o)) (sym is))
        (fold-stop acc group.0 key node groups _ (rest (earlier_stop (key, node) acc)))

-- the least stop of groups, none of which wants memory
pub least-stop : (groups : List Gone) → All (λ group. group.1 ≢ Some NoMemory) groups → IsStopOf groups (least_stop groups)
least-stop groups memory = go (least_stop groups) refl
  where
    folded : IsFold None groups (least_stop groups)
    folded = fold-is groups None (recursion_from_All (λ (group : Gone). group.1 ≢ Some NoMemory) groups memory)

    go : (o : Option Stop) → least_stop groups ≡ o → IsStopOf groups o
    go None is = (folded.none is).1
    go (Some s) is = elim (folded.some s is) [
      | inl none ↦ absurd (let d : None ≡ Some s = none in cc)
      | inr there ↦ record { group = there.0; lp = there.1; stopped = there.2; least = folded.least s is }
    ]
