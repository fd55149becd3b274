-- The merged lines of a round's groups are those of its firings.
use Rattle.std.proofs.Common.{◌≡◌, ℕ, ◌↔◌, suc, Bool, true, false, List, [], ◌∷◌, filter, map, refl, sym, ap, ◌∙◌, subst, inl, inr}
use Rattle.std.proofs.lemmas.Bool.{cases_Bool}
use Rattle.std.specs.List.{AllByRecursion}
use Rattle.sim_base.specs.Packet.{Packet}
use Rattle.sim_base.specs.declared.key.Key.{Key}
use Rattle.sim_base.specs.KeyOrder.{before, earlier, IsRising}
use Rattle.sim_base.proofs.KeyLaws.{earlier-not_back, earlier-up}
use Rattle.pkt_face.specs.declared.line.Line.{Line as TraceLine}
use Rattle.round_core.specs.Lines.{Line, LinesRise, line_before, lines_of, numbered}
use Rattle.round_core.specs.Parts.{AreMerged, IsIn, Part}
use Rattle.round_core.specs.World.{Firing}
use Rattle.round_core.proofs.LineLaws.{in-lines, lines-in, lines-rise}
use Rattle.round_core.proofs.Members.{all-in, filter-in, in-all, in-filter}
use Rattle.node_step.specs.Firing.{Text}
use Rattle.node_rules.specs.Firings.{trace_line}
use Rattle.trace_merge.specs.Merge.{LinesRise as TraceRises, place}

not-itself : (x : TraceLine Packet) → earlier (place x) (place x) ≡ true → ⊥
not-itself x h = let back = earlier-not_back (place x) (place x) h in let d : true ≡ false = sym h ∙ back in cc

comes-trans : (x y z : TraceLine Packet) → earlier (place x) (place y) ≡ true → earlier (place y) (place z) ≡ true → earlier (place x) (place z) ≡ true
comes-trans x y z h k = earlier-up (place x) (place y) (place z) h (earlier-not_back (place y) (place z) k)

-- rising lines with the same members are the same
pub same-trace : (xs ys : List (TraceLine Packet)) → TraceRises xs → TraceRises ys →
    ((l : TraceLine Packet) → IsIn l xs → IsIn l ys) → ((l : TraceLine Packet) → IsIn l ys → IsIn l xs) → xs ≡ ys
same-trace [] [] rx ry to from = refl
same-trace [] (y ∷ ys) rx ry to from = absurd (from y (inl refl))
same-trace (x ∷ xs) [] rx ry to from = absurd (to x (inl refl))
same-trace (x ∷ xs) (y ∷ ys) rx ry to from =
    let heads = head-same (to x (inl refl)) (from y (inl refl)) in
    ap (λ h. h ∷ xs) heads ∙ ap (λ t. y ∷ t) (same-trace xs ys rx.1 ry.1
    (λ z i. elim (to z (inr i)) [
      | inl same ↦ absurd (not-itself x (in-all (λ w. earlier (place x) (place w) ≡ true) xs rx.0 x
          (let P : TraceLine Packet → Type 0 = λ w. IsIn w xs in subst P (same ∙ sym heads) i)))
      | inr more ↦ more
    ])
    (λ z i. elim (from z (inr i)) [
      | inl same ↦ absurd (not-itself y (in-all (λ w. earlier (place y) (place w) ≡ true) ys ry.0 y
          (let P : TraceLine Packet → Type 0 = λ w. IsIn w ys in subst P (same ∙ heads) i)))
      | inr more ↦ more
    ]))
  where
    head-same : IsIn x (y ∷ ys) → IsIn y (x ∷ xs) → x ≡ y
    head-same (inl same) j = same
    head-same (inr i) (inl same) = sym same
    head-same (inr i) (inr j) = absurd (not-itself x (comes-trans x y x
        (in-all (λ w. earlier (place x) (place w) ≡ true) xs rx.0 y j) (in-all (λ w. earlier (place y) (place w) ≡ true) ys ry.0 x i)))

-- lines of the trace stand as the lines that they are made of
all-mapped : {A B : Type 0} (f : A → B) (P : B → Type 0) (xs : List A) → AllByRecursion (λ x. P (f x)) xs → AllByRecursion P (map f xs)
all-mapped f P [] all = tt
all-mapped f P (x ∷ xs) all = (all.0, all-mapped f P xs all.1)

pub trace-rises : (xs : List (Line Text)) → LinesRise xs → TraceRises (map trace_line xs)
unfolding line_before
trace-rises [] rise = tt
trace-rises (x ∷ xs) rise =
    (all-mapped trace_line (λ y. earlier (place (trace_line x)) (place y) ≡ true) xs rise.0, trace-rises xs rise.1)

pub in-mapped : {A B : Type 0} (f : A → B) (xs : List A) (y : B) → IsIn y (map f xs) → (x : A) × IsIn x xs × (y ≡ f x)
in-mapped f [] y i = absurd i
in-mapped f (x ∷ xs) y (inl same) = (x, inl refl, same)
in-mapped f (x ∷ xs) y (inr more) = let there = in-mapped f xs y more in (there.0, inr there.1, there.2)

pub mapped-in : {A B : Type 0} (f : A → B) (xs : List A) (x : A) → IsIn x xs → IsIn (f x) (map f xs)
mapped-in f [] x i = absurd i
mapped-in f (x' ∷ xs) x (inl same) = inl (ap f same)
mapped-in f (x' ∷ xs) x (inr more) = inr (mapped-in f xs x more)

pub numbered-keys : (key : Key) (index : ℕ) (texts : List Text) → AllByRecursion (λ (l : Line Text). l.key ≡ key) (numbered key index texts)
numbered-keys key index [] = tt
numbered-keys key index (t ∷ ts) = (refl, numbered-keys key (suc index) ts)

rising-kept : (test : Firing Text → Bool) (xs : List (Firing Text)) → IsRising (λ f. f.key) xs → IsRising (λ f. f.key) (filter test xs)
rising-kept test [] rising = tt
rising-kept test (x ∷ xs) rising = elim (cases_Bool (test x)) [
  | inl kept ↦ rw kept (
    all-in (λ y. before x.key y.key ≡ true) (filter test xs)
        (λ y i. in-all (λ y. before x.key y.key ≡ true) xs rising.0 y (filter-in test y xs i).0),
    rising-kept test xs rising.1,
  )
  | inr left ↦ rw left (rising-kept test xs rising.1)
]

module _ {Node Lan Load : Type 0} (parts : ℕ → Part Node Lan Load Text) (fired : List (Firing Text)) (merged : AreMerged parts fired)
    (lines : List (TraceLine Packet)) (rises : TraceRises lines) where
  -- what is merged of the lines of all groups
  pub merged-trace : ((l : TraceLine Packet) → IsIn l lines ↔ ((g : ℕ) × IsIn l (map trace_line (lines_of (parts g).world.fired)))) →
      lines ≡ map trace_line (lines_of fired)
  merged-trace members = same-trace lines (map trace_line (lines_of fired)) rises (trace-rises (lines_of fired) (lines-rise fired merged.rising))
      (λ l i.
      let there = (members l).0 i in
      let x = in-mapped trace_line (lines_of (parts there.0).world.fired) l there.1 in
      let f = in-lines x.0 (parts there.0).world.fired x.1 in
      subst (λ (y : TraceLine Packet). IsIn y (map trace_line (lines_of fired))) (sym x.2)
      (mapped-in trace_line (lines_of fired) x.0 (lines-in x.0 f.0 fired ((merged.members f.0).1 (there.0, f.1)) f.2)))
      (λ l i.
      let x = in-mapped trace_line (lines_of fired) l i in
      let f = in-lines x.0 fired x.1 in
      let there = (merged.members f.0).0 f.1 in
      (members l).1 (
        there.0,
        subst (λ (y : TraceLine Packet). IsIn y (map trace_line (lines_of (parts there.0).world.fired))) (sym x.2)
            (mapped-in trace_line (lines_of (parts there.0).world.fired) x.0 (lines-in x.0 f.0 (parts there.0).world.fired there.1 f.2)),
      ))

  -- and of those below a limit
  pub merged-below : (key : Key) → ((l : TraceLine Packet) → IsIn l lines ↔
      (((g : ℕ) × IsIn l (map trace_line (lines_of (parts g).world.fired))) × (before l.key key ≡ true))) →
      lines ≡ map trace_line (lines_of (filter (λ f. before f.key key) fired))
  merged-below key members =
      let kept = filter (λ (f : Firing Text). before f.key key) fired in
      same-trace lines (map trace_line (lines_of kept)) rises (trace-rises (lines_of kept) (lines-rise kept (rising-kept (λ f. before f.key key) fired merged.rising)))
      (λ l i.
      let both = (members l).0 i in
      let there = both.0 in
      let x = in-mapped trace_line (lines_of (parts there.0).world.fired) l there.1 in
      let f = in-lines x.0 (parts there.0).world.fired x.1 in
      let key_is : x.0.key ≡ f.0.key = in-all (λ (y : Line Text). y.key ≡ f.0.key) (numbered f.0.key 0 f.0.texts) (numbered-keys f.0.key 0 f.0.texts) x.0 f.2 in
      let low : before f.0.key key ≡ true = subst (λ (k : Key). before k key ≡ true) (ap (λ (y : TraceLine Packet). y.key) x.2 ∙ key_is) both.1 in
      subst (λ (y : TraceLine Packet). IsIn y (map trace_line (lines_of kept))) (sym x.2)
      (mapped-in trace_line (lines_of kept) x.0 (lines-in x.0 f.0 kept
      (in-filter (λ (f : Firing Text). before f.key key) f.0 fired ((merged.members f.0).1 (there.0, f.1)) low) f.2)))
      (λ l i.
      let x = in-mapped trace_line (lines_of kept) l i in
      let f = in-lines x.0 kept x.1 in
      let was = filter-in (λ (f : Firing Text). before f.key key) f.0 fired f.1 in
      let there = (merged.members f.0).0 was.0 in
      let key_is : x.0.key ≡ f.0.key = in-all (λ (y : Line Text). y.key ≡ f.0.key) (numbered f.0.key 0 f.0.texts) (numbered-keys f.0.key 0 f.0.texts) x.0 f.2 in
      (members l).1 (
        (
          there.0,
          subst (λ (y : TraceLine Packet). IsIn y (map trace_line (lines_of (parts there.0).world.fired))) (sym x.2)
              (mapped-in trace_line (lines_of (parts there.0).world.fired) x.0 (lines-in x.0 f.0 (parts there.0).world.fired there.1 f.2)),
        ),
        subst (λ (k : Key). before k key ≡ true) (sym (ap (λ (y : TraceLine Packet). y.key) x.2 ∙ key_is)) was.1,
      ))
