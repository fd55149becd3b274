-- At a round's end: the parts' firings are merged, and what was scheduled for other groups is handed over.
use Rattle.std.proofs.Common.{◌≡◌, ℕ, ◌≤◌, zero, suc, filter, length, ◌==◌, Bool, true, List, [], ◌∷◌, refl, sym, ap, ◌∙◌, subst, inl, inr, Option, Some, None, append_assoc}
use Rattle.std.proofs.lemmas.Bool.{cases_Bool, eq-eqb, eqb-true}
use Rattle.std.proofs.lemmas.List.Sums.{length-filter}
use Rattle.std.specs.List.{AllByRecursion}
use Rattle.sim_base.specs.declared.key.Key.{Key}
use Rattle.sim_base.specs.KeyOrder.{before, IsRising}
use Rattle.round_core.specs.World.{Event, Firing, Rules, World, Ready, first, next, reaction, after, after_next, fire, ready, IsPast, unlogged, with_log}
use Rattle.round_core.specs.Rounds.{below, plain_firings, fired_by}
use Rattle.round_core.specs.Parts.{IsIn, Part, AreParts, AreMerged, AreHandedOver}
use Rattle.round_core.proofs.Members.{in-all, all-in, in-filter, filter-in, same-members}

all-filter : {A : Type 0} (P : A → Type 0) (test : A → Bool) (l : List A) → AllByRecursion P l → AllByRecursion P (filter test l)
all-filter P test [] h = tt
all-filter P test (x ∷ xs) h = elim (cases_Bool (test x)) [
  | inl t ↦ rw t (h.0, all-filter P test xs h.1)
  | inr f ↦ rw f (all-filter P test xs h.1)
]

rising-filter : {A : Type 0} (key_of : A → Key) (test : A → Bool) (l : List A) → IsRising key_of l → IsRising key_of (filter test l)
rising-filter key_of test [] h = tt
rising-filter key_of test (x ∷ xs) h = elim (cases_Bool (test x)) [
  | inl t ↦ rw t (all-filter _ test xs h.0, rising-filter key_of test xs h.1)
  | inr f ↦ rw f (rising-filter key_of test xs h.1)
]

-- a world with an empty log
pub empty-past : {Node Lan Load Text : Type 0} (w : World Node Lan Load Text) → w.fired ≡ [] → IsPast w
empty-past {Text = Text} w none =
    let P : List (Firing Text) → Type 0 = λ l. IsRising (λ f. f.key) l in
    let Q : List (Firing Text) → Type 0 = λ l. AllByRecursion (λ e. AllByRecursion (λ f. before f.key e.key ≡ true) l) w.pending in
    record { rising = subst P (sym none) tt; behind = subst Q (sym none) (all-in _ w.pending (λ e i. tt)) }

module _ {Node Lan Load Text : Type 0} (rules : Rules Node Lan Load Text) (group_of : ℕ → ℕ) where
  -- merged firings are those of the world, where these stand in the order of their keys
  pub merged-all : (end : ℕ) (parts : ℕ → Part Node Lan Load Text) (w : World Node Lan Load Text) (fired : List (Firing Text)) →
      AreParts rules group_of end parts w → AreMerged parts fired → IsPast w → fired ≡ w.fired
  merged-all end parts w fired are merged past = same-members (λ f. f.key) fired w.fired merged.rising past.rising
      (λ f i. (are.fired f).1 ((merged.members f).0 i)) (λ f i. (merged.members f).1 ((are.fired f).0 i))

  -- the same of those before a key
  pub merged-before : (end : ℕ) (parts : ℕ → Part Node Lan Load Text) (w : World Node Lan Load Text) (fired : List (Firing Text)) (key : Key) →
      AreParts rules group_of end parts w → AreMerged parts fired → IsRising (λ f. f.key) (filter (λ f. before f.key key) w.fired) →
      filter (λ f. before f.key key) fired ≡ filter (λ f. before f.key key) w.fired
  merged-before end parts w fired key are merged rising =
      let test : Firing Text → Bool = λ f. before f.key key in
      same-members (λ f. f.key) (filter test fired) (filter test w.fired) (rising-filter (λ f. f.key) test fired merged.rising) rising
      (λ f i. let p = filter-in test f fired i in in-filter test f w.fired ((are.fired f).1 ((merged.members f).0 p.0)) p.1)
      (λ f i. let p = filter-in test f w.fired i in in-filter test f fired ((merged.members f).1 ((are.fired f).0 p.0)) p.1)

  -- parts that have handed over make up the same world for the next window
  pub handed-over : (end later : ℕ) (old new : ℕ → Part Node Lan Load Text) (w : World Node Lan Load Text) →
      AreParts rules group_of end old w → AreHandedOver group_of old new → AreParts rules group_of later new (unlogged w)
  handed-over end later old new w are over = record {
    nodes = λ n. over.nodes (group_of n) n ∙ are.nodes n;
    lans = λ n l sits. over.lans (group_of n) l ∙ are.lans n l sits;
    own = λ g. all-in (λ e. group_of e.key.node.0 ≡ g) (new g).world.pending (λ e i. elim ((over.pending g e).0 i) [
      | inl old_one ↦ in-all (λ x. group_of x.key.node.0 ≡ g) (old g).world.pending (are.own g) e old_one
      | inr sent ↦ sent.2
    ]);
    rising = over.rising;
    late = λ g. let P : List (Event Load) → Type 0 = λ l. AllByRecursion (λ e. later ≤ e.key.time.0) l in subst P (sym (over.sent g)) tt;
    past = λ g. empty-past (new g).world (over.fired g);
    log_own = λ g. let P : List (Firing Text) → Type 0 = λ l. AllByRecursion (λ f. group_of f.key.node.0 ≡ g) l in subst P (sym (over.fired g)) tt;
    pending = λ e. (
      (λ i. let there = (are.pending e).0 i in (
        group_of e.key.node.0,
        inl ((over.pending (group_of e.key.node.0) e).1 (elim there.1 [
          | inl held ↦ inl (let P : ℕ → Type 0 = λ x. IsIn e (old x).world.pending in
              subst P (sym (in-all (λ x. group_of x.key.node.0 ≡ there.0) (old there.0).world.pending (are.own there.0) e held)) held)
          | inr sent ↦ inr (there.0, sent, refl)
        ])),
      )),
      (λ there. elim there.1 [
        | inl held ↦ elim ((over.pending there.0 e).0 held) [
          | inl old_one ↦ (are.pending e).1 (there.0, inl old_one)
          | inr sent ↦ (are.pending e).1 (sent.0, inr sent.1)
        ]
        | inr sent ↦ absurd (let P : List (Event Load) → Type 0 = λ l. IsIn e l in subst P (over.sent there.0) sent)
      ]),
    );
    fired = λ f. ((λ i. absurd i), (λ there. let P : List (Firing Text) → Type 0 = λ l. IsIn f l in absurd (subst P (over.fired there.0) there.1)));
  }

module _ {Node Lan Load Text : Type 0} (rules : Rules Node Lan Load Text) where
  -- what is to fire doesn't hang on the log
  pub next-log : (test : Key → Bool) (log : List (Firing Text)) (w : World Node Lan Load Text) → next rules test (with_log log w) ≡ next rules test w
  unfolding next reaction
  next-log test log w = elim (first test w.pending) as (λ o. ready rules (with_log log w) o ≡ ready rules w o) [ None ↦ refl | Some e ↦ refl ]

  after-log : (test : Key → Bool) (log : List (Firing Text)) (w : World Node Lan Load Text) (o : Option (Ready Node Lan Load Text)) →
      after_next rules test (with_log log w) o ≡ with_log log (after_next rules test w o)
  unfolding after
  after-log test log w None = refl
  after-log test log w (Some r) =
      let f : Firing Text = record { key = r.event.key; texts = r.effect.texts } in
      λ i. record (with_log log (after_next rules test w (Some r))) { fired = append_assoc log w.fired (f ∷ []) i }

  fire-log : (test : Key → Bool) (log : List (Firing Text)) (w : World Node Lan Load Text) →
      fire rules test (with_log log w) ≡ with_log log (fire rules test w)
  unfolding fire
  fire-log test log w = ap (after_next rules test (with_log log w)) (next-log test log w) ∙ after-log test log w (next rules test w)

  -- plain firings of a world with a longer log
  pub plain-log : (end n : ℕ) (log : List (Firing Text)) (w : World Node Lan Load Text) →
      plain_firings rules end n (with_log log w) ≡ with_log log (plain_firings rules end n w)
  unfolding plain_firings
  plain-log end zero log w = refl
  plain-log end (suc n) log w = ap (plain_firings rules end n) (fire-log (below end) log w) ∙ plain-log end n log (fire rules (below end) w)

module _ {Node Lan Load Text : Type 0} (rules : Rules Node Lan Load Text) (group_of : ℕ → ℕ) where
  -- a part's firings are those of its group
  pub own-firings : (end : ℕ) (parts : ℕ → Part Node Lan Load Text) (w : World Node Lan Load Text) (g : ℕ) →
      AreParts rules group_of end parts w → IsPast w → length (parts g).world.fired ≡ fired_by group_of g w.fired
  own-firings end parts w g are past =
      let test : Firing Text → Bool = λ f. group_of f.key.node.0 == g in
      ap length (same-members (λ f. f.key) (parts g).world.fired (filter test w.fired) (are.past g).rising
      (rising-filter (λ f. f.key) test w.fired past.rising)
      (λ f i. in-filter test f w.fired ((are.fired f).1 (g, i)) (eq-eqb _ g (in-all (λ x. group_of x.key.node.0 ≡ g) _ (are.log_own g) f i)))
      (λ f i. let p = filter-in test f w.fired i in let there = (are.fired f).0 p.0 in
      let P : ℕ → Type 0 = λ x. IsIn f (parts x).world.fired in
      subst P (sym (in-all (λ x. group_of x.key.node.0 ≡ there.0) _ (are.log_own there.0) f there.1) ∙ eqb-true _ g p.1) there.1))
      ∙ length-filter test w.fired
