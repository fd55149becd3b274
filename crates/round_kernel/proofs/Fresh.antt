-- What a part sends in a round is new: no other part has it.
use Rattle.std.proofs.Common.{◌≡◌, ◌≢◌, ℕ, ◌+◌, ◌<◌, ◌≤◌, ◌==◌, ◌⊎◌, Bool, true, false, not, cond, zero, suc, List, [], ◌∷◌, ◌++◌, filter, length, refl, sym, ap, ◌∙◌, subst, arith, inl, inr}
use Rattle.std.proofs.lemmas.Bool.{cases_Bool, cases_lt, eqb-true}
use Rattle.std.specs.List.{AllByRecursion}
use Rattle.sim_base.specs.declared.key.Key.{Key}
use Rattle.round_core.specs.Opening.{HaveOwnKeys}
use Rattle.round_core.specs.Parts.{IsIn, Part, is_for, part_after}
use Rattle.round_core.specs.Rounds.{below}
use Rattle.round_core.specs.World.{Event, Ready, Rules, Send, after, scheduled, without_first}
use Rattle.round_core.proofs.ListLaws.{all-append, all-insert_each, all-map, all-without}
use Rattle.round_core.proofs.Members.{all-in, filter-in, in-all, in-append, in-append_left, in-append_right}

not-true : (b : Bool) → not b ≡ true → b ≡ false
not-true true h = sym h
not-true false h = refl

-- lists of items with keys of their own
pub own-append : {A : Type 0} (key_of : A → Key) (xs ys : List A) → HaveOwnKeys key_of xs → HaveOwnKeys key_of ys →
    AllByRecursion (λ x. AllByRecursion (λ y. key_of x ≢ key_of y) ys) xs → HaveOwnKeys key_of (xs ++ ys)
own-append key_of [] ys one other apart = other
own-append key_of (x ∷ xs) ys one other apart = (all-append (λ y. key_of x ≢ key_of y) xs ys one.0 apart.0, own-append key_of xs ys one.1 other apart.1)

pub own-filter : {A : Type 0} (key_of : A → Key) (test : A → Bool) (xs : List A) → HaveOwnKeys key_of xs → HaveOwnKeys key_of (filter test xs)
own-filter key_of test [] own = tt
own-filter key_of test (x ∷ xs) own = elim (cases_Bool (test x)) [
  | inl yes_it ↦ rw yes_it (
    all-in (λ y. key_of x ≢ key_of y) (filter test xs) (λ y i. in-all (λ y. key_of x ≢ key_of y) xs own.0 y (filter-in test y xs i).0),
    own-filter key_of test xs own.1,
  )
  | inr not_it ↦ rw not_it (own-filter key_of test xs own.1)
]

-- what a firing schedules has its node as sender, and the next counts
pub scheduled-from : {Load : Type 0} (key : Key) (count : ℕ) (sends : List (Send Load)) →
    AllByRecursion (λ x. (x.key.by.0 ≡ key.node.0) × (count ≤ x.key.count) × (x.key.count < count + length sends)) (scheduled key count sends)
unfolding scheduled
scheduled-from key count [] = tt
scheduled-from key count (s ∷ sends) = (
  (refl, omega arith, omega arith),
  all-map _ _ (λ x h. (h.0, (let l = h.1 in omega arith), (let l = h.2 in omega arith))) (scheduled key (suc count) sends) (scheduled-from key (suc count) sends),
)

pub scheduled-own : {Load : Type 0} (key : Key) (count : ℕ) (sends : List (Send Load)) → HaveOwnKeys (λ e. e.key) (scheduled key count sends)
unfolding scheduled
scheduled-own key count [] = tt
scheduled-own key count (s ∷ sends) = (
  all-map _ _ (λ x h same. let at = ap (λ (k : Key). k.count) same in let l = h.1 in absurd (omega arith)) (scheduled key (suc count) sends)
      (scheduled-from key (suc count) sends),
  scheduled-own key (suc count) sends,
)

module _ {Node Lan Load Text : Type 0} (rules : Rules Node Lan Load Text) (group_of : ℕ → ℕ) (g end : ℕ) (nodes : ℕ → Node) (pending : List (Event Load)) where
  -- since these nodes and pending events, what a part has sent was counted by its own nodes, and what is pending and isn't one
  -- of these was scheduled by its own nodes
  pub record IsFresh (p : Part Node Lan Load Text) : Type 0 where
    pub grows : (n : ℕ) → rules.counter (nodes n) ≤ rules.counter (p.world.nodes n)
    pub sent_by : AllByRecursion (λ e. (group_of e.key.by.0 ≡ g) × (rules.counter (nodes e.key.by.0) ≤ e.key.count)
        × (e.key.count < rules.counter (p.world.nodes e.key.by.0))) p.sent
    pub sent_own : HaveOwnKeys (λ e. e.key) p.sent
    pub sent_away : AllByRecursion (λ e. is_for group_of g e ≡ false) p.sent
    pub pending_by : AllByRecursion (λ e. IsIn e pending ⊎ (group_of e.key.by.0 ≡ g)) p.world.pending

  module _ (p : Part Node Lan Load Text) (r : Ready Node Lan Load Text) (fresh : IsFresh p) (own : group_of r.event.key.node.0 ≡ g)
      (counted : rules.counter r.effect.node ≡ rules.counter (p.world.nodes r.event.key.node.0) + length r.effect.sends) where
    abbrev target : ℕ
    target = r.event.key.node.0

    abbrev count : ℕ
    count = rules.counter (p.world.nodes target)

    abbrev events : List (Event Load)
    events = scheduled r.event.key count r.effect.sends

    abbrev new_node : ℕ → Node
    new_node n = cond (n == target) r.effect.node (p.world.nodes n)

    node-grows : (n : ℕ) → rules.counter (p.world.nodes n) ≤ rules.counter (new_node n)
    node-grows n = elim (cases_Bool (n == target)) [
      | inl same ↦ rw same (let at : rules.counter (p.world.nodes n) ≡ count = ap (λ m. rules.counter (p.world.nodes m)) (eqb-true n target same) in
          let c = counted in omega arith)
      | inr other ↦ rw other (omega arith)
    ]

    at-target : rules.counter (new_node target) ≡ count + length r.effect.sends
    at-target = elim (cases_Bool (target == target)) [
      | inl same ↦ rw same counted
      | inr other ↦ absurd (let d : target == target ≡ true = grind arith in let e : true ≡ false = sym d ∙ other in cc)
    ]

    new-by : (e : Event Load) → (e.key.by.0 ≡ target) × (count ≤ e.key.count) × (e.key.count < count + length r.effect.sends) →
        (group_of e.key.by.0 ≡ g) × (rules.counter (nodes e.key.by.0) ≤ e.key.count) × (e.key.count < rules.counter (new_node e.key.by.0))
    new-by e h = (
      ap group_of h.0 ∙ own,
      (let before = fresh.grows target in let here : rules.counter (nodes e.key.by.0) ≡ rules.counter (nodes target) = ap (λ m. rules.counter (nodes m)) h.0 in
          let low = h.1 in omega arith),
      (let here : rules.counter (new_node e.key.by.0) ≡ rules.counter (new_node target) = ap (λ m. rules.counter (new_node m)) h.0 in
          let at = at-target in let high = h.2 in omega arith),
    )

    pub fresh-after : IsFresh (part_after rules group_of g end p r)
    unfolding part_after after
    fresh-after =
        let from = scheduled-from r.event.key count r.effect.sends in
        let From : Event Load → Type 0 = λ e. (e.key.by.0 ≡ target) × (count ≤ e.key.count) × (e.key.count < count + length r.effect.sends) in
        let away = filter (λ e. not (is_for group_of g e)) events in
        let mine = filter (is_for group_of g) events in
        let away_from = all-in From away (λ e i. in-all From events from e (filter-in (λ e. not (is_for group_of g e)) e events i).0) in
        let mine_from = all-in From mine (λ e i. in-all From events from e (filter-in (is_for group_of g) e events i).0) in
        record {
          grows = λ n. let a = fresh.grows n in let b = node-grows n in omega arith;
          sent_by = all-append _ p.sent away
              (all-map _ _ (λ e h. (h.0, h.1, (let high = h.2 in let more = node-grows e.key.by.0 in omega arith))) p.sent fresh.sent_by)
              (all-map From _ new-by away away_from);
          sent_own = own-append (λ e. e.key) p.sent away fresh.sent_own
              (own-filter (λ e. e.key) (λ e. not (is_for group_of g e)) events (scheduled-own r.event.key count r.effect.sends))
              (all-map _ (λ x. AllByRecursion (λ y. x.key ≢ y.key) away) (λ x h. all-map From (λ y. x.key ≢ y.key) (λ y k same.
              let by : x.key.by.0 ≡ target = ap (λ (q : Key). q.by.0) same ∙ k.0 in
              let at = ap (λ (q : Key). q.count) same in
              let here : rules.counter (p.world.nodes x.key.by.0) ≡ count = ap (λ m. rules.counter (p.world.nodes m)) by in
              let high = h.2 in let low = k.1 in absurd (omega arith)) away away_from) p.sent fresh.sent_by);
          sent_away = all-append (λ e. is_for group_of g e ≡ false) p.sent away fresh.sent_away
              (all-in (λ e. is_for group_of g e ≡ false) away (λ e i. not-true (is_for group_of g e) (filter-in (λ e. not (is_for group_of g e)) e events i).1));
          pending_by = all-insert_each (λ e. e.key) (λ e. IsIn e pending ⊎ (group_of e.key.by.0 ≡ g)) mine (without_first (below end) p.world.pending)
              (all-map From (λ e. IsIn e pending ⊎ (group_of e.key.by.0 ≡ g)) (λ e h. inr (ap group_of h.0 ∙ own)) mine mine_from)
              (all-without (λ e. IsIn e pending ⊎ (group_of e.key.by.0 ≡ g)) (below end) p.world.pending fresh.pending_by);
        }

  -- at first nothing was sent
  pub fresh-first : (p : Part Node Lan Load Text) → p.world.nodes ≡ nodes → p.world.pending ≡ pending → p.sent ≡ [] → IsFresh p
  fresh-first p same here none = record {
    grows = λ n. let s : rules.counter (p.world.nodes n) ≡ rules.counter (nodes n) = ap (λ (f : ℕ → Node). rules.counter (f n)) same in omega arith;
    sent_by = subst (AllByRecursion _) (sym none) tt;
    sent_own = subst (HaveOwnKeys (λ e. e.key)) (sym none) tt;
    sent_away = subst (AllByRecursion (λ e. is_for group_of g e ≡ false)) (sym none) tt;
    pending_by = all-in _ p.world.pending (λ e i. inl (subst (λ l. IsIn e l) here i));
  }

module _ {Node Lan Load Text : Type 0} (rules : Rules Node Lan Load Text) (group_of : ℕ → ℕ) (end : ℕ) (nodes : ℕ → ℕ → Node)
    (pending : ℕ → List (Event Load)) (parts : ℕ → Part Node Lan Load Text) (fresh : (g : ℕ) → IsFresh rules group_of g end (nodes g) (pending g) (parts g)) where
  -- what the groups below a number have sent
  abbrev pub sents : ℕ → List (Event Load)
  sents zero = []
  sents (suc n) = sents n ++ (parts n).sent

  pub in-sents : (count : ℕ) (e : Event Load) → IsIn e (sents count) → (g : ℕ) × (g < count) × IsIn e (parts g).sent
  in-sents zero e i = absurd i
  in-sents (suc n) e i = elim (in-append e (sents n) (parts n).sent i) [
    | inl before_it ↦ let there = in-sents n e before_it in (there.0, (let low = there.1 in omega arith), there.2)
    | inr here ↦ (n, omega arith, here)
  ]

  pub sents-in : (count g : ℕ) (e : Event Load) → g < count → IsIn e (parts g).sent → IsIn e (sents count)
  sents-in zero g e low i = absurd (omega arith)
  sents-in (suc n) g e low i = elim (cases_lt g n) [
    | inl before_it ↦ in-append_left e (sents n) (parts n).sent (sents-in n g e before_it i)
    | inr last ↦ in-append_right e (sents n) (parts n).sent (let same : g ≡ n = omega arith in subst (λ (k : ℕ). IsIn e (parts k).sent) same i)
  ]

  -- the group of an event's sender
  pub sender : (g : ℕ) (e : Event Load) → IsIn e (parts g).sent → group_of e.key.by.0 ≡ g
  sender g e i = (in-all _ (parts g).sent (fresh g).sent_by e i).0

  pub sents-own : (count : ℕ) → HaveOwnKeys (λ e. e.key) (sents count)
  sents-own zero = tt
  sents-own (suc n) = own-append (λ e. e.key) (sents n) (parts n).sent (sents-own n) (fresh n).sent_own
      (all-in (λ x. AllByRecursion (λ y. x.key ≢ y.key) (parts n).sent) (sents n) (λ x i.
      let there = in-sents n x i in
      let mine = sender there.0 x there.2 in
      all-in (λ y. x.key ≢ y.key) (parts n).sent (λ y j same.
      let other = sender n y j in
      let low = there.1 in let at : group_of x.key.by.0 ≡ group_of y.key.by.0 = ap (λ (k : Key). group_of k.by.0) same in
      absurd (omega arith))))
