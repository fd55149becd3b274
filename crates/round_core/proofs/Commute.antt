-- Within a window, firings of two groups commute.
use Rattle.std.proofs.Common.{◌≡◌, ◌≢◌, ℕ, ◌<◌, ◌≤◌, ◌+◌, suc, length, eq-eqb, Bool, true, false, List, [], ◌∷◌, ◌==◌, if◌then◌else◌, refl, sym, ap, ◌∙◌, subst, arith, inl, inr, ◌⊎◌, Option, Some, None}
use mathlib.Core.Path.{fun_ext}
use Rattle.std.proofs.lemmas.Bool.{cases_Bool, cases_eq}
use Rattle.std.proofs.lemmas.Bool.Decides.{nat_tests}
use Rattle.std.specs.List.{AllByRecursion}
use Rattle.sim_base.specs.declared.key.Key.{Key}
use Rattle.round_core.specs.Order.{insert_each}
use Rattle.round_core.specs.World.{Event, Send, Firing, Rules, World, Ready, seen, reaction, scheduled, first, without_first, allowed, ready, next, after, fire, in_order}
use Rattle.round_core.specs.Rounds.{in_group, group_firings, IsFull}
use Rattle.round_core.specs.Laws.{Health, IsHealthy, IsSound, IsOwed, IsLawful, KeepsLans, IsClosed, BeginsAt}
use Rattle.round_core.proofs.InsertLaws.{insert_insert}
use Rattle.round_core.proofs.ListLaws.{all-map, all-insert_each, all-without, rising-without, falls-without, NeverFalls, never_falls, rising-scheduled, scheduled-counted, first-insert_each, without-insert_each, Apart, first-without, without_without, insert_each_insert_each, first-holds, first-passes}
use Rattle.round_core.proofs.Settling.{next-found, settled, settled_next, settle, next-in_order, in_order-fire, settle-idle, settle-moves}

-- facts about the tests of groups
pub in_group-true : (group_of : ℕ → ℕ) (end g : ℕ) (k : Key) → in_group group_of end g k ≡ true → (group_of k.node.0 ≡ g) × (k.time.0 < end)
in_group-true group_of end g k h = grind (arith, nat_tests)

pub in_group-other : (group_of : ℕ → ℕ) (end g h : ℕ) (k : Key) → g ≢ h → (group_of k.node.0 ≡ h) ⊎ (end ≤ k.time.0) →
    in_group group_of end g k ≡ false
in_group-other group_of end g h k ne o = grind (arith, nat_tests)

pub groups-apart : (group_of : ℕ → ℕ) (end g h : ℕ) → g ≢ h → Apart (in_group group_of end g) (in_group group_of end h)
groups-apart group_of end g h ne k p = grind (arith, nat_tests)

pub all-scheduled : {Load : Type 0} (P : ℕ → ℕ → Type 0) (key : Key) (count : ℕ) (sends : List (Send Load)) →
    AllByRecursion (λ s. P s.at s.to) sends → AllByRecursion (λ e. P e.key.time.0 e.key.node.0) (scheduled key count sends)
unfolding scheduled
all-scheduled P key count [] h = tt
all-scheduled P key count (s ∷ sends) h = (h.0, all-scheduled P key (suc count) sends h.1)

pub scheduled-sender : {Load : Type 0} (key : Key) (count : ℕ) (sends : List (Send Load)) →
    AllByRecursion (λ e. e.key.by.0 ≡ key.node.0) (scheduled key count sends)
unfolding scheduled
scheduled-sender key count [] = tt
scheduled-sender key count (s ∷ sends) = (refl, scheduled-sender key (suc count) sends)

senders-differ : {Load : Type 0} (a b : ℕ) (xs ys : List (Event Load)) → a ≢ b → AllByRecursion (λ e. e.key.by.0 ≡ a) xs →
    AllByRecursion (λ e. e.key.by.0 ≡ b) ys → AllByRecursion (λ x. AllByRecursion (λ y. x.key ≡ y.key → ⊥) ys) xs
senders-differ a b xs ys ne p q =
    all-map _ _ (λ x xa. all-map _ _ (λ y yb same. ne (sym xa ∙ ap (λ (k : Key). k.by.0) same ∙ yb)) ys q) xs p

pending-commute : {Load : Type 0} (p q : Key → Bool) (xs ys l : List (Event Load)) → Apart p q →
    AllByRecursion (λ y. p y.key ≡ false) ys → AllByRecursion (λ x. q x.key ≡ false) xs →
    AllByRecursion (λ x. AllByRecursion (λ y. x.key ≡ y.key → ⊥) ys) xs → NeverFalls (λ e. e.key) l →
    insert_each (λ e. e.key) xs (without_first p (insert_each (λ e. e.key) ys (without_first q l)))
    ≡ insert_each (λ e. e.key) ys (without_first q (insert_each (λ e. e.key) xs (without_first p l)))
pending-commute p q xs ys l apart py qx differ rising =
    ap (insert_each (λ e. e.key) xs) (without-insert_each p ys (without_first q l) py (falls-without q l rising))
    ∙ insert_each_insert_each (λ e. e.key) xs ys (without_first p (without_first q l)) differ
    ∙ ap (λ t. insert_each (λ e. e.key) ys (insert_each (λ e. e.key) xs t)) (without_without p q apart l)
    ∙ ap (insert_each (λ e. e.key) ys) (sym (without-insert_each q xs (without_first p l) qx (falls-without p l rising)))

write-write : {A : Type 0} (a b : Bool) (x y z : A) → (a ≡ true → b ≡ true → ⊥) →
    (if a then x else (if b then y else z)) ≡ (if b then y else (if a then x else z))
write-write true true x y z h = absurd (h refl refl)
write-write true false x y z h = refl
write-write false true x y z h = refl
write-write false false x y z h = refl

-- a list of groups, with the firings so far kept in the order of their keys
unfoldable pub settle_all : {Node Lan Load Text : Type 0} → Rules Node Lan Load Text → (ℕ → ℕ) → ℕ → List ℕ →
    World Node Lan Load Text → World Node Lan Load Text
settle_all rules group_of end [] w = w
settle_all rules group_of end (g ∷ gs) w = settle_all rules group_of end gs (settle rules (in_group group_of end g) w)

-- no group has an event to fire
abbrev pub IsQuiet : {Node Lan Load Text : Type 0} → Rules Node Lan Load Text → (ℕ → ℕ) → ℕ → World Node Lan Load Text → Type 0
IsQuiet rules group_of end w = (g : ℕ) → next rules (in_group group_of end g) w ≡ None

module _ {Node Lan Load Text : Type 0} (rules : Rules Node Lan Load Text) (ok : Health Node Lan Load) (lawful : IsLawful rules ok) where
  -- what is ready owes what the rules say
  pub ready-owed : (test : Key → Bool) (w : World Node Lan Load Text) (r : Ready Node Lan Load Text) → IsHealthy ok w →
      next rules test w ≡ Some r → IsOwed rules ok r.event (w.nodes r.event.key.node.0) r.effect
  ready-owed test w r healthy is = let found = next-found rules test w r is in
      lawful.owed w r.event r.effect healthy (first-holds test ok.event w.pending r.event healthy.pending found.event) found.effect

  pub counter-target : (test : Key → Bool) (w : World Node Lan Load Text) (r : Ready Node Lan Load Text) →
      rules.counter r.effect.node ≡ rules.counter (w.nodes r.event.key.node.0) + length r.effect.sends →
      rules.counter ((settled rules test w r).nodes r.event.key.node.0) ≡ rules.counter (w.nodes r.event.key.node.0) + length r.effect.sends
  unfolding settled after
  counter-target test w r counted = let same = eq-eqb r.event.key.node.0 r.event.key.node.0 refl in rw same counted

  pub counter-grows : (test : Key → Bool) (w : World Node Lan Load Text) (r : Ready Node Lan Load Text) →
      rules.counter r.effect.node ≡ rules.counter (w.nodes r.event.key.node.0) + length r.effect.sends →
      (n : ℕ) → rules.counter (w.nodes n) ≤ rules.counter ((settled rules test w r).nodes n)
  unfolding settled after
  counter-grows test w r counted n = elim (cases_Bool (n == r.event.key.node.0)) [
    | inl same ↦ let e : n ≡ r.event.key.node.0 = grind (arith, nat_tests) in
        rw same (let c = ap (λ x. rules.counter (w.nodes x)) e in omega arith)
    | inr other ↦ rw other (omega arith)
  ]

  pub settled-healthy : (test : Key → Bool) (w : World Node Lan Load Text) (r : Ready Node Lan Load Text) → IsHealthy ok w →
      next rules test w ≡ Some r → IsHealthy ok (settled rules test w r)
  unfolding settled after
  settled-healthy test w r healthy is = let owed = ready-owed test w r healthy is in record {
    nodes = λ n. elim (cases_Bool (n == r.event.key.node.0)) [
      | inl same ↦ let e : n ≡ r.event.key.node.0 = grind (arith, nat_tests) in rw same (let P : ℕ → Type 0 = λ m. ok.node m r.effect.node in subst P (sym e) owed.node_ok)
      | inr other ↦ rw other (healthy.nodes n)
    ];
    lans = λ l. elim (cases_Bool (rules.sits r.event.key.node.0 l)) [
      | inl sits ↦ rw sits (owed.lans_ok l sits)
      | inr other ↦ rw other (healthy.lans l)
    ];
    pending = all-insert_each _ ok.event _ _ owed.events_ok (all-without ok.event test w.pending healthy.pending);
  }

  pub settled-sound : (test : Key → Bool) (w : World Node Lan Load Text) (r : Ready Node Lan Load Text) → IsSound rules ok w →
      next rules test w ≡ Some r → IsSound rules ok (settled rules test w r)
  unfolding settled after
  settled-sound test w r sound is = let owed = ready-owed test w r sound.health is in record {
    health = settled-healthy test w r sound.health is;
    rising = rising-scheduled r.event.key _ r.effect.sends _ (rising-without test w.pending sound.rising)
        (all-map _ _ (λ e h same. let P : ℕ → Type 0 = λ n. e.key.count < rules.counter (w.nodes n) in subst P same h) _
        (all-without _ test w.pending sound.counted));
    counted = all-insert_each _ (λ e. e.key.count < rules.counter ((settled rules test w r).nodes e.key.by.0)) _ _
        (all-map _ _ (λ e h. let P : ℕ → Type 0 = λ n. e.key.count < rules.counter ((settled rules test w r).nodes n) in
        let at_target : P r.event.key.node.0 = let l = h.1 in let c = counter-target test w r owed.counted in omega arith in
        subst P (sym h.0) at_target) _ (scheduled-counted r.event.key _ r.effect.sends))
        (all-map _ _ (λ e h. let c = counter-grows test w r owed.counted e.key.by.0 in omega arith) _
        (all-without _ test w.pending sound.counted));
  }

  pub settled-fits : (from : ℕ) (test : Key → Bool) (w : World Node Lan Load Text) (r : Ready Node Lan Load Text) → BeginsAt rules ok from w →
      next rules test w ≡ Some r → BeginsAt rules ok from (settled rules test w r)
  unfolding settled after
  settled-fits from test w r fits is =
      let owed = ready-owed test w r fits.sound.health is in
      let found = next-found rules test w r is in
      let start : from ≤ r.event.key.time.0 = first-holds test (λ e. from ≤ e.key.time.0) w.pending r.event fits.above found.event in
      record {
        sound = settled-sound test w r fits.sound is;
        above = all-insert_each _ (λ e. from ≤ e.key.time.0) _ _
            (all-scheduled (λ time target. from ≤ time) _ _ _ (all-map _ _ (λ s later. omega arith) r.effect.sends owed.later))
            (all-without _ test w.pending fits.above);
      }

  pub settle-fits : (from : ℕ) (test : Key → Bool) (w : World Node Lan Load Text) → BeginsAt rules ok from w → BeginsAt rules ok from (settle rules test w)
  unfolding settle
  settle-fits from test w fits = go (next rules test w) refl
    where
      go : (o : Option (Ready Node Lan Load Text)) → next rules test w ≡ o → BeginsAt rules ok from (settled_next rules test w o)
      go None is = fits
      go (Some r) is = settled-fits from test w r fits is

  module _ (group_of : ℕ → ℕ) (keeps : KeepsLans rules group_of) (from end : ℕ) (closed : IsClosed rules ok group_of from end) where
    abbrev of_group : ℕ → Key → Bool
    of_group g = in_group group_of end g

    pub ready-group : (g : ℕ) (w : World Node Lan Load Text) (r : Ready Node Lan Load Text) →
        next rules (of_group g) w ≡ Some r → group_of r.event.key.node.0 ≡ g
    ready-group g w r is =
        (in_group-true group_of end g r.event.key (first-passes (of_group g) w.pending r.event (next-found rules (of_group g) w r is).event)).0

    -- what a firing of one group schedules is no event of another below the end
    pub ready-elsewhere : (g h : ℕ) (w : World Node Lan Load Text) (s : Ready Node Lan Load Text) (count : ℕ) → g ≢ h → BeginsAt rules ok from w →
        next rules (of_group h) w ≡ Some s → AllByRecursion (λ e. of_group g e.key ≡ false) (scheduled s.event.key count s.effect.sends)
    ready-elsewhere g h w s count ne fits is =
        let found = next-found rules (of_group h) w s is in
        let parts = in_group-true group_of end h s.event.key (first-passes (of_group h) w.pending s.event found.event) in
        let start : from ≤ s.event.key.time.0 = first-holds (of_group h) (λ e. from ≤ e.key.time.0) w.pending s.event fits.above found.event in
        let well = first-holds (of_group h) ok.event w.pending s.event fits.sound.health.pending found.event in
        all-map _ _ (λ e o. in_group-other group_of end g h e.key ne o) _
        (all-scheduled (λ time target. (group_of target ≡ h) ⊎ (end ≤ time)) s.event.key count s.effect.sends
        (all-map _ _ (λ x o. rw parts.0 at o) s.effect.sends
        (closed w s.event s.effect fits.sound.health well start parts.1 found.effect)))

    nodes-elsewhere : (g h : ℕ) (w : World Node Lan Load Text) (s : Ready Node Lan Load Text) → g ≢ h →
        group_of s.event.key.node.0 ≡ h → (n : ℕ) → group_of n ≡ g → (settled rules (of_group h) w s).nodes n ≡ w.nodes n
    unfolding settled after
    nodes-elsewhere g h w s ne hs n gn = elim (cases_Bool (n == s.event.key.node.0)) [
      | inl same ↦ let e : n ≡ s.event.key.node.0 = grind (arith, nat_tests) in absurd (ne (sym gn ∙ ap group_of e ∙ hs))
      | inr other ↦ rw other refl
    ]

    seen-elsewhere : (g h : ℕ) (w : World Node Lan Load Text) (s : Ready Node Lan Load Text) → g ≢ h →
        group_of s.event.key.node.0 ≡ h → (n : ℕ) → group_of n ≡ g →
        seen rules n (settled rules (of_group h) w s).lans ≡ seen rules n w.lans
    unfolding settled after seen
    seen-elsewhere g h w s ne hs n gn = fun_ext (λ l. elim (cases_Bool (rules.sits n l)) [
      | inl here ↦ elim (cases_Bool (rules.sits s.event.key.node.0 l)) [
        | inl there ↦ absurd (ne (sym gn ∙ keeps n s.event.key.node.0 l here there ∙ hs))
        | inr other ↦ rw (here, other) refl
      ]
      | inr away ↦ rw away refl
    ])

    pub reaction-elsewhere : (g h : ℕ) (w : World Node Lan Load Text) (s : Ready Node Lan Load Text) → g ≢ h →
        group_of s.event.key.node.0 ≡ h → (e : Event Load) → group_of e.key.node.0 ≡ g →
        reaction rules (settled rules (of_group h) w s) e ≡ reaction rules w e
    unfolding reaction
    reaction-elsewhere g h w s ne hs e ge =
        ap (λ x. rules.react e x (seen rules e.key.node.0 (settled rules (of_group h) w s).lans)) (nodes-elsewhere g h w s ne hs e.key.node.0 ge)
        ∙ ap (λ x. rules.react e (w.nodes e.key.node.0) x) (seen-elsewhere g h w s ne hs e.key.node.0 ge)

    first-elsewhere : (g h : ℕ) (w : World Node Lan Load Text) (s : Ready Node Lan Load Text) → g ≢ h → BeginsAt rules ok from w →
        next rules (of_group h) w ≡ Some s → first (of_group g) (settled rules (of_group h) w s).pending ≡ first (of_group g) w.pending
    unfolding settled after
    first-elsewhere g h w s ne fits is =
        first-insert_each (of_group g) _ (without_first (of_group h) w.pending) (ready-elsewhere g h w s _ ne fits is)
        ∙ first-without (of_group g) (of_group h) (groups-apart group_of end g h ne) w.pending

    -- a firing of one group leaves what is ready in another
    pub next-elsewhere : (g h : ℕ) (w : World Node Lan Load Text) (s : Ready Node Lan Load Text) → g ≢ h → BeginsAt rules ok from w →
        next rules (of_group h) w ≡ Some s → next rules (of_group g) (settled rules (of_group h) w s) ≡ next rules (of_group g) w
    unfolding next
    next-elsewhere g h w s ne fits is =
        ap (ready rules (settled rules (of_group h) w s)) (first-elsewhere g h w s ne fits is)
        ∙ go (first (of_group g) w.pending) refl
      where
        go : (o : Option (Event Load)) → first (of_group g) w.pending ≡ o → ready rules (settled rules (of_group h) w s) o ≡ ready rules w o
        go None found = refl
        go (Some e) found = ap (allowed e) (reaction-elsewhere g h w s ne (ready-group h w s is) e
            (in_group-true group_of end g e.key (first-passes (of_group g) w.pending e found)).0)

    counter-elsewhere : (g h : ℕ) (w : World Node Lan Load Text) (r s : Ready Node Lan Load Text) → g ≢ h →
        group_of r.event.key.node.0 ≡ g → group_of s.event.key.node.0 ≡ h →
        rules.counter ((settled rules (of_group h) w s).nodes r.event.key.node.0) ≡ rules.counter (w.nodes r.event.key.node.0)
    counter-elsewhere g h w r s ne gr hs = ap rules.counter (nodes-elsewhere g h w s ne hs r.event.key.node.0 gr)

    equal-target : (n : ℕ) (r s : Ready Node Lan Load Text) → (n == r.event.key.node.0) ≡ true → (n == s.event.key.node.0) ≡ true →
        r.event.key.node.0 ≡ s.event.key.node.0
    equal-target n r s a b = grind (arith, nat_tests)

    -- the pending events after two firings of two groups, in either order
    settled-pending : (g h : ℕ) (w : World Node Lan Load Text) (r s : Ready Node Lan Load Text) → g ≢ h → BeginsAt rules ok from w →
        next rules (of_group g) w ≡ Some r → next rules (of_group h) w ≡ Some s →
        group_of r.event.key.node.0 ≡ g → group_of s.event.key.node.0 ≡ h →
        (settled rules (of_group g) (settled rules (of_group h) w s) r).pending ≡ (settled rules (of_group h) (settled rules (of_group g) w r) s).pending
    unfolding settled after
    settled-pending g h w r s ne fits gr hs rg sh =
        let back : h ≢ g = λ e. ne (sym e) in
        let targets : r.event.key.node.0 ≢ s.event.key.node.0 = λ e. ne (sym rg ∙ ap group_of e ∙ sh) in
        ap (λ c. insert_each (λ e. e.key) (scheduled r.event.key c r.effect.sends) (without_first (of_group g) (settled rules (of_group h) w s).pending))
        (counter-elsewhere g h w r s ne rg sh)
        ∙ pending-commute (of_group g) (of_group h) (scheduled r.event.key (rules.counter (w.nodes r.event.key.node.0)) r.effect.sends)
        (scheduled s.event.key (rules.counter (w.nodes s.event.key.node.0)) s.effect.sends) w.pending
        (groups-apart group_of end g h ne) (ready-elsewhere g h w s _ ne fits hs) (ready-elsewhere h g w r _ back fits gr)
        (senders-differ r.event.key.node.0 s.event.key.node.0 _ _ targets (scheduled-sender _ _ _) (scheduled-sender _ _ _)) (never_falls _ _ fits.sound.rising)
        ∙ sym (ap (λ c. insert_each (λ e. e.key) (scheduled s.event.key c s.effect.sends) (without_first (of_group h) (settled rules (of_group g) w r).pending))
        (counter-elsewhere h g w s r back sh rg))

    -- two firings of two groups, in either order
    pub settled-commute : (g h : ℕ) (w : World Node Lan Load Text) (r s : Ready Node Lan Load Text) → g ≢ h → BeginsAt rules ok from w →
        next rules (of_group g) w ≡ Some r → next rules (of_group h) w ≡ Some s →
        settled rules (of_group g) (settled rules (of_group h) w s) r ≡ settled rules (of_group h) (settled rules (of_group g) w r) s
    unfolding settled after
    settled-commute g h w r s ne fits gr hs =
        let rg = ready-group g w r gr in
        let sh = ready-group h w s hs in
        let back : h ≢ g = λ e. ne (sym e) in
        let targets : r.event.key.node.0 ≢ s.event.key.node.0 = λ e. ne (sym rg ∙ ap group_of e ∙ sh) in
        let nodes-same : (n : ℕ) → (if n == r.event.key.node.0 then r.effect.node else (if n == s.event.key.node.0 then s.effect.node else w.nodes n))
        ≡ (if n == s.event.key.node.0 then s.effect.node else (if n == r.event.key.node.0 then r.effect.node else w.nodes n)) =
        λ n. write-write (n == r.event.key.node.0) (n == s.event.key.node.0) r.effect.node s.effect.node (w.nodes n) (λ a b. targets (equal-target n r s a b)) in
        let lans-same : (l : ℕ) → (if rules.sits r.event.key.node.0 l then r.effect.lans l else (if rules.sits s.event.key.node.0 l then s.effect.lans l else w.lans l))
        ≡ (if rules.sits s.event.key.node.0 l then s.effect.lans l else (if rules.sits r.event.key.node.0 l then r.effect.lans l else w.lans l)) =
        λ l. write-write (rules.sits r.event.key.node.0 l) (rules.sits s.event.key.node.0 l) (r.effect.lans l) (s.effect.lans l) (w.lans l)
        (λ a b. ne (sym rg ∙ keeps r.event.key.node.0 s.event.key.node.0 l a b ∙ sh)) in
        let fired-same = insert_insert (λ (f : Firing Text). f.key) (record { key = r.event.key; texts = r.effect.texts })
        (record { key = s.event.key; texts = s.effect.texts }) w.fired (λ e. targets (ap (λ (k : Key). k.node.0) e)) in
        let pending-same = settled-pending g h w r s ne fits gr hs rg sh in
        λ i. record { nodes = λ n. nodes-same n i; lans = λ l. lans-same l i; pending = pending-same i; fired = fired-same i }

    settle-commute : (g h : ℕ) (w : World Node Lan Load Text) → BeginsAt rules ok from w →
        settle rules (of_group g) (settle rules (of_group h) w) ≡ settle rules (of_group h) (settle rules (of_group g) w)
    settle-commute g h w fits = elim (cases_eq g h) [
      | inl same ↦ rw same refl
      | inr ne ↦ go ne (next rules (of_group g) w) (next rules (of_group h) w) refl refl
    ]
      where
        go : g ≢ h → (a b : Option (Ready Node Lan Load Text)) → next rules (of_group g) w ≡ a → next rules (of_group h) w ≡ b →
            settle rules (of_group g) (settle rules (of_group h) w) ≡ settle rules (of_group h) (settle rules (of_group g) w)
        go ne None None gn hn = let x = settle-idle rules (of_group g) w gn in let y = settle-idle rules (of_group h) w hn in cc
        go ne None (Some s) gn hs =
            let x = settle-idle rules (of_group g) w gn in let y = settle-moves rules (of_group h) w s hs in
            let z = settle-idle rules (of_group g) (settled rules (of_group h) w s) (next-elsewhere g h w s ne fits hs ∙ gn) in cc
        go ne (Some r) None gr hn =
            let x = settle-moves rules (of_group g) w r gr in let y = settle-idle rules (of_group h) w hn in
            let z = settle-idle rules (of_group h) (settled rules (of_group g) w r) (next-elsewhere h g w r (λ e. ne (sym e)) fits gr ∙ hn) in cc
        go ne (Some r) (Some s) gr hs =
            let x = settle-moves rules (of_group g) w r gr in let y = settle-moves rules (of_group h) w s hs in
            let z = settle-moves rules (of_group h) (settled rules (of_group g) w r) s (next-elsewhere h g w r (λ e. ne (sym e)) fits gr ∙ hs) in
            let u = settle-moves rules (of_group g) (settled rules (of_group h) w s) r (next-elsewhere g h w s ne fits hs ∙ gr) in
            let v = settled-commute g h w r s ne fits gr hs in cc

    pub settle_all-fits : (gs : List ℕ) (w : World Node Lan Load Text) → BeginsAt rules ok from w → BeginsAt rules ok from (settle_all rules group_of end gs w)
    unfolding settle_all
    settle_all-fits [] w fits = fits
    settle_all-fits (g ∷ gs) w fits = settle_all-fits gs (settle rules (of_group g) w) (settle-fits from (of_group g) w fits)

    settle-settle_all : (g : ℕ) (hs : List ℕ) (w : World Node Lan Load Text) → BeginsAt rules ok from w →
        settle rules (of_group g) (settle_all rules group_of end hs w) ≡ settle_all rules group_of end hs (settle rules (of_group g) w)
    unfolding settle_all
    settle-settle_all g [] w fits = refl
    settle-settle_all g (h ∷ hs) w fits =
        settle-settle_all g hs (settle rules (of_group h) w) (settle-fits from (of_group h) w fits)
        ∙ ap (settle_all rules group_of end hs) (settle-commute g h w fits)

    pub settle_all-commute : (gs hs : List ℕ) (w : World Node Lan Load Text) → BeginsAt rules ok from w →
        settle_all rules group_of end gs (settle_all rules group_of end hs w) ≡ settle_all rules group_of end hs (settle_all rules group_of end gs w)
    unfolding settle_all
    settle_all-commute [] hs w fits = refl
    settle_all-commute (g ∷ gs) hs w fits =
        ap (settle_all rules group_of end gs) (settle-settle_all g hs w fits)
        ∙ settle_all-commute gs hs (settle rules (of_group g) w) (settle-fits from (of_group g) w fits)

    pub settle_all-quiet : (gs : List ℕ) (w : World Node Lan Load Text) → IsQuiet rules group_of end w → settle_all rules group_of end gs w ≡ w
    unfolding settle_all
    settle_all-quiet [] w quiet = refl
    settle_all-quiet (g ∷ gs) w quiet = ap (settle_all rules group_of end gs) (settle-idle rules (of_group g) w (quiet g)) ∙ settle_all-quiet gs w quiet

    pub quiet_agree : (gs hs : List ℕ) (w : World Node Lan Load Text) → BeginsAt rules ok from w → IsQuiet rules group_of end (settle_all rules group_of end gs w) →
        IsQuiet rules group_of end (settle_all rules group_of end hs w) → settle_all rules group_of end gs w ≡ settle_all rules group_of end hs w
    quiet_agree gs hs w fits qg qh =
        sym (settle_all-quiet hs (settle_all rules group_of end gs w) qg) ∙ settle_all-commute hs gs w fits ∙ settle_all-quiet gs (settle_all rules group_of end hs w) qh

    pub in_order-firings : (gs : List ℕ) (w : World Node Lan Load Text) →
        in_order (group_firings rules group_of end gs w) ≡ settle_all rules group_of end gs (in_order w)
    unfolding group_firings settle_all
    in_order-firings [] w = refl
    in_order-firings (g ∷ gs) w = in_order-firings gs (fire rules (of_group g) w) ∙ ap (settle_all rules group_of end gs) (in_order-fire rules (of_group g) w)

    pub full-quiet : (gs : List ℕ) (w : World Node Lan Load Text) → IsFull rules group_of end gs w → IsQuiet rules group_of end (settle_all rules group_of end gs (in_order w))
    full-quiet gs w full g =
        ap (next rules (of_group g)) (sym (in_order-firings gs w)) ∙ next-in_order rules (of_group g) (group_firings rules group_of end gs w) ∙ full g

    pub fits-in_order : (w : World Node Lan Load Text) → BeginsAt rules ok from w → BeginsAt rules ok from (in_order w)
    fits-in_order w fits = record {
      sound = record { health = record { nodes = fits.sound.health.nodes; lans = fits.sound.health.lans; pending = fits.sound.health.pending }; rising = fits.sound.rising; counted = fits.sound.counted };
      above = fits.above;
    }

    -- every list of groups that is full leaves the same world
    pub full_agree : (gs hs : List ℕ) (w : World Node Lan Load Text) → BeginsAt rules ok from w → IsFull rules group_of end gs w →
        IsFull rules group_of end hs w → in_order (group_firings rules group_of end gs w) ≡ in_order (group_firings rules group_of end hs w)
    full_agree gs hs w fits fg fh =
        in_order-firings gs w
        ∙ quiet_agree gs hs (in_order w) (fits-in_order w fits) (full-quiet gs w fg) (full-quiet hs w fh)
        ∙ sym (in_order-firings hs w)
