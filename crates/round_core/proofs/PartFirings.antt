-- One firing of a group, in its part and in the world.
use Rattle.std.proofs.Common.{◌≡◌, ℕ, ◌<◌, ◌≤◌, zero, suc, filter, not, ◌==◌, true, false, List, [], ◌∷◌, ◌++◌, if◌then◌else◌, refl, sym, ap, ◌∙◌, subst, inl, inr, ◌⊎◌, Option, Some, None}
use Rattle.std.proofs.lemmas.Bool.{cases_Bool, cases_eq, eq-eqb, ne_eqb, eqb-true, not-true}
use Rattle.std.specs.List.{AllByRecursion}
use Rattle.sim_base.specs.declared.key.Key.{Key}
use Rattle.sim_base.specs.KeyOrder.{before, insert_by, IsRising}
use Rattle.round_core.specs.Order.{insert_each}
use Rattle.round_core.specs.World.{Event, Firing, Rules, World, Ready, scheduled, first, without_first, next, after, IsPast}
use Rattle.round_core.specs.Rounds.{below, in_group}
use Rattle.round_core.specs.Laws.{Health, IsOwed, IsLawful, KeepsLans, IsClosed, BeginsAt}
use Rattle.round_core.specs.Parts.{IsIn, Part, is_for, part_after, part_next, part_firings, AreParts}
use Rattle.sim_base.proofs.KeyLaws.{before-trans, time-before}
use Rattle.round_core.proofs.ListLaws.{all-map, all-insert_each, all-without, all-append, first-holds, first-passes, rising-without, rising-scheduled_some, all-snoc, rising-snoc}
use Rattle.round_core.proofs.Settling.{next-found, settled, settled_next, settle}
use Rattle.round_core.proofs.Commute.{settle-fits, settle_all, in_group-true, ready-group, ready-owed, all-scheduled}
use Rattle.round_core.proofs.Window.{first-least}
use Rattle.round_core.proofs.Members.{not-in-without, in-all, all-in, in-append_left, in-append_right, in-append, in-insert_self, in-insert_other, in-insert, in-insert_each_new, in-insert_each_old, in-insert_each, in-filter, filter-in, without-in, in-without}
use Rattle.round_core.proofs.PartEvents.{not-late, part-first, part-nodes, part-ready}
use Rattle.round_core.proofs.PartPlaces.{put_part, put-same, put-other, put-self, put-put}

module _ {Node Lan Load Text : Type 0} (rules : Rules Node Lan Load Text) (ok : Health Node Lan Load) (lawful : IsLawful rules ok)
    (group_of : ℕ → ℕ) (keeps : KeepsLans rules group_of) (from end : ℕ) (closed : IsClosed rules ok group_of from end) where
  -- one firing of a group, in its part and in the world
  module _ (parts : ℕ → Part Node Lan Load Text) (w : World Node Lan Load Text) (g : ℕ) (r : Ready Node Lan Load Text)
      (fits : BeginsAt rules ok from w) (are : AreParts rules group_of end parts w) (is : next rules (in_group group_of end g) w ≡ Some r) where
    abbrev target : ℕ
    target = r.event.key.node.0

    abbrev news : List (Event Load)
    news = scheduled r.event.key (rules.counter (w.nodes target)) r.effect.sends

    abbrev fresh : Part Node Lan Load Text
    fresh = part_after rules group_of g end (parts g) r

    abbrev moved : World Node Lan Load Text
    moved = settled rules (in_group group_of end g) w r

    own-target : group_of target ≡ g
    own-target = ready-group rules ok lawful group_of keeps from end closed g w r is

    found-part : first (below end) (parts g).world.pending ≡ Some r.event
    found-part = sym (part-first rules ok lawful group_of keeps from end closed parts w g fits.sound are) ∙ (next-found rules (in_group group_of end g) w r is).event

    same-counter : rules.counter ((parts g).world.nodes target) ≡ rules.counter (w.nodes target)
    same-counter = ap rules.counter (part-nodes rules ok lawful group_of keeps from end closed parts w g target are own-target)

    fresh-pending : fresh.world.pending ≡ insert_each (λ e. e.key) (filter (is_for group_of g) news) (without_first (below end) (parts g).world.pending)
    unfolding part_after
    fresh-pending = ap (λ c. insert_each (λ (e : Event Load). e.key) (filter (is_for group_of g) (scheduled r.event.key c r.effect.sends))
        (without_first (below end) (parts g).world.pending)) same-counter

    fresh-sent : fresh.sent ≡ (parts g).sent ++ filter (λ e. not (is_for group_of g e)) news
    unfolding part_after
    fresh-sent = ap (λ c. (parts g).sent ++ filter (λ e. not (is_for group_of g e)) (scheduled r.event.key c r.effect.sends)) same-counter

    moved-pending : moved.pending ≡ insert_each (λ e. e.key) news (without_first (in_group group_of end g) w.pending)
    unfolding settled after
    moved-pending = refl

    fresh-own : AllByRecursion (λ e. group_of e.key.node.0 ≡ g) fresh.world.pending
    fresh-own = let P : List (Event Load) → Type 0 = λ l. AllByRecursion (λ e. group_of e.key.node.0 ≡ g) l in
        subst P (sym fresh-pending) (all-insert_each _ (λ e. group_of e.key.node.0 ≡ g) _ _
        (all-in (λ e. group_of e.key.node.0 ≡ g) _ (λ e i. eqb-true (group_of e.key.node.0) g (filter-in (is_for group_of g) e news i).1))
        (all-without _ (below end) (parts g).world.pending (are.own g)))

    fresh-rising : IsRising (λ e. e.key) fresh.world.pending
    fresh-rising = let P : List (Event Load) → Type 0 = λ l. IsRising (λ e. e.key) l in
        subst P (sym fresh-pending) (rising-scheduled_some (is_for group_of g) r.event.key (rules.counter (w.nodes target)) r.effect.sends _
        (rising-without (below end) (parts g).world.pending (are.rising g))
        (all-in (λ e. e.key.by.0 ≡ target → e.key.count < rules.counter (w.nodes target)) _ (λ e i same.
        let Q : ℕ → Type 0 = λ n. e.key.count < rules.counter (w.nodes n) in
        subst Q same (in-all (λ x. x.key.count < rules.counter (w.nodes x.key.by.0)) w.pending fits.sound.counted e
        ((are.pending e).1 (g, inl (without-in (below end) _ e i)))))))

    -- what is scheduled for others is at or above the end
    news-late : (e : Event Load) → IsIn e news → is_for group_of g e ≡ false → end ≤ e.key.time.0
    news-late e i other =
        let found = next-found rules (in_group group_of end g) w r is in
        let parts_of = in_group-true group_of end g r.event.key (first-passes (in_group group_of end g) w.pending r.event found.event) in
        let start : from ≤ r.event.key.time.0 = first-holds (in_group group_of end g) (λ x. from ≤ x.key.time.0) w.pending r.event fits.above found.event in
        let well = first-holds (in_group group_of end g) ok.event w.pending r.event fits.sound.health.pending found.event in
        let all = all-scheduled (λ time to. (group_of to ≡ group_of target) ⊎ (end ≤ time)) r.event.key (rules.counter (w.nodes target)) r.effect.sends
        (closed w r.event r.effect fits.sound.health well start parts_of.1 found.effect) in
        elim (in-all (λ x. (group_of x.key.node.0 ≡ group_of target) ⊎ (end ≤ x.key.time.0)) news all e i) [
          | inl same ↦ absurd (let t = eq-eqb (group_of e.key.node.0) g (same ∙ own-target) in let d : true ≡ false = sym t ∙ other in cc)
          | inr late ↦ late
        ]

    fresh-late : AllByRecursion (λ e. end ≤ e.key.time.0) fresh.sent
    fresh-late = let P : List (Event Load) → Type 0 = λ l. AllByRecursion (λ e. end ≤ e.key.time.0) l in
        subst P (sym fresh-sent) (all-append (λ e. end ≤ e.key.time.0) (parts g).sent _ (are.late g)
        (all-in (λ e. end ≤ e.key.time.0) _ (λ e i. let f = filter-in (λ x. not (is_for group_of g x)) e news i in news-late e f.0 (not-true _ f.1))))

    fresh-nodes : (n : ℕ) → group_of n ≡ g → fresh.world.nodes n ≡ moved.nodes n
    unfolding part_after settled after
    fresh-nodes n own = ap (λ x. if n == target then r.effect.node else x) (part-nodes rules ok lawful group_of keeps from end closed parts w g n are own)

    moved-nodes : (n : ℕ) → (group_of n ≡ g → ⊥) → w.nodes n ≡ moved.nodes n
    unfolding settled after
    moved-nodes n ne = let f = ne_eqb n target (λ e. ne (ap group_of e ∙ own-target)) in rw f refl

    fresh-lans : (n l : ℕ) → group_of n ≡ g → rules.sits n l ≡ true → fresh.world.lans l ≡ moved.lans l
    unfolding part_after settled after
    fresh-lans n l own sits = let P : ℕ → Type 0 = λ x. (parts x).world.lans l ≡ w.lans l in
        ap (λ x. if rules.sits target l then r.effect.lans l else x) (subst P own (are.lans n l sits))

    moved-lans : (n l : ℕ) → (group_of n ≡ g → ⊥) → rules.sits n l ≡ true → w.lans l ≡ moved.lans l
    unfolding settled after
    moved-lans n l ne sits = elim (cases_Bool (rules.sits target l)) [
      | inl there ↦ absurd (ne (keeps n target l sits there ∙ own-target))
      | inr away ↦ rw away refl
    ]

    part-owed : IsOwed rules ok r.event (w.nodes target) r.effect
    part-owed = ready-owed rules ok lawful (in_group group_of end g) w r fits.sound.health is

    -- a part fires in the order of keys
    fresh-past : IsPast fresh.world
    unfolding part_after after
    fresh-past =
        let f : Firing Text = record { key = r.event.key; texts = r.effect.texts } in
        let gone = first-holds (below end) (λ e. AllByRecursion (λ x. before x.key e.key ≡ true) (parts g).world.fired) (parts g).world.pending
        r.event (are.past g).behind found-part in
        let later : (k : Key) → before r.event.key k ≡ true → AllByRecursion (λ x. before x.key k ≡ true) ((parts g).world.fired ++ f ∷ []) =
        λ k up. all-snoc _ (parts g).world.fired f (all-map _ _ (λ x b. before-trans x.key r.event.key k b up) (parts g).world.fired gone) up in
        record {
          rising = rising-snoc (λ x. x.key) (parts g).world.fired f (are.past g).rising gone;
          behind = all-insert_each _ (λ e. AllByRecursion (λ x. before x.key e.key ≡ true) ((parts g).world.fired ++ f ∷ [])) _ _
              (all-in (λ e. AllByRecursion (λ x. before x.key e.key ≡ true) ((parts g).world.fired ++ f ∷ [])) _
              (λ e i. later e.key (time-before r.event.key e.key (in-all (λ x. r.event.key.time.0 < x.key.time.0) _
              (all-scheduled (λ time to. r.event.key.time.0 < time) r.event.key _ r.effect.sends part-owed.later) e
              (filter-in (is_for group_of g) e _ i).0))))
              (all-map _ _ (λ e up. later e.key up) _ (first-least end (parts g).world.pending r.event (are.rising g) found-part));
        }

    fresh-log : AllByRecursion (λ f. group_of f.key.node.0 ≡ g) fresh.world.fired
    unfolding part_after after
    fresh-log = all-snoc (λ f. group_of f.key.node.0 ≡ g) (parts g).world.fired (record { key = r.event.key; texts = r.effect.texts })
        (are.log_own g) own-target

    -- what the two have pending
    Stand : Event Load → Type 0
    Stand e = (h : ℕ) × (IsIn e (put_part g fresh parts h).world.pending ⊎ IsIn e (put_part g fresh parts h).sent)

    stand-fresh : (e : Event Load) → IsIn e fresh.world.pending ⊎ IsIn e fresh.sent → Stand e
    unfolding Stand
    stand-fresh e i = let P : Part Node Lan Load Text → Type 0 = λ p. IsIn e p.world.pending ⊎ IsIn e p.sent in
        (g, subst P (sym (put-same g g fresh parts refl)) i)

    stand-other : (e : Event Load) (h : ℕ) → (h ≡ g → ⊥) → IsIn e (parts h).world.pending ⊎ IsIn e (parts h).sent → Stand e
    unfolding Stand
    stand-other e h ne i = let P : Part Node Lan Load Text → Type 0 = λ p. IsIn e p.world.pending ⊎ IsIn e p.sent in
        (h, subst P (sym (put-other g h fresh parts ne)) i)

    fresh-in : (e : Event Load) → IsIn e (filter (is_for group_of g) news) ⊎ IsIn e (without_first (below end) (parts g).world.pending) →
        IsIn e fresh.world.pending
    fresh-in e i = let P : List (Event Load) → Type 0 = λ l. IsIn e l in subst P (sym fresh-pending) (elim i [
      | inl new ↦ in-insert_each_new _ e _ _ new
      | inr old ↦ in-insert_each_old _ e _ _ old
    ])

    sent-in : (e : Event Load) → IsIn e (parts g).sent ⊎ IsIn e (filter (λ x. not (is_for group_of g x)) news) → IsIn e fresh.sent
    sent-in e i = let P : List (Event Load) → Type 0 = λ l. IsIn e l in subst P (sym fresh-sent) (elim i [
      | inl old ↦ in-append_left e _ _ old
      | inr new ↦ in-append_right e _ _ new
    ])

    stand-old : (e : Event Load) → (e ≡ r.event → ⊥) → ((h : ℕ) × (IsIn e (parts h).world.pending ⊎ IsIn e (parts h).sent)) → Stand e
    stand-old e ne (h, i) = elim (cases_eq h g) [
      | inl same ↦ stand-fresh e (here same i)
      | inr other ↦ stand-other e h other i
    ]
      where
        here : h ≡ g → IsIn e (parts h).world.pending ⊎ IsIn e (parts h).sent → IsIn e fresh.world.pending ⊎ IsIn e fresh.sent
        here same (inl j) = let P : ℕ → Type 0 = λ x. IsIn e (parts x).world.pending in
            elim (in-without (below end) _ r.event e found-part (subst P same j)) [
              | inl it ↦ absurd (ne it)
              | inr left ↦ inl (fresh-in e (inr left))
            ]
        here same (inr j) = let P : ℕ → Type 0 = λ x. IsIn e (parts x).sent in inr (sent-in e (inl (subst P same j)))

    -- what stays pending isn't the event that fires
    not-fired : (e : Event Load) → IsIn e (without_first (in_group group_of end g) w.pending) → e ≡ r.event → ⊥
    not-fired e i same = not-in-without (in_group group_of end g) w.pending r.event fits.sound.rising
        (next-found rules (in_group group_of end g) w r is).event (let P : Event Load → Type 0 = λ x. IsIn x (without_first (in_group group_of end g) w.pending) in subst P same i)

    moved-stands : (e : Event Load) → IsIn e moved.pending → Stand e
    moved-stands e i = let P : List (Event Load) → Type 0 = λ l. IsIn e l in
        elim (in-insert_each (λ (x : Event Load). x.key) e news _ (subst P moved-pending i)) [
          | inl new ↦ elim (cases_Bool (is_for group_of g e)) [
            | inl own ↦ stand-fresh e (inl (fresh-in e (inl (in-filter (is_for group_of g) e news new own))))
            | inr other ↦ stand-fresh e (inr (sent-in e (inr (in-filter (λ x. not (is_for group_of g x)) e news new (ap not other)))))
          ]
          | inr old ↦ stand-old e (not-fired e old) ((are.pending e).0 (without-in (in_group group_of end g) w.pending e old))
        ]

    moved-new : (e : Event Load) → IsIn e news → IsIn e moved.pending
    moved-new e i = let P : List (Event Load) → Type 0 = λ l. IsIn e l in subst P (sym moved-pending) (in-insert_each_new _ e news _ i)

    moved-old : (e : Event Load) → IsIn e w.pending → (e ≡ r.event → ⊥) → IsIn e moved.pending
    moved-old e i ne = let P : List (Event Load) → Type 0 = λ l. IsIn e l in
        elim (in-without (in_group group_of end g) w.pending r.event e (next-found rules (in_group group_of end g) w r is).event i) [
          | inl same ↦ absurd (ne same)
          | inr left ↦ subst P (sym moved-pending) (in-insert_each_old _ e news _ left)
        ]

    -- the event that fires is the group's own, and below the end
    late-other : (e : Event Load) → end ≤ e.key.time.0 → e ≡ r.event → ⊥
    late-other e late same = not-late end r.event.key (first-passes (below end) _ r.event found-part)
        (let P : Event Load → Type 0 = λ x. end ≤ x.key.time.0 in subst P same late)

    elsewhere : (e : Event Load) (h : ℕ) → (h ≡ g → ⊥) → group_of e.key.node.0 ≡ h → e ≡ r.event → ⊥
    elsewhere e h ne at same = ne (sym at ∙ ap (λ (x : Event Load). group_of x.key.node.0) same ∙ own-target)

    fresh-moved : (e : Event Load) → IsIn e fresh.world.pending ⊎ IsIn e fresh.sent → IsIn e moved.pending
    fresh-moved e (inl i) = let P : List (Event Load) → Type 0 = λ l. IsIn e l in
        elim (in-insert_each (λ (x : Event Load). x.key) e _ _ (subst P fresh-pending i)) [
          | inl new ↦ moved-new e (filter-in (is_for group_of g) e news new).0
          | inr old ↦ moved-old e ((are.pending e).1 (g, inl (without-in (below end) _ e old)))
              (λ same. not-in-without (below end) (parts g).world.pending r.event (are.rising g) found-part
              (let Q : Event Load → Type 0 = λ x. IsIn x (without_first (below end) (parts g).world.pending) in subst Q same old))
        ]
    fresh-moved e (inr i) = let P : List (Event Load) → Type 0 = λ l. IsIn e l in
        elim (in-append e (parts g).sent _ (subst P fresh-sent i)) [
          | inl old ↦ moved-old e ((are.pending e).1 (g, inr old)) (late-other e (in-all (λ x. end ≤ x.key.time.0) _ (are.late g) e old))
          | inr new ↦ moved-new e (filter-in (λ x. not (is_for group_of g x)) e news new).0
        ]

    other-moved : (e : Event Load) (h : ℕ) → (h ≡ g → ⊥) → IsIn e (parts h).world.pending ⊎ IsIn e (parts h).sent → IsIn e moved.pending
    other-moved e h ne (inl i) = moved-old e ((are.pending e).1 (h, inl i))
        (elsewhere e h ne (in-all (λ x. group_of x.key.node.0 ≡ h) _ (are.own h) e i))
    other-moved e h ne (inr i) = moved-old e ((are.pending e).1 (h, inr i)) (late-other e (in-all (λ x. end ≤ x.key.time.0) _ (are.late h) e i))

    stands-moved : (e : Event Load) → Stand e → IsIn e moved.pending
    unfolding Stand
    stands-moved e (h, i) = let P : Part Node Lan Load Text → Type 0 = λ p. IsIn e p.world.pending ⊎ IsIn e p.sent in
        elim (cases_eq h g) [
          | inl same ↦ fresh-moved e (subst P (put-same g h fresh parts same) i)
          | inr other ↦ other-moved e h other (subst P (put-other g h fresh parts other) i)
        ]

    -- what the two have fired
    firing : Firing Text
    firing = record { key = r.event.key; texts = r.effect.texts }

    Fired : Firing Text → Type 0
    Fired f = (h : ℕ) × IsIn f (put_part g fresh parts h).world.fired

    fresh-fired : fresh.world.fired ≡ (parts g).world.fired ++ firing ∷ []
    unfolding part_after after firing
    fresh-fired = refl

    moved-fired : moved.fired ≡ insert_by (λ f. f.key) firing w.fired
    unfolding settled firing
    moved-fired = refl

    fired-fresh : (f : Firing Text) → IsIn f (parts g).world.fired ⊎ (f ≡ firing) → Fired f
    unfolding Fired
    fired-fresh f i = let P : Part Node Lan Load Text → Type 0 = λ p. IsIn f p.world.fired in
        let Q : List (Firing Text) → Type 0 = λ l. IsIn f l in (
          g,
          subst P (sym (put-same g g fresh parts refl)) (subst Q (sym fresh-fired) (elim i [
            | inl old ↦ in-append_left f _ _ old
            | inr same ↦ in-append_right f (parts g).world.fired (firing ∷ []) (inl same)
          ])),
        )

    fired-other : (f : Firing Text) (h : ℕ) → (h ≡ g → ⊥) → IsIn f (parts h).world.fired → Fired f
    unfolding Fired
    fired-other f h ne i = let P : Part Node Lan Load Text → Type 0 = λ p. IsIn f p.world.fired in (h, subst P (sym (put-other g h fresh parts ne)) i)

    moved-log : (f : Firing Text) → IsIn f moved.fired → Fired f
    moved-log f i = let Q : List (Firing Text) → Type 0 = λ l. IsIn f l in
        elim (in-insert (λ (x : Firing Text). x.key) firing f w.fired (subst Q moved-fired i)) [
          | inl same ↦ fired-fresh f (inr same)
          | inr old ↦ let there = (are.fired f).0 old in elim (cases_eq there.0 g) [
            | inl same ↦ fired-fresh f (inl (let P : ℕ → Type 0 = λ x. IsIn f (parts x).world.fired in subst P same there.1))
            | inr other ↦ fired-other f there.0 other there.1
          ]
        ]

    log-moved : (f : Firing Text) → Fired f → IsIn f moved.fired
    unfolding Fired
    log-moved f there = let Q : List (Firing Text) → Type 0 = λ l. IsIn f l in
        let P : Part Node Lan Load Text → Type 0 = λ p. IsIn f p.world.fired in
        subst Q (sym moved-fired) (elim (cases_eq there.0 g) [
          | inl same ↦ elim (in-append f (parts g).world.fired (firing ∷ []) (subst Q fresh-fired (subst P (put-same g there.0 fresh parts same) there.1))) [
            | inl old ↦ in-insert_other (λ x. x.key) firing f w.fired ((are.fired f).1 (g, old))
            | inr new ↦ elim new [ inl it ↦ rw it (in-insert_self (λ x. x.key) firing w.fired) | inr none ↦ absurd none ]
          ]
          | inr other ↦ in-insert_other (λ x. x.key) firing f w.fired
              ((are.fired f).1 (there.0, subst P (put-other g there.0 fresh parts other) there.1))
        ])

    -- after the firing the parts make up the world after it
    part-moves : AreParts rules group_of end (put_part g fresh parts) moved
    unfolding Stand Fired
    part-moves = record {
      nodes = λ n. let P : Part Node Lan Load Text → Type 0 = λ p. p.world.nodes n ≡ moved.nodes n in elim (cases_eq (group_of n) g) [
        | inl own ↦ subst P (sym (put-same g (group_of n) fresh parts own)) (fresh-nodes n own)
        | inr other ↦ subst P (sym (put-other g (group_of n) fresh parts other)) (are.nodes n ∙ moved-nodes n other)
      ];
      lans = λ n l sits. let P : Part Node Lan Load Text → Type 0 = λ p. p.world.lans l ≡ moved.lans l in elim (cases_eq (group_of n) g) [
        | inl own ↦ subst P (sym (put-same g (group_of n) fresh parts own)) (fresh-lans n l own sits)
        | inr other ↦ subst P (sym (put-other g (group_of n) fresh parts other)) (are.lans n l sits ∙ moved-lans n l other sits)
      ];
      own = λ h. let P : Part Node Lan Load Text → Type 0 = λ p. AllByRecursion (λ e. group_of e.key.node.0 ≡ h) p.world.pending in
          elim (cases_eq h g) [
            | inl same ↦ subst P (sym (put-same g h fresh parts same)) (let Q : ℕ → Type 0 = λ x. AllByRecursion (λ e. group_of e.key.node.0 ≡ x) fresh.world.pending in subst Q (sym same) fresh-own)
            | inr other ↦ subst P (sym (put-other g h fresh parts other)) (are.own h)
          ];
      rising = λ h. let P : Part Node Lan Load Text → Type 0 = λ p. IsRising (λ e. e.key) p.world.pending in elim (cases_eq h g) [
        | inl same ↦ subst P (sym (put-same g h fresh parts same)) fresh-rising
        | inr other ↦ subst P (sym (put-other g h fresh parts other)) (are.rising h)
      ];
      late = λ h. let P : Part Node Lan Load Text → Type 0 = λ p. AllByRecursion (λ e. end ≤ e.key.time.0) p.sent in elim (cases_eq h g) [
        | inl same ↦ subst P (sym (put-same g h fresh parts same)) fresh-late
        | inr other ↦ subst P (sym (put-other g h fresh parts other)) (are.late h)
      ];
      past = λ h. let P : Part Node Lan Load Text → Type 0 = λ p. IsPast p.world in elim (cases_eq h g) [
        | inl same ↦ subst P (sym (put-same g h fresh parts same)) fresh-past
        | inr other ↦ subst P (sym (put-other g h fresh parts other)) (are.past h)
      ];
      log_own = λ h. let P : Part Node Lan Load Text → Type 0 = λ p. AllByRecursion (λ f. group_of f.key.node.0 ≡ h) p.world.fired in
          elim (cases_eq h g) [
            | inl same ↦ subst P (sym (put-same g h fresh parts same)) (let Q : ℕ → Type 0 = λ x. AllByRecursion (λ f. group_of f.key.node.0 ≡ x) fresh.world.fired in subst Q (sym same) fresh-log)
            | inr other ↦ subst P (sym (put-other g h fresh parts other)) (are.log_own h)
          ];
      pending = λ e. (moved-stands e, stands-moved e);
      fired = λ f. (moved-log f, log-moved f);
    }

  part-step : (parts : ℕ → Part Node Lan Load Text) (w : World Node Lan Load Text) (g : ℕ) → BeginsAt rules ok from w →
      AreParts rules group_of end parts w →
      AreParts rules group_of end (put_part g (part_next rules group_of g end (parts g) (next rules (below end) (parts g).world)) parts)
      (settle rules (in_group group_of end g) w)
  unfolding settle
  part-step parts w g fits are =
      rw (part-ready rules ok lawful group_of keeps from end closed parts w g fits.sound are) (go (next rules (in_group group_of end g) w) refl)
    where
      go : (o : Option (Ready Node Lan Load Text)) → next rules (in_group group_of end g) w ≡ o →
          AreParts rules group_of end (put_part g (part_next rules group_of g end (parts g) o) parts) (settled_next rules (in_group group_of end g) w o)
      go None is = let P : (ℕ → Part Node Lan Load Text) → Type 0 = λ x. AreParts rules group_of end x w in subst P (sym (put-self g parts)) are
      go (Some r) is = part-moves parts w g r fits are is

  pub part-steps : (n : ℕ) (parts : ℕ → Part Node Lan Load Text) (w : World Node Lan Load Text) (g : ℕ) → BeginsAt rules ok from w →
      AreParts rules group_of end parts w →
      (gs : List ℕ) × AreParts rules group_of end (put_part g (part_firings rules group_of g end n (parts g)) parts) (settle_all rules group_of end gs w)
  unfolding part_firings settle_all
  part-steps zero parts w g fits are =
      ([], let P : (ℕ → Part Node Lan Load Text) → Type 0 = λ x. AreParts rules group_of end x w in subst P (sym (put-self g parts)) are)
  part-steps (suc n) parts w g fits are =
      let p = part_next rules group_of g end (parts g) (next rules (below end) (parts g).world) in
      let rest = part-steps n (put_part g p parts) (settle rules (in_group group_of end g) w) g
      (settle-fits rules ok lawful from (in_group group_of end g) w fits) (part-step parts w g fits are) in
      let P : (ℕ → Part Node Lan Load Text) → Type 0 = λ x. AreParts rules group_of end x (settle_all rules group_of end (g ∷ rest.0) w) in (
        g ∷ rest.0,
        subst P
            (ap (λ x. put_part g (part_firings rules group_of g end n x) (put_part g p parts)) (put-same g g p parts refl)
            ∙ put-put g (part_firings rules group_of g end n p) p parts) rest.1,
      )
