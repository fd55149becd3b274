-- When a window begins: at the least pending time.
use Rattle.std.proofs.Common.{◌≡◌, ◌⊎◌, ℕ, ◌<◌, ◌≤◌, min, nat_lt, zero, suc, true, List, [], ◌∷◌, fold, Option, Some, None, slice_get, refl, sym, ap, ◌∙◌, subst, arith, inl, inr}
use Rattle.std.specs.List.{AllByRecursion}
use Rattle.std.proofs.lemmas.Bool.{cases_Bool, le-ltb, lt-ltb, ltb-true, ltb-false}
use Rattle.std.proofs.lemmas.Option.{slice_get_within}
use Rattle.sim_base.specs.Packet.{Packet}
use Rattle.sim_base.specs.declared.key.Key.{Key}
use Rattle.sim_base.specs.declared.time.Time.{Time}
use Rattle.sim_base.specs.KeyOrder.{IsRising, before}
use Rattle.sim_base.proofs.KeyLaws.{before-time}
use Rattle.partition_cut.specs.declared.network.Cut.{Cut}
use Rattle.round_core.specs.Parts.{IsIn}
use Rattle.round_core.specs.Rounds.{below}
use Rattle.round_core.specs.World.{Event, Firing, first}
use Rattle.round_core.proofs.Members.{in-all}
use Rattle.node_step.specs.declared.loads.Load.{Load}
use Rattle.node_step.specs.Firing.{Text}
use Rattle.lp_run.specs.Lp.{PlainLp}
use Rattle.lp_run.specs.Pending.{first_key}
use Rattle.sim_world.specs.World.{PlainWorld}
use Rattle.round_kernel.specs.Groups.{Between, part_at}
use Rattle.round_kernel.specs.Left.{lps_of}
use Rattle.round_kernel.specs.Window.{Gone, before_stop, least_time, sooner_of, sooner_time}
use Rattle.round_kernel.proofs.GroupLists.{at-group, group-at}

-- what going over groups leaves of the least time so far
pub record IsFold (acc : Option Time) (groups : List Gone) (r : Option Time) : Type 0 where
  pub none : r ≡ None → (acc ≡ None) × ((g : ℕ) (group : Gone) → slice_get groups g ≡ Some group → first_key group.0.pending ≡ None)
  pub some : (t : Time) → r ≡ Some t → ((a : Time) × (acc ≡ Some a) × (a.0 ≡ t.0))
      ⊎ ((g : ℕ) × (group : Gone) × (key : Key) × (slice_get groups g ≡ Some group) × (first_key group.0.pending ≡ Some key) × (key.time.0 ≡ t.0))
  pub first : (t a : Time) → r ≡ Some t → acc ≡ Some a → t.0 ≤ a.0
  pub least : (t : Time) → r ≡ Some t → (g : ℕ) (group : Gone) (key : Key) → slice_get groups g ≡ Some group →
      first_key group.0.pending ≡ Some key → t.0 ≤ key.time.0

-- the sooner of a time and the least so far is one of the two, and no later than both
pub record Sooner (time : Time) (acc r : Option Time) : Type 0 where
  pub result : Time
  pub is : r ≡ Some result
  pub low : result.0 ≤ time.0
  pub others : (a : Time) → acc ≡ Some a → result.0 ≤ a.0
  pub one : ((a : Time) × (acc ≡ Some a) × (a.0 ≡ result.0)) ⊎ (time.0 ≡ result.0)

sooner-is : (time : Time) (acc : Option Time) → Sooner time acc (sooner_time time acc)
sooner-is time None = record {
  result = time;
  is = refl;
  low = omega arith;
  others = λ a held. absurd (let d : None ≡ Some a = held in cc);
  one = inr refl;
}
sooner-is time (Some least) = record {
  result = record { 0 = min least.0 time.0 };
  is = refl;
  low = omega arith;
  others = λ a held. let e : least ≡ a = (let d : Some least ≡ Some a = held in cc) in let f = ap (λ (x : Time). x.0) e in omega arith;
  one = elim (cases_Bool (nat_lt least.0 time.0)) [
    | inl less ↦ let low = ltb-true least.0 time.0 less in inl (least, refl, omega arith)
    | inr more ↦ let high = ltb-false least.0 time.0 more in inr (omega arith)
  ];
}

fold-none : (acc : Option Time) (group : Gone) (groups : List Gone) (r : Option Time) → first_key group.0.pending ≡ None →
    IsFold acc groups r → IsFold acc (group ∷ groups) r
fold-none acc group groups r empty is = record {
  none = λ none. ((is.none none).0, nowhere (is.none none).1);
  some = λ t h. elim (is.some t h) [ inl held ↦ inl held | inr there ↦ inr (suc there.0, there.1, there.2, there.3, there.4, there.5) ];
  first = is.first;
  least = later;
}
  where
    nowhere : ((g : ℕ) (x : Gone) → slice_get groups g ≡ Some x → first_key x.0.pending ≡ None) →
        (g : ℕ) (x : Gone) → slice_get (group ∷ groups) g ≡ Some x → first_key x.0.pending ≡ None
    nowhere h zero x there = let same : group ≡ x = (let d : Some group ≡ Some x = there in cc) in
        subst (λ (y : Gone). first_key y.0.pending ≡ None) same empty
    nowhere h (suc g) x there = h g x there

    later : (t : Time) → r ≡ Some t → (g : ℕ) (x : Gone) (key : Key) → slice_get (group ∷ groups) g ≡ Some x →
        first_key x.0.pending ≡ Some key → t.0 ≤ key.time.0
    later t h zero x key there held = absurd (
        let same : group ≡ x = (let d : Some group ≡ Some x = there in cc) in
        let d : None ≡ Some key = sym empty ∙ ap (λ (y : Gone). first_key y.0.pending) same ∙ held in cc)
    later t h (suc g) x key there held = is.least t h g x key there held

fold-key : (acc : Option Time) (group : Gone) (key : Key) (groups : List Gone) (r : Option Time) → first_key group.0.pending ≡ Some key →
    IsFold (sooner_time key.time acc) groups r → IsFold acc (group ∷ groups) r
fold-key acc group key groups r held is = record {
  none = λ none. absurd (let d : Some now.result ≡ None = sym now.is ∙ (is.none none).0 in cc);
  some = λ t h. elim (is.some t h) [
    | inl there ↦
        let same : now.result ≡ there.0 = (let d : Some now.result ≡ Some there.0 = sym now.is ∙ there.1 in cc) in
        let at : now.result.0 ≡ t.0 = ap (λ (x : Time). x.0) same ∙ there.2 in
        elim now.one [
          | inl old ↦ inl (old.0, old.1, old.2 ∙ at)
          | inr new ↦ inr (0, group, key, refl, held, new ∙ at)
        ]
    | inr there ↦ inr (suc there.0, there.1, there.2, there.3, there.4, there.5)
  ];
  first = λ t a h old. let low = is.first t now.result h now.is in let more = now.others a old in omega arith;
  least = later;
}
  where
    now : Sooner key.time acc (sooner_time key.time acc)
    now = sooner-is key.time acc

    later : (t : Time) → r ≡ Some t → (g : ℕ) (x : Gone) (k : Key) → slice_get (group ∷ groups) g ≡ Some x →
        first_key x.0.pending ≡ Some k → t.0 ≤ k.time.0
    later t h zero x k there at =
        let same : group ≡ x = (let d : Some group ≡ Some x = there in cc) in
        let keys : key ≡ k = (let d : Some key ≡ Some k = sym held ∙ ap (λ (y : Gone). first_key y.0.pending) same ∙ at in cc) in
        let times : key.time.0 ≡ k.time.0 = ap (λ (y : Key). y.time.0) keys in
        let low = is.first t now.result h now.is in let more = now.low in omega arith
    later t h (suc g) x k there at = is.least t h g x k there at

fold-is : (groups : List Gone) (acc : Option Time) →
    IsFold acc groups (fold (λ least group. sooner_of least (first_key group.0.pending)) acc groups)
fold-is [] acc = record {
  none = λ none. (none, λ g group there. absurd (let low = slice_get_within {A = Gone} [] g group there in omega arith));
  some = λ t h. inl (t, h, refl);
  first = λ t a h held. let e : t ≡ a = (let d : Some t ≡ Some a = sym h ∙ held in cc) in let f = ap (λ (x : Time). x.0) e in omega arith;
  least = λ t h g group key there held. absurd (let low = slice_get_within {A = Gone} [] g group there in omega arith);
}
fold-is (group ∷ groups) acc = go (fold-is groups) (first_key group.0.pending) refl
  where
    go : ((more : Option Time) → IsFold more groups (fold (λ least group. sooner_of least (first_key group.0.pending)) more groups)) →
        (o : Option Key) → first_key group.0.pending ≡ o →
        IsFold acc (group ∷ groups) (fold (λ least group. sooner_of least (first_key group.0.pending)) (sooner_of acc (first_key group.0.pending)) groups)
    go rest None is = fold-none acc group groups _ is
        (subst (λ (o : Option Key). IsFold acc groups (fold (λ least group. sooner_of least (first_key group.0.pending)) (sooner_of acc o) groups)) (sym is)
        (rest acc))
    go rest (Some key) is = fold-key acc group key groups _ is
        (subst (λ (o : Option Key). IsFold (sooner_time key.time acc) groups (fold (λ least group. sooner_of least (first_key group.0.pending)) (sooner_of acc o) groups)) (sym is)
        (rest (sooner_time key.time acc)))

-- the first of some events
head-key : (events : List (Event (Load Packet))) (key : Key) → first_key events ≡ Some key → (e : Event (Load Packet)) × IsIn e events × (e.key ≡ key)
head-key [] key is = absurd (let d : None ≡ Some key = is in cc)
head-key (e ∷ es) key is = (e, inl refl, let d : Some e.key ≡ Some key = is in cc)

-- it comes no later than the others
head-first : (events : List (Event (Load Packet))) → IsRising (λ e. e.key) events → (x : Event (Load Packet)) → IsIn x events →
    (key : Key) × (first_key events ≡ Some key) × (key.time.0 ≤ x.key.time.0)
head-first [] rising x i = absurd i
head-first (e ∷ es) rising x (inl same) = (e.key, refl, let t = ap (λ (y : Event (Load Packet)). y.key.time.0) same in omega arith)
head-first (e ∷ es) rising x (inr i) = (e.key, refl, before-time e.key x.key (in-all (λ (y : Event (Load Packet)). before e.key y.key ≡ true) es rising.0 x i))

-- no event comes before the stop, where the first doesn't
pub none-below : (stop : ℕ) (events : List (Event (Load Packet))) → AllByRecursion (λ e. stop ≤ e.key.time.0) events → first (below stop) events ≡ None
unfolding first
none-below stop [] high = refl
none-below stop (e ∷ es) high = rw (le-ltb e.key.time.0 stop high.0) (none-below stop es high.1)

pub first-here : (stop : ℕ) (e : Event (Load Packet)) (es : List (Event (Load Packet))) → e.key.time.0 < stop → first (below stop) (e ∷ es) ≡ Some e
unfolding first
first-here stop e es low = rw (lt-ltb e.key.time.0 stop low) refl

module _ (w : PlainWorld) (cut : Cut) (groups : List Gone) (written : List (Firing Text)) (rounds last : ℕ)
    (at : Between w cut (lps_of groups) written rounds last) where
  -- the events of a group are pending in the world
  in-world : (g : ℕ) (group : Gone) (e : Event (Load Packet)) → slice_get groups g ≡ Some group → IsIn e group.0.pending → IsIn e at.next.world.pending
  in-world g group e there i = ((at.next.are 0).pending e).1 (
    g,
    inl (subst (λ (o : Option PlainLp). IsIn e (part_at o).world.pending)
        (sym (at-group groups g group there)) i),
  )

  -- and those of the world in a group
  in-group : (e : Event (Load Packet)) → IsIn e at.next.world.pending → (g : ℕ) × (group : Gone) × (slice_get groups g ≡ Some group) × IsIn e group.0.pending
  in-group e i = let there = ((at.next.are 0).pending e).0 i in go there.0 (slice_get (lps_of groups) there.0) refl there.1
    where
      go : (g : ℕ) (o : Option PlainLp) → slice_get (lps_of groups) g ≡ o → IsIn e (part_at o).world.pending ⊎ IsIn e (part_at o).sent →
          (h : ℕ) × (group : Gone) × (slice_get groups h ≡ Some group) × IsIn e group.0.pending
      go g None is (inl none) = absurd none
      go g None is (inr none) = absurd none
      go g (Some lp) is (inl j) = let group = group-at groups g lp is in (g, group.0, group.1, subst (λ (x : PlainLp). IsIn e x.pending) group.2 j)
      go g (Some lp) is (inr j) = absurd (subst (λ (l : List (Event (Load Packet))). IsIn e l) (at.sends g lp is) j)

  rising-group : (g : ℕ) (group : Gone) → slice_get groups g ≡ Some group → IsRising (λ e. e.key) group.0.pending
  rising-group g group there = subst (λ (o : Option PlainLp). IsRising (λ (e : Event (Load Packet)). e.key) (part_at o).world.pending)
      (at-group groups g group there) ((at.next.are 0).rising g)

  folded : IsFold None groups (least_time groups)
  folded = fold-is groups None

  -- each event of the world comes no sooner than the least first event of the groups
  no-sooner : (t : Time) → least_time groups ≡ Some t → (e : Event (Load Packet)) → IsIn e at.next.world.pending → t.0 ≤ e.key.time.0
  no-sooner t is e i =
      let there = in-group e i in
      let head = head-first there.1.0.pending (rising-group there.0 there.1 there.2) e there.3 in
      let low = folded.least t is there.0 there.1 head.0 there.2 head.1 in
      let later = head.2 in omega arith

  -- a window begins at the least event of the world
  pub begins-at : (stop time : Time) → Some time ≡ before_stop stop (least_time groups) → w.stop ≡ stop →
      (least : Event (Load Packet)) × (first (below w.stop.0) at.next.world.pending ≡ Some least) × (least.key.time.0 ≡ time.0)
  begins-at stop time is at_stop = go (least_time groups) refl is
    where
      first-of : (t : Time) → least_time groups ≡ Some t → t.0 < stop.0 → (es : List (Event (Load Packet))) → at.next.world.pending ≡ es →
          (x : Event (Load Packet)) → IsIn x es → x.key.time.0 ≡ t.0 →
          (least : Event (Load Packet)) × (first (below w.stop.0) at.next.world.pending ≡ Some least) × (least.key.time.0 ≡ t.0)
      first-of t is low [] same x i x_at = absurd i
      first-of t is low (e ∷ es) same x i x_at =
          let rising = subst (λ (l : List (Event (Load Packet))). IsRising (λ y. y.key) l) same at.next.comes.sound.rising in
          let head = head-first (e ∷ es) rising x i in
          let keys : e.key ≡ head.0 = (let d : Some e.key ≡ Some head.0 = head.1 in cc) in
          let times = ap (λ (k : Key). k.time.0) keys in
          let low_x = head.2 in
          let high = no-sooner t is e (subst (λ (l : List (Event (Load Packet))). IsIn e l) (sym same) (inl refl)) in
          let stops = ap (λ (s : Time). s.0) at_stop in
          let e_at : e.key.time.0 ≡ t.0 = omega arith in
          (e, ap (first (below w.stop.0)) same ∙ first-here w.stop.0 e es (omega arith), e_at)

      found : (t : Time) → least_time groups ≡ Some t → t.0 < stop.0 →
          (least : Event (Load Packet)) × (first (below w.stop.0) at.next.world.pending ≡ Some least) × (least.key.time.0 ≡ t.0)
      found t is low = elim (folded.some t is) [
        | inl none ↦ absurd (let d : None ≡ Some none.0 = none.1 in cc)
        | inr there ↦
            let head = head-key there.1.0.pending there.2 there.4 in
            let held = in-world there.0 there.1 head.0 there.3 head.1 in
            let time_is : head.0.key.time.0 ≡ t.0 = ap (λ (k : Key). k.time.0) head.2 ∙ there.5 in
            first-of t is low at.next.world.pending refl head.0 held time_is
      ]

      go : (o : Option Time) → least_time groups ≡ o → Some time ≡ before_stop stop o →
          (least : Event (Load Packet)) × (first (below w.stop.0) at.next.world.pending ≡ Some least) × (least.key.time.0 ≡ time.0)
      go None none h = absurd (let d : Some time ≡ None = h in cc)
      go (Some t) t_is h = elim (cases_Bool (nat_lt t.0 stop.0)) [
        | inl low ↦
            let same : Some time ≡ Some t = h ∙ rw low refl in
            let times : time ≡ t = (let d : Some time ≡ Some t = same in cc) in
            let f = found t t_is (ltb-true t.0 stop.0 low) in
            (f.0, f.1, f.2 ∙ ap (λ (x : Time). x.0) (sym times))
        | inr high ↦ absurd (let none : Some time ≡ None = h ∙ rw high refl in cc)
      ]

  -- where no window begins, no group has an event left below the stop
  pub none-begins : (stop : Time) → None ≡ before_stop stop (least_time groups) → w.stop ≡ stop →
      (g : ℕ) (lp : PlainLp) → slice_get (lps_of groups) g ≡ Some lp → first (below w.stop.0) lp.pending ≡ None
  none-begins stop is at_stop g lp there = none-below w.stop.0 lp.pending (all-high lp.pending (λ e i. high e i))
    where
      group : (x : Gone) × (slice_get groups g ≡ Some x) × (lp ≡ x.0)
      group = group-at groups g lp there

      late : (o : Option Time) → least_time groups ≡ o → None ≡ before_stop stop o → (e : Event (Load Packet)) → IsIn e lp.pending → w.stop.0 ≤ e.key.time.0
      late None none h e i = absurd (
          let mine = subst (λ (x : PlainLp). IsIn e x.pending) group.2 i in
          let head = head-first group.0.0.pending (rising-group g group.0 group.1) e mine in
          let d : None ≡ Some head.0 = sym ((folded.none none).1 g group.0 group.1) ∙ head.1 in cc)
      late (Some t) t_is h e i = elim (cases_Bool (nat_lt t.0 stop.0)) [
        | inl low ↦ absurd (let d : None ≡ Some t = h ∙ rw low refl in cc)
        | inr past ↦
            let mine = subst (λ (x : PlainLp). IsIn e x.pending) group.2 i in
            let low = no-sooner t t_is e (in-world g group.0 e group.1 mine) in
            let s = ap (λ (x : Time). x.0) at_stop in
            let b = ltb-false t.0 stop.0 past in omega arith
      ]

      high : (e : Event (Load Packet)) → IsIn e lp.pending → w.stop.0 ≤ e.key.time.0
      high e i = late (least_time groups) refl is e i

      all-high : (es : List (Event (Load Packet))) → ((e : Event (Load Packet)) → IsIn e es → w.stop.0 ≤ e.key.time.0) →
          AllByRecursion (λ e. w.stop.0 ≤ e.key.time.0) es
      all-high [] h = tt
      all-high (e ∷ es) h = (h e (inl refl), all-high es (λ x i. h x (inr i)))
