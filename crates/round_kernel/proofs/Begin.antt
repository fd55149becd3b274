-- The rounds begin with the parts of the world.
use Rattle.std.proofs.Common.{◌≡◌, ℕ, ◌<◌, ◌≤◌, ◌==◌, ◌&&◌, ◌⊎◌, Bool, true, false, zero, suc, List, [], ◌∷◌, filter, length, map, nat_lt, Option, Some, None, get_or, slice_get, slice_index, refl, sym, ap, ◌∙◌, subst, arith, inl, inr}
use Rattle.std.proofs.lemmas.Bool.{cases_Bool, cases_lt, eq-eqb, eqb-true, le-ltb, lt-ltb, ltb-true}
use Rattle.std.proofs.lemmas.Bool.Decides.{eqb_tells}
use Rattle.std.proofs.lemmas.List.{length-map, length-replicate}
use Rattle.std.proofs.lemmas.Option.{slice_get-get_or, slice_get-map, slice_get_past}
use Rattle.std.specs.Option.{option_map}
use Rattle.std.specs.Prelude.{replicate}
use Rattle.std.specs.List.{AllByRecursion}
use Rattle.sim_base.specs.Packet.{Packet}
use Rattle.csma_dev.specs.declared.bus.Bus.{Bus}
use Rattle.sim_base.specs.KeyOrder.{IsRising}
use Rattle.partition_cut.specs.declared.network.Cut.{Cut}
use Rattle.round_core.specs.Opening.{opening}
use Rattle.round_core.specs.Order.{in_key_order}
use Rattle.round_core.specs.Parts.{AreParts, IsIn, is_for}
use Rattle.round_core.specs.World.{Event, IsPast}
use Rattle.round_core.proofs.HandOver.{empty-past}
use Rattle.round_core.proofs.Members.{all-in, filter-in, in-filter, in-insert_each, in-insert_each_new}
use Rattle.round_core.proofs.OneGroup.{first-round}
use Rattle.round_core.proofs.OpeningLaws.{opening-sound}
use Rattle.node_step.specs.declared.loads.Event.{Event as NodeEvent}
use Rattle.node_step.specs.declared.loads.Load.{Load}
use Rattle.node_step.specs.Firing.{bus_at, free}
use Rattle.node_step.specs.Part.{PlainPart, has, place_of}
use Rattle.node_rules.specs.Health.{health}
use Rattle.node_rules.specs.Rules.{rules}
use Rattle.node_rules.specs.Worlds.{event_of, node_at, node_or}
use Rattle.node_rules.proofs.RuleLaws.{lawful}
use Rattle.lp_run.specs.Lp.{PlainLp, nodes_of, part_of}
use Rattle.sim_world.specs.Opening.{OpensRuns}
use Rattle.sim_world.specs.Shares.{AreSplit, IsPartOf, is_of}
use Rattle.sim_world.specs.World.{PlainWorld}
use Rattle.plain_kernel.specs.Run.{shape_in, start}
use Rattle.round_kernel.specs.Cut.{Fits, group_of, rounds_cut}
use Rattle.round_kernel.proofs.Fresh.{own-filter}
use Rattle.round_kernel.specs.Groups.{Between, GroupPart, HasNodes, group_made, nothing, part_at, parts_of}
use Rattle.round_kernel.proofs.Logs.{rising-each}
use Rattle.round_kernel.proofs.RoundLaws.{empty_lp, in-groups}

-- what an option maps to comes from what it holds
pub some-mapped : {A B : Type 0} (f : A → B) (o : Option A) (y : B) → option_map f o ≡ Some y → (x : A) × (o ≡ Some x) × (y ≡ f x)
some-mapped f None y is = absurd (let d : None ≡ Some y = is in cc)
some-mapped f (Some x) y is = (x, refl, let d : Some (f x) ≡ Some y = is in cc)

-- no frame has used a bus
unused : (lans lan : ℕ) → bus_at (replicate lans free) lan ≡ free
unused zero lan = refl
unused (suc lans) zero = refl
unused (suc lans) (suc lan) = unused lans lan

pub both-true : (a b : Bool) → (a && b) ≡ true → (a ≡ true) × (b ≡ true)
both-true true b h = (refl, h)
both-true false b h = absurd (let d : false ≡ true = h in cc)

-- the events of a group are the same before and after they are seen as those of the world
pub of-group : (numbers : List ℕ) (g : ℕ) (events : List (NodeEvent Packet)) →
    map event_of (filter (is_of numbers g) events) ≡ filter (is_for (slice_index numbers) g) (map event_of events)
of-group numbers g [] = refl
of-group numbers g (e ∷ es) = elim (cases_Bool (is_of numbers g e)) [
  | inl mine ↦ rw mine (ap (λ l. event_of e ∷ l) (of-group numbers g es))
  | inr other ↦ rw other (of-group numbers g es)
]

module _ (w : PlainWorld) (cut : Cut) (g : ℕ) (m : PlainPart × List (NodeEvent Packet)) (is : IsPartOf w cut.group_of.items g m) where
  has-mine : (n : ℕ) → n < length w.nodes → has n m.0 ≡ (group_of cut n == g)
  has-mine n low = elim (eqb_tells (group_of cut n) g) [
    | inl e ↦
        let there = is.placed.known n (omega arith) low e.1 in
        rw (e.0, lt-ltb n (length m.0.places) (let c = is.placed.count in omega arith), lt-ltb (place_of n m.0) (length m.0.nodes) there.0) refl
    | inr e ↦
        let away = is.placed.elsewhere n low (inr e.1) in
        let past : nat_lt (place_of n m.0) (length m.0.nodes) ≡ false = le-ltb (place_of n m.0) (length m.0.nodes) (let f = is.placed.few in omega arith) in
        rw (e.0, lt-ltb n (length m.0.places) (let c = is.placed.count in omega arith), past) refl
  ]

  is-mine : (n : ℕ) → has n m.0 ≡ true → (n < length w.nodes) × (group_of cut n ≡ g)
  is-mine n h =
      let both = both-true (nat_lt n (length m.0.places)) (nat_lt (place_of n m.0) (length m.0.nodes)) h in
      let low : n < length w.nodes = (let l = ltb-true n (length m.0.places) both.0 in let c = is.placed.count in omega arith) in
      (low, eqb-true (group_of cut n) g (sym (has-mine n low) ∙ h))

  pub made-nodes : HasNodes (shape_in w) w.limit (group_of cut) g (group_made m)
  made-nodes = record {
    limit_is = is.limit;
    places = is.placed.count;
    lans = ap length is.lans ∙ length-replicate w.lans free;
    mine = has-mine;
    apart = λ n k h j same. let a = is-mine n h in let b = is-mine k j in
        is.placed.apart n k (omega arith) a.0 (omega arith) b.0 a.1 b.1 same;
  }

  -- its nodes are those of the world
  pub same-nodes : (n : ℕ) → group_of cut n ≡ g → nodes_of m.0 n ≡ node_at w.nodes n
  unfolding nodes_of
  same-nodes n group = elim (cases_lt n (length w.nodes)) [
    | inl low ↦
        let h : has n m.0 ≡ true = has-mine n low ∙ eq-eqb (group_of cut n) g group in
        rw h (ap (node_or n) (is.placed.known n (omega arith) low group).1)
    | inr past ↦
        let h : has n m.0 ≡ false = elim (cases_Bool (has n m.0)) [
          | inl yes_it ↦ absurd (let low = (is-mine n yes_it).0 in omega arith)
          | inr no_it ↦ no_it
        ] in
        rw h (ap (node_or n) (sym (slice_get_past w.nodes n past)))
  ]

  pending-is : (group_made m).pending ≡ in_key_order (λ e. e.key) (filter (is_for (group_of cut) g) (map event_of w.first))
  pending-is = ap (λ l. in_key_order (λ (e : Event (Load Packet)). e.key) (map event_of l)) is.first
      ∙ ap (in_key_order (λ (e : Event (Load Packet)). e.key)) (of-group cut.group_of.items g w.first)

  pub in-made : (e : Event (Load Packet)) → IsIn e (group_made m).pending → IsIn e (map event_of w.first) × (group_of cut e.key.node.0 ≡ g)
  in-made e i = elim (in-insert_each (λ (x : Event (Load Packet)). x.key) e (filter (is_for (group_of cut) g) (map event_of w.first)) []
      (subst (λ (l : List (Event (Load Packet))). IsIn e l) pending-is i)) [
        | inl there ↦ let kept = filter-in (is_for (group_of cut) g) e (map event_of w.first) there in (kept.0, eqb-true (group_of cut e.key.node.0) g kept.1)
        | inr none ↦ absurd none
      ]

  pub made-in : (e : Event (Load Packet)) → IsIn e (map event_of w.first) → group_of cut e.key.node.0 ≡ g → IsIn e (group_made m).pending
  made-in e i mine = subst (λ (l : List (Event (Load Packet))). IsIn e l) (sym pending-is)
      (in-insert_each_new (λ (x : Event (Load Packet)). x.key) e (filter (is_for (group_of cut) g) (map event_of w.first)) []
      (in-filter (is_for (group_of cut) g) e (map event_of w.first) i (eq-eqb (group_of cut e.key.node.0) g mine)))

  pub made-rising : OpensRuns w → IsRising (λ e. e.key) (group_made m).pending
  made-rising opens = subst (λ (l : List (Event (Load Packet))). IsRising (λ e. e.key) l) (sym pending-is)
      (rising-each (λ (e : Event (Load Packet)). e.key) (filter (is_for (group_of cut) g) (map event_of w.first)) [] tt
      (own-filter (λ (e : Event (Load Packet)). e.key) (is_for (group_of cut) g) (map event_of w.first) opens.own_keys)
      (all-in _ (filter (is_for (group_of cut) g) (map event_of w.first)) (λ x i. tt)))

module _ (w : PlainWorld) (opens : OpensRuns w) (cut : Cut) (fits : Fits w cut) (parts : List (PlainPart × List (NodeEvent Packet)))
    (split : AreSplit w cut.group_of.items cut.groups parts) (lps : List PlainLp) (are : lps ≡ map group_made parts) where
  -- the part that a group was made of
  from-part : (g : ℕ) (lp : PlainLp) → slice_get lps g ≡ Some lp → (m : PlainPart × List (NodeEvent Packet)) × IsPartOf w cut.group_of.items g m × (lp ≡ group_made m)
  from-part g lp is =
      let found = some-mapped group_made (slice_get parts g) lp (sym (slice_get-map group_made parts g) ∙ ap (λ l. slice_get l g) (sym are) ∙ is) in
      (found.0, split.each g found.0 found.1, found.2)

  count-is : length lps ≡ cut.groups
  count-is = ap length are ∙ length-map parts group_made ∙ split.count

  -- there is each group
  has-group : (g : ℕ) → g < cut.groups → (lp : PlainLp) × (slice_get lps g ≡ Some lp)
  has-group g low = (get_or lps g empty_lp, slice_get-get_or lps g empty_lp (let c = count-is in omega arith))

  -- a fact of all groups that were made, and of none
  each-part : (P : ℕ → GroupPart → Type 0) → ((g : ℕ) (m : PlainPart × List (NodeEvent Packet)) → IsPartOf w cut.group_of.items g m → P g (part_of (group_made m))) →
      ((g : ℕ) → P g nothing) → (g : ℕ) → P g (parts_of lps g)
  each-part P some none g = go (slice_get lps g) refl
    where
      go : (o : Option PlainLp) → slice_get lps g ≡ o → P g (part_at o)
      go None is = none g
      go (Some lp) is = let m = from-part g lp is in subst (λ (x : PlainLp). P g (part_of x)) (sym m.2) (some g m.0 m.1)

  pub are-parts : (end : ℕ) → AreParts (rules w.limit (shape_in w)) (group_of cut) end (parts_of lps) (start w)
  unfolding opening
  are-parts end = record {
    nodes = λ n.
        let at = has-group (group_of cut n) (in-groups w cut fits n) in
        let m = from-part (group_of cut n) at.0 at.1 in
        ap (λ (o : Option PlainLp). (part_at o).world.nodes n) at.1 ∙ ap (λ (x : PlainLp). nodes_of x.part n) m.2
        ∙ same-nodes w cut (group_of cut n) m.0 m.1 n refl;
    lans = λ n l sits. each-part (λ g p. p.world.lans l ≡ free)
        (λ g m is. ap (λ (buses : List Bus). bus_at buses l) is.lans ∙ unused w.lans l) (λ g. refl) (group_of cut n);
    own = each-part (λ g p. AllByRecursion (λ e. group_of cut e.key.node.0 ≡ g) p.world.pending)
        (λ g m is. all-in (λ e. group_of cut e.key.node.0 ≡ g) (group_made m).pending (λ e i. (in-made w cut g m is e i).1)) (λ g. tt);
    rising = each-part (λ g p. IsRising (λ e. e.key) p.world.pending) (λ g m is. made-rising w cut g m is opens) (λ g. tt);
    late = each-part (λ g p. AllByRecursion (λ e. end ≤ e.key.time.0) p.sent) (λ g m is. tt) (λ g. tt);
    past = each-part (λ g p. IsPast p.world) (λ g m is. empty-past (part_of (group_made m)).world refl) (λ g. empty-past nothing.world refl);
    log_own = each-part (λ g p. AllByRecursion (λ f. group_of cut f.key.node.0 ≡ g) p.world.fired) (λ g m is. tt) (λ g. tt);
    pending = λ e. (
      (λ i.
          let first = elim (in-insert_each (λ (x : Event (Load Packet)). x.key) e (map event_of w.first) [] i) as (λ _. IsIn e (map event_of w.first)) [
            | inl there ↦ there
            | inr none ↦ absurd none
          ] in
          let at = has-group (group_of cut e.key.node.0) (in-groups w cut fits e.key.node.0) in
          let m = from-part (group_of cut e.key.node.0) at.0 at.1 in (
            group_of cut e.key.node.0,
            inl (subst (λ (o : Option PlainLp). IsIn e (part_at o).world.pending) (sym at.1)
                (subst (λ (x : PlainLp). IsIn e x.pending) (sym m.2) (made-in w cut (group_of cut e.key.node.0) m.0 m.1 e first refl))),
          )),
      (λ there. in-insert_each_new (λ (x : Event (Load Packet)). x.key) e (map event_of w.first) [] (came there.0 e there.1)),
    );
    fired = λ f. ((λ i. absurd i), (λ there. absurd (each-part (λ g p. IsIn f p.world.fired → ⊥) (λ g m is i. i) (λ g i. i) there.0 there.1)));
  }
    where
      came : (g : ℕ) (e : Event (Load Packet)) → (IsIn e (parts_of lps g).world.pending ⊎ IsIn e (parts_of lps g).sent) → IsIn e (map event_of w.first)
      came g e i = each-part (λ g p. (IsIn e p.world.pending ⊎ IsIn e p.sent) → IsIn e (map event_of w.first))
          (λ g m is j. elim j [
            | inl held ↦ (in-made w cut g m is e held).0
            | inr none ↦ absurd none
          ])
          (λ g j. elim j [
            | inl none ↦ absurd none
            | inr none ↦ absurd none
          ]) g i

  -- so the first round begins here
  pub begins : Between w cut lps [] 0 0
  unfolding opening
  begins = record {
    count = count-is;
    has = λ g lp is. let m = from-part g lp is in
        subst (λ (x : PlainLp). HasNodes (shape_in w) w.limit (group_of cut) g x) (sym m.2) (made-nodes w cut g m.0 m.1);
    sends = λ g lp is. ap (λ (x : PlainLp). x.sends) (from-part g lp is).2;
    lines = λ g lp is. ap (λ (x : PlainLp). x.lines) (from-part g lp is).2;
    fired = λ g lp is. ap (λ (x : PlainLp). x.fired) (from-part g lp is).2;
    next = first-round (rules w.limit (shape_in w)) (health (shape_in w)) (lawful w.limit (shape_in w)) w.stop.0 (start w) (rounds_cut w cut) (parts_of lps)
        (opening-sound (rules w.limit (shape_in w)) (health (shape_in w)) (node_at w.nodes) (λ lan. free) (map event_of w.first) opens) refl are-parts;
  }
