-- A group of nodes is a part of the rounds, by the number of its group.
use Rattle.std.proofs.Common.{◌≡◌, ℕ, ◌+◌, ◌<◌, ◌==◌, ◌&&◌, Bool, true, false, not, cond, zero, suc, List, [], ◌∷◌, ◌++◌, filter, length, Option, Some, None, refl, sym, ap, ◌∙◌, subst, arith, inl, inr, nat_lt}
use Rattle.std.proofs.lemmas.Bool.{cases_Bool, eq-eqb, eqb-true, ltb-true}
use Rattle.std.specs.List.{AllByRecursion}
use Rattle.sim_base.specs.Packet.{Packet}
use Rattle.csma_dev.specs.declared.bus.Bus.{Bus}
use Rattle.sim_base.specs.KeyOrder.{IsRising}
use Rattle.round_core.specs.Laws.{IsOwed, IsSound}
use Rattle.round_core.specs.Order.{insert_each}
use Rattle.round_core.specs.Parts.{AreParts, IsIn, IsPartSound, PartRuns, is_for, part_after, part_firings, part_next}
use Rattle.round_core.specs.Rounds.{below}
use Rattle.round_core.specs.World.{Event, Ready, next, scheduled, without_first}
use Rattle.round_core.proofs.Commute.{ready-owed}
use Rattle.round_core.proofs.ListLaws.{all-map, first-holds}
use Rattle.round_core.proofs.Members.{all-in, in-all}
use Rattle.round_core.proofs.PartSound.{part-sound}
use Rattle.round_core.proofs.Settling.{Found, next-found}
use Rattle.node_step.specs.declared.loads.Load.{Load}
use Rattle.node_step.specs.Firing.{Text}
use Rattle.node_step.specs.Node.{PlainNode}
use Rattle.node_step.specs.Part.{has}
use Rattle.node_rules.specs.Health.{health}
use Rattle.node_rules.specs.Shape.{Shape}
use Rattle.node_rules.specs.Rules.{rules}
use Rattle.node_rules.proofs.RuleLaws.{lawful}
use Rattle.round_kernel.specs.Groups.{GroupPart, GroupWorld, HasNodes}
use Rattle.round_kernel.proofs.Fresh.{IsFresh, fresh-after}
use Rattle.lp_run.specs.Lp.{IsWellIn, PlainLp, beside, here, own_group, part_of}
use Rattle.lp_run.proofs.Others.{after-beside, next-beside}
use Rattle.lp_run.proofs.Ready.{group-has}

own-test : (b : Bool) → (cond b 0 1 == 0) ≡ b
own-test true = refl
own-test false = refl

and-left : (a b : Bool) → (a && b) ≡ true → a ≡ true
and-left true b h = refl
and-left false b h = h

filter-same : {A : Type 0} (p q : A → Bool) (xs : List A) → AllByRecursion (λ x. p x ≡ q x) xs → filter p xs ≡ filter q xs
filter-same p q [] same = refl
filter-same p q (x ∷ xs) same = ap (λ b. cond b (x ∷ filter p xs) (filter p xs)) same.0
    ∙ ap (λ l. cond (q x) (x ∷ l) l) (filter-same p q xs same.1)

module _ (shape : Shape) (limit : ℕ) (group_of : ℕ → ℕ) (g : ℕ) (lp : PlainLp) (is : HasNodes shape limit group_of g lp)
    (others : ℕ → PlainNode) where
  abbrev own : ℕ → ℕ
  own = own_group lp.part

  same-for : (e : Event (Load Packet)) → e.key.node.0 < shape.nodes → is_for own 0 e ≡ is_for group_of g e
  same-for e low = own-test (has e.key.node.0 lp.part) ∙ is.mine e.key.node.0 low

  -- a part of the group is sound, beside nodes of other groups
  abbrev pub SoundBeside : GroupPart → Type 0
  SoundBeside p = IsPartSound (rules limit shape) (health shape) own 0 (beside (here lp) others p)

  module _ (end : ℕ) (p : GroupPart) (r : Ready PlainNode Bus (Load Packet) Text) (sound : SoundBeside p)
      (ready_is : next (rules limit shape) (below end) p.world ≡ Some r) where
    all_here : AllByRecursion (λ (e : Event (Load Packet)). here lp e.key.node.0 ≡ true) p.world.pending
    all_here = all-map (λ (e : Event (Load Packet)). own e.key.node.0 ≡ 0) (λ (e : Event (Load Packet)). here lp e.key.node.0 ≡ true)
        (λ e mine. group-has (has e.key.node.0 lp.part) mine) p.world.pending sound.own

    found : Found (rules limit shape) (below end) p.world r
    found = next-found (rules limit shape) (below end) p.world r ready_is

    target_here : here lp r.event.key.node.0 ≡ true
    target_here = first-holds (below end) (λ (x : Event (Load Packet)). here lp x.key.node.0 ≡ true) p.world.pending r.event all_here found.event

    is_beside : next (rules limit shape) (below end) (beside (here lp) others p).world ≡ Some r
    is_beside = next-beside (rules limit shape) (here lp) others end p all_here ∙ ready_is

    pub owed-beside : IsOwed (rules limit shape) (health shape) r.event ((beside (here lp) others p).world.nodes r.event.key.node.0) r.effect
    owed-beside = ready-owed (rules limit shape) (health shape) (lawful limit shape) (below end) (beside (here lp) others p).world r sound.health is_beside

    pub reads : (beside (here lp) others p).world.nodes r.event.key.node.0 ≡ p.world.nodes r.event.key.node.0
    reads = rw target_here refl

    events : List (Event (Load Packet))
    events = scheduled r.event.key ((rules limit shape).counter (p.world.nodes r.event.key.node.0)) r.effect.sends

    events-ok : AllByRecursion (health shape).event (scheduled r.event.key ((rules limit shape).counter (p.world.nodes r.event.key.node.0)) r.effect.sends)
    events-ok = subst (λ (x : PlainNode). AllByRecursion (health shape).event (scheduled r.event.key ((rules limit shape).counter x) r.effect.sends)) reads owed-beside.events_ok

    pub after-same : part_after (rules limit shape) own 0 end p r ≡ part_after (rules limit shape) group_of g end p r
    unfolding part_after
    after-same =
        let events = scheduled r.event.key ((rules limit shape).counter (p.world.nodes r.event.key.node.0)) r.effect.sends in
        let same = all-map (health shape).event (λ (e : Event (Load Packet)). is_for own 0 e ≡ is_for group_of g e) (λ e ok. same-for e ok.known) events events-ok in
        let kept = filter-same (is_for own 0) (is_for group_of g) events same in
        let sent = filter-same (λ e. not (is_for own 0 e)) (λ e. not (is_for group_of g e)) events
        (all-map (λ (e : Event (Load Packet)). is_for own 0 e ≡ is_for group_of g e) (λ (e : Event (Load Packet)). not (is_for own 0 e) ≡ not (is_for group_of g e))
        (λ e s. ap not s) events same) in
        λ i. record {
          world = record (part_after (rules limit shape) own 0 end p r).world {
            pending = insert_each (λ e. e.key) (kept i) (without_first (below end) p.world.pending);
          };
          sent = p.sent ++ sent i;
        }

    -- the node is the group's
    pub group-of-target : group_of r.event.key.node.0 ≡ g
    group-of-target =
        let ok = first-holds (below end) (health shape).event p.world.pending r.event sound.health.pending found.event in
        eqb-true (group_of r.event.key.node.0) g (sym (is.mine r.event.key.node.0 ok.known) ∙ target_here)

    pub sound-after : SoundBeside (part_after (rules limit shape) own 0 end p r)
    sound-after = let Q : GroupPart → Type 0 = λ x. IsPartSound (rules limit shape) (health shape) own 0 x in
        subst Q (after-beside (rules limit shape) (here lp) others own 0 end p r target_here)
        (part-sound (rules limit shape) (health shape) (lawful limit shape) own 0 end (beside (here lp) others p) r sound is_beside)

  -- its firings are those of the part of its number
  pub firings-same : (end n : ℕ) (p : GroupPart) → SoundBeside p →
      part_firings (rules limit shape) own 0 end n p ≡ part_firings (rules limit shape) group_of g end n p
  unfolding part_firings
  firings-same end zero p sound = refl
  firings-same end (suc n) p sound = go (firings-same end n) (next (rules limit shape) (below end) p.world) refl
    where
      go : ((q : GroupPart) → SoundBeside q → part_firings (rules limit shape) own 0 end n q ≡ part_firings (rules limit shape) group_of g end n q) →
          (o : Option (Ready PlainNode Bus (Load Packet) Text)) → next (rules limit shape) (below end) p.world ≡ o →
          part_firings (rules limit shape) own 0 end n (part_next (rules limit shape) own 0 end p o)
          ≡ part_firings (rules limit shape) group_of g end n (part_next (rules limit shape) group_of g end p o)
      go rest None none = rest p sound
      go rest (Some r) ready_is = rest (part_after (rules limit shape) own 0 end p r) (sound-after end p r sound ready_is)
          ∙ ap (part_firings (rules limit shape) group_of g end n) (after-same end p r sound ready_is)

  pub runs-same : (end : ℕ) (p left : GroupPart) → SoundBeside p → PartRuns (rules limit shape) own 0 end p left →
      PartRuns (rules limit shape) group_of g end p left
  runs-same end p left sound runs = record {
    steps = runs.steps;
    reached = sym (firings-same end runs.steps p sound) ∙ runs.reached;
    rests = runs.rests;
  }

  -- beside the nodes of the world, a group that is one of its parts is sound
  module _ (v : GroupWorld) (sound : IsSound (rules limit shape) (health shape) v) (end : ℕ) (parts : ℕ → GroupPart)
      (are : AreParts (rules limit shape) group_of end parts v) (at : parts g ≡ part_of lp) where
    mine-group : (n : ℕ) → n < shape.nodes → has n lp.part ≡ true → group_of n ≡ g
    mine-group n low h = eqb-true (group_of n) g (sym (is.mine n low) ∙ h)

    known-here : (n : ℕ) → has n lp.part ≡ true → n < shape.nodes
    known-here n h = let low : n < length lp.part.places = ltb-true n (length lp.part.places) (and-left (nat_lt n (length lp.part.places)) _ h) in
        let p = is.places in omega arith

    world-node : (n : ℕ) → cond (has n lp.part) ((part_of lp).world.nodes n) (v.nodes n) ≡ v.nodes n
    world-node n = elim (cases_Bool (has n lp.part)) [
      | inl h ↦
          let own_group_is : group_of n ≡ g = mine-group n (known-here n h) h in
          rw h (ap (λ (p : GroupPart). p.world.nodes n) (sym at) ∙ ap (λ (k : ℕ). (parts k).world.nodes n) (sym own_group_is) ∙ are.nodes n)
      | inr h ↦ rw h refl
    ]

    pending-in : (e : Event (Load Packet)) → IsIn e lp.pending → IsIn e v.pending
    pending-in e i = (are.pending e).1 (g, inl (subst (λ (p : GroupPart). IsIn e p.world.pending) (sym at) i))

    pub sound-beside : IsPartSound (rules limit shape) (health shape) own 0 (beside (here lp) v.nodes (part_of lp))
    sound-beside = record {
      health = record {
        nodes = λ n. subst (λ (x : PlainNode). (health shape).node n x) (sym (world-node n)) (sound.health.nodes n);
        lans = λ l. tt;
        pending = all-in (health shape).event lp.pending (λ e i. in-all (health shape).event v.pending sound.health.pending e (pending-in e i));
      };
      rising = subst (λ (p : GroupPart). IsRising (λ (e : Event (Load Packet)). e.key) p.world.pending) at (are.rising g);
      own = all-in (λ (e : Event (Load Packet)). own e.key.node.0 ≡ 0) lp.pending (λ e i.
          let known = (in-all (health shape).event v.pending sound.health.pending e (pending-in e i)).known in
          let group = in-all (λ (x : Event (Load Packet)). group_of x.key.node.0 ≡ g) lp.pending
          (subst (λ (p : GroupPart). AllByRecursion (λ (x : Event (Load Packet)). group_of x.key.node.0 ≡ g) p.world.pending) at (are.own g)) e i in
          let h : has e.key.node.0 lp.part ≡ true = is.mine e.key.node.0 known ∙ eq-eqb (group_of e.key.node.0) g group in rw h refl);
      counted = all-in (λ (e : Event (Load Packet)). own e.key.by.0 ≡ 0 →
          e.key.count < (cond (has e.key.by.0 lp.part) ((part_of lp).world.nodes e.key.by.0) (v.nodes e.key.by.0)).scheduled) lp.pending (λ e i by.
          subst (λ (x : PlainNode). e.key.count < x.scheduled) (sym (world-node e.key.by.0))
          (in-all (λ (x : Event (Load Packet)). x.key.count < (v.nodes x.key.by.0).scheduled) v.pending sound.counted e (pending-in e i)));
    }

    -- and well
    pub well-beside : IsWellIn shape lp
    well-beside = record {
      others = v.nodes;
      nodes = sym is.places;
      lans = is.lans;
      apart = is.apart;
      sound = subst (λ (x : ℕ). IsPartSound (rules x shape) (health shape) own 0 (beside (here lp) v.nodes (part_of lp))) (sym is.limit_is) sound-beside;
    }

  -- what it has sent in a window is new
  pub fresh-firings : (end n : ℕ) (nodes : ℕ → PlainNode) (pending : List (Event (Load Packet))) (p : GroupPart) → SoundBeside p →
      IsFresh (rules limit shape) group_of g end nodes pending p →
      IsFresh (rules limit shape) group_of g end nodes pending (part_firings (rules limit shape) group_of g end n p)
  unfolding part_firings
  fresh-firings end zero nodes pending p sound fresh = fresh
  fresh-firings end (suc n) nodes pending p sound fresh = go (fresh-firings end n nodes pending) (next (rules limit shape) (below end) p.world) refl
    where
      go : ((q : GroupPart) → SoundBeside q → IsFresh (rules limit shape) group_of g end nodes pending q →
          IsFresh (rules limit shape) group_of g end nodes pending (part_firings (rules limit shape) group_of g end n q)) →
          (o : Option (Ready PlainNode Bus (Load Packet) Text)) → next (rules limit shape) (below end) p.world ≡ o →
          IsFresh (rules limit shape) group_of g end nodes pending (part_firings (rules limit shape) group_of g end n (part_next (rules limit shape) group_of g end p o))
      go rest None none = rest p sound fresh
      go rest (Some r) ready_is =
          let same = after-same end p r sound ready_is in
          let own_target = group-of-target end p r sound ready_is in
          let counted = subst (λ (x : PlainNode). (rules limit shape).counter r.effect.node ≡ (rules limit shape).counter x + length r.effect.sends)
          (reads end p r sound ready_is) (owed-beside end p r sound ready_is).counted in
          rest (part_after (rules limit shape) group_of g end p r)
          (subst (λ (x : GroupPart). SoundBeside x) same (sound-after end p r sound ready_is))
          (fresh-after (rules limit shape) group_of g end nodes pending p r fresh own_target counted)
