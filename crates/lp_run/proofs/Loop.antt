-- The loop of a group's firings.
use Rattle.std.specs.List.{AllByRecursion}
use Rattle.std.proofs.Common.{◌≡◌, ℕ, Bool, true, ◌+◌, ◌<◌, ◌≤◌, ◌&&◌, zero, suc, List, [], ◌∷◌, ◌++◌, length, map, refl, sym, ap, ◌∙◌, Some, None, cond, subst, arith, append_assoc, nat_lt, slice_index, length-append}
use Rattle.std.proofs.lemmas.Grind.{flat_map-append}
use Rattle.std.proofs.lemmas.List.{append-nil, map-append}
use Rattle.sim_base.specs.Packet.{Packet}
use Rattle.csma_dev.specs.declared.bus.Bus.{Bus}
use Rattle.layer_words.specs.Counting.{count_up}
use Rattle.round_core.specs.Bound.{IsBounded, most_firings}
use Rattle.round_core.specs.Laws.{IsLawful}
use Rattle.round_core.specs.Lines.{lines_of}
use Rattle.round_core.specs.Parts.{Part, PartRuns, IsPartSound, part_after, part_firings, part_next}
use Rattle.round_core.specs.Rounds.{below}
use Rattle.round_core.specs.World.{Event, Firing, Ready, Rules, next, after, reaction}
use Rattle.round_core.proofs.ListLaws.{all-map, first-holds}
use Rattle.round_core.proofs.PartSound.{part-more, part-sound}
use Rattle.round_core.proofs.Settling.{Found, next-found}
use Rattle.node_step.specs.declared.loads.Load.{Load}
use Rattle.node_step.specs.Firing.{Text}
use Rattle.node_step.specs.Node.{PlainNode}
use Rattle.node_step.specs.Part.{has, place_of}
use Rattle.node_rules.specs.Firings.{trace_line}
use Rattle.node_rules.specs.Health.{health}
use Rattle.node_rules.specs.Rules.{room, rules}
use Rattle.node_rules.specs.Shape.{Shape}
use Rattle.lp_run.specs.Lp.{PlainLp, HasFired, counted, IsWellIn, beside, here, own_group, part_of, unlogged_part}
use Rattle.lp_run.proofs.Others.{after-beside, next-beside, spends}
use Rattle.lp_run.proofs.Ready.{group-has}

abbrev GroupPart : Type 0
GroupPart = Part PlainNode Bus (Load Packet) Text

-- what the loop keeps: some firings of the group's part
pub record RunsIn (shape : Shape) (end : ℕ) (old now : PlainLp) : Type 0 where
  pub steps : ℕ
  pub fired : HasFired old now (part_firings (rules old.part.limit shape) (own_group old.part) 0 end steps (part_of old))
  pub well : IsWellIn shape now

-- in each network in which it began well
abbrev pub Runs : ℕ → PlainLp → PlainLp → Type 0
Runs end old now = (shape : Shape) → IsWellIn shape old → RunsIn shape end old now

-- how many firings are left at most
abbrev pub firings_left : PlainLp → ℕ
firings_left lp = most_firings (length lp.part.places) (room lp.part.limit) (part_of lp).world

-- the nodes that a part has are told by where they stand, and how many they are
group_by : List ℕ → ℕ → ℕ → ℕ
group_by places count n = cond (nat_lt n (length places) && nat_lt (slice_index places n) count) 0 1

pub same_group : (old new : PlainLp) (p : GroupPart) → HasFired old new p → own_group new.part ≡ own_group old.part
unfolding group_by
same_group old new p h =
    ap (λ (x : List ℕ). group_by x (length new.part.nodes)) h.places ∙ ap (group_by old.part.places) h.count

-- the log of a part tells neither what is next nor what it leaves
next-log : (rules : Rules PlainNode Bus (Load Packet) Text) (end : ℕ) (p : GroupPart) →
    next rules (below end) (unlogged_part p).world ≡ next rules (below end) p.world
unfolding next reaction
next-log rules end p = refl

after-log : (rules : Rules PlainNode Bus (Load Packet) Text) (group_of : ℕ → ℕ) (end : ℕ) (p : GroupPart) (r : Ready PlainNode Bus (Load Packet) Text) →
    unlogged_part (part_after rules group_of 0 end (unlogged_part p) r) ≡ unlogged_part (part_after rules group_of 0 end p r)
unfolding part_after after
after-log rules group_of end p r = refl

log-after : (rules : Rules PlainNode Bus (Load Packet) Text) (group_of : ℕ → ℕ) (end : ℕ) (p : GroupPart) (r : Ready PlainNode Bus (Load Packet) Text) →
    (part_after rules group_of 0 end p r).world.fired ≡ p.world.fired ++ record { key = r.event.key; texts = r.effect.texts } ∷ []
unfolding part_after after
log-after rules group_of end p r = refl

lines-append : (xs ys : List (Firing Text)) → map trace_line (lines_of (xs ++ ys)) ≡ map trace_line (lines_of xs) ++ map trace_line (lines_of ys)
lines-append xs ys = ap (map trace_line) (flat_map-append _ xs ys) ∙ map-append trace_line (lines_of xs) (lines_of ys)

counted-once : (n count : ℕ) → count_up 1 (counted n count) ≡ counted (n + 1) count
counted-once n count = let same : suc n ≡ n + 1 = omega arith in ap (λ (k : ℕ). counted k count) same

pub runs-first : (shape : Shape) (end : ℕ) (old : PlainLp) → IsWellIn shape old → RunsIn shape end old old
unfolding part_firings
runs-first shape end old well = record {
  steps = zero;
  fired = record { places = refl; count = refl; lans = refl; limit = refl; part = refl; lines = sym (append-nil old.lines); fired = refl };
  well = well;
}

module _ (lawful : (limit : ℕ) (shape : Shape) → IsLawful (rules limit shape) (health shape))
    (bounded : (limit : ℕ) (shape : Shape) → IsBounded (rules limit shape) (health shape) shape.nodes (room limit)) (shape : Shape) where
  -- what is known of the part that a loop has come to
  same_rules : (end : ℕ) (old now : PlainLp) (p : GroupPart) → HasFired old now p →
      (next (rules now.part.limit shape) (below end) (part_of now).world ≡ next (rules old.part.limit shape) (below end) p.world)
  same_rules end old now p h =
      ap (λ (x : ℕ). next (rules x shape) (below end) (part_of now).world) h.limit
      ∙ ap (λ (x : GroupPart). next (rules old.part.limit shape) (below end) x.world) h.part
      ∙ next-log (rules old.part.limit shape) end p

  module _ (end : ℕ) (now new : PlainLp) (r : Ready PlainNode Bus (Load Packet) Text) (well : IsWellIn shape now)
      (is : next (rules now.part.limit shape) (below end) (part_of now).world ≡ Some r)
      (fired : HasFired now new (part_after (rules now.part.limit shape) (own_group now.part) 0 end (part_of now) r)) where
    unlogged_sound : (p : GroupPart) (limit : ℕ) (group_of : ℕ → ℕ) → IsPartSound (rules limit shape) (health shape) group_of 0 p →
        IsPartSound (rules limit shape) (health shape) group_of 0 (unlogged_part p)
    unlogged_sound p limit group_of sound = record {
      health = record { nodes = sound.health.nodes; lans = sound.health.lans; pending = sound.health.pending };
      rising = sound.rising;
      own = sound.own;
      counted = sound.counted;
    }

    all_here : AllByRecursion (λ (e : Event (Load Packet)). here now e.key.node.0 ≡ true) now.pending
    all_here = all-map (λ (e : Event (Load Packet)). own_group now.part e.key.node.0 ≡ 0) (λ (e : Event (Load Packet)). here now e.key.node.0 ≡ true)
        (λ e own. group-has (has e.key.node.0 now.part) own) now.pending well.sound.own

    found : Found (rules now.part.limit shape) (below end) (part_of now).world r
    found = next-found (rules now.part.limit shape) (below end) (part_of now).world r is

    target_here : here now r.event.key.node.0 ≡ true
    target_here = first-holds (below end) (λ (x : Event (Load Packet)). here now x.key.node.0 ≡ true) now.pending r.event all_here found.event

    is_beside : next (rules now.part.limit shape) (below end) (beside (here now) well.others (part_of now)).world ≡ Some r
    is_beside = next-beside (rules now.part.limit shape) (here now) well.others end (part_of now) all_here ∙ is

    pub well-more : IsWellIn shape new
    well-more =
        let limit = now.part.limit in
        let mid = part_after (rules limit shape) (own_group now.part) 0 end (part_of now) r in
        let sound = part-sound (rules limit shape) (health shape) (lawful limit shape) (own_group now.part) 0 end
        (beside (here now) well.others (part_of now)) r well.sound is_beside in
        let groups = same_group now new mid fired in
        let O : GroupPart → Type 0 = λ x. IsPartSound (rules limit shape) (health shape) (own_group now.part) 0 x in
        let P : GroupPart → Type 0 = λ x. IsPartSound (rules limit shape) (health shape) (own_group now.part) 0 (beside (here now) well.others x) in
        let H : (ℕ → Bool) → Type 0 = λ x. IsPartSound (rules limit shape) (health shape) (own_group now.part) 0 (beside x well.others (part_of new)) in
        let Q : (ℕ → ℕ) → Type 0 = λ x. IsPartSound (rules limit shape) (health shape) x 0 (beside (here new) well.others (part_of new)) in
        let R : ℕ → Type 0 = λ x. IsPartSound (rules x shape) (health shape) (own_group new.part) 0 (beside (here new) well.others (part_of new)) in
        let left : P mid = subst O (after-beside (rules limit shape) (here now) well.others (own_group now.part) 0 end (part_of now) r target_here) sound in
        record {
          others = well.others;
          nodes = well.nodes ∙ ap length (sym fired.places);
          lans = fired.lans ∙ well.lans;
          apart = λ n m h k same. well.apart n m (back n ∙ h) (back m ∙ k) (place n ∙ same ∙ sym (place m));
          sound = subst R (sym fired.limit) (subst Q (sym groups) (subst H heres (subst P (sym fired.part)
              (unlogged_sound (beside (here now) well.others mid) limit (own_group now.part) left))));
        }
      where
        back : (n : ℕ) → has n now.part ≡ has n new.part
        back n = ap (λ (x : List ℕ). nat_lt n (length x) && nat_lt (slice_index x n) (length now.part.nodes)) (sym fired.places)
            ∙ ap (λ (x : ℕ). nat_lt n (length new.part.places) && nat_lt (slice_index new.part.places n) x) (sym fired.count)

        heres : here now ≡ here new
        heres i = λ n. back n i

        place : (n : ℕ) → place_of n now.part ≡ place_of n new.part
        place n = ap (λ (x : List ℕ). slice_index x n) (sym fired.places)

    pub less-more : firings_left new < firings_left now
    less-more =
        let limit = now.part.limit in
        let mid = part_after (rules limit shape) (own_group now.part) 0 end (part_of now) r in
        let count = length now.part.places in
        let bounds = bounded limit shape in
        let event_ok = first-holds (below end) (health shape).event now.pending r.event well.sound.health.pending found.event in
        let known : r.event.key.node.0 < count = subst (λ (x : ℕ). r.event.key.node.0 < x) well.nodes (bounds.target r.event event_ok) in
        let spent = bounds.spent (beside (here now) well.others (part_of now)).world r.event r.effect well.sound.health event_ok
        (next-found (rules limit shape) (below end) (beside (here now) well.others (part_of now)).world r is_beside).effect in
        let reads : cond (here now r.event.key.node.0) ((part_of now).world.nodes r.event.key.node.0) (well.others r.event.key.node.0)
        ≡ (part_of now).world.nodes r.event.key.node.0 = rw target_here refl in
        let spent_here = subst (λ (x : PlainNode). room limit r.effect.node + length r.effect.sends ≤ room limit x) reads spent in
        let less = spends (rules limit shape) (here now) well.others (own_group now.part) 0 end (part_of now) r target_here count (room limit) known spent_here is in
        let same : firings_left new ≡ most_firings count (room limit) mid.world =
        ap (λ (x : List ℕ). most_firings (length x) (room new.part.limit) (part_of new).world) fired.places
        ∙ ap (λ (x : ℕ). most_firings count (room x) (part_of new).world) fired.limit
        ∙ ap (λ (x : GroupPart). most_firings count (room limit) x.world) fired.part in
        omega arith

  pub runs-more : (end : ℕ) (old now new : PlainLp) (r : Ready PlainNode Bus (Load Packet) Text) → RunsIn shape end old now →
      next (rules now.part.limit shape) (below end) (part_of now).world ≡ Some r →
      HasFired now new (part_after (rules now.part.limit shape) (own_group now.part) 0 end (part_of now) r) → RunsIn shape end old new
  runs-more end old now new r runs is fired =
      let limit = old.part.limit in
      let groups = own_group old.part in
      let at = part_firings (rules limit shape) groups 0 end runs.steps (part_of old) in
      let more = part-more (rules limit shape) (health shape) (lawful limit shape) groups 0 end runs.steps (part_of old) in
      let ready : next (rules limit shape) (below end) at.world ≡ Some r = sym (same_rules end old now at runs.fired) ∙ is in
      let reached : part_firings (rules limit shape) groups 0 end more.0 (part_of old) ≡ part_after (rules limit shape) groups 0 end at r =
      more.1 ∙ ap (part_next (rules limit shape) groups 0 end at) ready in
      let same : part_after (rules now.part.limit shape) (own_group now.part) 0 end (part_of now) r ≡ part_after (rules limit shape) groups 0 end (unlogged_part at) r =
      ap (λ (x : ℕ). part_after (rules x shape) (own_group now.part) 0 end (part_of now) r) runs.fired.limit
      ∙ ap (λ (x : ℕ → ℕ). part_after (rules limit shape) x 0 end (part_of now) r) (same_group old now at runs.fired)
      ∙ ap (λ (x : GroupPart). part_after (rules limit shape) groups 0 end x r) runs.fired.part in
      let here : HasFired now new (part_after (rules limit shape) groups 0 end (unlogged_part at) r) =
      subst (λ (x : GroupPart). HasFired now new x) same fired in
      record {
        steps = more.0;
        fired = subst (λ (x : GroupPart). HasFired old new x) (sym reached) (joined limit groups at runs.fired here);
        well = well-more end now new r runs.well is fired;
      }
    where
      joined : (limit : ℕ) (groups : ℕ → ℕ) (at : GroupPart) → HasFired old now at →
          HasFired now new (part_after (rules limit shape) groups 0 end (unlogged_part at) r) →
          HasFired old new (part_after (rules limit shape) groups 0 end at r)
      joined limit groups at first last =
          let one : Firing Text = record { key = r.event.key; texts = r.effect.texts } in
          record {
            places = last.places ∙ first.places;
            count = last.count ∙ first.count;
            lans = last.lans ∙ first.lans;
            limit = last.limit ∙ first.limit;
            part = last.part ∙ after-log (rules limit shape) groups end at r;
            lines = last.lines
                ∙ ap (λ x. now.lines ++ map trace_line (lines_of x)) (log-after (rules limit shape) groups end (unlogged_part at) r)
                ∙ ap (λ x. x ++ map trace_line (lines_of (one ∷ []))) first.lines
                ∙ append_assoc old.lines (map trace_line (lines_of at.world.fired)) (map trace_line (lines_of (one ∷ [])))
                ∙ ap (λ x. old.lines ++ x) (sym (lines-append at.world.fired (one ∷ [])))
                ∙ ap (λ x. old.lines ++ map trace_line (lines_of x)) (sym (log-after (rules limit shape) groups end at r));
            fired = last.fired
                ∙ ap (λ x. counted (length x) now.fired) (log-after (rules limit shape) groups end (unlogged_part at) r)
                ∙ ap (count_up 1) first.fired ∙ counted-once (length at.world.fired) old.fired
                ∙ ap (λ x. counted x old.fired) (sym (length-append at.world.fired (one ∷ [])))
                ∙ ap (λ x. counted (length x) old.fired) (sym (log-after (rules limit shape) groups end at r));
          }

  -- where nothing is to fire, the firings so far are a run of the part
  pub runs-last : (end : ℕ) (old now : PlainLp) → (runs : RunsIn shape end old now) → next (rules now.part.limit shape) (below end) (part_of now).world ≡ None →
      PartRuns (rules old.part.limit shape) (own_group old.part) 0 end (part_of old)
      (part_firings (rules old.part.limit shape) (own_group old.part) 0 end runs.steps (part_of old))
  runs-last end old now runs rests = record {
    steps = runs.steps;
    reached = refl;
    rests = sym (same_rules end old now _ runs.fired) ∙ rests;
  }
