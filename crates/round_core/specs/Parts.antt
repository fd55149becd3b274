-- A world in parts, one for each group of nodes, each of which fires its own events.
use Rattle.std.specs.List.{AllByRecursion}
use Rattle.std.specs.Prelude.{◌≡◌, ℕ, ◌<◌, ◌≤◌, zero, suc, Bool, true, not, List, [], ◌∷◌, ◌++◌, filter, ◌⊎◌, ◌↔◌, ◌==◌, Option, Some, None}
use Rattle.round_core.specs.Laws.{Health, IsHealthy}
use Rattle.round_core.specs.Order.{insert_each}
use Rattle.sim_base.specs.KeyOrder.{IsRising}
use Rattle.round_core.specs.Rounds.{below}
use Rattle.round_core.specs.World.{Event, Firing, Rules, World, Ready, scheduled, without_first, next, after, Rests, IsPast}

-- an item stands in a list
abbrev pub IsIn : {A : Type 0} → A → List A → Type 0
IsIn x [] = ⊥
IsIn x (y ∷ ys) = (x ≡ y) ⊎ IsIn x ys

-- a group's part: a world, of which only the group's own nodes, LANs and events count, and what its nodes have
-- scheduled for other groups
pub record Part (Node Lan Load Text : Type 0) : Type 0 where
  pub world : World Node Lan Load Text
  pub sent : List (Event Load)

-- whether an event is for a group
abbrev pub is_for : {Load : Type 0} → (ℕ → ℕ) → ℕ → Event Load → Bool
is_for group_of group e = group_of e.key.node.0 == group

-- a part after a firing, which keeps apart what is for other groups
unfoldable pub part_after : {Node Lan Load Text : Type 0} → Rules Node Lan Load Text → (ℕ → ℕ) → ℕ → ℕ →
    Part Node Lan Load Text → Ready Node Lan Load Text → Part Node Lan Load Text
part_after rules group_of group end p r =
    let events = scheduled r.event.key (rules.counter (p.world.nodes r.event.key.node.0)) r.effect.sends in record {
      world = record (after rules (below end) p.world r) {
        pending = insert_each (λ e. e.key) (filter (is_for group_of group) events) (without_first (below end) p.world.pending);
      };
      sent = p.sent ++ filter (λ e. not (is_for group_of group e)) events;
    }

abbrev pub part_next : {Node Lan Load Text : Type 0} → Rules Node Lan Load Text → (ℕ → ℕ) → ℕ → ℕ →
    Part Node Lan Load Text → Option (Ready Node Lan Load Text) → Part Node Lan Load Text
part_next rules group_of group end p None = p
part_next rules group_of group end p (Some r) = part_after rules group_of group end p r

-- a part after some firings, each of its least event below an end
unfoldable pub part_firings : {Node Lan Load Text : Type 0} → Rules Node Lan Load Text → (ℕ → ℕ) → ℕ → ℕ → ℕ →
    Part Node Lan Load Text → Part Node Lan Load Text
part_firings rules group_of group end zero p = p
part_firings rules group_of group end (suc n) p =
    part_firings rules group_of group end n (part_next rules group_of group end p (next rules (below end) p.world))

-- a group's part runs from one state to another, where nothing is to fire below the end
pub record PartRuns {Node Lan Load Text : Type 0} (rules : Rules Node Lan Load Text) (group_of : ℕ → ℕ) (group end : ℕ)
    (old new : Part Node Lan Load Text) : Type 0 where
  pub steps : ℕ
  pub reached : part_firings rules group_of group end steps old ≡ new
  pub rests : Rests rules (below end) new.world

-- parts, by the number of their group, that make up a world in a window: what is scheduled for other groups is at or
-- above its end, and the firings are those of the parts
pub record AreParts {Node Lan Load Text : Type 0} (rules : Rules Node Lan Load Text) (group_of : ℕ → ℕ) (end : ℕ)
    (parts : ℕ → Part Node Lan Load Text) (w : World Node Lan Load Text) : Type 0 where
  pub nodes : (n : ℕ) → (parts (group_of n)).world.nodes n ≡ w.nodes n
  pub lans : (n l : ℕ) → rules.sits n l ≡ true → (parts (group_of n)).world.lans l ≡ w.lans l
  pub own : (g : ℕ) → AllByRecursion (λ e. group_of e.key.node.0 ≡ g) (parts g).world.pending
  pub rising : (g : ℕ) → IsRising (λ e. e.key) (parts g).world.pending
  pub late : (g : ℕ) → AllByRecursion (λ e. end ≤ e.key.time.0) (parts g).sent
  pub past : (g : ℕ) → IsPast (parts g).world
  pub log_own : (g : ℕ) → AllByRecursion (λ f. group_of f.key.node.0 ≡ g) (parts g).world.fired
  pub pending : (e : Event Load) → IsIn e w.pending ↔ ((g : ℕ) × (IsIn e (parts g).world.pending ⊎ IsIn e (parts g).sent))
  pub fired : (f : Firing Text) → IsIn f w.fired ↔ ((g : ℕ) × IsIn f (parts g).world.fired)

-- the firings of all parts, in the order of their keys
pub record AreMerged {Node Lan Load Text : Type 0} (parts : ℕ → Part Node Lan Load Text) (fired : List (Firing Text)) : Type 0 where
  pub rising : IsRising (λ f. f.key) fired
  pub members : (f : Firing Text) → IsIn f fired ↔ ((g : ℕ) × IsIn f (parts g).world.fired)

-- the parts for the next round: each has got what the others have scheduled for it, and nothing is left to hand over
pub record AreHandedOver {Node Lan Load Text : Type 0} (group_of : ℕ → ℕ) (old new : ℕ → Part Node Lan Load Text) : Type 0 where
  pub nodes : (g n : ℕ) → (new g).world.nodes n ≡ (old g).world.nodes n
  pub lans : (g l : ℕ) → (new g).world.lans l ≡ (old g).world.lans l
  pub rising : (g : ℕ) → IsRising (λ e. e.key) (new g).world.pending
  pub pending : (g : ℕ) (e : Event Load) → IsIn e (new g).world.pending ↔
      (IsIn e (old g).world.pending ⊎ ((h : ℕ) × IsIn e (old h).sent × (group_of e.key.node.0 ≡ g)))
  pub sent : (g : ℕ) → (new g).sent ≡ []
  pub fired : (g : ℕ) → (new g).world.fired ≡ []

-- a part whose world is healthy, whose events are its own, stand in the order of their keys, each key once, and have
-- been counted by their node where that is the group's
pub record IsPartSound {Node Lan Load Text : Type 0} (rules : Rules Node Lan Load Text) (ok : Health Node Lan Load)
    (group_of : ℕ → ℕ) (group : ℕ) (p : Part Node Lan Load Text) : Type 0 where
  pub health : IsHealthy ok p.world
  pub rising : IsRising (λ e. e.key) p.world.pending
  pub own : AllByRecursion (λ e. group_of e.key.node.0 ≡ group) p.world.pending
  pub counted : AllByRecursion (λ e. group_of e.key.by.0 ≡ group → e.key.count < rules.counter (p.world.nodes e.key.by.0))
      p.world.pending
