-- A world of nodes, LANs and pending events, and how it changes when an event fires.
use Rattle.std.specs.List.{AllByRecursion}
use Rattle.std.specs.Prelude.{◌≡◌, ℕ, suc, Bool, true, List, [], ◌∷◌, ◌++◌, Option, Some, None, ◌==◌, if◌then◌else◌}
use Rattle.sim_base.specs.declared.key.Key.{Key}
use Rattle.sim_base.specs.KeyOrder.{before, IsRising}
use Rattle.round_core.specs.Order.{insert_each, in_key_order}

pub record Event (Load : Type 0) : Type 0 where
  pub key : Key
  pub load : Load

-- what a firing schedules
pub record Send (Load : Type 0) : Type 0 where
  pub at : ℕ
  pub to : ℕ
  pub load : Load

-- a firing in the log: the key of its event, and the texts of its lines
pub record Firing (Text : Type 0) : Type 0 where
  pub key : Key
  pub texts : List Text

-- what a firing does: the target node's new state, the new states of the LANs on which it sits, what it
-- schedules, and the texts of its lines
pub record Effect (Node Lan Load Text : Type 0) : Type 0 where
  pub node : Node
  pub lans : ℕ → Lan
  pub sends : List (Send Load)
  pub texts : List Text

pub data Reaction (Node Lan Load Text : Type 0) : Type 0 where
  -- the node would schedule more events than it may
  Limit : Reaction Node Lan Load Text
  Does : Effect Node Lan Load Text → Reaction Node Lan Load Text

-- What makes a simulation: which node sits on which LAN, how many events a node has scheduled so far, and how
-- a node reacts to an event, given its own state and those of the LANs on which it sits
pub record Rules (Node Lan Load Text : Type 0) : Type 0 where
  pub sits : ℕ → ℕ → Bool
  pub counter : Node → ℕ
  pub react : Event Load → Node → (ℕ → Option Lan) → Reaction Node Lan Load Text

-- the states of the nodes and LANs by number, the pending events in the order of their keys, and the firings
-- so far
pub record World (Node Lan Load Text : Type 0) : Type 0 where
  pub nodes : ℕ → Node
  pub lans : ℕ → Lan
  pub pending : List (Event Load)
  pub fired : List (Firing Text)

-- the LANs that a node sees
unfoldable pub seen : {Node Lan Load Text : Type 0} → Rules Node Lan Load Text → ℕ → (ℕ → Lan) → ℕ → Option Lan
seen rules node lans lan = if rules.sits node lan then Some (lans lan) else None

-- how the target of an event reacts to it in a world
unfoldable pub reaction : {Node Lan Load Text : Type 0} → Rules Node Lan Load Text → World Node Lan Load Text →
    Event Load → Reaction Node Lan Load Text
reaction rules w e = rules.react e (w.nodes e.key.node.0) (seen rules e.key.node.0 w.lans)

-- the events that a firing schedules, numbered from a count on
unfoldable pub scheduled : {Load : Type 0} → Key → ℕ → List (Send Load) → List (Event Load)
scheduled key count [] = []
scheduled key count (s ∷ sends) =
    record {
      key = record { time = record { 0 = s.at }; node = record { 0 = s.to }; sent = key.time; by = key.node; count = count };
      load = s.load;
    } ∷ scheduled key (suc count) sends

-- the first event of a list whose key passes a test, and the list without it
unfoldable pub first : {Load : Type 0} → (Key → Bool) → List (Event Load) → Option (Event Load)
first test [] = None
first test (e ∷ es) = if test e.key then Some e else first test es

unfoldable pub without_first : {Load : Type 0} → (Key → Bool) → List (Event Load) → List (Event Load)
without_first test [] = []
without_first test (e ∷ es) = if test e.key then es else e ∷ without_first test es

-- an event that is to fire, with what it does
pub record Ready (Node Lan Load Text : Type 0) : Type 0 where
  pub event : Event Load
  pub effect : Effect Node Lan Load Text

abbrev pub allowed : {Node Lan Load Text : Type 0} → Event Load → Reaction Node Lan Load Text →
    Option (Ready Node Lan Load Text)
allowed e Limit = None
allowed e (Does effect) = Some (record { event = e; effect = effect })

abbrev pub ready : {Node Lan Load Text : Type 0} → Rules Node Lan Load Text → World Node Lan Load Text →
    Option (Event Load) → Option (Ready Node Lan Load Text)
ready rules w None = None
ready rules w (Some e) = allowed e (reaction rules w e)

-- what is to fire next: the least pending event that passes a test, unless its node may not
unfoldable pub next : {Node Lan Load Text : Type 0} → Rules Node Lan Load Text → (Key → Bool) →
    World Node Lan Load Text → Option (Ready Node Lan Load Text)
next rules test w = ready rules w (first test w.pending)

-- the world after a firing
unfoldable pub after : {Node Lan Load Text : Type 0} → Rules Node Lan Load Text → (Key → Bool) →
    World Node Lan Load Text → Ready Node Lan Load Text → World Node Lan Load Text
after rules test w r = let key = r.event.key in record {
  nodes = λ n. if n == key.node.0 then r.effect.node else w.nodes n;
  lans = λ l. if rules.sits key.node.0 l then r.effect.lans l else w.lans l;
  pending = insert_each (λ e. e.key) (scheduled key (rules.counter (w.nodes key.node.0)) r.effect.sends)
      (without_first test w.pending);
  fired = w.fired ++ record { key = key; texts = r.effect.texts } ∷ [];
}

abbrev pub after_next : {Node Lan Load Text : Type 0} → Rules Node Lan Load Text → (Key → Bool) →
    World Node Lan Load Text → Option (Ready Node Lan Load Text) → World Node Lan Load Text
after_next rules test w None = w
after_next rules test w (Some r) = after rules test w r

-- fires what is to fire next
unfoldable pub fire : {Node Lan Load Text : Type 0} → Rules Node Lan Load Text → (Key → Bool) →
    World Node Lan Load Text → World Node Lan Load Text
fire rules test w = after_next rules test w (next rules test w)

-- nothing is to fire
abbrev pub Rests : {Node Lan Load Text : Type 0} → Rules Node Lan Load Text → (Key → Bool) →
    World Node Lan Load Text → Type 0
Rests rules test w = next rules test w ≡ None

-- a world, with the firings so far in the order of their keys
abbrev pub in_order : {Node Lan Load Text : Type 0} → World Node Lan Load Text → World Node Lan Load Text
in_order w = record w { fired = in_key_order (λ f. f.key) w.fired }

-- the firings so far stand in the order of their keys, and all come before what is pending
pub record IsPast {Node Lan Load Text : Type 0} (w : World Node Lan Load Text) : Type 0 where
  pub rising : IsRising (λ f. f.key) w.fired
  pub behind : AllByRecursion (λ e. AllByRecursion (λ f. before f.key e.key ≡ true) w.fired) w.pending

-- a world with an empty log
abbrev pub unlogged : {Node Lan Load Text : Type 0} → World Node Lan Load Text → World Node Lan Load Text
unlogged w = record w { fired = [] }

-- a world with firings put before those in its log
abbrev pub with_log : {Node Lan Load Text : Type 0} → List (Firing Text) → World Node Lan Load Text → World Node Lan Load Text
with_log log w = record w { fired = log ++ w.fired }
