-- The plain run, and rounds over groups of nodes.
use Rattle.std.specs.Prelude.{◌≡◌, ℕ, ◌<◌, ◌≤◌, zero, suc, Bool, List, [], ◌∷◌, ◌++◌, map, filter, count_by, Option, Some, None, ◌==◌, ◌&&◌, nat_lt, if◌then◌else◌}
use Rattle.sim_base.specs.declared.key.Key.{Key}
use Rattle.round_core.specs.Laws.{Health, KeepsLans, IsClosed}
use Rattle.sim_base.specs.KeyOrder.{before}
use Rattle.round_core.specs.World.{Event, Firing, Rules, World, first, fire, Rests, in_order}

-- the keys below a time
abbrev pub below : ℕ → Key → Bool
below end key = nat_lt key.time.0 end

-- the world after a number of firings, each of the least pending event below a time
unfoldable pub plain_firings : {Node Lan Load Text : Type 0} → Rules Node Lan Load Text → ℕ → ℕ →
    World Node Lan Load Text → World Node Lan Load Text
plain_firings rules end zero w = w
plain_firings rules end (suc n) w = plain_firings rules end n (fire rules (below end) w)

-- the plain run from a world ends at another: there nothing is to fire below stop
pub record IsPlainRun {Node Lan Load Text : Type 0} (rules : Rules Node Lan Load Text) (stop : ℕ)
    (w final : World Node Lan Load Text) : Type 0 where
  pub steps : ℕ
  pub reached : plain_firings rules stop steps w ≡ final
  pub rests : Rests rules (below stop) final

-- how a run ends: nothing is pending below stop, or a node met its limit at this key, behind these firings
pub data Ending (Node Lan Load Text : Type 0) : Type 0 where
  Done : (final : World Node Lan Load Text) → Ending Node Lan Load Text
  Limited : (key : Key) (done : List (Firing Text)) → Ending Node Lan Load Text

-- how a run ends at a world, by the event that is left below stop
abbrev pub ending_at : {Node Lan Load Text : Type 0} → World Node Lan Load Text → Option (Event Load) →
    Ending Node Lan Load Text
ending_at final None = Done final
ending_at final (Some e) = Limited e.key final.fired

-- how a run ends that has come to rest at a world
abbrev pub ending_of : {Node Lan Load Text : Type 0} → ℕ → World Node Lan Load Text → Ending Node Lan Load Text
ending_of stop final = ending_at final (first (below stop) final.pending)

-- the plain run from a world ends so
pub record PlainEnds {Node Lan Load Text : Type 0} (rules : Rules Node Lan Load Text) (stop : ℕ)
    (w : World Node Lan Load Text) (ending : Ending Node Lan Load Text) : Type 0 where
  pub final : World Node Lan Load Text
  pub run : IsPlainRun rules stop w final
  pub ends : ending_of stop final ≡ ending

-- the keys of a group below a time
abbrev pub in_group : (ℕ → ℕ) → ℕ → ℕ → Key → Bool
in_group group_of end group key = group_of key.node.0 == group && below end key

-- the world after each entry of a list of groups has fired the least event of that group below the end
unfoldable pub group_firings : {Node Lan Load Text : Type 0} → Rules Node Lan Load Text → (ℕ → ℕ) → ℕ → List ℕ →
    World Node Lan Load Text → World Node Lan Load Text
group_firings rules group_of end [] w = w
group_firings rules group_of end (group ∷ groups) w =
    group_firings rules group_of end groups (fire rules (in_group group_of end group) w)

-- a list of groups that leaves no group with an event to fire
abbrev pub IsFull : {Node Lan Load Text : Type 0} → Rules Node Lan Load Text → (ℕ → ℕ) → ℕ → List ℕ →
    World Node Lan Load Text → Type 0
IsFull rules group_of end groups w =
    (group : ℕ) → Rests rules (in_group group_of end group) (group_firings rules group_of end groups w)

-- which group each node is in, and where the window ends that begins at a time
pub record Cut : Type 0 where
  pub group_of : ℕ → ℕ
  pub end_of : ℕ → ℕ

-- a cut that a run in rounds may use: each LAN lies within one group, each window ends above its beginning and
-- not above stop, and what is scheduled for another group in a window is at or above its end
pub record IsAllowed {Node Lan Load Text : Type 0} (rules : Rules Node Lan Load Text) (ok : Health Node Lan Load)
    (stop : ℕ) (cut : Cut) : Type 0 where
  pub lans : KeepsLans rules cut.group_of
  pub above : (from : ℕ) → from < stop → from < cut.end_of from
  pub within : (from : ℕ) → from < stop → cut.end_of from ≤ stop
  pub closed : (from : ℕ) → from < stop → IsClosed rules ok cut.group_of from (cut.end_of from)

-- A round. Its window begins at the least pending time, and its groups leave nothing to fire below the end
pub record IsRound {Node Lan Load Text : Type 0} (rules : Rules Node Lan Load Text) (stop : ℕ) (cut : Cut)
    (w : World Node Lan Load Text) (groups : List ℕ) (end : ℕ) (mid : World Node Lan Load Text) : Type 0 where
  pub least : Event Load
  pub begins : first (below stop) w.pending ≡ Some least
  pub ends : cut.end_of least.key.time.0 ≡ end
  pub full : IsFull rules cut.group_of end groups w
  pub leaves : in_order (group_firings rules cut.group_of end groups w) ≡ mid

-- a run in rounds, each by some list of groups, and how it ends
pub data RunsInRounds {Node Lan Load Text : Type 0} (rules : Rules Node Lan Load Text) (stop : ℕ) (cut : Cut) :
    World Node Lan Load Text → List (List ℕ) → Ending Node Lan Load Text → Type 0 where
  -- nothing is pending below stop
  Ends : {w : World Node Lan Load Text} → first (below stop) w.pending ≡ None → RunsInRounds rules stop cut w [] (Done w)
  -- a round leaves an event below its end: the node of the least may not go on. What came before it stays
  Stops : {w : World Node Lan Load Text} {groups : List ℕ} (end : ℕ) (mid : World Node Lan Load Text) (e : Event Load) →
      IsRound rules stop cut w groups end mid → first (below end) mid.pending ≡ Some e →
      RunsInRounds rules stop cut w (groups ∷ []) (Limited e.key (filter (λ f. before f.key e.key) mid.fired))
  -- a round leaves no event below its end, and the run goes on
  Goes_on : {w : World Node Lan Load Text} {groups : List ℕ} {more : List (List ℕ)} {ending : Ending Node Lan Load Text}
      (end : ℕ) (mid : World Node Lan Load Text) → IsRound rules stop cut w groups end mid →
      first (below end) mid.pending ≡ None → RunsInRounds rules stop cut mid more ending →
      RunsInRounds rules stop cut w (groups ∷ more) ending

-- how many windows hold these times, beside one that ends here: a window begins at the first time that no window
-- before it holds
abbrev pub windows : (ℕ → ℕ) → ℕ → List ℕ → ℕ
windows end_of end [] = 0
windows end_of end (time ∷ times) =
    if nat_lt time end then windows end_of end times else suc (windows end_of (end_of time) times)

abbrev pub times_of : {Text : Type 0} → List (Firing Text) → List ℕ
times_of fired = map (λ f. f.key.time.0) fired

-- how many of the firings are a group's
abbrev pub fired_by : {Text : Type 0} → (ℕ → ℕ) → ℕ → List (Firing Text) → ℕ
fired_by group_of group fired = count_by (λ f. group_of f.key.node.0 == group) fired

-- the firings of a run that has ended
abbrev pub firings_of : {Node Lan Load Text : Type 0} → Ending Node Lan Load Text → List (Firing Text)
firings_of (Done final) = final.fired
firings_of (Limited key done) = done

abbrev pub IsPrefixOf : {A : Type 0} → List A → List A → Type 0
IsPrefixOf {A} xs ys = (rest : List A) × (xs ++ rest ≡ ys)
