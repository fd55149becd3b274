-- A queue's events, as the pending events of a group's part.
use Rattle.std.proofs.Common.{◌≡◌, ◌≢◌, ◌<◌, List, [], ◌∷◌, map, refl, ap, inl, inr, Some, None}
use Rattle.std.proofs.lemmas.Bool.{cases_Bool, le-ltb, lt-ltb}
use Rattle.std.specs.List.{AllByRecursion}
use Rattle.sim_base.specs.declared.key.Key.{Key}
use Rattle.sim_base.specs.declared.time.Time.{Time}
use Rattle.sim_base.specs.KeyOrder.{before, insert_by}
use Rattle.event_queue.specs.Pending.{key_of, IsNew, NoneBelow}
use Rattle.round_core.specs.Rounds.{below}
use Rattle.round_core.specs.World.{Event, first, without_first}
use Rattle.lp_run.specs.Pending.{pending_event}

module _ {T Load : Type 0} (seen : T → Load) where
  abbrev event : Key × T → Event Load
  event held = pending_event seen held

  pub insert-seen : (x : Key × T) (held : List (Key × T)) →
      map event (insert_by key_of x held) ≡ insert_by (λ e. e.key) (event x) (map event held)
  unfolding insert_by
  insert-seen x [] = refl
  insert-seen x (y ∷ ys) = elim (cases_Bool (before x.0 y.0)) [
    | inl h ↦ rw h refl
    | inr h ↦ rw h (ap (λ t. event y ∷ t) (insert-seen x ys))
  ]

  pub none-first : (end : Time) (held : List (Key × T)) → NoneBelow end held → first (below end.0) (map event held) ≡ None
  unfolding first
  none-first end [] late = refl
  none-first end (x ∷ xs) late = let h = le-ltb x.0.time.0 end.0 late.0 in rw h (none-first end xs late.1)

  pub some-first : (end : Time) (x : Key × T) (xs : List (Key × T)) → x.0.time.0 < end.0 →
      (first (below end.0) (map event (x ∷ xs)) ≡ Some (event x)) × (without_first (below end.0) (map event (x ∷ xs)) ≡ map event xs)
  unfolding first without_first
  some-first end x xs low = let h = lt-ltb x.0.time.0 end.0 low in (rw h refl, rw h refl)

  pub new-seen : (key : Key) (held : List (Key × T)) → AllByRecursion (λ (e : Event Load). e.key ≢ key) (map event held) → IsNew key held
  new-seen key [] all = tt
  new-seen key (x ∷ xs) all = (all.0, new-seen key xs all.1)
