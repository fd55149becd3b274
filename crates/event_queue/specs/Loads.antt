-- How places and a slab of loads stand for pending events.
use Rattle.std.specs.List.{AllByRecursion, IsDistinct, filter_map}
use Rattle.std.specs.Prelude.{ℕ, List, Option, None, ◌==◌, IsSome, slice_index_or}
use Rattle.std.specs.Option.{option_map}
use Rattle.sim_base.specs.declared.key.Key.{Key}

module _ {Load : Type 0} (slots : List (Option Load)) where
  -- the event of an entry, whose load lies at the entry's place
  abbrev pub event_at : Key × ℕ → Option (Key × Load)
  event_at entry = option_map (λ load. (entry.0, load)) (slice_index_or slots entry.1 None)

  -- the events of these entries
  abbrev pub events_at : List (Key × ℕ) → List (Key × Load)
  events_at entries = filter_map event_at entries

  -- each entry has a place of its own, at which a load lies
  pub record HoldsLoads (entries : List (Key × ℕ)) : Type 0 where
    pub held : AllByRecursion (λ entry. IsSome (slice_index_or slots entry.1 None)) entries
    pub apart : IsDistinct (λ a b. a.1 == b.1) entries
