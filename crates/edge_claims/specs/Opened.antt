-- A block whose free places lie in a table.
use Rattle.std.specs.Prelude.{◌≡◌, ℕ, ◌-◌, List, [], ◌∷◌}
use Rattle.byte_block.specs.Ranges.{Free, Whole, end_of, frozen_of}
use Rattle.edge_claims.specs.Rule.{first_places, last_places, first_view}
use Rattle.edge_claims.specs.declared.view.End.{End}
use Rattle.edge_claims.specs.declared.view.Opening.{Opening}
use Rattle.edge_claims.specs.declared.opened.Opened.{Opened}

-- the free places before and behind a block's first bytes
pub record AreEnds (o : Opening) (before behind : Free) : Type 0 where
  pub low : before ≡ first_places o.bytes.block o.capacity o.bytes.from
  pub high : behind ≡ last_places o.bytes.block o.capacity (o.capacity - end_of o.bytes)

-- a list of two ends with these places
pub record ListsEnds (before behind : Free) (l : List End) : Type 0 where
  pub low : End
  pub high : End
  pub two : l ≡ low ∷ high ∷ []
  pub before_low : low.free ≡ before
  pub behind_high : high.free ≡ behind

abbrev pub opening_of : Whole → ℕ → ℕ → Opening
opening_of b low high = record { bytes = frozen_of b; capacity = b.capacity; first_low = low; first_high = high }

-- the table is of the free places of a block whose edges were first at low and high, and its one seat knows the block
pub record IsOpened (b : Whole) (low high : ℕ) (o : Opened) : Type 0 where
  pub table : o.seat.table_id ≡ o.edges.value.shared.table_id
  pub words : o.edges.value.shared.table_id.words ≡ 2
  pub slots : o.edges.value.shared.table_id.slots ≡ 2
  pub key : o.edges.value.shared.key ≡ opening_of b low high
  pub seat : o.seat.me ≡ (first_view (opening_of b low high), [])
  pub bytes : o.bytes ≡ frozen_of b
