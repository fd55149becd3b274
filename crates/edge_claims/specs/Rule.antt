-- The rule that the words, the free ends and all windows' views of a block keep.
-- Word 0 is the number of free places in front, and word 1 the number behind. The slots hold the two free ends.
use Rattle.std.specs.Prelude.{◌≡◌, ℕ, ◌+◌, ◌-◌, ◌≤◌, List, [], ◌∷◌, length, sum_by, true, map, false}
use mathlib.Core.Option.{Option, some}
use lib.ListN.{get_elem?}
use Rattle.byte_block.specs.Ranges.{Block, Free, end_of}
use Rattle.atomic_table.specs.Table.{State}
use Rattle.edge_claims.specs.Sides.{Side, begun, Stands}
use Rattle.edge_claims.specs.BlockModel.{ModelWindow, BlockModel, Event, made, Runs, BlockLaw}
use Rattle.edge_claims.specs.declared.view.End.{End}
use Rattle.edge_claims.specs.declared.view.View.{View}
use Rattle.edge_claims.specs.declared.view.Opening.{Opening}

-- the first n places of a block, and the last n
abbrev pub first_places : Block → ℕ → ℕ → Free
first_places b capacity n = record { block = b; from = 0; to = n }

abbrev pub last_places : Block → ℕ → ℕ → Free
last_places b capacity n = record { block = b; from = capacity - n; to = capacity }

abbrev pub front_of : View → Side
front_of v = v.front

abbrev pub back_of : View → Side
back_of v = v.back

-- the block's first window, which has claimed what its edges have moved since the block was made
abbrev pub first_view : Opening → View
first_view o =
    record {
      block = o.bytes.block;
      capacity = o.capacity;
      bytes = o.bytes.bytes;
      front = begun o.bytes.from (o.first_low - o.bytes.from);
      back = begun (o.capacity - end_of o.bytes) (end_of o.bytes - o.first_high);
      alone = true;
    }

-- all views together
abbrev pub total : (View → ℕ) → List View → ℕ
total f vs = sum_by f vs

module _ (side : View → Side) where
  abbrev pub carving : View → ℕ
  carving v = (side v).carving

  abbrev pub claims : View → ℕ
  claims v = (side v).claims

  -- One side: of the places that were free when the block was made `room` are free still, and the windows have claimed the others. What is being filled is one window's,
  -- and where nothing is, the free places are at home.
  pub record KeepsSide (free : ℕ → Free) (first room : ℕ) (home : Option End) (vs : List View) : Type 0 where
    pub each : (i : ℕ) (v : View) → get_elem? vs i ≡ some v → Stands room (total carving vs) v.alone (side v)
    pub rest : total carving vs ≡ 0 → (e : End) × (home ≡ some e) × (e.free ≡ free room)
    pub moved : total claims vs + room ≡ first

-- the view's bytes fill the places between its two gaps
pub record IsRange (o : Opening) (v : View) : Type 0 where
  pub block : v.block ≡ o.bytes.block
  pub capacity : v.capacity ≡ o.capacity
  pub length : v.front.gap + length v.bytes + v.back.gap ≡ o.capacity

-- two views have the same byte at each place that both have
abbrev pub Agree : View → View → Type 0
Agree v w = (k l a b : ℕ) → v.front.gap + k ≡ w.front.gap + l → get_elem? v.bytes k ≡ some a → get_elem? w.bytes l ≡ some b → a ≡ b

-- all windows of the block
pub record KeepsViews (o : Opening) (vs : List View) : Type 0 where
  pub ranges : (i : ℕ) (v : View) → get_elem? vs i ≡ some v → IsRange o v
  pub agree : (i j : ℕ) (v w : View) → get_elem? vs i ≡ some v → get_elem? vs j ≡ some w → Agree v w
  pub sole : (i : ℕ) (v : View) → get_elem? vs i ≡ some v → v.alone ≡ true → length vs ≡ 1

-- what the model sees of a window: the places of its view's range
abbrev pub window_of : View → ModelWindow
window_of v = record { start = v.front.gap; end = v.front.gap + length v.bytes; bytes = v.bytes; dropped = false }

-- The words and the views stand for a block model that its steps reach: its edges lie where the free places end, less those that are being filled.
-- By the model's law, for every list of steps, each window's places hold its own list and whatever is filled next is free.
pub record StandsForModel (o : Opening) (front_room back_room : ℕ) (vs : List View) : Type 0 where
  pub model : BlockModel
  pub events : List Event
  pub runs : Runs (made o.bytes.from o.bytes.bytes (o.capacity - end_of o.bytes)) events model
  pub low : model.low ≡ front_room + total (carving front_of) vs
  pub high : model.high + (back_room + total (carving back_of) vs) ≡ o.capacity
  pub windows : model.windows ≡ map window_of vs
  pub law : BlockLaw

-- The block invariant: both sides, all windows, and the block model that they stand for. It holds between any two atomic steps.
pub record BlockInvariant (o : Opening) (s : State End View) : Type 0 where
  pub within : end_of o.bytes ≤ o.capacity
  pub low : o.bytes.from ≤ o.first_low
  pub high : o.first_high ≤ end_of o.bytes
  pub front_room : ℕ
  pub back_room : ℕ
  pub front_home : Option End
  pub back_home : Option End
  pub words : s.words ≡ front_room ∷ back_room ∷ []
  pub homes : s.homes ≡ front_home ∷ back_home ∷ []
  pub front : KeepsSide front_of (first_places o.bytes.block o.capacity) o.first_low front_room front_home s.views
  pub back : KeepsSide back_of (last_places o.bytes.block o.capacity) (o.capacity - o.first_high) back_room back_home s.views
  pub views : KeepsViews o s.views
  pub model : StandsForModel o front_room back_room s.views
