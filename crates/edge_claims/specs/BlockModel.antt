-- A block and its windows as plain data, with none of the code's seats, words and slots.
use Rattle.std.specs.Prelude.{◌≡◌, ◌≢◌, ℕ, ◌+◌, ◌-◌, ◌<◌, ◌≤◌, Bool, false, true, List, [], ◌∷◌, ◌++◌, map, length, take, drop, set, replicate, slice_range}
use mathlib.Core.Option.{Option, none, some}
use lib.ListN.{get_elem?}

-- a window from `start` to `end`, with a list of bytes of its own
pub record ModelWindow : Type 0 where
  pub start : ℕ
  pub end : ℕ
  pub bytes : List ℕ
  pub dropped : Bool

-- A block's places, each free or a byte. Windows lie between its two edges, and beyond them every place is free.
pub record BlockModel : Type 0 where
  pub places : List (Option ℕ)
  pub low : ℕ
  pub high : ℕ
  pub windows : List ModelWindow

pub data Event : Type 0 where
  copies : ℕ → Event
  grows_front : ℕ → List ℕ → Event
  grows_back : ℕ → List ℕ → Event
  trims_front : ℕ → ℕ → Event
  trims_back : ℕ → ℕ → Event
  drops : ℕ → Event

abbrev pub made : ℕ → List ℕ → ℕ → BlockModel
made front bs back = record {
  places = replicate front none ++ (map some bs ++ replicate back none);
  low = front;
  high = front + length bs;
  windows = record { start = front; end = front + length bs; bytes = bs; dropped = false } ∷ [];
}

-- the places with the bytes bs from `at` on
abbrev pub filled : ℕ → List ℕ → List (Option ℕ) → List (Option ℕ)
filled at bs ps = take at ps ++ (map some bs ++ drop (at + length bs) ps)

module _ (c : BlockModel) where
  abbrev pub Lives : ℕ → ModelWindow → Type 0
  Lives i w = (get_elem? c.windows i ≡ some w) × (w.dropped ≡ false)

  -- the window i is w from here on
  abbrev pub with_window : ℕ → ModelWindow → BlockModel
  with_window i w = record { places = c.places; low = c.low; high = c.high; windows = set c.windows i w }

  abbrev pub with_front : ℕ → ModelWindow → List ℕ → BlockModel
  with_front i w bs = record {
    places = filled (w.start - length bs) bs c.places;
    low = w.start - length bs;
    high = c.high;
    windows = set c.windows i (record { start = w.start - length bs; end = w.end; bytes = bs ++ w.bytes; dropped = false });
  }

  abbrev pub with_back : ℕ → ModelWindow → List ℕ → BlockModel
  with_back i w bs = record {
    places = filled w.end bs c.places;
    low = c.low;
    high = w.end + length bs;
    windows = set c.windows i (record { start = w.start; end = w.end + length bs; bytes = w.bytes ++ bs; dropped = false });
  }

  -- A growth is won where the window stands at the edge, and else lost. A window that was dropped takes no step.
  abbrev pub Steps : Event → BlockModel → Type 0
  Steps (copies i) d = (w : ModelWindow) × Lives i w × (d ≡ record { places = c.places; low = c.low; high = c.high; windows = c.windows ++ w ∷ [] })
  Steps (grows_front i bs) d = (w : ModelWindow) × Lives i w × (0 < length bs) × (length bs ≤ w.start) × (w.start ≡ c.low → d ≡ with_front i w bs) × (w.start ≢ c.low → d ≡ c)
  Steps (grows_back i bs) d = (w : ModelWindow) × Lives i w × (0 < length bs) × (w.end + length bs ≤ length c.places) × (w.end ≡ c.high → d ≡ with_back i w bs) × (w.end ≢ c.high → d ≡ c)
  Steps (trims_front i n) d = (w : ModelWindow) × Lives i w × (n ≤ length w.bytes) × (d ≡ with_window i (record { start = w.start + n; end = w.end; bytes = drop n w.bytes; dropped = false }))
  Steps (trims_back i n) d = (w : ModelWindow) × Lives i w × (n ≤ length w.bytes) × (d ≡ with_window i (record { start = w.start; end = w.end - n; bytes = take (length w.bytes - n) w.bytes; dropped = false }))
  Steps (drops i) d = (w : ModelWindow) × Lives i w × (d ≡ with_window i (record { start = w.start; end = w.end; bytes = w.bytes; dropped = true }))

  -- the step fills the places from a on and below b
  abbrev pub Fills : Event → ℕ → ℕ → Type 0
  Fills (grows_front i bs) a b = (w : ModelWindow) × Lives i w × (w.start ≡ c.low) × (length bs ≤ w.start) × (a ≡ w.start - length bs) × (b ≡ w.start)
  Fills (grows_back i bs) a b = (w : ModelWindow) × Lives i w × (w.end ≡ c.high) × (w.end + length bs ≤ length c.places) × (a ≡ w.end) × (b ≡ w.end + length bs)
  Fills _ a b = ⊥

abbrev pub Runs : BlockModel → List Event → BlockModel → Type 0
Runs c [] d = d ≡ c
Runs c (e ∷ es) d = (m : BlockModel) × Steps c e m × Runs m es d

-- every window's places hold its own list
abbrev pub HoldsBytes : BlockModel → Type 0
HoldsBytes c = (i : ℕ) (w : ModelWindow) → get_elem? c.windows i ≡ some w → slice_range c.places w.start w.end ≡ map some w.bytes

-- no step fills a place that holds a byte
abbrev pub FillsFree : BlockModel → Type 0
FillsFree c = (e : Event) (a b : ℕ) → Fills c e a b → slice_range c.places a b ≡ replicate (b - a) none

-- The law of the block model: after every list of steps, each window has its own bytes, and whatever is filled next was free.
abbrev pub BlockLaw : Type 0
BlockLaw = (front back : ℕ) (bs : List ℕ) (es : List Event) (c : BlockModel) → Runs (made front bs back) es c → HoldsBytes c × FillsFree c
