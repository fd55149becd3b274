-- Each step on a block's table is a step of the block model, or none.
use Rattle.std.proofs.Common.{◌≡◌, ℕ, zero, suc, ◌+◌, ◌-◌, ◌<◌, ◌≤◌, List, [], ◌∷◌, ◌++◌, map, length, length-append, set, refl, sym, ap, ◌∙◌, false, arith}
use Rattle.std.proofs.lemmas.List.{map-append}
use mathlib.Core.Option.{some, some-injective, some-ne-none}
use lib.ListN.{get_elem?}
use Rattle.atomic_table.proofs.Lists.{at_map}
use Rattle.byte_block.specs.Ranges.{end_of}
use Rattle.edge_claims.specs.BlockModel.{ModelWindow, BlockModel, Event, made, with_front, with_back, Runs}
use Rattle.edge_claims.specs.BlockModel.Event.{copies, grows_front, grows_back}
use Rattle.edge_claims.specs.Rule.{front_of, back_of, total, carving, first_view, window_of, IsRange, StandsForModel}
use Rattle.edge_claims.specs.Steps.{grown_front, grown_back, shared_view, copied_view}
use Rattle.edge_claims.specs.declared.view.View.{View}
use Rattle.edge_claims.specs.declared.view.Opening.{Opening}
use Rattle.edge_claims.proofs.BlockLaw.{block_law, block_size, runs_more}
use Rattle.edge_claims.proofs.Totals.{total_set, total_snoc}

module _ {A B : Type 0} (f : A → B) where
  map_set : (l : List A) (i : ℕ) (a : A) → map f (set l i a) ≡ set (map f l) i (f a)
  map_set [] i a = refl
  map_set (x ∷ xs) zero a = refl
  map_set (x ∷ xs) (suc i) a = ap (λ l. f x ∷ l) (map_set xs i a)

  map_set_same : (l : List A) (i : ℕ) (a b : A) → get_elem? l i ≡ some a → f b ≡ f a → map f (set l i b) ≡ map f l
  map_set_same [] i a b e s = absurd (some-ne-none a (sym e))
  map_set_same (x ∷ xs) zero a b e s = ap (λ y. y ∷ map f xs) (s ∙ ap f (sym (some-injective x a e)))
  map_set_same (x ∷ xs) (suc i) a b e s = ap (λ l. f x ∷ l) (map_set_same xs i a b e s)

module _ (o : Opening) (f b : ℕ) (vs : List View) (id : ℕ) (v : View) (k : StandsForModel o f b vs) (at : get_elem? vs id ≡ some v) where
  -- a step that moves free places to those that are being filled, or nothing
  pub model_stays : (f' b' : ℕ) (w : View) → window_of w ≡ window_of v → f' + carving front_of w ≡ f + carving front_of v → b' + carving back_of w ≡ b + carving back_of v → StandsForModel o f' b' (set vs id w)
  model_stays f' b' w same front back = record {
    model = k.model;
    events = k.events;
    runs = k.runs;
    low = omega (arith, k.low, front, total_set (carving front_of) vs id v w at);
    high = omega (arith, k.high, back, total_set (carving back_of) vs id v w at);
    windows = k.windows ∙ sym (map_set_same window_of vs id v w at same);
    law = block_law;
  }

  there : get_elem? k.model.windows id ≡ some (window_of v)
  there = ap (λ ws. get_elem? ws id) k.windows ∙ at_map window_of vs id v at

  pub model_grows_front : (bs : List ℕ) → 0 < v.front.carving → v.front.carving ≡ total (carving front_of) vs → v.front.gap ≡ f + total (carving front_of) vs → length bs ≡ v.front.carving
      → StandsForModel o f b (set vs id (grown_front bs v))
  model_grows_front bs busy all gap wide =
      let w = grown_front bs v in
      let u = window_of v in
      let fits : length bs ≤ u.start = omega (arith, wide, all, gap) in
      let edge : u.start ≡ k.model.low = omega (arith, gap, k.low) in
      let next = with_front k.model id u bs in
      let start : u.start - length bs ≡ v.front.gap - v.front.carving = omega (arith, wide) in
      let end : v.front.gap + length v.bytes ≡ v.front.gap - v.front.carving + length (bs ++ v.bytes) = omega (arith, wide, all, gap, length-append bs v.bytes) in
      let grown : ModelWindow = record { start = u.start - length bs; end = u.end; bytes = bs ++ u.bytes; dropped = false } in
      let window : grown ≡ window_of w = λ i. record { start = start i; end = end i; bytes = bs ++ v.bytes; dropped = false } in
      let front = total_set (carving front_of) vs id v w at in
      let back = total_set (carving back_of) vs id v w at in
      let more : List Event = k.events ++ grows_front id bs ∷ [] in
      let ran : Runs (made o.bytes.from o.bytes.bytes (o.capacity - end_of o.bytes)) more next = runs_more k.events (grows_front id bs) (made o.bytes.from o.bytes.bytes (o.capacity - end_of o.bytes)) k.model next k.runs (u, (there, refl), omega (arith, wide, busy), fits, (λ _. refl), (λ no. absurd (no edge))) in
      record {
        model = next;
        events = more;
        runs = ran;
        low = omega (arith, front, all, gap, wide);
        high = omega (arith, k.high, back);
        windows = (λ i. set (k.windows i) id (window i)) ∙ sym (map_set window_of vs id w);
        law = block_law;
      }

  pub model_grows_back : (bs : List ℕ) → end_of o.bytes ≤ o.capacity → IsRange o v → 0 < v.back.carving → v.back.carving ≡ total (carving back_of) vs → v.back.gap ≡ b + total (carving back_of) vs → length bs ≡ v.back.carving
      → StandsForModel o f b (set vs id (grown_back bs v))
  model_grows_back bs within range busy all gap wide =
      let w = grown_back bs v in
      let u = window_of v in
      let size = block_size o.bytes.from (o.capacity - end_of o.bytes) o.bytes.bytes k.events k.model k.runs in
      let fits : u.end + length bs ≤ length k.model.places = omega (arith, size, within, range.length, wide, all, gap) in
      let edge : u.end ≡ k.model.high = omega (arith, gap, k.high, range.length) in
      let next = with_back k.model id u bs in
      let end : u.end + length bs ≡ v.front.gap + length (v.bytes ++ bs) = omega (arith, length-append v.bytes bs) in
      let grown : ModelWindow = record { start = u.start; end = u.end + length bs; bytes = u.bytes ++ bs; dropped = false } in
      let window : grown ≡ window_of w = λ i. record { start = v.front.gap; end = end i; bytes = v.bytes ++ bs; dropped = false } in
      let front = total_set (carving front_of) vs id v w at in
      let back = total_set (carving back_of) vs id v w at in
      let more : List Event = k.events ++ grows_back id bs ∷ [] in
      let ran : Runs (made o.bytes.from o.bytes.bytes (o.capacity - end_of o.bytes)) more next = runs_more k.events (grows_back id bs) (made o.bytes.from o.bytes.bytes (o.capacity - end_of o.bytes)) k.model next k.runs (u, (there, refl), omega (arith, wide, busy), fits, (λ _. refl), (λ no. absurd (no edge))) in
      record {
        model = next;
        events = more;
        runs = ran;
        low = omega (arith, k.low, front);
        high = omega (arith, back, all, gap, wide, range.length);
        windows = (λ i. set (k.windows i) id (window i)) ∙ sym (map_set window_of vs id w);
        law = block_law;
      }

  pub model_copies : v.front.carving ≡ 0 → v.back.carving ≡ 0 → StandsForModel o f b (set vs id (shared_view v) ++ copied_view v ∷ [])
  model_copies front back =
      let left = shared_view v in
      let right = copied_view v in
      let ws = set vs id left in
      let u = window_of v in
      let next : BlockModel = record { places = k.model.places; low = k.model.low; high = k.model.high; windows = k.model.windows ++ u ∷ [] } in
      let more : List Event = k.events ++ copies id ∷ [] in
      let ran : Runs (made o.bytes.from o.bytes.bytes (o.capacity - end_of o.bytes)) more next = runs_more k.events (copies id) (made o.bytes.from o.bytes.bytes (o.capacity - end_of o.bytes)) k.model next k.runs (u, (there, refl), refl) in
      record {
        model = next;
        events = more;
        runs = ran;
        low = omega (arith, k.low, front, total_set (carving front_of) vs id v left at, total_snoc (carving front_of) ws right);
        high = omega (arith, k.high, back, total_set (carving back_of) vs id v left at, total_snoc (carving back_of) ws right);
        windows = ap (λ l. l ++ u ∷ []) (k.windows ∙ sym (map_set_same window_of vs id v left at refl)) ∙ sym (map-append window_of ws (right ∷ []));
        law = block_law;
      }

pub model_opens : (o : Opening) → end_of o.bytes ≤ o.capacity → StandsForModel o o.bytes.from (o.capacity - end_of o.bytes) (first_view o ∷ [])
model_opens o fits =
    record {
      model = made o.bytes.from o.bytes.bytes (o.capacity - end_of o.bytes);
      events = [];
      runs = refl;
      low = omega arith;
      high = omega (arith, fits);
      windows = refl;
      law = block_law;
    }
