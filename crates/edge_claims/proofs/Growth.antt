-- A growth that was won: what the window's seat holds and has after its last step, and what the window is then.
use Rattle.std.proofs.Common.{◌≡◌, ℕ, ◌+◌, ◌-◌, ◌<◌, ◌≤◌, List, [], ◌∷◌, ◌++◌, length, length-append, take_all, slice_range, sym, ap, subst, ◌∙◌, arith}
use mathlib.Core.Option.{none}
use Rattle.bytes.proofs.Ranges.{take-append_past, slice_range_grown}
use Rattle.atomic_table.specs.Table.{step, Allows, rest}
use Rattle.byte_block.specs.Ranges.{Free, Frozen}
use Rattle.edge_claims.specs.Sides.{won}
use Rattle.edge_claims.specs.Rule.{first_places, last_places, BlockInvariant}
use Rattle.edge_claims.specs.Steps.{Seated, with_front, with_back, grown_front, grown_back, filled_front, filled_back}
use Rattle.edge_claims.specs.Window.{Seen}
use Rattle.edge_claims.specs.Shared.{seen_of, view_of, Stands}
use Rattle.edge_claims.specs.Grown.{GrownFront, GrownBack}
use Rattle.edge_claims.specs.declared.view.End.{End}
use Rattle.edge_claims.specs.declared.view.View.{View}
use Rattle.edge_claims.specs.declared.view.Opening.{Opening}
use Rattle.edge_claims.specs.declared.shared.SharedWindow.TheInside.{Inside}
use Rattle.edge_claims.proofs.Steps.{fills_front, fills_back}

-- a list in front of a part that begins another
pub joined : (bs xs : List ℕ) (s s' e e' : ℕ) → s ≡ 0 → s' ≡ 0 → e ≡ length bs + e' → slice_range (bs ++ xs) s e ≡ bs ++ slice_range xs s' e'
joined bs xs s s' e e' p p' q =
    (λ k. slice_range (bs ++ xs) (p k) (q k)) ∙ take-append_past bs xs (e' - 0) (length bs + e' - 0) (omega arith) ∙ (λ k. bs ++ slice_range xs (sym p' k) e')

abbrev first_end : List (ℕ × End) → End → End
first_end [] e = e
first_end (x ∷ xs) e = x.1

-- the free end that a seat took last is one end
same_end : (m : List (ℕ × End)) (k : ℕ) (e d : End) (xs ys : List (ℕ × End)) → m ≡ (k, e) ∷ xs → m ≡ (k, d) ∷ ys → d ≡ e
same_end m k e d xs ys p q = ap (λ l. first_end l e) (sym q ∙ p)

-- the seat before the claim, after it, and with its end cut
module _ (me me' : Seated) (e d d' : End) (bs : List ℕ) (free : me.1 ≡ []) (some : 0 < length bs) (wrote : d'.wrote.bytes ≡ bs) where
  held : (k : ℕ) (w : View) → me' ≡ (w, (k, e) ∷ me.1) → (k, d') ∷ rest me'.1 ≡ (k, d') ∷ []
  held k w is = ap (λ (m : Seated). (k, d') ∷ rest m.1) is ∙ ap (λ l. (k, d') ∷ l) free

  pub fill_front : (o : Opening) (slots id start : ℕ) → length bs ≤ start → me.0.front.gap ≡ start → e.free ≡ first_places me.0.block me.0.capacity start
      → me' ≡ (with_front (won start (start - length bs) me.0.front) me.0, (0, e) ∷ me.1) → me'.1 ≡ (0, d) ∷ rest me'.1
      → d'.free ≡ record { block = d.free.block; from = d.free.from; to = d.free.to - length bs }
      → Allows (BlockInvariant o) slots id (me'.0, (0, d') ∷ rest me'.1) 0 (λ n. n) (filled_front (step slots 0 0 0 none) (me'.0, (0, d') ∷ rest me'.1))
  fill_front o slots id start room here at is has cut =
      let w = with_front (won start (start - length bs) me.0.front) me.0 in
      let same : d ≡ e = same_end me'.1 0 e d me.1 (rest me'.1) (ap (λ (m : Seated). m.1) is) has in
      let carved : me'.0.front.carving ≡ length bs = ap (λ (m : Seated). m.0.front.carving) is ∙ omega (arith, room) in
      let gap : me'.0.front.gap ≡ start = ap (λ (m : Seated). m.0.front.gap) is ∙ here in
      let place : d.free ≡ first_places me.0.block me.0.capacity start = ap (λ (x : End). x.free) same ∙ at in
      let left : start - length bs ≡ me'.0.front.gap - me'.0.front.carving = omega (arith, carved, gap) in
      fills_front o slots id (me'.0, (0, d') ∷ rest me'.1) d' (held 0 w is) (omega (arith, carved, some)) (ap length wrote ∙ sym carved)
      (cut ∙ ap (λ (f : Free). record { block = f.block; from = f.from; to = f.to - length bs }) place
      ∙ (λ i. first_places (sym (ap (λ (m : Seated). m.0.block) is) i) (sym (ap (λ (m : Seated). m.0.capacity) is) i) (left i)))

  pub fill_back : (o : Opening) (slots id room : ℕ) → length bs ≤ room → room ≤ me.0.capacity → me.0.back.gap ≡ room → e.free ≡ last_places me.0.block me.0.capacity room
      → me' ≡ (with_back (won room (room - length bs) me.0.back) me.0, (1, e) ∷ me.1) → me'.1 ≡ (1, d) ∷ rest me'.1
      → d'.free ≡ record { block = d.free.block; from = d.free.from + length bs; to = d.free.to }
      → Allows (BlockInvariant o) slots id (me'.0, (1, d') ∷ rest me'.1) 1 (λ n. n) (filled_back (step slots 1 0 0 none) (me'.0, (1, d') ∷ rest me'.1))
  fill_back o slots id room fits within here at is has cut =
      let w = with_back (won room (room - length bs) me.0.back) me.0 in
      let same : d ≡ e = same_end me'.1 1 e d me.1 (rest me'.1) (ap (λ (m : Seated). m.1) is) has in
      let carved : me'.0.back.carving ≡ length bs = ap (λ (m : Seated). m.0.back.carving) is ∙ omega (arith, fits) in
      let gap : me'.0.back.gap ≡ room = ap (λ (m : Seated). m.0.back.gap) is ∙ here in
      let size : me'.0.capacity ≡ me.0.capacity = ap (λ (m : Seated). m.0.capacity) is in
      let place : d.free ≡ last_places me.0.block me.0.capacity room = ap (λ (x : End). x.free) same ∙ at in
      let from : me.0.capacity - room + length bs ≡ me'.0.capacity - (me'.0.back.gap - me'.0.back.carving) = omega (arith, carved, gap, size, fits, within) in
      fills_back o slots id (me'.0, (1, d') ∷ rest me'.1) d' (held 1 w is) (omega (arith, carved, some)) (ap length wrote ∙ sym carved)
      (cut ∙ ap (λ (f : Free). record { block = f.block; from = f.from + length bs; to = f.to }) place
      ∙ (λ i. record { block = sym (ap (λ (m : Seated). m.0.block) is) i; from = from i; to = sym size i }))

  -- the seat after the last step
  pub filled_front_is : (w : View) (last : Seated) → me' ≡ (w, (0, e) ∷ me.1) → ((x : End) → (0, d') ∷ rest me'.1 ≡ (0, x) ∷ [] → last ≡ (grown_front x.wrote.bytes me'.0, [])) → last ≡ (grown_front bs w, [])
  filled_front_is w last is told = told d' (held 0 w is) ∙ (λ i. (grown_front (wrote i) (ap (λ (m : Seated). m.0) is i), []))

  pub filled_back_is : (w : View) (last : Seated) → me' ≡ (w, (1, e) ∷ me.1) → ((x : End) → (1, d') ∷ rest me'.1 ≡ (1, x) ∷ [] → last ≡ (grown_back x.wrote.bytes me'.0, [])) → last ≡ (grown_back bs w, [])
  filled_back_is w last is told = told d' (held 1 w is) ∙ (λ i. (grown_back (wrote i) (ap (λ (m : Seated). m.0) is i), []))

-- the window i before, and j after
module _ (i j : Inside) (bs : List ℕ) (s : Stands i) (edges : j.edges ≡ i.edges) (table : j.seat.table_id ≡ i.seat.table_id) (capacity : j.capacity ≡ i.capacity) (some : 0 < length bs) where
  module _ (here : (view_of i).front.gap ≡ i.start) (fits : length bs ≤ i.start) (start : j.start ≡ i.start - length bs) (end : j.end ≡ i.end)
      (frozen : j.bytes ≡ record { block = i.bytes.block; from = i.bytes.from - length bs; bytes = bs ++ i.bytes.bytes })
      (seat : j.seat.me ≡ (grown_front bs (with_front (won i.start (i.start - length bs) (view_of i).front) (view_of i)), [])) where
    abbrev now : Seated → View
    now m = m.0

    pub stands_front : Stands j
    stands_front =
        let gap : (view_of j).front.gap ≡ i.start - length bs = ap (λ (m : Seated). (now m).front.gap) seat ∙ omega (arith, here, fits) in
        let back : (view_of j).back.gap ≡ (view_of i).back.gap = ap (λ (m : Seated). (now m).back.gap) seat in
        let size : (view_of j).capacity ≡ (view_of i).capacity = ap (λ (m : Seated). (now m).capacity) seat in
        let holds : (view_of j).bytes ≡ bs ++ (view_of i).bytes = ap (λ (m : Seated). (now m).bytes) seat in
        let long : length (view_of j).bytes ≡ length bs + length (view_of i).bytes = ap length holds ∙ length-append bs (view_of i).bytes in
        record {
          table = table ∙ s.table ∙ ap (λ a. a.value.shared.table_id) (sym edges);
          words = ap (λ a. a.value.shared.table_id.words) edges ∙ s.words;
          slots = ap (λ a. a.value.shared.table_id.slots) edges ∙ s.slots;
          free = ap (λ (m : Seated). m.1) seat;
          front = ap (λ (m : Seated). (now m).front.carving) seat;
          back = ap (λ (m : Seated). (now m).back.carving) seat ∙ s.back;
          block = ap (λ (f : Frozen). f.block) frozen ∙ s.block ∙ sym (ap (λ (m : Seated). (now m).block) seat);
          from = ap (λ (f : Frozen). f.from) frozen ∙ omega (arith, s.from, here, gap);
          bytes = ap (λ (f : Frozen). f.bytes) frozen ∙ ap (λ l. bs ++ l) s.bytes ∙ sym holds;
          capacity = capacity ∙ s.capacity ∙ sym size;
          range = omega (arith, s.range, gap, back, size, long, here, fits);
          start = omega (arith, gap, start);
          ordered = omega (arith, s.ordered, start, end);
          end = omega (arith, s.end, gap, long, end, here, fits);
          small = omega (arith, s.small, size);
        }

    pub grew_front : (old : Seen) → seen_of i ≡ old → GrownFront bs old (seen_of j)
    grew_front old is = subst (λ w. GrownFront bs w (seen_of j)) is (grew_front_here)
      where
        grew_front_here : GrownFront bs (seen_of i) (seen_of j)
        grew_front_here =
            let gap : (view_of j).front.gap ≡ i.start - length bs = ap (λ (m : Seated). (now m).front.gap) seat ∙ omega (arith, here, fits) in
            let none_cut : j.start - (view_of j).front.gap ≡ 0 = omega (arith, start, gap) in
            let none_cut_before : i.start - (view_of i).front.gap ≡ 0 = omega (arith, here) in
            let upto : j.end - (view_of j).front.gap ≡ length bs + (i.end - (view_of i).front.gap) = omega (arith, end, gap, here, fits, s.ordered) in
            record {
              bytes = ap (λ (f : Frozen). slice_range f.bytes (j.start - (view_of j).front.gap) (j.end - (view_of j).front.gap)) frozen
                  ∙ joined bs i.bytes.bytes (j.start - (view_of j).front.gap) (i.start - (view_of i).front.gap) (j.end - (view_of j).front.gap) (i.end - (view_of i).front.gap) none_cut none_cut_before upto;
              start = omega (arith, start, fits);
              end = end;
              low_seen = λ _. ap (λ (m : Seated). (now m).front.seen) seat ∙ sym start;
              high_seen = ap (λ (m : Seated). (now m).capacity - (now m).back.seen) seat;
              claims = ap (λ (m : Seated). (now m).front.claims + (now m).back.claims) seat ∙ omega (arith, fits);
              there = record {
                block = ap (λ (m : Seated). (now m).block) seat;
                capacity = ap (λ (m : Seated). (now m).capacity) seat;
                alone = ap (λ (m : Seated). (now m).alone) seat;
                first_low = ap (λ a. a.value.shared.key.first_low) edges;
                first_high = ap (λ a. a.value.shared.key.first_high) edges;
              };
            }

  module _ (here : (view_of i).back.gap + i.end ≡ (view_of i).capacity) (fits : i.end + length bs ≤ (view_of i).capacity) (start : j.start ≡ i.start) (end : j.end ≡ i.end + length bs)
      (frozen : j.bytes ≡ record { block = i.bytes.block; from = i.bytes.from; bytes = i.bytes.bytes ++ bs })
      (room left : ℕ) (all : room ≡ (view_of i).back.gap) (rest_of : left ≡ room - length bs)
      (seat : j.seat.me ≡ (grown_back bs (with_back (won room left (view_of i).back) (view_of i)), [])) where
    abbrev then : Seated → View
    then m = m.0

    pub stands_back : Stands j
    stands_back =
        let gap : (view_of j).back.gap ≡ left = ap (λ (m : Seated). (then m).back.gap) seat ∙ omega (arith, here, fits, all, rest_of) in
        let front : (view_of j).front.gap ≡ (view_of i).front.gap = ap (λ (m : Seated). (then m).front.gap) seat in
        let size : (view_of j).capacity ≡ (view_of i).capacity = ap (λ (m : Seated). (then m).capacity) seat in
        let holds : (view_of j).bytes ≡ (view_of i).bytes ++ bs = ap (λ (m : Seated). (then m).bytes) seat in
        let long : length (view_of j).bytes ≡ length (view_of i).bytes + length bs = ap length holds ∙ length-append (view_of i).bytes bs in
        record {
          table = table ∙ s.table ∙ ap (λ a. a.value.shared.table_id) (sym edges);
          words = ap (λ a. a.value.shared.table_id.words) edges ∙ s.words;
          slots = ap (λ a. a.value.shared.table_id.slots) edges ∙ s.slots;
          free = ap (λ (m : Seated). m.1) seat;
          front = ap (λ (m : Seated). (then m).front.carving) seat ∙ s.front;
          back = ap (λ (m : Seated). (then m).back.carving) seat;
          block = ap (λ (f : Frozen). f.block) frozen ∙ s.block ∙ sym (ap (λ (m : Seated). (then m).block) seat);
          from = ap (λ (f : Frozen). f.from) frozen ∙ s.from ∙ sym front;
          bytes = ap (λ (f : Frozen). f.bytes) frozen ∙ ap (λ l. l ++ bs) s.bytes ∙ sym holds;
          capacity = capacity ∙ s.capacity ∙ sym size;
          range = omega (arith, s.range, gap, front, size, long, here, fits, all, rest_of);
          start = omega (arith, front, start, s.start);
          ordered = omega (arith, s.ordered, start, end);
          end = omega (arith, s.end, front, long, end, here, fits);
          small = omega (arith, s.small, size);
        }

    pub grew_back : (old : Seen) → seen_of i ≡ old → GrownBack bs old (seen_of j)
    grew_back old is = subst (λ w. GrownBack bs w (seen_of j)) is (grew_back_here)
      where
        grew_back_here : GrownBack bs (seen_of i) (seen_of j)
        grew_back_here =
            let front : (view_of j).front.gap ≡ (view_of i).front.gap = ap (λ (m : Seated). (then m).front.gap) seat in
            let first : j.start - (view_of j).front.gap ≡ i.start - (view_of i).front.gap = omega (arith, start, front) in
            let whole : i.end - (view_of i).front.gap ≡ length i.bytes.bytes = omega (arith, here, s.range, s.end, s.start, s.ordered, ap length s.bytes) in
            let upto : j.end - (view_of j).front.gap ≡ length i.bytes.bytes + length bs = omega (arith, end, front, whole, s.start, s.ordered) in
            let last : (view_of j).capacity - (view_of j).back.seen ≡ (view_of i).capacity - left = ap (λ (m : Seated). (then m).capacity - (then m).back.seen) seat in
            let before : i.start - (view_of i).front.gap ≤ i.end - (view_of i).front.gap = omega (arith, s.ordered) in
            record {
              bytes = ap (λ (f : Frozen). slice_range f.bytes (j.start - (view_of j).front.gap) (j.end - (view_of j).front.gap)) frozen
                  ∙ (λ k. slice_range (i.bytes.bytes ++ bs) (first k) (upto k))
                  ∙ slice_range_grown i.bytes.bytes (i.bytes.bytes ++ bs) bs (i.start - (view_of i).front.gap) (i.end - (view_of i).front.gap) (length i.bytes.bytes + length bs) before (omega (arith, whole))
                  (take_all (length i.bytes.bytes + length bs) (i.bytes.bytes ++ bs) (omega (arith, length-append i.bytes.bytes bs)) ∙ ap (λ l. l ++ bs) (sym (take_all (i.end - (view_of i).front.gap) i.bytes.bytes (omega (arith, whole)))));
              start = start;
              end = end;
              low_seen = ap (λ (m : Seated). (then m).front.seen) seat;
              high_seen = λ _. last ∙ omega (arith, here, fits, end, all, rest_of);
              claims = ap (λ (m : Seated). (then m).front.claims + (then m).back.claims) seat ∙ omega (arith, fits, here, all, rest_of);
              there = record {
                block = ap (λ (m : Seated). (then m).block) seat;
                capacity = ap (λ (m : Seated). (then m).capacity) seat;
                alone = ap (λ (m : Seated). (then m).alone) seat;
                first_low = ap (λ a. a.value.shared.key.first_low) edges;
                first_high = ap (λ a. a.value.shared.key.first_high) edges;
              };
            }
