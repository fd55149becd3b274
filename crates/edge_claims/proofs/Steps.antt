-- Each step on a block's table keeps its rule.
use Rattle.std.proofs.Common.{◌≡◌, ◌≢◌, ℕ, zero, suc, ◌+◌, ◌-◌, ◌<◌, ◌≤◌, List, [], ◌∷◌, ◌++◌, length, map, set, slice_set, slice_index, refl, sym, ap, subst, ◌∙◌, Bool, true, false, eqb, eq-eqb, ne_eqb, arith}
use Rattle.std.proofs.lemmas.Bool.{false≢true}
use mathlib.Core.Option.{none, some, some-injective, some-ne-none}
use mathlib.Core.Logic.{dite}
use native.Mathlib.Decide.{ℕ_discrete}
use prog.Atomic.{either}
use lib.ListN.{get_elem?}
use Rattle.atomic_table.specs.Table.{step, Allows, Splits, opening}
use Rattle.atomic_table.specs.Table.Act.{keeps, takes, gives}
use Rattle.byte_block.specs.Ranges.{Free, end_of}
use Rattle.edge_claims.specs.Sides.{Side, begun, won, lost, Stands}
use Rattle.edge_claims.specs.Rule.{front_of, back_of, first_places, last_places, first_view, carving, IsRange, Agree, BlockInvariant}
use Rattle.edge_claims.specs.Steps.{Seated, with_front, with_back, grown_front, grown_back, shared_view, copied_view, claimed_front, claimed_back, filled_front, filled_back}
use Rattle.edge_claims.specs.declared.view.End.{End}
use Rattle.edge_claims.specs.declared.view.View.{View}
use Rattle.edge_claims.specs.declared.view.Opening.{Opening}
use Rattle.edge_claims.proofs.Totals.{total_one}
use Rattle.edge_claims.proofs.BlockModels.{model_stays, model_grows_front, model_grows_back, model_copies, model_opens}
use Rattle.edge_claims.proofs.Sides.{stays, misses, idle, wins, ends, splits}
use Rattle.edge_claims.proofs.Views.{others_known, views_stay, views_change, views_split, agree_front, agree_back, agree_self}

-- the bytes that were written last to the free end that was taken last
abbrev first_wrote : List (ℕ × End) → List ℕ
first_wrote [] = []
first_wrote (x ∷ xs) = x.1.wrote.bytes

module _ (o : Opening) (slots id : ℕ) where
  abbrev front_free : ℕ → Free
  front_free = first_places o.bytes.block o.capacity

  abbrev back_free : ℕ → Free
  back_free = last_places o.bytes.block o.capacity

  abbrev behind : ℕ
  behind = o.capacity - o.first_high

  pub claims_front : (me : Seated) (start left : ℕ) → left < start → me.0.front.gap ≤ start
      → Allows (BlockInvariant o) slots id me 0 (λ n. either (eqb n start) left n) (claimed_front (step slots 0 start left none) me)
  claims_front me start left less near s h long at small =
      let v = me.0 in
      let n = slice_index s.words 0 in
      let found : n ≡ h.front_room = ap (λ ws. slice_index ws 0) h.words in
      let own = h.front.each id v at in
      let mine = h.views.ranges id v at in
      let range : (f : Side) → f.gap ≡ v.front.gap → IsRange o (with_front f v) = λ f same. record { block = mine.block; capacity = mine.capacity; length = omega (arith, mine.length, same) } in
      dite (ℕ_discrete n start)
      (λ hit.
      let room : start ≡ h.front_room = sym hit ∙ found in
      let here : v.front.gap ≡ h.front_room = omega (arith, near, room, own.apart) in
      let still = idle front_of front_free o.first_low s.views id h.front_room h.front_home v h.front at here in
      let mine_too = total_one (carving front_of) s.views id v at in
      let quiet : v.front.carving ≡ 0 = omega (arith, still, mine_too) in
      let home = h.front.rest (idle front_of front_free o.first_low s.views id h.front_room h.front_home v h.front at here) in
      let e = home.0 in
      let w = with_front (won start left v.front) v in
      let new : either (eqb n start) left n ≡ left = ap (λ b. either b left n) (eq-eqb n start hit) in (
        w,
        takes 0 e,
        ap (λ hs. get_elem? hs 0) h.homes ∙ ap some home.1,
        record {
          within = h.within;
          low = h.low;
          high = h.high;
          front_room = left;
          back_room = h.back_room;
          front_home = none;
          back_home = h.back_home;
          words = ap (λ ws. slice_set ws 0 (either (eqb n start) left n)) h.words ∙ ap (λ x. x ∷ h.back_room ∷ []) new;
          homes = ap (λ hs. slice_set hs 0 none) h.homes;
          front = wins front_of front_free o.first_low s.views id h.front_room left h.front_home v w h.front at (others_known o s.views id v h.views at) here (omega (arith, less, room)) (ap (λ r. won r left v.front) room);
          back = stays back_of back_free behind s.views id h.back_room h.back_home v w h.back at refl (λ a. a);
          views = views_stay o s.views id v h.views at w (range (won start left v.front) refl) refl refl (λ a. a);
          model = model_stays o h.front_room h.back_room s.views id v h.model at left h.back_room w refl (omega (arith, room, less, quiet)) refl;
        },
        record {
          hit = λ _. (here ∙ sym room, e, home.2 ∙ (λ i. first_places (sym mine.block i) (sym mine.capacity i) (sym room i)), refl);
          miss = λ ne. absurd (ne hit);
          known = λ a. found ∙ sym (own.known a);
        },
      ))
      (λ miss.
      let w = with_front (lost n v.front) v in
      let new : either (eqb n start) left n ≡ n = ap (λ b. either b left n) (ne_eqb n start miss) in (
        w,
        keeps,
        tt,
        record {
          within = h.within;
          low = h.low;
          high = h.high;
          front_room = h.front_room;
          back_room = h.back_room;
          front_home = h.front_home;
          back_home = h.back_home;
          words = ap (λ ws. slice_set ws 0 (either (eqb n start) left n)) h.words ∙ ap (λ x. x ∷ h.back_room ∷ []) (new ∙ found);
          homes = h.homes;
          front = misses front_of front_free o.first_low s.views id h.front_room h.front_home v w h.front at (ap (λ r. lost r v.front) found);
          back = stays back_of back_free behind s.views id h.back_room h.back_home v w h.back at refl (λ a. a);
          views = views_stay o s.views id v h.views at w (range (lost n v.front) refl) refl refl (λ a. a);
          model = model_stays o h.front_room h.back_room s.views id v h.model at h.front_room h.back_room w refl refl refl;
        },
        record {
          hit = λ e. absurd (miss e);
          miss = λ _. (omega (arith, miss, found, near, own.apart), refl);
          known = λ a. found ∙ sym (own.known a);
        },
      ))

  pub claims_back : (me : Seated) (start left : ℕ) → left < start → me.0.back.gap ≤ start
      → Allows (BlockInvariant o) slots id me 1 (λ n. either (eqb n start) left n) (claimed_back (step slots 1 start left none) me)
  claims_back me start left less near s h long at small =
      let v = me.0 in
      let n = slice_index s.words 1 in
      let found : n ≡ h.back_room = ap (λ ws. slice_index ws 1) h.words in
      let own = h.back.each id v at in
      let mine = h.views.ranges id v at in
      let range : (b : Side) → b.gap ≡ v.back.gap → IsRange o (with_back b v) = λ b same. record { block = mine.block; capacity = mine.capacity; length = omega (arith, mine.length, same) } in
      dite (ℕ_discrete n start)
      (λ hit.
      let room : start ≡ h.back_room = sym hit ∙ found in
      let here : v.back.gap ≡ h.back_room = omega (arith, near, room, own.apart) in
      let still = idle back_of back_free behind s.views id h.back_room h.back_home v h.back at here in
      let mine_too = total_one (carving back_of) s.views id v at in
      let quiet : v.back.carving ≡ 0 = omega (arith, still, mine_too) in
      let home = h.back.rest (idle back_of back_free behind s.views id h.back_room h.back_home v h.back at here) in
      let e = home.0 in
      let w = with_back (won start left v.back) v in
      let new : either (eqb n start) left n ≡ left = ap (λ b. either b left n) (eq-eqb n start hit) in (
        w,
        takes 1 e,
        ap (λ hs. get_elem? hs 1) h.homes ∙ ap some home.1,
        record {
          within = h.within;
          low = h.low;
          high = h.high;
          front_room = h.front_room;
          back_room = left;
          front_home = h.front_home;
          back_home = none;
          words = ap (λ ws. slice_set ws 1 (either (eqb n start) left n)) h.words ∙ ap (λ x. h.front_room ∷ x ∷ []) new;
          homes = ap (λ hs. slice_set hs 1 none) h.homes;
          front = stays front_of front_free o.first_low s.views id h.front_room h.front_home v w h.front at refl (λ a. a);
          back = wins back_of back_free behind s.views id h.back_room left h.back_home v w h.back at (others_known o s.views id v h.views at) here (omega (arith, less, room)) (ap (λ r. won r left v.back) room);
          views = views_stay o s.views id v h.views at w (range (won start left v.back) refl) refl refl (λ a. a);
          model = model_stays o h.front_room h.back_room s.views id v h.model at h.front_room left w refl refl (omega (arith, room, less, quiet));
        },
        record {
          hit = λ _. (here ∙ sym room, e, home.2 ∙ (λ i. last_places (sym mine.block i) (sym mine.capacity i) (sym room i)), refl);
          miss = λ ne. absurd (ne hit);
          known = λ a. found ∙ sym (own.known a);
        },
      ))
      (λ miss.
      let w = with_back (lost n v.back) v in
      let new : either (eqb n start) left n ≡ n = ap (λ b. either b left n) (ne_eqb n start miss) in (
        w,
        keeps,
        tt,
        record {
          within = h.within;
          low = h.low;
          high = h.high;
          front_room = h.front_room;
          back_room = h.back_room;
          front_home = h.front_home;
          back_home = h.back_home;
          words = ap (λ ws. slice_set ws 1 (either (eqb n start) left n)) h.words ∙ ap (λ x. h.front_room ∷ x ∷ []) (new ∙ found);
          homes = h.homes;
          front = stays front_of front_free o.first_low s.views id h.front_room h.front_home v w h.front at refl (λ a. a);
          back = misses back_of back_free behind s.views id h.back_room h.back_home v w h.back at (ap (λ r. lost r v.back) found);
          views = views_stay o s.views id v h.views at w (range (lost n v.back) refl) refl refl (λ a. a);
          model = model_stays o h.front_room h.back_room s.views id v h.model at h.front_room h.back_room w refl refl refl;
        },
        record {
          hit = λ e. absurd (miss e);
          miss = λ _. (omega (arith, miss, found, near, own.apart), refl);
          known = λ a. found ∙ sym (own.known a);
        },
      ))

  fills_front_at : (v : View) (e : End) → 0 < v.front.carving → length e.wrote.bytes ≡ v.front.carving → e.free ≡ first_places v.block v.capacity (v.front.gap - v.front.carving)
      → Allows (BlockInvariant o) slots id (v, (0, e) ∷ []) 0 (λ n. n) (filled_front (step slots 0 0 0 none) (v, (0, e) ∷ []))
  fills_front_at v e busy wide free s h long at small =
      let found : slice_index s.words 0 ≡ h.front_room = ap (λ ws. slice_index ws 0) h.words in
      let own = h.front.each id v at in
      let place = own.own busy in
      let mine = h.views.ranges id v at in
      let bs = e.wrote.bytes in
      let w = grown_front bs v in
      let left : v.front.gap - v.front.carving ≡ h.front_room = omega (arith, place.0, place.1) in
      let more = Rattle.std.proofs.Common.length-append bs v.bytes in (
        w,
        gives,
        tt,
        record {
          within = h.within;
          low = h.low;
          high = h.high;
          front_room = h.front_room;
          back_room = h.back_room;
          front_home = some e;
          back_home = h.back_home;
          words = ap (λ ws. slice_set ws 0 (slice_index s.words 0)) h.words ∙ ap (λ x. x ∷ h.back_room ∷ []) found;
          homes = ap (λ hs. slice_set hs 0 (some e)) h.homes;
          front = ends front_of front_free o.first_low s.views id h.front_room h.front_home e v w h.front at busy refl refl (free ∙ (λ i. first_places (mine.block i) (mine.capacity i) (left i)));
          back = stays back_of back_free behind s.views id h.back_room h.back_home v w h.back at refl (λ a. a);
          views = views_change o s.views id v h.views at w (record { block = mine.block; capacity = mine.capacity; length = omega (arith, mine.length, more, wide, place.0, place.1) })
              (λ j u f. agree_front v u bs wide (omega (arith, place.0, place.1)) (let theirs = h.front.each j u f in omega (arith, theirs.apart, place.1)) (h.views.agree id j v u at f)) (λ a. a);
          model = model_grows_front o h.front_room h.back_room s.views id v h.model at bs busy place.0 place.1 wide;
        },
        λ e' is. ap (λ c. (grown_front (first_wrote c) v, [])) is,
      )

  fills_back_at : (v : View) (e : End) → 0 < v.back.carving → length e.wrote.bytes ≡ v.back.carving → e.free ≡ last_places v.block v.capacity (v.back.gap - v.back.carving)
      → Allows (BlockInvariant o) slots id (v, (1, e) ∷ []) 1 (λ n. n) (filled_back (step slots 1 0 0 none) (v, (1, e) ∷ []))
  fills_back_at v e busy wide free s h long at small =
      let found : slice_index s.words 1 ≡ h.back_room = ap (λ ws. slice_index ws 1) h.words in
      let own = h.back.each id v at in
      let place = own.own busy in
      let mine = h.views.ranges id v at in
      let bs = e.wrote.bytes in
      let w = grown_back bs v in
      let left : v.back.gap - v.back.carving ≡ h.back_room = omega (arith, place.0, place.1) in
      let more = Rattle.std.proofs.Common.length-append v.bytes bs in (
        w,
        gives,
        tt,
        record {
          within = h.within;
          low = h.low;
          high = h.high;
          front_room = h.front_room;
          back_room = h.back_room;
          front_home = h.front_home;
          back_home = some e;
          words = ap (λ ws. slice_set ws 1 (slice_index s.words 1)) h.words ∙ ap (λ x. h.front_room ∷ x ∷ []) found;
          homes = ap (λ hs. slice_set hs 1 (some e)) h.homes;
          front = stays front_of front_free o.first_low s.views id h.front_room h.front_home v w h.front at refl (λ a. a);
          back = ends back_of back_free behind s.views id h.back_room h.back_home e v w h.back at busy refl refl (free ∙ (λ i. last_places (mine.block i) (mine.capacity i) (left i)));
          views = views_change o s.views id v h.views at w (record { block = mine.block; capacity = mine.capacity; length = omega (arith, mine.length, more, wide, place.0, place.1) })
              (λ j u f. agree_back v u bs (let theirs = h.back.each j u f in let yours = h.views.ranges j u f in omega (arith, theirs.apart, place.1, mine.length, yours.length)) (h.views.agree id j v u at f)) (λ a. a);
          model = model_grows_back o h.front_room h.back_room s.views id v h.model at bs h.within mine busy place.0 place.1 wide;
        },
        λ e' is. ap (λ c. (grown_back (first_wrote c) v, [])) is,
      )

  pub fills_front : (me : Seated) (e : End) → me.1 ≡ (0, e) ∷ [] → 0 < me.0.front.carving → length e.wrote.bytes ≡ me.0.front.carving → e.free ≡ first_places me.0.block me.0.capacity (me.0.front.gap - me.0.front.carving)
      → Allows (BlockInvariant o) slots id me 0 (λ n. n) (filled_front (step slots 0 0 0 none) me)
  fills_front me e is busy wide free =
      subst (λ c. Allows (BlockInvariant o) slots id (me.0, c) 0 (λ n. n) (filled_front (step slots 0 0 0 none) (me.0, c))) (sym is) (fills_front_at me.0 e busy wide free)

  pub fills_back : (me : Seated) (e : End) → me.1 ≡ (1, e) ∷ [] → 0 < me.0.back.carving → length e.wrote.bytes ≡ me.0.back.carving → e.free ≡ last_places me.0.block me.0.capacity (me.0.back.gap - me.0.back.carving)
      → Allows (BlockInvariant o) slots id me 1 (λ n. n) (filled_back (step slots 1 0 0 none) me)
  fills_back me e is busy wide free =
      subst (λ c. Allows (BlockInvariant o) slots id (me.0, c) 1 (λ n. n) (filled_back (step slots 1 0 0 none) (me.0, c))) (sym is) (fills_back_at me.0 e busy wide free)

  pub copies : (v : View) → v.front.carving ≡ 0 → v.back.carving ≡ 0 → Splits (BlockInvariant o) id v (shared_view v) (copied_view v)
  copies v front back s h at = record {
    within = h.within;
    low = h.low;
    high = h.high;
    front_room = h.front_room;
    back_room = h.back_room;
    front_home = h.front_home;
    back_home = h.back_home;
    words = h.words;
    homes = h.homes;
    front = splits front_of front_free o.first_low s.views id h.front_room h.front_home v (shared_view v) (copied_view v) h.front at front refl false≢true refl false≢true;
    back = splits back_of back_free behind s.views id h.back_room h.back_home v (shared_view v) (copied_view v) h.back at back refl false≢true refl false≢true;
    views = views_split o s.views id v h.views at;
    model = model_copies o h.front_room h.back_room s.views id v h.model at front back;
  }

-- a view in a list of one
only_view : (v u : View) (i : ℕ) → get_elem? (v ∷ []) i ≡ some u → v ≡ u
only_view v u zero e = some-injective v u e
only_view v u (suc i) e = absurd (some-ne-none u (sym e))

pub opens : (o : Opening) (front back : End) → end_of o.bytes ≤ o.capacity → o.bytes.from ≤ o.first_low → o.first_high ≤ end_of o.bytes → front.free ≡ first_places o.bytes.block o.capacity o.bytes.from
    → back.free ≡ last_places o.bytes.block o.capacity (o.capacity - end_of o.bytes)
    → BlockInvariant o (opening (o.bytes.from ∷ (o.capacity - end_of o.bytes) ∷ []) (front ∷ back ∷ []) (first_view o))
opens o front back fits before behind low high =
    let v = first_view o in
    let starts : (n c : ℕ) → Stands n 0 true (begun n c) = λ n c. record { apart = omega arith; own = λ busy. absurd (omega (arith, busy)); past = omega arith; known = λ _. refl } in
    record {
      front_room = o.bytes.from;
      back_room = o.capacity - end_of o.bytes;
      front_home = some front;
      back_home = some back;
      words = refl;
      homes = refl;
      front = record { each = λ i u e. subst (λ x. Stands o.bytes.from 0 x.alone x.front) (only_view v u i e) (starts o.bytes.from (o.first_low - o.bytes.from)); rest = λ _. (front, refl, low); moved = omega (arith, before) };
      back = record { each = λ i u e. subst (λ x. Stands (o.capacity - end_of o.bytes) 0 x.alone x.back) (only_view v u i e) (starts (o.capacity - end_of o.bytes) (end_of o.bytes - o.first_high)); rest = λ _. (back, refl, high); moved = omega (arith, fits, behind) };
      views = record {
        ranges = λ i u e. subst (IsRange o) (only_view v u i e) (record { block = refl; capacity = refl; length = omega (arith, fits) });
        agree = λ i j a b e f. subst (λ x. Agree x b) (only_view v a i e) (subst (Agree v) (only_view v b j f) (agree_self v));
        sole = λ i u e a. refl;
      };
      model = model_opens o fits;
      within = fits;
      low = before;
      high = behind;
    }

pub opens_at : (o : Opening) (a b : ℕ) (given : List End) (front back : End) → given ≡ front ∷ back ∷ [] → a ≡ o.bytes.from → end_of o.bytes + b ≡ o.capacity → o.bytes.from ≤ o.first_low → o.first_high ≤ end_of o.bytes
    → front.free ≡ first_places o.bytes.block o.capacity a → back.free ≡ last_places o.bytes.block o.capacity b → BlockInvariant o (opening (a ∷ b ∷ []) given (first_view o))
opens_at o a b given front back both is_a is_b before behind low high =
    let from : o.bytes.from ≡ a = sym is_a in
    let room : o.capacity - end_of o.bytes ≡ b = omega (arith, is_b) in
    subst (BlockInvariant o) (λ i. opening (from i ∷ room i ∷ []) (sym both i) (first_view o))
    (opens o front back (omega (arith, is_b)) before behind (low ∙ ap (first_places o.bytes.block o.capacity) is_a) (high ∙ ap (last_places o.bytes.block o.capacity) (sym room)))
