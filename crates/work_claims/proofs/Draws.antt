-- Each step on a row's table keeps its rule.
use Rattle.std.proofs.Common.{◌≡◌, ◌≢◌, ℕ, zero, suc, ◌+◌, ◌%◌, ◌^◌, ◌<◌, ◌≤◌, ◌||◌, List, [], ◌∷◌, ◌++◌, length, map, set, slice_set, slice_index, refl, sym, ap, subst, ◌∙◌, true, false, arith, inl, inr, ◌⊎◌, Option, Some, None, sum_by}
use Rattle.std.proofs.lemmas.Bool.{cases_Bool, cases_lt, false≢true}
use Rattle.std.proofs.lemmas.List.{length-set, length-map}
use Rattle.std.proofs.lemmas.List.Sums.{sum_by-cons}
use Rattle.std.proofs.Math.Nat.{mod-eq_of_lt}
use Rattle.atomic_table.proofs.Lists.{at_set, set_here, set_else, at_snoc, at_map}
use mathlib.Core.Option.{none, some, some-injective, some-ne-none}
use mathlib.Core.Option as logic
use lib.ListN.{get_elem?}
use Rattle.atomic_table.specs.Table.{State, step, Allows, Splits, Joins, opening}
use Rattle.atomic_table.specs.Table.Act.{keeps, takes, gives}
use Rattle.work_claims.specs.Drawn.{Draw, times, IsAt, IsNew, moved}
use Rattle.work_claims.specs.Rule.{items_of, first_view, parts_of, past_parts, keepers, times_of, once_below, Lies, FitsRow, KeepsRow}
use Rattle.work_claims.specs.Steps.{Seated, with_drawn, with_past, DrawsNumber, Opened, OpensPlace, ClosesPlace, stage_by, dealing_view, dealt_view, joined_view, spent_view}
use Rattle.work_claims.specs.declared.view.Stage.{Stage}
use Rattle.work_claims.specs.declared.view.Stage.TheVariants.{Drawn, Open, Taken}
use Rattle.work_claims.specs.declared.view.Opening.{Opening}
use Rattle.work_claims.specs.declared.view.View.{View}
use Rattle.work_claims.proofs.Totals.{total_set, total_push, total_one, total_two, total_le}
use Rattle.work_claims.proofs.Counting.{few-drawn}
use Rattle.work_claims.proofs.DrawnLaws.{once-none, times-none, once-more, once-past, once-at_most, once-counter, once-above, once-below, times-push, times-append, times-moved, times-at, new-from_times, at-push, at-append, at-moved}

-- what lies at a place of a list
there : {A : Type 0} (l : List A) (i : ℕ) → i < length l → (a : A) × (get_elem? l i ≡ some a)
there [] i h = absurd (omega arith)
there (x ∷ xs) zero h = (x, refl)
there (x ∷ xs) (suc i) h = there xs i (omega arith)

module _ {T : Type 0} (o : Opening T) where
  abbrev Places : Type 0
  Places = State (Option T) (View T)

  abbrev len : ℕ
  len = length (items_of o)

  past_part : (v : View T) → past_parts v ≤ parts_of v
  past_part v = elim (cases_Bool v.past) [ inl t ↦ rw t (omega arith) | inr f ↦ rw f (omega arith) ]

  -- the counter is far from the end of its type
  counter_small : (s : Places) (h : KeepsRow o s) → h.counter < 2 ^ 32
  counter_small s h =
      let few = total_le (λ (v : View T). past_parts v) (λ v. parts_of v) past_part s.views in
      omega (arith, h.end, h.parts, h.few, h.short, few)

  -- a view that changes alone fits, and all others still do
  each_set : (views : List (View T)) (counter : ℕ) (homes : List (logic.Option (Option T))) (id : ℕ) (w : View T) → FitsRow o counter homes w →
      ((i : ℕ) (u : View T) → i ≢ id → get_elem? views i ≡ some u → FitsRow o counter homes u) →
      (i : ℕ) (u : View T) → get_elem? (set views id w) i ≡ some u → FitsRow o counter homes u
  each_set views counter homes id w fits others i u at = elim (at_set views id i w u at) [
    | inl same ↦ subst (FitsRow o counter homes) same.1 fits
    | inr other ↦ others i u other.0 other.1
  ]

  -- a view fits where the counter is further on
  fits_later : (counter later : ℕ) (homes : List (logic.Option (Option T))) (v : View T) → counter ≤ later → FitsRow o counter homes v → FitsRow o later homes v
  fits_later counter later homes v more f = record { idle = f.idle; made = f.made; past = λ p. let l = f.past p in omega arith; held = f.held }

  module _ (id : ℕ) (v : View T) (never : v.past ≡ false) (part : 0 < v.parts) where
    past_none : past_parts v ≡ 0
    past_none = rw never refl

    abbrev drew : ℕ → View T
    drew n = with_drawn (v.drawn ++ (n, Drawn) ∷ []) v

    new_number : (s : Places) (h : KeepsRow o s) → get_elem? s.views id ≡ some v → IsNew h.counter v.drawn
    new_number s h at =
        let one = total_one (times_of h.counter) s.views id v at in
        let all = h.once h.counter in
        let none = once-counter h.counter len in
        new-from_times h.counter v.drawn (omega (arith, one, all, none))

    few_numbers : (s : Places) (h : KeepsRow o s) → get_elem? s.views id ≡ some v → length v.drawn ≤ h.counter
    few_numbers s h at =
        few-drawn h.counter v.drawn
        (λ n. let one = total_one (times_of n) s.views id v at in let all = h.once n in let most = once-at_most n h.counter len in omega (arith, one, all, most))
        (λ n high. let one = total_one (times_of n) s.views id v at in let all = h.once n in let none = once-above n h.counter len high in omega (arith, one, all, none))

    draws_within : (s : Places) (h : KeepsRow o s) → get_elem? s.views id ≡ some v → h.counter < len → (n : ℕ) → n ≡ h.counter + 1 →
        KeepsRow o record { words = slice_set s.words 0 n; homes = s.homes; views = slice_set s.views id (drew h.counter) }
    draws_within s h at low n next =
        let w = drew h.counter in
        let fits = h.each id v at in
        record {
          counter = n;
          words = ap (λ ws. slice_set ws 0 n) h.words;
          homes = h.homes;
          short = h.short;
          few = h.few;
          parts = let t = total_set parts_of s.views id v w at in let p = h.parts in omega arith;
          keeper = let t = total_set keepers s.views id v w at in let p = h.keeper in omega arith;
          end = omega arith;
          once = λ k.
              let t = total_set (times_of k) s.views id v w at in
              let p = h.once k in
              let m = once-more k h.counter len low in
              let q = times-push k v.drawn (h.counter, Drawn) in
              let c = ap (λ c. once_below k c len) next in
              omega (arith, t, p, m, q, c);
          left = λ k item late is. h.left k item (omega arith) is;
          each = each_set s.views n s.homes id w
              (record {
                idle = λ z. absurd (omega arith);
                made = fits.made;
                past = λ p. absurd (false≢true (sym never ∙ p));
                held = λ k stage in_w. elim (at-push v.drawn (h.counter, Drawn) k stage in_w) [
                  | inl old ↦ fits.held k stage old
                  | inr new ↦
                      let item = there (items_of o) h.counter low in
                      subst (λ (d : Draw T). Lies (items_of o) d.0 d.1 (get_elem? s.homes d.0)) new
                      (item.0, item.1, h.left h.counter item.0 (omega arith) item.1)
                ];
              })
              (λ i u other is. fits_later h.counter n s.homes u (omega arith) (h.each i u is));
        }

    draws_beyond : (s : Places) (h : KeepsRow o s) → get_elem? s.views id ≡ some v → len ≤ h.counter → (n : ℕ) → n ≡ h.counter + 1 →
        KeepsRow o record { words = slice_set s.words 0 n; homes = s.homes; views = slice_set s.views id (with_past v) }
    draws_beyond s h at high n next =
        let w = with_past v in
        let fits = h.each id v at in
        record {
          counter = n;
          words = ap (λ ws. slice_set ws 0 n) h.words;
          homes = h.homes;
          short = h.short;
          few = h.few;
          parts = let t = total_set parts_of s.views id v w at in let p = h.parts in omega arith;
          keeper = let t = total_set keepers s.views id v w at in let p = h.keeper in omega arith;
          end = let t = total_set past_parts s.views id v w at in let z = past_none in let e = h.end in omega (arith, t, z, e);
          once = λ k.
              let t = total_set (times_of k) s.views id v w at in
              let p = h.once k in
              let m = once-past k h.counter len high in
              let c = ap (λ c. once_below k c len) next in
              omega (arith, t, p, m, c);
          left = λ k item late is. h.left k item (omega arith) is;
          each = each_set s.views n s.homes id w
              (record { idle = λ z. absurd (omega arith); made = fits.made; past = λ p. omega arith; held = fits.held })
              (λ i u other is. fits_later h.counter n s.homes u (omega arith) (h.each i u is));
        }

  pub draws : (slots id : ℕ) (me : Seated T) → me.0.past ≡ false → 0 < me.0.parts →
      Allows (KeepsRow o) slots id me 0 (λ n. (n + 1) % 2 ^ 64) (DrawsNumber (step slots 0 1 0 none) me)
  draws slots id me never part s h long at small =
      let v = me.0 in
      let n = slice_index s.words 0 in
      let found : n ≡ h.counter = ap (λ ws. slice_index ws 0) h.words in
      let bound = counter_small s h in
      let next : (n + 1) % 2 ^ 64 ≡ h.counter + 1 = ap (λ k. (k + 1) % 2 ^ 64) found ∙ mod-eq_of_lt (omega arith) in
      let made = ap length ((h.each id v at).made part).0 in
      elim (cases_lt h.counter len) [
        | inl low ↦ (
          drew id v never part h.counter,
          keeps,
          tt,
          draws_within id v never part s h at low ((n + 1) % 2 ^ 64) next,
          record {
            within = λ lt. (
              subst (λ k. IsNew k v.drawn) (sym found) (new_number id v never part s h at),
              (let few = few_numbers id v never part s h at in omega (arith, few, found)),
              λ i. (with_drawn (v.drawn ++ (sym found i, Drawn) ∷ []) v, me.1),
            );
            beyond = λ le. absurd (omega arith);
          },
        )
        | inr high ↦ (
          with_past v,
          keeps,
          tt,
          draws_beyond id v never part s h at high ((n + 1) % 2 ^ 64) next,
          record { within = λ lt. absurd (omega arith); beyond = λ le. refl },
        )
      ]

  -- ---- a place that a pass drew

  module _ (id : ℕ) (v : View T) (place : ℕ) (stage : Stage T) (in_v : IsAt v.drawn place stage) where
    place_drawn : (s : Places) (h : KeepsRow o s) → get_elem? s.views id ≡ some v → (place < h.counter) × (place < len)
    place_drawn s h at =
        let mine = times-at place stage v.drawn in_v in
        let one = total_one (times_of place) s.views id v at in
        let all = h.once place in
        once-below place h.counter len (omega (arith, mine, one, all))

    -- no other view has the number
    others_away : (s : Places) (h : KeepsRow o s) → get_elem? s.views id ≡ some v → (i : ℕ) (u : View T) → i ≢ id → get_elem? s.views i ≡ some u →
        (k : ℕ) (k_stage : Stage T) → IsAt u.drawn k k_stage → k ≢ place
    others_away s h at i u other is k k_stage in_u same =
        let mine = times-at place stage v.drawn in_v in
        let theirs = times-at place k_stage u.drawn (subst (λ p. IsAt u.drawn p k_stage) same in_u) in
        let two = total_two (times_of place) s.views i id u v other is at in
        let all = h.once place in
        let most = once-at_most place h.counter len in
        omega (arith, mine, theirs, two, all, most)

    abbrev at_stage : Stage T → View T
    at_stage to = with_drawn (moved place to v.drawn) v

    moves : (s : Places) (h : KeepsRow o s) → get_elem? s.views id ≡ some v → (to : Stage T) (home : logic.Option (Option T)) →
        Lies (items_of o) place to (some home) →
        KeepsRow o record { words = slice_set s.words 0 (slice_index s.words 0); homes = slice_set s.homes place home; views = slice_set s.views id (at_stage to) }
    moves s h at to home lies =
        let w = at_stage to in
        let n = slice_index s.words 0 in
        let found : n ≡ h.counter = ap (λ ws. slice_index ws 0) h.words in
        let drawn = place_drawn s h at in
        let homes = slice_set s.homes place home in
        let long = h.homes in
        let fits = h.each id v at in
        record {
          counter = h.counter;
          words = ap (λ ws. slice_set ws 0 n) h.words ∙ (λ i. found i ∷ []);
          homes = length-set s.homes place home ∙ h.homes;
          short = h.short;
          few = h.few;
          parts = let t = total_set parts_of s.views id v w at in let p = h.parts in omega arith;
          keeper = let t = total_set keepers s.views id v w at in let p = h.keeper in omega arith;
          end = let t = total_set past_parts s.views id v w at in let e = h.end in omega arith;
          once = λ k. let t = total_set (times_of k) s.views id v w at in let p = h.once k in let q = times-moved k place to v.drawn in omega (arith, t, p, q);
          left = λ k item late is. set_else s.homes place k home (λ e. omega arith) ∙ h.left k item late is;
          each = each_set s.views h.counter homes id w
              (record {
                idle = λ z. absurd (let none = (fits.idle z).0 in subst (λ ds. IsAt ds place stage) none in_v);
                made = fits.made;
                past = fits.past;
                held = λ k k_stage in_w. elim (at-moved place to v.drawn k k_stage in_w) [
                  | inl here ↦
                      subst (λ (d : Draw T). Lies (items_of o) d.0 d.1 (get_elem? homes d.0)) (λ i. (sym here.0 i, sym here.1 i))
                      (subst (Lies (items_of o) place to) (sym (set_here s.homes place home (omega arith))) lies)
                  | inr away ↦ subst (Lies (items_of o) k k_stage) (sym (set_else s.homes place k home away.0)) (fits.held k k_stage away.1)
                ];
              })
              (λ i u other is.
              let f = h.each i u is in
              record {
                idle = f.idle;
                made = f.made;
                past = f.past;
                held = λ k k_stage in_u.
                    subst (Lies (items_of o) k k_stage) (sym (set_else s.homes place k home (others_away s h at i u other is k k_stage in_u)))
                    (f.held k k_stage in_u);
              });
        }

  opens_with : (slots id : ℕ) (me : Seated T) (place : ℕ) (stage : Stage T) (in_v : IsAt me.0.drawn place stage) (part : 0 < me.0.parts) (s : Places) (h : KeepsRow o s) →
      (at : get_elem? s.views id ≡ some me.0) (lay : Option T) → get_elem? s.homes place ≡ some (some lay) →
      Opened place me (with_drawn (moved place Open me.0.drawn) me.0, (place, lay) ∷ me.1)
  opens_with slots id me place stage in_v part s h at lay home =
      let fits = h.each id me.0 at in
      let made = (fits.made part).0 in
      record {
        lay = lay;
        after = refl;
        drawn = λ d. let l = fits.held place Drawn d in
            (l.0, ap (λ l. get_elem? l place) made ∙ l.1, some-injective _ _ (some-injective _ _ (sym home ∙ l.2)));
        taken = λ t. some-injective _ _ (some-injective _ _ (sym home ∙ fits.held place Taken t));
      }

  opens_drawn : (slots id : ℕ) (me : Seated T) (place : ℕ) → IsAt me.0.drawn place Drawn → 0 < me.0.parts →
      Allows (KeepsRow o) slots id me 0 (λ n. n) (OpensPlace place (step slots 0 0 0 none) me)
  opens_drawn slots id me place in_v part s h long at small =
      let lies = (h.each id me.0 at).held place Drawn in_v in (
        with_drawn (moved place Open me.0.drawn) me.0,
        takes place (Some lies.0),
        lies.2,
        moves id me.0 place Drawn in_v s h at Open none refl,
        opens_with slots id me place Drawn in_v part s h at (Some lies.0) lies.2,
      )

  opens_taken : (slots id : ℕ) (me : Seated T) (place : ℕ) → IsAt me.0.drawn place Taken → 0 < me.0.parts →
      Allows (KeepsRow o) slots id me 0 (λ n. n) (OpensPlace place (step slots 0 0 0 none) me)
  opens_taken slots id me place in_v part s h long at small =
      let lies = (h.each id me.0 at).held place Taken in_v in (
        with_drawn (moved place Open me.0.drawn) me.0,
        takes place None,
        lies,
        moves id me.0 place Taken in_v s h at Open none refl,
        opens_with slots id me place Taken in_v part s h at None lies,
      )

  pub opens : (slots id : ℕ) (me : Seated T) (place : ℕ) → IsAt me.0.drawn place Drawn ⊎ IsAt me.0.drawn place Taken → 0 < me.0.parts →
      Allows (KeepsRow o) slots id me 0 (λ n. n) (OpensPlace place (step slots 0 0 0 none) me)
  opens slots id me place (inl drawn) part = opens_drawn slots id me place drawn part
  opens slots id me place (inr taken) part = opens_taken slots id me place taken part

  lies_by : (place : ℕ) (lies : Option T) → Lies (items_of o) place (stage_by lies) (some (some lies))
  lies_by place None = refl
  lies_by place (Some item) = refl

  -- what lies in the place that was opened last
  abbrev lying : List (ℕ × Option T) → Option T
  lying [] = None
  lying (x ∷ xs) = x.1

  closes_at : (slots id : ℕ) (v : View T) (place : ℕ) (lies : Option T) → IsAt v.drawn place Open →
      Allows (KeepsRow o) slots id (v, (place, lies) ∷ []) 0 (λ n. n) (ClosesPlace place (step slots 0 0 0 none) (v, (place, lies) ∷ []))
  closes_at slots id v place lies in_v s h long at small = (
    with_drawn (moved place (stage_by lies) v.drawn) v,
    gives,
    tt,
    moves id v place Open in_v s h at (stage_by lies) (some lies) (lies_by place lies),
    (λ other is i. (with_drawn (moved place (stage_by (lying (is i))) v.drawn) v, [])),
  )

  pub closes : (slots id : ℕ) (me : Seated T) (place : ℕ) (lies : Option T) → me.1 ≡ (place, lies) ∷ [] → IsAt me.0.drawn place Open →
      Allows (KeepsRow o) slots id me 0 (λ n. n) (ClosesPlace place (step slots 0 0 0 none) me)
  closes slots id me place lies is in_v =
      subst (λ (m : Seated T). Allows (KeepsRow o) slots id m 0 (λ n. n) (ClosesPlace place (step slots 0 0 0 none) m))
      (λ i. (me.0, sym is i)) (closes_at slots id me.0 place lies in_v)

  -- ---- passes dealt and joined

  pub deals : (id : ℕ) (v : View T) → 2 ≤ v.parts → v.past ≡ false → Splits (KeepsRow o) id v (dealing_view v) (dealt_view v)
  deals id v some_left never s h at =
      let left = dealing_view v in
      let right = dealt_view v in
      let views = slice_set s.views id left in
      let fits = h.each id v at in
      let made = fits.made (omega arith) in
      record {
        counter = h.counter;
        words = h.words;
        homes = h.homes;
        short = h.short;
        few = h.few;
        parts = let t = total_set parts_of s.views id v left at in let u = total_push parts_of views right in let p = h.parts in omega arith;
        keeper = let t = total_set keepers s.views id v left at in let u = total_push keepers views right in let p = h.keeper in omega arith;
        end =
            let t = total_set past_parts s.views id v left at in
            let u = total_push past_parts views right in
            let z : past_parts v ≡ 0 = rw never refl in
            let y : past_parts left ≡ 0 = rw never refl in
            let e = h.end in omega (arith, t, u, z, y, e);
        once = λ k. let t = total_set (times_of k) s.views id v left at in let u = total_push (times_of k) views right in let p = h.once k in let z = times-none T k in omega (arith, t, u, p, z);
        left = h.left;
        each = λ i u is. elim (at_snoc views right u i is) [
          | inl old ↦ each_set s.views h.counter s.homes id left
              (record { idle = λ z. absurd (omega arith); made = λ _. made; past = fits.past; held = fits.held })
              (λ j x other there. h.each j x there) i u old
          | inr new ↦ subst (FitsRow o h.counter s.homes) new
              (record { idle = λ z. absurd (omega arith); made = λ _. made; past = λ p. absurd (false≢true p); held = λ k stage none. absurd none })
        ];
      }

  joined_past : (v w : View T) → past_parts v + past_parts w ≤ past_parts (joined_view v w)
  joined_past v w = elim (cases_Bool v.past) [
    | inl a ↦ elim (cases_Bool w.past) [ inl b ↦ rw (a, b) (omega arith) | inr b ↦ rw (a, b) (omega arith) ]
    | inr a ↦ elim (cases_Bool w.past) [ inl b ↦ rw (a, b) (omega arith) | inr b ↦ rw (a, b) (omega arith) ]
  ]

  joined_keepers : (v w : View T) → keepers v + keepers w ≤ 1 → keepers (joined_view v w) ≡ keepers v + keepers w
  joined_keepers v w few = elim (cases_Bool v.keeps) [
    | inl a ↦ elim (cases_Bool w.keeps) [
      | inl b ↦ absurd (let x : keepers v ≡ 1 = rw a refl in let y : keepers w ≡ 1 = rw b refl in omega (arith, few, x, y))
      | inr b ↦ rw (a, b) refl
    ]
    | inr a ↦ elim (cases_Bool w.keeps) [ inl b ↦ rw (a, b) refl | inr b ↦ rw (a, b) refl ]
  ]

  pub gathers : (id : ℕ) (v : View T) (other : ℕ) (w : View T) → 0 < v.parts → 0 < w.parts → Joins (KeepsRow o) id v other w (joined_view v w) spent_view
  gathers id v other w part parts s h at apart there_too =
      let both = joined_view v w in
      let views = slice_set s.views id both in
      let other_at : get_elem? s.views other ≡ some w = sym (set_else s.views id other both apart) ∙ there_too in
      let fv = h.each id v at in
      let fw = h.each other w other_at in
      record {
        counter = h.counter;
        words = h.words;
        homes = h.homes;
        short = h.short;
        few = h.few;
        parts = let t = total_set parts_of s.views id v both at in let u = total_set parts_of views other w spent_view there_too in let p = h.parts in omega arith;
        keeper =
            let t = total_set keepers s.views id v both at in
            let u = total_set keepers views other w spent_view there_too in
            let p = h.keeper in
            let two = total_two keepers s.views id other v w (λ e. apart (sym e)) at other_at in
            let j = joined_keepers v w (omega (arith, two, p)) in
            omega (arith, t, u, p, j);
        end =
            let t = total_set past_parts s.views id v both at in
            let u = total_set past_parts views other w spent_view there_too in
            let j = joined_past v w in
            let e = h.end in omega (arith, t, u, j, e);
        once = λ k.
            let t = total_set (times_of k) s.views id v both at in
            let u = total_set (times_of k) views other w spent_view there_too in
            let q = times-append k w.drawn v.drawn in
            let p = h.once k in let z = times-none T k in omega (arith, t, u, q, p, z);
        left = h.left;
        each = each_set views h.counter s.homes other spent_view
            (record { idle = λ _. (refl, refl); made = λ p. absurd (omega arith); past = λ p. absurd (false≢true p); held = λ k stage none. absurd none })
            (λ i u away is. each_set s.views h.counter s.homes id both
            (record {
              idle = λ z. absurd (omega arith);
              made = λ _. fv.made part;
              past = λ p. elim (cases_Bool v.past) [
                | inl a ↦ fv.past a
                | inr a ↦ fw.past (let q : v.past || w.past ≡ true = p in let r : false || w.past ≡ true = rw a at q in r)
              ];
              held = λ k stage in_both. elim (at-append w.drawn v.drawn k stage in_both) [
                | inl a ↦ fw.held k stage a
                | inr a ↦ fv.held k stage a
              ];
            })
            (λ j x not_id there. h.each j x there) i u is);
      }

  -- ---- the new table

  pub begins : (slots : List (Option T)) → slots ≡ map Some (items_of o) → len < 2 ^ 31 → 1 ≤ o.passes → o.passes ≤ 64 →
      KeepsRow o (opening (0 ∷ []) slots (first_view o))
  begins slots are short some_pass few =
      record {
        counter = 0;
        words = refl;
        homes = length-map slots some ∙ ap length are ∙ length-map (items_of o) Some;
        short = short;
        few = few;
        parts = let t : sum_by parts_of (first_view o ∷ []) ≡ o.passes + 0 = sum_by-cons parts_of (first_view o) [] in omega (arith, t);
        keeper = refl;
        end = omega arith;
        once = λ n.
            let t : sum_by (times_of n) (first_view o ∷ []) ≡ times n [] + 0 = sum_by-cons (times_of n) (first_view o) [] in
            let z = times-none T n in
            let y = once-none n len in
            omega (arith, t, z, y);
        left = λ n item late is. at_map some slots n (Some item) (ap (λ l. get_elem? l n) are ∙ at_map Some (items_of o) n item is);
        each = first;
      }
    where
      first : (i : ℕ) (v : View T) → get_elem? (first_view o ∷ []) i ≡ some v → FitsRow o 0 (map some slots) v
      first zero v is = subst (FitsRow o 0 (map some slots)) (some-injective _ _ is)
          (record { idle = λ z. absurd (omega arith); made = λ _. (refl, refl); past = λ p. absurd (false≢true p); held = λ k stage none. absurd none })
      first (suc i) v is = absurd (some-ne-none v (sym is))
