-- Passes that are joined one after another.
use Rattle.std.proofs.Common.{◌≡◌, ℕ, ◌≤◌, ◌||◌, Bool, true, false, List, [], ◌∷◌, ◌++◌, length, Option, Some, None, vec_capacity, MatchOption, sym, ap, subst, refl, ◌∙◌, append_assoc, arith}
use Rattle.std.proofs.lemmas.List.{append-nil, length-append}
use Rattle.std.proofs.lemmas.List.Folds.{list_any-append}
use Rattle.std.proofs.lemmas.Grind.{flat_map-append}
use Rattle.std.specs.List.{flat_map, list_any}
use Rattle.std.specs.declared.vec.Vec.{Vec}
use Rattle.std.specs.declared.alloc.Global.{Global}
use Rattle.atomic_table.specs.Seated.{TableId}
use Rattle.work_claims.specs.Steps.{Seated, joined_view}
use Rattle.work_claims.specs.Row.{RowSeen, PassSeen, IsPass}
use Rattle.work_claims.specs.Gathered.{is_past, drawn_of, IsGathered}

or_turned : (a b c : Bool) → (a || (b || c)) ≡ ((a || (c || false)) || b)
or_turned true b c = refl
or_turned false true true = refl
or_turned false true false = refl
or_turned false false true = refl
or_turned false false false = refl

or_none : (a b : Bool) → (a || b) ≡ (a || (b || false))
or_none true b = refl
or_none false true = refl
or_none false false = refl

abbrev pub Emptied : Type 0 → Type 0
Emptied T = Option (Vec T Global)

module _ {T : Type 0} where
  -- how a pass is seen
  abbrev pub seen_by : TableId → Seated T → ℕ → Bool → PassSeen T
  seen_by table me place past = record { row = record { table = table; items = me.0.items; passes = me.0.passes }; place = place; past = past; drawn = me.0.drawn }

  more_drawn : (left : List (PassSeen T)) (pass : PassSeen T) → flat_map drawn_of (left ++ pass ∷ []) ≡ flat_map drawn_of left ++ pass.drawn
  more_drawn left pass =
      flat_map-append drawn_of left (pass ∷ []) ∙ ap (λ ds. flat_map drawn_of left ++ ds) (append-nil pass.drawn)

  more_past : (left : List (PassSeen T)) (pass : PassSeen T) → list_any is_past (left ++ pass ∷ []) ≡ (list_any is_past left || (pass.past || false))
  more_past left pass = list_any-append is_past left (pass ∷ [])

  pub first-gathered : (row : RowSeen T) (all left : List (PassSeen T)) (table : TableId) (me : Seated T) (place : ℕ) (past : Bool) (emptied : Emptied T) (pass : PassSeen T) →
      seen_by table me place past ≡ pass → all ≡ left ++ pass ∷ [] → pass.row ≡ row → IsPass me past emptied → IsGathered row left all table me emptied
  first-gathered row all left table me place past emptied pass view last is p =
      let one = p.one in
      let long = ap length last ∙ length-append left (pass ∷ []) in
      record {
        here = ap (λ x. x.row.table) view ∙ ap (λ r. r.table) is;
        closed = p.closed;
        items = ap (λ x. x.row.items) view ∙ ap (λ r. r.items) is;
        some = omega (arith, one);
        parts = omega (arith, one, long);
        drawn = ap (λ x. flat_map drawn_of left ++ x.drawn) view ∙ sym (more_drawn left pass) ∙ ap (flat_map drawn_of) (sym last);
        past =
            ap (λ b. list_any is_past left || b) (p.knows ∙ ap (λ x. x.past) view)
            ∙ or_none (list_any is_past left) pass.past ∙ sym (more_past left pass) ∙ ap (list_any is_past) (sym last);
        keeps = p.keeps;
      }

  abbrev pub Keeps : Seated T → Emptied T → Type 0
  Keeps me emptied = MatchOption emptied (me.0.keeps ≡ false) (λ list. (list.items ≡ []) × (length me.0.items ≤ vec_capacity list))

  pub not-kept : (me : Seated T) (emptied : Emptied T) → Keeps me emptied → emptied ≡ None → me.0.keeps ≡ false
  not-kept me emptied k e = subst (λ o. Keeps me o) e k

  kept_none : (me other : Seated T) (emptied : Emptied T) → other.0.keeps ≡ false → Keeps me emptied → Keeps (joined_view me.0 other.0, me.1) emptied
  kept_none me other None lost k = ap (λ b. b || other.0.keeps) k ∙ lost
  kept_none me other (Some list) lost k = k

  kept-by : (me other : Seated T) (emptied others kept : Emptied T) → MatchOption others (kept ≡ emptied) (λ list. kept ≡ Some list) → me.0.items ≡ other.0.items →
      Keeps me emptied → Keeps other others → Keeps (joined_view me.0 other.0, me.1) kept
  kept-by me other emptied None kept is items k l = subst (Keeps (joined_view me.0 other.0, me.1)) (sym is) (kept_none me other emptied l k)
  kept-by me other emptied (Some list) kept is items k l =
      subst (Keeps (joined_view me.0 other.0, me.1)) (sym is) (l.0, subst (λ xs. length xs ≤ vec_capacity list) (sym items) l.1)

  pub one-gathered : (row : RowSeen T) (all left less : List (PassSeen T)) (table new_table other_table : TableId) (me new other : Seated T) (place : ℕ) (past : Bool)
      (emptied others kept : Emptied T) (pass : PassSeen T) →
      IsGathered row left all table me emptied → seen_by other_table other place past ≡ pass → left ≡ less ++ pass ∷ [] → pass.row ≡ row → IsPass other past others →
      new_table ≡ table → new ≡ (joined_view me.0 other.0, me.1) → MatchOption others (kept ≡ emptied) (λ list. kept ≡ Some list) →
      IsGathered row less all new_table new kept
  one-gathered row all left less table new_table other_table me new other place past emptied others kept pass g view last is p same joined keeper =
      let one = p.one in
      let long = ap length last ∙ length-append less (pass ∷ []) in
      let before = g.parts in
      let both : IsGathered row less all new_table (joined_view me.0 other.0, me.1) kept = record {
        here = same ∙ g.here;
        closed = g.closed;
        items = g.items;
        some = omega (arith, one);
        parts = omega (arith, one, long, before);
        drawn =
            sym (append_assoc (flat_map drawn_of less) other.0.drawn me.0.drawn)
            ∙ ap (λ x. (flat_map drawn_of less ++ x.drawn) ++ me.0.drawn) view
            ∙ ap (λ ds. ds ++ me.0.drawn) (sym (more_drawn less pass) ∙ ap (flat_map drawn_of) (sym last))
            ∙ g.drawn;
        past =
            ap (λ b. list_any is_past less || (me.0.past || b)) (p.knows ∙ ap (λ x. x.past) view)
            ∙ or_turned (list_any is_past less) me.0.past pass.past
            ∙ ap (λ b. b || me.0.past) (sym (more_past less pass) ∙ ap (list_any is_past) (sym last))
            ∙ g.past;
        keeps = kept-by me other emptied others kept keeper (g.items ∙ sym (ap (λ x. x.row.items) view ∙ ap (λ r. r.items) is)) g.keeps p.keeps;
      } in
      subst (λ x. IsGathered row less all new_table x kept) (sym joined) both

pub nil-from : {A : Type 0} (l : List A) → length l ≡ 0 → l ≡ []
nil-from [] e = refl
nil-from (x ∷ xs) e = absurd (omega (arith, e))
