-- The passes that are dealt out of the first seat.
use Rattle.std.proofs.Common.{◌≡◌, ℕ, ◌+◌, ◌-◌, Bool, true, false, List, [], ◌∷◌, ◌++◌, map, Some, refl, sym, ap, ◌∙◌, arith}
use Rattle.std.proofs.lemmas.List.FromFn.{map-range_with_len_more}
use Rattle.std.specs.List.{flat_map, range_with_len}
use Rattle.std.specs.Option.{option_to_list}
use Rattle.atomic_table.specs.Seated.{TableId}
use Rattle.work_claims.specs.Steps.{Seated, dealing_view}
use Rattle.work_claims.specs.Row.{RowSeen, PassSeen, fresh}

module _ {T : Type 0} (row : RowSeen T) where
  -- a seat that has drawn nothing
  abbrev pub unused : Bool → ℕ → Seated T
  unused keeps parts = (record { items = row.items; passes = row.passes; keeps = keeps; parts = parts; past = false; drawn = [] }, [])

  pub pass-is : (place : ℕ) (keeps : Bool) (parts : ℕ) (table : TableId) (me : Seated T) → table ≡ row.table → me ≡ unused keeps parts →
      ◌≡◌ {A = PassSeen T} (record { row = record { table = table; items = me.0.items; passes = me.0.passes }; place = place; past = false; drawn = me.0.drawn }) (fresh row place)
  pass-is place keeps parts table me t m = λ i. record { row = record { table = t i; items = (m i).0.items; passes = (m i).0.passes }; place = place; past = false; drawn = (m i).0.drawn }

  pub one-more : (place : ℕ) (dealt new : List (PassSeen T)) (pass : PassSeen T) → pass ≡ fresh row place → dealt ≡ map (fresh row) (range_with_len 0 place) →
      new ≡ dealt ++ pass ∷ [] → new ≡ map (fresh row) (range_with_len 0 (place + 1))
  one-more place dealt new pass p d n =
      n ∙ ap (λ x. dealt ++ x ∷ []) p ∙ ap (λ l. l ++ fresh row place ∷ []) d ∙ sym (map-range_with_len_more (fresh row) 0 place place (omega arith))

  pub less : (place : ℕ) (me new : Seated T) → me ≡ unused true (row.passes - place) → new ≡ (dealing_view me.0, me.1) → new ≡ unused true (row.passes - (place + 1))
  less place me new m n =
      let one : row.passes - place - 1 ≡ row.passes - (place + 1) = omega arith in
      n ∙ ap (λ (x : Seated T). (dealing_view x.0, x.1)) m ∙ ap (λ parts. unused true parts) one

-- the items that lie in slots of theirs
pub laid-back : {T : Type 0} (items : List T) → flat_map option_to_list (map Some items) ≡ items
laid-back [] = refl
laid-back (x ∷ xs) = ap (λ l. x ∷ l) (laid-back xs)
