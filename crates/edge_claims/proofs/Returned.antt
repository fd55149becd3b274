-- The free places of a block that only its first window has used, and that has claimed nothing since they were laid out.
use Rattle.std.proofs.Common.{◌≡◌, ℕ, zero, suc, ◌-◌, List, [], ◌∷◌, length, refl, sym, ap, ◌∙◌, arith}
use mathlib.Core.Option.{some, some-injective, some-ne-none}
use lib.ListN.{get_elem?}
use Rattle.atomic_table.specs.Table.{State}
use Rattle.byte_block.specs.Ranges.{Free, end_of}
use Rattle.edge_claims.specs.Rule.{front_of, back_of, first_places, last_places, first_view, carving, total, BlockInvariant}
use Rattle.edge_claims.specs.declared.view.End.{End}
use Rattle.edge_claims.specs.declared.view.View.{View}
use Rattle.edge_claims.specs.declared.view.Opening.{Opening}

only : (vs : List View) (i : ℕ) (v : View) → length vs ≡ 1 → get_elem? vs i ≡ some v → vs ≡ v ∷ []
only [] i v one at = absurd (some-ne-none v (sym at))
only (u ∷ []) zero v one at = ap (λ x. x ∷ []) (some-injective u v at)
only (u ∷ []) (suc i) v one at = absurd (some-ne-none v (sym at))
only (u ∷ (w ∷ ws)) i v one at = absurd (omega (arith, one))

-- an end that lies at home, with these places
pub record Lies (free : Free) (slot : ℕ) (s : State End View) : Type 0 where
  pub end : End
  pub home : get_elem? s.homes slot ≡ some (some end)
  pub places : end.free ≡ free

module _ (o : Opening) (s : State End View) (id : ℕ) (h : BlockInvariant o s) (at : get_elem? s.views id ≡ some (first_view o)) where
  views : s.views ≡ first_view o ∷ []
  views = only s.views id (first_view o) (h.views.sole id (first_view o) at refl) at

  pub low_lies : Lies (first_places o.bytes.block o.capacity o.bytes.from) 0 s
  low_lies =
      let none : total (carving front_of) s.views ≡ 0 = ap (total (carving front_of)) views in
      let home = h.front.rest none in
      let room : o.bytes.from ≡ h.front_room = (h.front.each id (first_view o) at).known refl in
      record {
        end = home.0;
        home = ap (λ hs. get_elem? hs 0) h.homes ∙ ap some home.1;
        places = home.2 ∙ ap (first_places o.bytes.block o.capacity) (sym room);
      }

  pub high_lies : Lies (last_places o.bytes.block o.capacity (o.capacity - end_of o.bytes)) 1 s
  high_lies =
      let none : total (carving back_of) s.views ≡ 0 = ap (total (carving back_of)) views in
      let home = h.back.rest none in
      let room : o.capacity - end_of o.bytes ≡ h.back_room = (h.back.each id (first_view o) at).known refl in
      record {
        end = home.0;
        home = ap (λ hs. get_elem? hs 1) h.homes ∙ ap some home.1;
        places = home.2 ∙ ap (last_places o.bytes.block o.capacity) (sym room);
      }

-- what stands at one place is one thing
pub same_at : (xs : List End) (k : ℕ) (a b : End) → get_elem? xs k ≡ some a → get_elem? xs k ≡ some b → a ≡ b
same_at xs k a b p q = some-injective a b (sym p ∙ q)
