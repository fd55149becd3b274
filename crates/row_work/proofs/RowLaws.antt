-- A list's items in a row in an order, and back in the list.
use Rattle.std.proofs.Common.{◌≡◌, ℕ, List, length, map, Option, Some, slice_get, sym, ap, subst, ◌∙◌}
use Rattle.std.proofs.lemmas.List.{length-map}
use Rattle.std.specs.Fork.{AcceptsEach, ChangesAt}
use denote.Param.Members.{Shared}
use denote.Ref.{MutBor}
use Rattle.row_work.specs.Made.{AcceptsInOrder, AreMade, ChangesInOrder}
use Rattle.row_work.specs.Order.{AreNumbers}
use Rattle.row_work.specs.Slots.{AreAt, IsFilled, LieAt}
use Rattle.row_work.proofs.SlotLaws.{accepts-drawn, map-filled, worked}

module _ {T : Type 0} (items : List T) (filled : List (Option T)) (is : filled ≡ map Some items) where
  pub fill-length : length filled ≡ length items
  fill-length = ap length is ∙ length-map items Some

  pub fill-full : IsFilled filled
  fill-full = subst (λ (l : List (Option T)). IsFilled l) (sym is) (map-filled items)

  module _ {F : Type 0} (g : Shared F (ℕ × (MutBor T × Unit {0})) (Unit {0} × (MutBor T × Unit {0}))) (f : F) (order : List ℕ) (drawn row : List T)
      (numbers : AreNumbers (length items) order) (taken : AreAt order filled drawn) (laid : row ≡ drawn) where
    in_row : AreAt order (map Some items) row
    in_row k n item stands there =
        ap (λ l. slice_get l k) laid ∙ taken k n item stands (ap (λ l. slice_get l n) is ∙ there)

    pub accepts-row : AcceptsEach g f items → AcceptsInOrder g f order row
    accepts-row = accepts-drawn g f order items row numbers in_row

    pub all-worked : (made : List T) (slots : List (Option T)) (new : List T) → AreMade (ChangesInOrder g f order) row made → LieAt order made slots →
        length slots ≡ length filled → map Some new ≡ slots → AreMade (ChangesAt g f) items new
    all-worked made slots new are lie wide back = worked g f order items row numbers in_row made slots new are lie (wide ∙ fill-length) back
