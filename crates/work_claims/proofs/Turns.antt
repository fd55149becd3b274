-- A place that was opened, read or written, and closed again.
use Rattle.std.proofs.Common.{◌≡◌, ℕ, zero, suc, List, [], ◌∷◌, Bool, Option, Some, None, sym, ap, subst, ◌∙◌}
use mathlib.Core.Option.{some, some-injective, some-ne-none}
use lib.ListN.{get_elem?}
use Rattle.std.specs.List.{slice_get}
use Rattle.std.specs.declared.vec.Vec.{Vec}
use Rattle.std.specs.declared.alloc.Global.{Global}
use Rattle.atomic_table.specs.Table.{rest}
use Rattle.work_claims.specs.Drawn.{IsAt, moved}
use Rattle.work_claims.specs.Steps.{Seated, Opened, Shut, stage_by, with_drawn}
use Rattle.work_claims.specs.Row.{IsPass}
use Rattle.work_claims.specs.declared.view.Stage.{Stage}
use Rattle.work_claims.specs.declared.view.Stage.TheVariants.{Drawn, Open}
use Rattle.work_claims.proofs.DrawnLaws.{moved-at, moved-again}

-- what two ways to read a list by number have in common
pub slice_get-from : {A : Type 0} (l : List A) (i : ℕ) (a : A) → get_elem? l i ≡ some a → slice_get l i ≡ Some a
slice_get-from [] i a e = absurd (some-ne-none a (sym e))
slice_get-from (x ∷ xs) zero a e = ap Some (some-injective x a e)
slice_get-from (x ∷ xs) (suc i) a e = slice_get-from xs i a e

abbrev lying : {T : Type 0} → List (ℕ × Option T) → Option T
lying [] = None
lying (x ∷ xs) = x.1

-- the item that was read lay there from the start
pub item-is : {T : Type 0} (at : ℕ) (m opened : Seated T) (read : Option T) (item : T) → Opened at m opened → opened.1 ≡ (at, read) ∷ rest opened.1 →
    IsAt m.0.drawn at Drawn → read ≡ Some item → slice_get m.0.items at ≡ Some item
item-is at m opened read item o found in_m is =
    let d = o.drawn in_m in
    let same = ap lying (sym (ap (λ x. x.1) o.after) ∙ found) in
    slice_get-from m.0.items at d.0 d.1 ∙ sym d.2 ∙ same ∙ is

module _ {T : Type 0} (at : ℕ) (m opened written shut : Seated T) (new : Option T) (closed : m.1 ≡ []) (o : Opened at m opened)
    (w : written ≡ (opened.0, (at, new) ∷ rest opened.1)) where
  pub written-is : written ≡ (with_drawn (moved at Open m.0.drawn) m.0, (at, new) ∷ [])
  written-is = w ∙ ap (λ (x : Seated T). (x.0, (at, new) ∷ rest x.1)) o.after ∙ ap (λ l. (with_drawn (moved at Open m.0.drawn) m.0, (at, new) ∷ l)) closed

  pub written-at : (stage : Stage T) → IsAt m.0.drawn at stage → IsAt written.0.drawn at Open
  written-at stage in_m = subst (λ (x : Seated T). IsAt x.0.drawn at Open) (sym written-is) (moved-at at stage Open m.0.drawn in_m)

  pub shut-is : Shut at written shut → shut ≡ (with_drawn (moved at (stage_by new) m.0.drawn) m.0, [])
  shut-is s =
      s new (ap (λ (x : Seated T). x.1) written-is)
      ∙ ap (λ (x : Seated T). (with_drawn (moved at (stage_by new) x.0.drawn) x.0, [])) written-is
      ∙ ap (λ ds. (with_drawn ds m.0, [])) (moved-again at Open (stage_by new) m.0.drawn)

  pub pass-shut : (past : Bool) (emptied : Option (Vec T Global)) → Shut at written shut → IsPass m past emptied → IsPass shut past emptied
  pass-shut past emptied s p =
      subst (λ (x : Seated T). IsPass x past emptied) (sym (shut-is s))
      (record { closed = λ i. []; one = p.one; knows = p.knows; keeps = p.keeps })
