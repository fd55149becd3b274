-- The check of losses depends on the interfaces held alone, and not on their order.
use Rattle.std.proofs.Common.{◌≡◌, ℕ, ◌+◌, ◌<◌, ◌&&◌, Bool, true, false, not, ◌||◌, cond, List, [], ◌∷◌, length, get_or, drop, ◌==◌, Option, Some, None, Err, refl, ap, sym, ◌∙◌}
use Rattle.std.proofs.lemmas.List.{drop_more}
use Rattle.std.proofs.lemmas.Cmp.{nat_eq_equiv}
use Rattle.std.specs.List.{list_any, enumerate_from}
use Rattle.scenario_form.specs.declared.field.Code.TheVariants.{Twice, NoInterface}
use Rattle.scenario_form.specs.declared.interface.Interface.{Interface}
use Rattle.scenario_form.specs.declared.scenario.Loss.{Loss}
use Rattle.scenario_form.specs.declared.refusal.Refusal.{Refusal}
use Rattle.scenario_form.specs.declared.refusal.Refusal.TheVariants.{Schema}
use Rattle.scenario_form.specs.Checks.{Check, ◌>>◌, require}
use Rattle.scenario_form.specs.Walk.{place}
use Rattle.scenario_form.specs.Across.{Wire, same_wire, wire, wire_check, with_wire, losses_check}
use Rattle.scenario_form.proofs.HeldKeys.{SameKeys, same_after}

pub same_wire-symm : (x y : Wire) → same_wire x y ≡ same_wire y x
same_wire-symm x y = ap (λ b. b && (x.1 == y.1)) (nat_eq_equiv.symm x.0 y.0) ∙ ap (λ b. (y.0 == x.0) && b) (nat_eq_equiv.symm x.1 y.1)

same_check : (i : ℕ) (xs ys : List Wire) (o : Option Wire) → SameKeys same_wire xs ys → wire_check i xs o ≡ wire_check i ys o
same_check i xs ys None h = refl
same_check i xs ys (Some w) h = ap (λ b. require (not b) (Schema (place 5 i 2) Twice)) (h w)

same_with : (xs ys : List Wire) (o : Option Wire) → SameKeys same_wire xs ys → SameKeys same_wire (with_wire o xs) (with_wire o ys)
same_with xs ys None h = h
same_with xs ys (Some w) h = λ q. ap (λ b. same_wire q w || b) (h q)

losses_same : (all : List Interface) (xs ys : List Wire) (es : List (ℕ × Loss)) → SameKeys same_wire xs ys → losses_check all xs es ≡ losses_check all ys es
losses_same all xs ys [] h = refl
losses_same all xs ys (e ∷ es) h =
    ap (λ c. c >> losses_check all (with_wire (wire all e.1) xs) es) (same_check e.0 xs ys (wire all e.1) h)
    ∙ ap (λ c. wire_check e.0 ys (wire all e.1) >> c)
    (losses_same all (with_wire (wire all e.1) xs) (with_wire (wire all e.1) ys) es (same_with xs ys (wire all e.1) h))

-- a loss and those after it, by what its interface is
losses_from : (all : List Interface) (held : List Wire) (ls : List Loss) (i : ℕ) (l : Loss) (o : Option Wire) → i < length ls → l ≡ get_or ls i l → o ≡ wire all l
    → losses_check all held (enumerate_from i (drop i ls)) ≡ (wire_check i held o >> losses_check all (with_wire o held) (enumerate_from (i + 1) (drop (i + 1) ls)))
losses_from all held ls i l o h is on =
    ap (λ xs. losses_check all held (enumerate_from i xs)) (drop_more ls i l h)
    ∙ ap (λ x. losses_check all held ((i, x) ∷ enumerate_from (i + 1) (drop (i + 1) ls))) (sym is)
    ∙ ap (λ w. wire_check i held w >> losses_check all (with_wire w held) (enumerate_from (i + 1) (drop (i + 1) ls))) (sym on)

-- an interface that the node hasn't
pub absent_loss : (all : List Interface) (held : List Wire) (ls : List Loss) (i : ℕ) (l : Loss) (whole : Check Refusal) → i < length ls → l ≡ get_or ls i l
    → None ≡ wire all l
    → losses_check all held (enumerate_from i (drop i ls)) ≡ whole
    → whole ≡ Err (Schema (place 5 i 2) NoInterface)
absent_loss all held ls i l whole h is absent so_far = sym so_far ∙ losses_from all held ls i l None h is absent

stale_step : (b : Bool) (i : ℕ) (after : Check Refusal) → false ≡ not b → (require (not b) (Schema (place 5 i 2) Twice) >> after) ≡ Err (Schema (place 5 i 2) Twice)
stale_step b i after h = rw (← h) refl

fresh_step : (b : Bool) (i : ℕ) (after : Check Refusal) → true ≡ not b → (require (not b) (Schema (place 5 i 2) Twice) >> after) ≡ after
fresh_step b i after h = rw (← h) refl

-- one that has a loss before
pub stale_loss : (all : List Interface) (held : List Wire) (ls : List Loss) (i : ℕ) (l : Loss) (w : Wire) (whole : Check Refusal) → i < length ls → l ≡ get_or ls i l
    → Some w ≡ wire all l
    → false ≡ not (list_any (same_wire w) held)
    → losses_check all held (enumerate_from i (drop i ls)) ≡ whole
    → whole ≡ Err (Schema (place 5 i 2) Twice)
stale_loss all held ls i l w whole h is on stale so_far =
    sym so_far ∙ losses_from all held ls i l (Some w) h is on ∙ stale_step (list_any (same_wire w) held) i _ stale

-- one that has none before
pub next_loss : (all : List Interface) (old new : List Wire) (ls : List Loss) (i : ℕ) (l : Loss) (w : Wire) (whole : Check Refusal) → i < length ls → l ≡ get_or ls i l
    → Some w ≡ wire all l
    → true ≡ not (list_any (same_wire w) old)
    → ((q : Wire) → list_any (same_wire q) new ≡ cond (same_wire w q) true (list_any (same_wire q) old))
    → losses_check all old (enumerate_from i (drop i ls)) ≡ whole
    → losses_check all new (enumerate_from (i + 1) (drop (i + 1) ls)) ≡ whole
next_loss all old new ls i l w whole h is on fresh added so_far =
    losses_same all new (w ∷ old) (enumerate_from (i + 1) (drop (i + 1) ls)) (same_after same_wire old new w same_wire-symm added)
    ∙ sym (losses_from all old ls i l (Some w) h is on ∙ fresh_step (list_any (same_wire w) old) i (losses_check all (w ∷ old) (enumerate_from (i + 1) (drop (i + 1) ls))) fresh)
    ∙ so_far
