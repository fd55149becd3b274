-- The losses of an accepted scenario are within the limits, and one is looked for in their order.
use Rattle.std.proofs.Common.{◌≡◌, ℕ, ◌+◌, ◌<◌, ◌≤◌, Bool, true, false, List, [], ◌∷◌, length, get_or, drop, Option, Some, None, refl, sym, ◌∙◌}
use Rattle.std.specs.Prelude.{All, IfSome, find}
use Rattle.std.proofs.lemmas.List.{at_drop_more}
use Rattle.std.proofs.lemmas.List.Elements.{All-weaker}
use Rattle.sim_base.specs.Losses.{AreRisingAbove}
use Rattle.scenario_form.specs.declared.scenario.Loss.{Loss}
use Rattle.scenario_form.specs.Limits.{AreRising, IsFromTo}
use Rattle.scenario_form.specs.Limits as limits
use Rattle.sim_world.specs.Losses.{IsLoss}

rising : (low most : ℕ) (ns : List ℕ) → AreRising low most ns → AreRisingAbove low ns
rising low most [] h = tt
rising low most (n ∷ ns) h = (h.0, rising n most ns h.2)

frames_rise : (o : Option (List ℕ)) → IfSome o (AreRising 0 1000000000) → IfSome o (AreRisingAbove 0)
frames_rise None h = tt
frames_rise (Some ns) h = rising 0 1000000000 ns h

few : (o : Option ℕ) → IfSome o (IsFromTo 0 1000000) → IfSome o (λ m. m ≤ 1000000)
few None h = tt
few (Some m) h = h.to

a_loss : (nodes : ℕ) (l : Loss) → limits.IsLoss nodes l → IsLoss l
a_loss nodes l is = record { frames = frames_rise l.frames is.frames; millionths = few l.millionths is.millionths }

pub all_losses : (nodes : ℕ) (losses : List Loss) → All (limits.IsLoss nodes) losses → All IsLoss losses
all_losses nodes losses are = All-weaker (limits.IsLoss nodes) IsLoss (a_loss nodes) losses are

-- ---- the first that passes a test, among those that are left

first_here : {A : Type 0} (p : A → Bool) (x : A) (xs : List A) → p x ≡ true → find p (x ∷ xs) ≡ Some x
first_here p x xs is = rw is refl

first_later : {A : Type 0} (p : A → Bool) (x : A) (xs : List A) → p x ≡ false → find p (x ∷ xs) ≡ find p xs
first_later p x xs is = rw is refl

pub found_next : {A : Type 0} (p : A → Bool) (xs : List A) (i : ℕ) (d : A) → i < length xs → p (get_or xs i d) ≡ true → find p (drop i xs) ≡ Some (get_or xs i d)
found_next p xs i d lt is = at_drop_more (find p) xs i d lt ∙ first_here p (get_or xs i d) (drop (i + 1) xs) is

pub passed_next : {A : Type 0} (p : A → Bool) (xs : List A) (i : ℕ) (d : A) → i < length xs → p (get_or xs i d) ≡ false → find p (drop (i + 1) xs) ≡ find p (drop i xs)
passed_next p xs i d lt is = sym (at_drop_more (find p) xs i d lt ∙ first_later p (get_or xs i d) (drop (i + 1) xs) is)
