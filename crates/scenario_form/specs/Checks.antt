-- Checks that stand in an order, of which the first that refuses gives the answer.
use Rattle.std.specs.Prelude.{Bool, true, false, List, [], ◌∷◌, Option, Some, None, Result, Ok, Err}

-- a check accepts, or refuses with a reason
abbrev pub Check : Type 0 → Type 0
Check E = Result (Unit {0}) E

infixr 5 ◌>>◌
-- the second, where the first accepts
abbrev pub ◌>>◌ : {A E : Type 0} → Check E → Result A E → Result A E
Ok _ >> after = after
Err e >> after = Err e

-- refuses with the reason where the test fails
abbrev pub require : {E : Type 0} → Bool → E → Check E
require true e = Ok tt
require false e = Err e

-- the same with the reason seen in another way
abbrev pub refuse_as : {D E : Type 0} → (D → E) → Check D → Check E
refuse_as f (Ok _) = Ok tt
refuse_as f (Err e) = Err (f e)

-- the check of what is there
abbrev pub where_present : {A E : Type 0} → (A → Check E) → Option A → Check E
where_present f None = Ok tt
where_present f (Some a) = f a

-- the checks of some things in order
abbrev pub each : {A E : Type 0} → (A → Check E) → List A → Check E
each f [] = Ok tt
each f (a ∷ rest) = f a >> each f rest
