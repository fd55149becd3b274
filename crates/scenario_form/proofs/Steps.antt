-- What a check with a value behind it says.
use Rattle.std.proofs.Common.{◌≡◌, Bool, true, false, Ok, Err, refl}
use Rattle.scenario_form.specs.Checks.{Check, ◌>>◌, require, refuse_as}

pub then_ok_check : {A E : Type 0} (c : Check E) (a b : A) → Ok b ≡ (c >> Ok a) → c ≡ Ok tt
then_ok_check (Ok tt) a b h = refl
then_ok_check (Err e) a b h = cc

pub then_ok_value : {A E : Type 0} (c : Check E) (a b : A) → Ok b ≡ (c >> Ok a) → b ≡ a
then_ok_value (Ok tt) a b h = cc
then_ok_value (Err e) a b h = cc

pub then_err : {A E : Type 0} (c : Check E) (a : A) (e : E) → Err e ≡ (c >> Ok a) → c ≡ Err e
then_err (Ok tt) a e h = cc
then_err (Err d) a e h = cc

pub first_ok : {E : Type 0} (c d : Check E) → (c >> d) ≡ Ok tt → c ≡ Ok tt
first_ok (Ok tt) d h = refl
first_ok (Err e) d h = cc

pub rest_ok : {E : Type 0} (c d : Check E) → (c >> d) ≡ Ok tt → d ≡ Ok tt
rest_ok (Ok tt) d h = h
rest_ok (Err e) d h = cc

pub require_ok : {E : Type 0} (b : Bool) (e : E) → require b e ≡ Ok tt → b ≡ true
require_ok true e h = refl
require_ok false e h = cc

pub refuse_ok : {D E : Type 0} (f : D → E) (c : Check D) → refuse_as f c ≡ Ok tt → c ≡ Ok tt
refuse_ok f (Ok tt) h = refl
refuse_ok f (Err e) h = cc
