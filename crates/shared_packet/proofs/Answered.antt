-- What holds after a call that either went through or left things as they were.
use Rattle.std.proofs.Common.{ℕ, ◌≡◌, Option, Some, None, refl, sym, subst}
use Rattle.std.specs.Prelude.{Result, Ok, Err, OnOk, OnErr, IsOk}
use Rattle.sim_base.specs.declared.tags.TagStop.{TagStop}
use Rattle.pkt_face.specs.Face.{StopsAtHeld}

pub on_both : {T E X : Type 0} (P : X → Type 0) (r : Result T E) (new after before : X) → OnOk r (new ≡ after) → OnErr r (new ≡ before) → (IsOk r → P after) → P before → P new
on_both P (Ok u) new after before ok err passed kept = subst P (sym ok) (passed refl)
on_both P (Err e) new after before ok err passed kept = subst P (sym err) kept

pub on_ok : {T E P Q : Type 0} (r : Result T E) → OnOk r P → (P → Q) → OnOk r Q
on_ok (Ok u) p f = f p
on_ok (Err e) p f = tt

-- a tag was added, so none of its number was held
pub held-none : (held : Option ℕ) (r : Result (Unit {0}) TagStop) → StopsAtHeld held r → IsOk r → held ≡ None
held-none None r stops ok = refl
held-none (Some v) (Ok u) stops ok = absurd (cc)
held-none (Some v) (Err e) stops ok = absurd (cc)
