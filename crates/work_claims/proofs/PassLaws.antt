-- For callers that draw: a number that was drawn last, and how it moves on from stage to stage.
use Rattle.std.proofs.Common.{◌≡◌, ℕ, List, [], ◌∷◌, ◌++◌, true, IsTrue, ◌≤◌, length, refl, sym, ap, subst, ◌∙◌, inl, inr, eq-eqb, arith}
use Rattle.std.proofs.lemmas.List.Elements.{All-head, All-tail}
use Rattle.std.specs.List.{All, Any, flat_map}
use Rattle.std.proofs.lemmas.Bool.Decides.{eqb_tells}
use Rattle.work_claims.specs.Drawn.{Draw, IsAt, IsNew, moved, AllGiven}
use Rattle.work_claims.specs.Gathered.{drawn_of}
use Rattle.work_claims.specs.Row.{PassSeen}
use Rattle.work_claims.specs.declared.view.Stage.{Stage}
use Rattle.work_claims.specs.declared.view.Stage.TheVariants.{Drawn, Taken, Given}
use Rattle.work_claims.proofs.DrawnLaws.{given-append, moved-at, moved-again}

module _ {T : Type 0} where
  -- the number that was drawn last
  pub at-last : (ds : List (Draw T)) (n : ℕ) (stage : Stage T) → IsAt (ds ++ (n, stage) ∷ []) n stage
  at-last [] n stage = inl refl
  at-last (d ∷ ds) n stage = inr (at-last ds n stage)

  pub moved-last : (ds : List (Draw T)) (n : ℕ) (from to : Stage T) → IsNew n ds → moved n to (ds ++ (n, from) ∷ []) ≡ ds ++ (n, to) ∷ []
  unfolding moved
  moved-last [] n from to new = let self = eq-eqb n n refl in rw self refl
  moved-last (d ∷ ds) n from to new =
      let ih = moved-last ds n from to new.1 in
      elim (eqb_tells n d.0) [
        | inl e ↦ absurd (new.0 (sym e.1))
        | inr e ↦ rw e.0 (ap (λ l. d ∷ l) ih)
      ]

  -- where all before were given, all are
  pub all-given : (ds : List (Draw T)) (n : ℕ) (item : T) → AllGiven ds → AllGiven (ds ++ (n, Given item) ∷ [])
  all-given ds n item given = given-append ds ((n, Given item) ∷ []) given (tt, tt)

  -- a pass that has just drawn a number may take the item there
  pub pass-drew : (old drew : PassSeen T) (n : ℕ) → drew ≡ record old { drawn = old.drawn ++ (n, Drawn) ∷ [] } → IsAt drew.drawn n Drawn
  pass-drew old drew n d = subst (λ (p : PassSeen T). IsAt p.drawn n Drawn) (sym d) (at-last old.drawn n Drawn)

  -- then it may give one back
  pub pass-took : (old drew took : PassSeen T) (n : ℕ) → drew ≡ record old { drawn = old.drawn ++ (n, Drawn) ∷ [] } →
      took ≡ record drew { drawn = moved n Taken drew.drawn } → IsAt took.drawn n Taken
  pass-took old drew took n d t = subst (λ (p : PassSeen T). IsAt p.drawn n Taken) (sym t) (moved-at n Drawn Taken drew.drawn (pass-drew old drew n d))

  -- and then it has one number more, at which an item was given
  pub pass-gave : (old drew took gave : PassSeen T) (n : ℕ) (item : T) → IsNew n old.drawn → drew ≡ record old { drawn = old.drawn ++ (n, Drawn) ∷ [] } →
      took ≡ record drew { drawn = moved n Taken drew.drawn } → gave ≡ record took { drawn = moved n (Given item) took.drawn } →
      gave ≡ record old { drawn = old.drawn ++ (n, Given item) ∷ [] }
  pass-gave old drew took gave n item new d t g =
      g ∙ ap (λ (p : PassSeen T). record p { drawn = moved n (Given item) p.drawn }) (t ∙ ap (λ (p : PassSeen T). record p { drawn = moved n Taken p.drawn }) d)
      ∙ ap (λ ds. record old { drawn = ds }) (moved-again n Taken (Given item) (old.drawn ++ (n, Drawn) ∷ []) ∙ moved-last old.drawn n Drawn (Given item) new)

  -- where each pass has given an item back at every number that it drew, all have
  pub given-over : (passes : List (PassSeen T)) → All (λ pass. AllGiven pass.drawn) passes → AllGiven (flat_map drawn_of passes)
  given-over [] all = tt
  given-over (pass ∷ passes) all =
      given-append pass.drawn (flat_map drawn_of passes) (All-head (λ p. AllGiven p.drawn) pass passes all)
      (given-over passes (All-tail (λ p. AllGiven p.drawn) pass passes all))

  -- where each pass has answered None, one has
  pub past-over : (passes : List (PassSeen T)) → 1 ≤ length passes → All (λ pass. pass.past ≡ true) passes → Any (λ pass. IsTrue pass.past) passes
  past-over [] some all = absurd (omega arith)
  past-over (pass ∷ passes) some all =
      (0, pass, omega arith, refl, All-head (λ p. p.past ≡ true) pass passes all)
