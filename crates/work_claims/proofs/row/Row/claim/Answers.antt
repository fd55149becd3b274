use Rattle.std.proofs.Common.{sym, ap, ◌∙◌, arith}
use Rattle.work_claims.proofs.Draws.{draws}
use Rattle.work_claims.proofs.row.Row.claim.Goals as goal

pub fetch_add-number-requires : goal.fetch_add-number-requires
fetch_add-number-requires g c = (
  ap (λ p. p.row.table) c.pass.view_is ∙ ap (λ r. r.table) c.requires ∙ sym (ap (λ r. r.table) c.self.view_is),
  omega (arith, c.self.invariant.2),
  draws _ _ _ _ (c.pass.invariant.knows ∙ c.if-pass.false) (omega (arith, c.pass.invariant.one)),
)
