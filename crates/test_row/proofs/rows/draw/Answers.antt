use Rattle.std.proofs.Common.{length, sym, ap, subst, ◌∙◌}
use Rattle.std.proofs.lemmas.List.{length-append}
use Rattle.work_claims.specs.Drawn.{AllGiven}
use Rattle.work_claims.proofs.PassLaws.{all-given, pass-drew, pass-gave, pass-took}
use Rattle.test_row.proofs.rows.draw.Goals as goal
use Rattle.test_row.proofs.rows.draw.Goals.{After-give}

pub take-item-requires-clause-drawn : goal.take-item-requires-clause-drawn
take-item-requires-clause-drawn c = pass-drew c.args.pass.now c.claim.new.pass c.in_ok-number.number c.in_ok-number.ensures.drawn

pub give-requires-clause-taken : goal.give-requires-clause-taken
give-requires-clause-taken c =
    pass-took c.args.pass.now c.claim.new.pass c.take-item.new.pass c.in_ok-number.number c.in_ok-number.ensures.drawn c.take-item.ensures.taken

pub returns-clause-given : goal.returns-clause-given
returns-clause-given c =
    let gave = pass-gave c.args.pass.now c.claim.new.pass c.take-item.new.pass c.give.new.pass c.in_ok-number.number _ c.in_ok-number.ensures.new
    c.in_ok-number.ensures.drawn c.take-item.ensures.taken c.give.ensures.given in
    subst (λ p. AllGiven p.drawn) (sym gave) (all-given c.args.pass.now.drawn c.in_ok-number.number _ c.requires.given)

pub returns-clause-more : goal.returns-clause-more
returns-clause-more c =
    let gave = pass-gave c.args.pass.now c.claim.new.pass c.take-item.new.pass c.give.new.pass c.in_ok-number.number _ c.in_ok-number.ensures.new
    c.in_ok-number.ensures.drawn c.take-item.ensures.taken c.give.ensures.given in
    (ap (λ p. length p.drawn) gave ∙ length-append c.args.pass.now.drawn _, c.in_ok-number.ensures.fewer)
