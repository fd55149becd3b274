use Rattle.std.proofs.Common.{rules, ◌≡◌, true, sym, subst}
use Rattle.std.proofs.lemmas.List.Quantifiers.{Any-push}
use Rattle.std.specs.List.{Any}
use Rattle.std.specs.Bool.{IsTrue}
use Rattle.test_row.proofs.rows.each_number_is_drawn_once_and_every_further_claim_is_none.Goals as goal

pub close-requires-clause-past : goal.close-requires-clause-past
close-requires-clause-past g c =
    let past : c.draw.new.pass.past ≡ true = search rules in
    subst (λ items. Any (λ pass. IsTrue pass.past) items) (sym c.in_ok-push-2.ensures.items)
    (Any-push (λ pass. IsTrue pass.past) c.push.new.self.items c.draw.new.pass past)
