use Rattle.std.proofs.Common.{◌∙◌, ap, sym, map, List}
use Rattle.std.specs.List.{position}
use Rattle.sim_base.specs.KeyOrder.{before}
use Rattle.model_tokens.specs.Tokens.{event_of}
use Rattle.model_tokens.specs.declared.Token.{Token}
use Rattle.model_tokens.proofs.Placing.{found-place, no-place}
use Rattle.model_tokens.proofs.put.Goals as goal

pub returns-in_ok-insert-in-Some : goal.returns-in_ok-insert-in-Some
returns-in_ok-insert-in-Some c = ap (map event_of) c.in_ok-insert-in-Some.ensures.items
    ∙ found-place c.args.token c.args.tokens.now.items c.in-Some.at
    (ap (λ (l : List Token). position (λ t. before c.args.token.key t.key) l) (sym c.deref.ensures.value) ∙ sym c.in-Some.ensures)

pub returns-in_ok-push-in-None : goal.returns-in_ok-push-in-None
returns-in_ok-push-in-None c = ap (map event_of) c.in_ok-push-in-None.ensures.items
    ∙ no-place c.args.token c.args.tokens.now.items
    (ap (λ (l : List Token). position (λ t. before c.args.token.key t.key) l) (sym c.deref.ensures.value) ∙ sym c.in-None.ensures)
