use Rattle.std.proofs.Common.{◌≡◌, ◌++◌, List, ap, ◌∙◌}
use Rattle.std.proofs.lemmas.List.Elements.{All-same}
use Rattle.tcp_conn.specs.declared.words.Effect.{Effect}
use Rattle.tcp_conn.specs.Begin.{heard_syn}
use Rattle.tcp_flow.specs.Small.{IsSmall}
use Rattle.tcp_flow.proofs.SmallSteps.{heard_syn_small}
use Rattle.tcp_flow.proofs.conn.Conn.accept.Goals as goal

pub carry_out-requires-after_bounds : goal.carry_out-requires-after_bounds
carry_out-requires-after_bounds g c κs within =
    let effects = (heard_syn c.args.now.0).effects in
    let same : c.deref.result.now ≡ effects =
    c.deref.ensures.value ∙ c.in_ok-connection.ensures.effects ∙ ap (λ (l : List Effect). l ++ effects) c.new-effects.ensures.items in
    All-same IsSmall c.deref.result.now effects same (heard_syn_small c.args.now.0)
