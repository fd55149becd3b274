use Rattle.std.proofs.Common.{◌≡◌, ◌++◌, List, ap, ◌∙◌}
use Rattle.std.proofs.lemmas.List.Elements.{All-same}
use Rattle.tcp_conn.specs.declared.words.Effect.{Effect}
use Rattle.tcp_conn.specs.Begin.{opening}
use Rattle.tcp_flow.specs.Small.{IsSmall}
use Rattle.tcp_flow.proofs.SmallSteps.{opening_small}
use Rattle.tcp_flow.proofs.conn.Conn.open.Goals as goal

pub carry_out-requires-after_bounds : goal.carry_out-requires-after_bounds
carry_out-requires-after_bounds g c κs within =
    let effects = (opening c.args.now.0 c.args.mss).effects in
    let same : c.deref.result.now ≡ effects =
    c.deref.ensures.value ∙ c.in_ok-connection.ensures.effects ∙ ap (λ (l : List Effect). l ++ effects) c.new-effects.ensures.items in
    All-same IsSmall c.deref.result.now effects same (opening_small c.args.now.0 c.args.mss c.requires.greatest)
