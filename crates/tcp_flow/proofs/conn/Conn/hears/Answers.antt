use Rattle.std.proofs.Common.{◌≡◌, ◌≤◌, ◌++◌, List, arith, ap, ◌∙◌}
use Rattle.std.proofs.lemmas.List.Elements.{All-same}
use Rattle.tcp_conn.specs.declared.words.Effect.{Effect}
use Rattle.tcp_conn.specs.Step.{hears}
use Rattle.tcp_flow.specs.Small.{IsSmall}
use Rattle.tcp_flow.proofs.SmallSteps.{hears_small}
use Rattle.tcp_flow.proofs.conn.Conn.hears.Goals as goal

pub carry_out-requires-after_bounds : goal.carry_out-requires-after_bounds
carry_out-requires-after_bounds g c κs within =
    let connection = c.args.self.now.connection in
    let effects = (hears c.args.now.0 c.args.arrived.now.says c.as_slice-bytes.result.now connection).effects in
    let full : connection.reno.smss ≤ 9000 = omega (arith, c.smss-size.ensures.value, c.smss-size.ensures.greatest) in
    let same : c.deref.result.now ≡ effects =
    c.deref.ensures.value ∙ c.in_ok-hears.ensures.effects ∙ ap (λ (l : List Effect). l ++ effects) c.new-effects.ensures.items in
    All-same IsSmall c.deref.result.now effects same (hears_small c.args.now.0 c.args.arrived.now.says c.as_slice-bytes.result.now connection full c.requires.fits.greatest_mss)
