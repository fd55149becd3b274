use Rattle.std.proofs.Common.{◌+◌, ◌<◌, ◌≤◌, map, drop, length, arith, refl, ◌∙◌}
use Rattle.std.proofs.Math.ListN.{drop_of_length-le}
use Rattle.tcp_flow.specs.Conn.{all_done}
use Rattle.tcp_flow.specs.Seen.{plain_act}
use Rattle.tcp_flow.proofs.Carrying.{all-acts, none-carried, drop-at, one-carried}
use Rattle.tcp_flow.proofs.Fitting.{acts-fit, adds}
use Rattle.tcp_flow.proofs.conn.Conn.carry_out.Goals as goal

pub loop-effect-init : goal.loop-effect-init
loop-effect-init g c =
    record {
      carried = none-carried c.args.self.now c.args.numbers.now (map (plain_act g.P.Pkt.plain) c.args.out.now.items) c.args.effects.now;
      connection = refl;
      pair = refl;
    }

pub loop-effect-preserved : goal.loop-effect-preserved
loop-effect-preserved g c =
    let effects = c.args.effects.now in
    let at = c.loop-effect.effect-index in
    let effect = c.effect-item.result in
    let low : at < length effects = omega arith in
    record {
      carried =
          one-carried c.args.self.now c.args.numbers.now (map (plain_act g.P.Pkt.plain) c.args.out.now.items) effects
          c.loop-effect.self c.loop-effect.numbers (map (plain_act g.P.Pkt.plain) c.loop-effect.out.items) (drop at effects)
          effect (drop (at + 1) effects)
          c.carry_out_one.new.self c.carry_out_one.new.numbers (map (plain_act g.P.Pkt.plain) c.carry_out_one.new.out.items)
          (drop-at effects at effect low c.effect-item.is)
          c.in_ok-carry_out_one.ensures.conn c.in_ok-carry_out_one.ensures.numbers c.in_ok-carry_out_one.ensures.acts
          c.loop-effect.invariant.carried;
      connection = c.in_ok-carry_out_one.ensures.connection ∙ c.loop-effect.invariant.connection;
      pair = c.carry_out_one.ensures.pair ∙ c.loop-effect.invariant.pair;
    }

pub returns-clause-datagrams : goal.returns-clause-datagrams
returns-clause-datagrams g c =
    let see = plain_act g.P.Pkt.plain in
    let effects = c.args.effects.now in
    let at = c.loop-effect.effect-index in
    let last : length effects ≤ at = omega arith in
    adds see c.args.out.now.items c.loop-effect.out.items (all_done c.args.self.now c.args.numbers.now effects).acts
    (all-acts c.args.self.now c.args.numbers.now (map see c.args.out.now.items) effects c.loop-effect.self c.loop-effect.numbers (map see c.loop-effect.out.items) (drop at effects)
    (drop_of_length-le effects last) c.loop-effect.invariant.carried)
    (acts-fit c.args.self.now c.args.numbers.now effects c.requires)
