use Rattle.std.proofs.Common.{get_or, map, ap, arith, ◌∙◌}
use Rattle.std.proofs.lemmas.List.{map_push}
use Rattle.route_calc.specs.declared.graph.Net.{Net}
use Rattle.route_calc.specs.Least.{plain}
use Rattle.sim_world.proofs.MapLaws.{net_more, net_read}
use Rattle.sim_world.proofs.graph.nets.Goals as goal

pub loop-t-preserved : goal.loop-t-preserved
loop-t-preserved c =
    let costs = c.args.costs.now in
    let on = c.args.on.now in
    let t = c.loop-t.t in
    let net : Net = record { cost = get_or costs t 0; members = c.in_ok-members.field-0 } in
    net_more costs on t (map plain c.loop-t.nets.items) (map plain c.push.new.self.items) (plain net) c.loop-t.invariant
    (ap (map plain) c.in_ok-push.ensures.items ∙ map_push plain c.loop-t.nets.items net)
    (net_read costs on t 0 c.index-on-t.result c.as_slice.result.now c.in_ok-members.field-0.items (omega (arith, c.loop-t-test.true)) (omega (arith, c.loop-t-test.true, c.requires))
    c.in_ok-members.ensures c.as_slice.ensures c.index-on-t.is)
