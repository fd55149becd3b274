use Rattle.std.proofs.Common.{sym, ap, ◌∙◌, map, subst, arith}
use Rattle.std.proofs.lemmas.List.{drop_all}
use Rattle.std.specs.Option.{option_copied}
use Rattle.ipv4_core.specs.Routes.{route, IsFalling}
use Rattle.ipv4_core.proofs.RouteLaws.{seen, found, not_found, route_is_longest, route_is_none}
use Rattle.ipv4_core.proofs.routes.Routes.route.Goals as goal

pub returns-in-Some-clause-value : goal.returns-in-Some-clause-value
returns-in-Some-clause-value c =
    found c.args.addr c.loop-table.table-index c.deref-table-items.result.now c.table-item.result c.in-Some.way.now _ c.loop-table-test.true c.table-item.is
    (rw (← c.network.ensures) (sym c.get.ensures.value ∙ ap option_copied c.in-Some.is))
    c.loop-table.invariant

pub loop-table-preserved : goal.loop-table-preserved
loop-table-preserved c =
    not_found c.args.addr c.loop-table.table-index c.deref-table-items.result.now c.table-item.result _ c.loop-table-test.true c.table-item.is
    (rw (← c.network.ensures) (sym c.get.ensures.value ∙ ap option_copied c.in_default.is))
    c.loop-table.invariant

pub returns-in-Some-clause-longest : goal.returns-in-Some-clause-longest
returns-in-Some-clause-longest c =
    let way = found c.args.addr c.loop-table.table-index c.deref-table-items.result.now c.table-item.result c.in-Some.way.now _ c.loop-table-test.true c.table-item.is
    (rw (← c.network.ensures) (sym c.get.ensures.value ∙ ap option_copied c.in-Some.is))
    c.loop-table.invariant in
    route_is_longest c.args.addr c.args.self.now c.in-Some.way.now (subst IsFalling c.self.view_is c.self.invariant) (sym way)

pub returns-clause-none : goal.returns-clause-none
returns-clause-none c =
    route_is_none c.args.addr c.args.self.now
    (c.loop-table.invariant
    ∙ ap (λ tables. route c.args.addr (map seen tables)) (drop_all c.loop-table.table-index c.deref-table-items.result.now (omega arith)))
