use Rattle.std.proofs.Common.{get_or, arith}
use Rattle.std.proofs.lemmas.List.{get_or_default}
use Rattle.std.proofs.lemmas.List.Elements.{Contains-get_or}
use Rattle.route_calc.specs.declared.places.Place.{Place}
use Rattle.route_calc.specs.Seen.{seen}
use Rattle.route_calc.proofs.ListLaws.{contains-head}
use Rattle.route_calc.proofs.SearchLaws.{next, search-stale, visiting-none, visiting-more, visiting-all}
use Rattle.route_calc.proofs.search.Search.visit.Goals as goal

pub is_stale-requires : goal.is_stale-requires
is_stale-requires c =
    let h = c.requires.search in
    omega (arith, (h.waits (c.args.label, c.args.node) (contains-head (c.args.label, c.args.node) c.args.self.now.waiting)).0, h.nodes)

pub loop-place-init : goal.loop-place-init
loop-place-init c = visiting-none c.args.net.now c.args.label c.args.node c.args.places.now _ (seen c.args.self.now) (omega arith) c.requires.search

pub reach-requires-clause-number : goal.reach-requires-clause-number
reach-requires-clause-number c =
    (c.requires.places.only _ (Contains-get_or c.args.places.now c.loop-place.place-index (record { net = 0; iface = 0 }) c.loop-place-test.true)).at.within

pub loop-place-preserved : goal.loop-place-preserved
loop-place-preserved c =
    let g = c.args.net.now in
    let ps = c.args.places.now in
    let i = c.loop-place.place-index in
    let place : Place = get_or ps i (record { net = 0; iface = 0 }) in
    let mine = c.requires.places.only place (Contains-get_or ps i (record { net = 0; iface = 0 }) c.loop-place-test.true) in
    let v = c.loop-place.invariant in
    visiting-more g c.args.label c.args.node ps i place (seen c.args.self.now) (seen c.loop-place.self) (seen c.reach.new.self) c.loop-place-test.true
    (get_or_default ps i (record { net = 0; iface = 0 }) place c.loop-place-test.true) v
    (next g c.args.label c.args.node place (seen c.loop-place.self) (seen c.reach.new.self) c.requires.nodes mine (v.ahead.later c.requires.least) c.in_ok-reach.ensures v.search)

pub returns-clause-search : goal.returns-clause-search
returns-clause-search c =
    visiting-all c.args.net.now c.args.label c.args.node c.args.places.now c.loop-place.place-index (seen c.args.self.now) (seen c.loop-place.self) (omega arith)
    c.requires.places c.loop-place.invariant

pub returns-then-is_stale-clause-search : goal.returns-then-is_stale-clause-search
returns-then-is_stale-clause-search c =
    search-stale c.args.net.now (seen c.args.self.now) c.args.label c.args.node c.if-is_stale.ensures c.requires.search
