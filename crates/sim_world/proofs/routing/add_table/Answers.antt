use Rattle.std.proofs.Common.{[], ◌++◌, map, ap, sym, ◌∙◌}
use Rattle.std.proofs.lemmas.List.{append-nil, map_push}
use Rattle.sim_world.specs.Routing.{seen}
use Rattle.sim_world.proofs.RouteLaws.{no_table, some_table, not_both}
use Rattle.sim_world.proofs.routing.add_table.Goals as goal

pub returns-then-is_empty : goal.returns-then-is_empty
returns-then-is_empty c =
    sym (ap (λ ts. map seen c.args.tables.now.items ++ ts) (no_table c.args.prefix c.args.ways.entries [] (c.is_empty.ensures.0 c.if-is_empty.true)) ∙ append-nil (map seen c.args.tables.now.items))

pub returns : goal.returns
returns c =
    ap (map seen) c.in_ok-push.ensures.items ∙ map_push seen c.args.tables.now.items c.make.result
    ∙ ap (λ ts. map seen c.args.tables.now.items ++ ts)
    (sym (some_table c.args.prefix c.args.ways.entries [] (seen c.make.result) c.make.ensures.prefix (ap (λ m. m.entries) c.make.ensures.ways)
    (λ none. not_both c.is_empty.result (c.is_empty.ensures.1 none) c.if-is_empty.false)))
