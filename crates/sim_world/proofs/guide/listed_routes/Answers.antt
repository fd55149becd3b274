use Rattle.std.proofs.Common.{ℕ, ◌++◌, Option, ap, ◌∙◌}
use Rattle.std.specs.List.{filter_map}
use Rattle.std.specs.Ordering.{nat_cmp}
use Rattle.std.specs.BTreeMap.{get}
use Rattle.sim_world.specs.declared.ends.End.{End}
use Rattle.sim_world.specs.Routing.{listed}
use Rattle.sim_world.proofs.RouteLaws.{found, same_listed}
use Rattle.sim_world.proofs.guide.listed_routes.Goals as goal

pub add_listed-requires-clause-on : goal.add_listed-requires-clause-on
add_listed-requires-clause-on c = λ number. found number c.args.ends.now (get nat_cmp c.in_ok-on.on number) (c.in_ok-on.ensures number) c.requires.ends

pub returns : goal.returns
returns c =
    let holder : ℕ → Option End = get nat_cmp c.args.holders.now in
    let on : ℕ → Option End = get nat_cmp c.in_ok-on.on in
    c.in_ok-add_listed.ensures
    ∙ ap (λ entries. entries ++ filter_map (listed holder on) c.args.routes.now) c.new-entries.ensures.items
    ∙ same_listed holder on c.args.ends.now c.args.routes.now c.in_ok-on.ensures
