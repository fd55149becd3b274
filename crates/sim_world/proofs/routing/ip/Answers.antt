use Rattle.std.proofs.Common.{◌++◌, map, subst, sym, ap, ◌∙◌}
use Rattle.std.specs.Prelude.{All}
use Rattle.sim_world.specs.declared.routing.Entry.{Entry}
use Rattle.std.proofs.Common.{◌≤◌, List, ◌≡◌}
use Rattle.sim_world.specs.Routing.{connected, entries_of, prefix_of, tables_of}
use Rattle.sim_world.proofs.RouteLaws.{short_entries}
use Rattle.sim_world.proofs.routing.ip.Goals as goal

pub tables-requires : goal.tables-requires
tables-requires c =
    subst (All (λ (e : Entry). prefix_of e ≤ 30)) (sym (c.as_slice.ensures.value ∙ c.in_ok-extend_from_slice.ensures.items ∙ ap (λ es. es ++ c.args.beyond.now) c.in_ok-entries.ensures))
    (short_entries c.args.ends.now c.args.beyond.now c.requires.ends c.requires.beyond)
