use Rattle.std.proofs.Common.{map}
use Rattle.sim_world.specs.Shares.{part_seen}
use Rattle.round_kernel.proofs.Making.{first-known, parts-new}
use Rattle.round_kernel.proofs.groups.split.Goals as goal

pub split-requires-clause-known : goal.split-requires-clause-known
split-requires-clause-known g c κs within = first-known c.args.world c.requires.opens

pub make_groups-requires-after_bounds : goal.make_groups-requires-after_bounds
make_groups-requires-after_bounds g c κs within =
    parts-new c.args.world c.args.cut.now (map (part_seen g.P.Pkt.plain) c.in_ok-parts.parts.items) c.requires.opens c.in_ok-parts.ensures

pub returns : goal.returns
returns g c = record {
  parts = map (part_seen g.P.Pkt.plain) c.in_ok-parts.parts.items;
  split = c.in_ok-parts.ensures;
  made_of = c.in_ok-groups.ensures;
}
