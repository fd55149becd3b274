use Rattle.std.proofs.Common.{length, codes, append_assoc}
use Rattle.std.specs.Fmt.{decimal}
use Rattle.sim_run.specs.Sizes.{sizes_line}
use Rattle.sim_run.proofs.Joined.{last_joined}
use Rattle.sim_run.proofs.sizes.sizes_line.Goals as goal

pub returns : goal.returns
unfolding sizes_line
returns c =
    let s = c.args.scenario.now in
    rw (c.in_ok-format.ensures.ok, c.len-links.ensures, c.len-lans.ensures, c.len-routes.ensures, c.len-apps.ensures, c.len-losses.ensures)
    (simp append_assoc (last_joined (codes "nodes ") (decimal s.nodes) (codes " links ") (decimal (length s.links)) (codes " lans ") (decimal (length s.lans))
    (codes " routes ") (decimal (length s.routes)) (codes " apps ") (decimal (length s.apps)) (codes " losses ") (decimal (length s.losses)) (codes "\n")))
