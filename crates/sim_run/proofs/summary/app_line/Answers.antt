use Rattle.std.proofs.Common.{codes, append_assoc}
use Rattle.std.specs.Fmt.{decimal}
use Rattle.sim_run.specs.Summary.{app_line, kind_name}
use Rattle.sim_run.proofs.Joined.{last_joined}
use Rattle.sim_run.proofs.summary.app_line.Goals as goal

pub returns : goal.returns
unfolding app_line
returns c =
    let count = c.args.count.now in
    rw (c.in_ok-format.ensures.ok, c.kind_name-name.ensures)
    (simp append_assoc (last_joined (codes "app ") (decimal c.args.number) (codes " ") (kind_name c.args.kind) (codes " sent ") (decimal count.sent) (codes " ")
    (decimal count.sent_bytes) (codes " received ") (decimal count.got) (codes " ") (decimal count.got_bytes) (codes "\n")))
