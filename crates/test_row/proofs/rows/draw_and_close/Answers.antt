use Rattle.std.proofs.Common.{rules, ◌≤◌, length}
use Rattle.work_claims.proofs.PassLaws.{given-over, past-over}
use Rattle.test_row.proofs.rows.draw_and_close.Goals as goal

pub close-requires-clause-past : goal.close-requires-clause-past
close-requires-clause-past g c =
    let some : 1 ≤ length c.draw_in_threads.new.passes.items = search rules in
    past-over c.draw_in_threads.new.passes.items some c.draw_in_threads.ensures.past

pub close-requires-clause-given : goal.close-requires-clause-given
close-requires-clause-given g c = given-over c.draw_in_threads.new.passes.items c.draw_in_threads.ensures.given
