use Rattle.std.proofs.Common.{arith}
use Rattle.tcp_reno.specs.NewReno.{start}
use Rattle.tcp_reno.proofs.WindowLaws.{in_bounds-run, in_bounds-start}
use Rattle.tcp_reno.proofs.window_in_bounds.Goals as goal

pub returns-clause-full_segment : goal.returns-clause-full_segment
returns-clause-full_segment c smss repeated inputs small =
    (in_bounds-run smss (start smss repeated) inputs (omega arith) (in_bounds-start smss repeated small)).low

pub returns-clause-limit : goal.returns-clause-limit
returns-clause-limit c smss repeated inputs small =
    (in_bounds-run smss (start smss repeated) inputs (omega arith) (in_bounds-start smss repeated small)).high
