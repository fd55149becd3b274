use Rattle.std.proofs.Common.{ap, ◌∙◌}
use Rattle.std.specs.FinMap.{get}
use Rattle.std.specs.Option.{option_or}
use Rattle.tcp_stream.proofs.HeldLaws.{get-taken_in, front-each, front-hole}
use Rattle.tcp_stream.proofs.Runs.{offered-at}
use Rattle.tcp_stream.proofs.held_by_position.Goals as goal

pub returns-clause-taken_in : goal.returns-clause-taken_in
returns-clause-taken_in c rcv held position bytes q =
    get-taken_in rcv held position bytes q ∙ ap (option_or (get held q)) (offered-at rcv position bytes q)

pub returns-clause-front : goal.returns-clause-front
returns-clause-front c room held position i byte e = front-each room held position i byte e

pub returns-clause-hole : goal.returns-clause-hole
returns-clause-hole c room held position h = front-hole room held position h
