use Rattle.work_claims.proofs.row.Row.give.Given as goal

abbrev pub ghosts-open_place : goal.ghosts-open_place
ghosts-open_place g a = record { place = a.at }

abbrev pub ghosts-shut_place : goal.ghosts-shut_place
ghosts-shut_place g a = record { place = a.at }
