use Rattle.work_claims.proofs.Draws.{closes}
use Rattle.work_claims.proofs.row.shut_place.Goals as goal

pub load-requires : goal.load-requires
load-requires g c = (c.requires.table, c.requires.words, rw (← c.requires.place) (closes _ _ _ _ _ c.requires.open.0 c.requires.open.1 c.requires.drawn))
