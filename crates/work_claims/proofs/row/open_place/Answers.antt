use Rattle.work_claims.proofs.Draws.{opens}
use Rattle.work_claims.proofs.row.open_place.Goals as goal

pub load-requires : goal.load-requires
load-requires g c = (c.requires.table, c.requires.words, rw (← c.requires.place) (opens _ _ _ _ _ c.requires.drawn c.requires.part))
