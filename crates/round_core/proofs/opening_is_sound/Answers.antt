use Rattle.round_core.proofs.OpeningLaws.{opening-sound, opening-past}
use Rattle.round_core.proofs.opening_is_sound.Goals as goal

pub returns-clause-sound : goal.returns-clause-sound
returns-clause-sound g c sim nodes lans events is =
    opening-sound (g.S.Simulation.rules sim) (g.S.Simulation.health sim) nodes lans events is

pub returns-clause-past : goal.returns-clause-past
returns-clause-past g c nodes lans events = opening-past nodes lans events
