use Rattle.p2p_dev.proofs.StepLaws.{frame_time-small}
use Rattle.p2p_dev.proofs.P2p.frame_time.Goals as goal

pub returns-clause-small : goal.returns-clause-small
returns-clause-small c = frame_time-small _ _ _ c.self.invariant.0 c.requires.small c.frame_time.ensures.least
