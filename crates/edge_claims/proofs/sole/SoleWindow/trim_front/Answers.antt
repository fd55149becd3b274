use Rattle.edge_claims.proofs.Trims.{trims_sole_front}
use Rattle.edge_claims.proofs.sole.SoleWindow.trim_front.Goals as goal

pub returns : goal.returns
returns c = trims_sole_front c.self.inside _ c.args.n c.self.view_is c.self.invariant c.requires
