use Rattle.std.proofs.Common.{arith}
use Rattle.edge_claims.proofs.SoleGrowth.{grows_front}
use Rattle.edge_claims.proofs.sole.SoleWindow.grow_front.Goals as goal

pub returns-clause-ok : goal.returns-clause-ok
returns-clause-ok c =
    let low = c.if-low-start.false in
    grows_front c.self.inside c.freeze_before.new.self c.args.bytes.now _ c.self.view_is c.self.invariant (omega (arith, low, c.start-low.ensures)) c.if-start-bytes.false c.freeze_before.ensures
