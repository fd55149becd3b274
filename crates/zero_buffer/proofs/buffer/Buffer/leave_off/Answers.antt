use Rattle.std.proofs.Common.{ap, arith}
use Rattle.edge_claims.specs.Window.{Seen}
use Rattle.zero_buffer.specs.Contents.{Contents}
use Rattle.zero_buffer.proofs.Parts.{leaves}
use Rattle.zero_buffer.proofs.buffer.Buffer.leave_off.Goals as goal

pub returns : goal.returns
returns c =
    leaves c.self.inside.window.bytes _ _ c.self.inside.first c.self.inside.zeros c.args.n _ _ _ _ (ap (λ (b : Contents). b.bytes) c.self.view_is) c.self.invariant.within
    c.saturating_sub-beyond.ensures c.saturating_sub-self-inside.ensures c.saturating_sub-self-inside-2.ensures (ap (λ (w : Seen). w.bytes) c.trim_front.ensures)
    (omega (arith, c.min.ensures, c.saturating_sub-of_last.ensures))
