use Rattle.std.proofs.Common.{ap, arith, length}
use Rattle.edge_claims.specs.Window.{Seen}
use Rattle.zero_buffer.specs.Contents.{Contents}
use Rattle.zero_buffer.proofs.Parts.{keeps}
use Rattle.zero_buffer.proofs.buffer.Buffer.keep.Goals as goal

pub returns : goal.returns
returns c =
    keeps c.self.inside.window.bytes _ _ c.self.inside.first c.self.inside.zeros c.args.n _ _ _ _ (ap (λ (b : Contents). b.bytes) c.self.view_is) c.self.invariant.within c.requires
    c.saturating_sub-beyond.ensures c.min-self-inside.ensures c.min-self-inside-2.ensures (ap (λ (w : Seen). w.bytes) c.trim_back.ensures)
    (omega (arith, ap length c.as_slice.ensures, c.min.ensures, c.saturating_sub-of_last.ensures))
