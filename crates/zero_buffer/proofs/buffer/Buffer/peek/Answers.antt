use Rattle.std.proofs.Common.{◌∙◌, ◌-◌, arith, length}
use Rattle.zero_buffer.proofs.Parts.{peeks}
use Rattle.zero_buffer.proofs.buffer.Buffer.peek.Goals as goal

pub returns : goal.returns
returns c =
    peeks c.parts-zeros.result.0.now c.parts-zeros.result.2.now c.args.self.now.bytes _ _ _ c.parts-zeros.result.1 c.args.at (length c.args.buf.now) (length c.args.buf.now - (length c.parts-zeros.result.0.now - c.args.at)) _ _ _ c.parts-zeros.ensures
    (c.copy_from_slice.ensures.after ∙ c.piece-of_first.ensures.bytes) c.clear.ensures (c.copy_from_slice-2.ensures.after ∙ c.piece-of_last.ensures.bytes)
    (omega arith)
    (omega (arith, c.piece-of_first.ensures.len, c.split_at_mut-front.ensures.back_len, c.split_at_mut-middle.ensures.front_len, c.min-of_zeros.ensures, c.saturating_sub-left.ensures, c.saturating_sub-beyond.ensures))
    (omega (arith, c.piece-of_first.ensures.len, c.split_at_mut-front.ensures.back_len, c.split_at_mut-middle.ensures.front_len, c.split_at_mut-middle.ensures.back_len))
    (omega (arith, c.saturating_sub-skipped.ensures, c.saturating_sub-beyond.ensures))
