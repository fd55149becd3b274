use Rattle.std.proofs.Common.{◌+◌, ◌++◌, length, refl, ap, ◌∙◌}
use Rattle.zero_buffer.specs.Contents.{Contents, with_zeros}
use Rattle.zero_buffer.proofs.Parts.{with_zeros-front}
use Rattle.zero_buffer.proofs.Pushes.{pushed_front}
use Rattle.zero_buffer.proofs.buffer.Buffer.push_front.Goals as goal

pub returns-clause-bytes : goal.returns-clause-bytes
returns-clause-bytes c =
    let first = c.self.inside.first in
    let zeros = c.self.inside.zeros in
    let bytes = c.args.bytes.now in
    ap (with_zeros (first + length bytes) zeros) (pushed_front bytes _ _ _ c.in_ok-grown.ensures.ok)
    ∙ with_zeros-front bytes c.self.inside.window.bytes first _ zeros refl
    ∙ ap (λ (b : Contents). bytes ++ b.bytes) c.self.view_is
