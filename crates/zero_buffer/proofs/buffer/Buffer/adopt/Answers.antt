use Rattle.std.proofs.Common.{◌++◌, ap, ◌∙◌, length}
use Rattle.zero_buffer.specs.Contents.{Contents}
use Rattle.zero_buffer.proofs.Parts.{adopts, meets}
use Rattle.zero_buffer.proofs.Pushes.{pushed_back}
use Rattle.zero_buffer.proofs.buffer.Buffer.adopt.Goals as goal

pub returns-clause-ok : goal.returns-clause-ok
returns-clause-ok c =
    let bytes = c.self.inside.window.bytes in
    adopts bytes c.other.inside.window.bytes _ _ _ c.self.inside.first c.self.inside.zeros c.other.inside.first c.other.inside.zeros _
    (ap (λ (b : Contents). b.bytes) c.self.view_is) (ap (λ (b : Contents). b.bytes) c.other.view_is)
    (meets _ _ _ _ c.self.view_is c.other.view_is c.requires.beside)
    (pushed_back _ _ _ _ c.in_ok-grow_back.ensures.ok ∙ ap (λ xs. bytes ++ xs) c.as_slice-2.ensures) (ap length c.as_slice.ensures)
