use Rattle.std.proofs.Common.{sym, ap, ◌∙◌, ◌++◌, ◌∷◌, [], take}
use Rattle.std.specs.Prelude.{slice_range}
use Rattle.header_forms.specs.Checksum.{with_byte, with_bytes, start}
use Rattle.header_forms.specs.Ipv4Fields.{without_checksum}
use Rattle.header_forms.proofs.FieldLaws.{all_bytes}
use Rattle.header_forms.proofs.ChecksumLaws.{with_bytes-append}
use Rattle.header_forms.proofs.Ipv4Laws.{All-without_checksum}
use Rattle.header_forms.proofs.ipv4.header_checksum.Goals as goal

pub returns : goal.returns
returns c =
    let bytes = c.args.bytes.now in
    let front = take 10 bytes in
    let back = slice_range bytes 12 20 in
    c.finish.ensures.exact (without_checksum bytes) (All-without_checksum bytes (all_bytes bytes c.type_inv.bytes))
    (c.add-2.ensures
    ∙ ap (λ s. with_bytes s back) (c.add_zeros.ensures ∙ ap (λ s. with_byte (with_byte s 0) 0) (c.add.ensures ∙ ap (λ s. with_bytes s front) c.start-sum.ensures))
    ∙ sym (with_bytes-append start (front ++ (0 ∷ 0 ∷ [])) back ∙ ap (λ s. with_bytes s back) (with_bytes-append start front (0 ∷ 0 ∷ []))))
