use Rattle.std.proofs.Common.{◌++◌, ◌<◌, sym, ap, ◌∙◌}
use Rattle.std.proofs.lemmas.List.Elements.{All-append}
use Rattle.std.proofs.lemmas.List.Sums.{fold-append}
use Rattle.header_forms.specs.Checksum.{with_byte, with_bytes, start}
use Rattle.header_forms.proofs.FieldLaws.{all_bytes}
use Rattle.layer_words.proofs.checksum.checksum_behind_header.Goals as goal

pub returns : goal.returns
returns g c =
    let pseudo = c.args.pseudo.now in
    let header = c.args.header.now in
    let bytes = (g.P.Pkt.plain c.args.packet.now).bytes in
    let small = All-append (λ b. b < 256) pseudo header (all_bytes pseudo c.type_inv.pseudo) (all_bytes header c.type_inv.header) in
    let front =
    c.add-2.ensures ∙ ap (λ s. with_bytes s header) (c.add.ensures ∙ ap (λ s. with_bytes s pseudo) c.start-sum.ensures)
    ∙ sym (fold-append with_byte start pseudo header) in
    c.finish.ensures.exact ((pseudo ++ header) ++ bytes) (All-append (λ b. b < 256) (pseudo ++ header) bytes small c.add_packet.ensures.bytes)
    (c.add_packet.ensures.sum ∙ ap (λ s. with_bytes s bytes) front ∙ sym (fold-append with_byte start (pseudo ++ header) bytes))
