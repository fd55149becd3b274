use Rattle.std.proofs.Common.{◌++◌, ◌<◌, sym, ap, ◌∙◌}
use Rattle.std.proofs.lemmas.List.Elements.{All-append}
use Rattle.std.proofs.lemmas.List.Sums.{fold-append}
use Rattle.header_forms.specs.Checksum.{with_byte, with_bytes, start}
use Rattle.header_forms.proofs.FieldLaws.{all_bytes}
use Rattle.layer_words.proofs.checksum.checksum_behind.Goals as goal

pub returns : goal.returns
returns g c =
    let front = c.args.front.now in
    let bytes = (g.P.Pkt.plain c.args.packet.now).bytes in
    c.finish.ensures.exact (front ++ bytes)
    (All-append (λ b. b < 256) front bytes (all_bytes front c.type_inv.front) c.add_packet.ensures.bytes)
    (c.add_packet.ensures.sum ∙ ap (λ s. with_bytes s bytes) (c.add.ensures ∙ ap (λ s. with_bytes s front) c.start-sum.ensures)
    ∙ sym (fold-append with_byte start front bytes))
