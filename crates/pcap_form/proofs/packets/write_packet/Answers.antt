use Rattle.std.proofs.Common.{append_assoc}
use Rattle.std.proofs.lemmas.List.{take_min}
use Rattle.pcap_form.proofs.packets.write_packet.Goals as goal

pub returns-in-Ok-clause-ok : goal.returns-in-Ok-clause-ok
returns-in-Ok-clause-ok g c =
    rw (c.in-Ok.ensures.ok, c.in_ok-extend_from_slice.ensures.items, c.packet_head_bytes.ensures, c.min-captured.ensures, c.len-size.ensures.value, take_min 65535 (g.P.Pkt.plain c.args.packet.now).bytes, append_assoc)
