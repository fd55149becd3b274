use Rattle.std.proofs.Common.{◌≡◌, ◌≤◌, length, sym, ap, subst, ◌∙◌}
use Rattle.sim_base.specs.declared.item.Kind.TheVariants.{Tcp as TcpItem}
use Rattle.sim_base.specs.Packet.{len, from_bytes, push_front, add_byte_tag}
use Rattle.header_forms.specs.Tcp.{tcp_bytes}
use Rattle.tcp_wire.specs.Segment.{checksum_of, head_of, segment}
use Rattle.tcp_wire.proofs.Data.{bytes-data, len-data}
use Rattle.tcp_wire.proofs.write.write_segment.Goals as goal

pub put_header-requires-after_bounds : goal.put_header-requires-after_bounds
put_header-requires-after_bounds g c κs within =
    let tagged = c.in_ok-add_byte_tag.ensures.ok ∙ ap (add_byte_tag 1 c.from.result) c.in_ok-packet.ensures in
    let size : len (g.P.Pkt.plain c.add_byte_tag.new.self) ≡ length c.args.bytes.now =
    ap len tagged ∙ len-data c.args.uid c.from.result c.args.bytes.now in
    subst (λ n. n ≤ 9000) (sym size) c.requires

pub returns : goal.returns
unfolding segment
returns g c =
    let pair = c.args.pair.now in
    let says = c.args.says.now in
    let tagged = c.in_ok-add_byte_tag.ensures.ok ∙ ap (add_byte_tag 1 c.from.result) c.in_ok-packet.ensures in
    c.in_ok-put_header.ensures
    ∙ ap (λ p. push_front TcpItem (tcp_bytes (head_of pair says (checksum_of pair says p.bytes))) p) tagged
    ∙ ap (λ b. push_front TcpItem (tcp_bytes (head_of pair says (checksum_of pair says b))) (add_byte_tag 1 c.from.result (from_bytes c.args.uid c.args.bytes.now))) (bytes-data c.args.uid c.from.result c.args.bytes.now)
    ∙ ap (λ n. segment c.args.uid n pair says c.args.bytes.now) c.from.ensures
