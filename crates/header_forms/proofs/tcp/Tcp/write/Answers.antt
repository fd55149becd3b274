use Rattle.std.proofs.Common.{◌≡◌, length, sym, ap, ◌∙◌, arith, refl, None, Some}
use Rattle.byteorder.specs.Endian.{big_bytes}
use Rattle.header_forms.specs.Tcp.{tcp_bytes, tcp_with, size_byte, written_size}
use Rattle.header_forms.proofs.FieldLaws.{nothing_written, more_written, all_written}
use Rattle.header_forms.proofs.tcp.Tcp.write.Goals as goal

pub returns-in_default : goal.returns-in_default
unfolding tcp_bytes
returns-in_default c =
    let h = c.args.self.now in
    let long : length c.args.out.now ≡ 20 = c.requires ∙ ap written_size c.in_default.is in
    all_written 20 c.write_u16-5.new.out (omega arith)
    (more_written 18 2 (big_bytes 2 0) _ _ refl (omega arith) c.write_u16-5.ensures.all
    (more_written 16 2 (big_bytes 2 h.checksum) _ _ refl (omega arith) c.write_u16-4.ensures.all
    (more_written 14 2 (big_bytes 2 h.window) _ _ refl (omega arith) c.write_u16-3.ensures.all
    (more_written 13 1 (big_bytes 1 h.flags) _ _ refl (omega arith) c.write_u8-2.ensures.all
    (more_written 12 1 (big_bytes 1 c.size_byte.result) _ _ refl (omega arith) c.write_u8.ensures.all
    (more_written 8 4 (big_bytes 4 h.ack) _ _ refl (omega arith) c.write_u32-2.ensures.all
    (more_written 4 4 (big_bytes 4 h.seq) _ _ refl (omega arith) c.write_u32.ensures.all
    (more_written 2 2 (big_bytes 2 h.dport) _ _ refl (omega arith) c.write_u16-2.ensures.all
    (more_written 0 2 (big_bytes 2 h.sport) _ _ refl (omega arith) c.write_u16.ensures.all (nothing_written c.args.out.now))))))))))
    ∙ ap (λ n. tcp_with n None h) c.size_byte.ensures ∙ ap (λ m. tcp_with (size_byte h.mss) m h) (sym c.in_default.is)

pub returns-in-Some : goal.returns-in-Some
unfolding tcp_bytes
returns-in-Some c =
    let h = c.args.self.now in
    let long : length c.args.out.now ≡ 24 = c.requires ∙ ap written_size c.in-Some.is in
    all_written 24 c.write_u16-in-Some.new.out (omega arith)
    (more_written 22 2 (big_bytes 2 c.in-Some.mss) _ _ refl (omega arith) c.write_u16-in-Some.ensures.all
    (more_written 21 1 (big_bytes 1 4) _ _ refl (omega arith) c.write_u8-in-Some-2.ensures.all
    (more_written 20 1 (big_bytes 1 2) _ _ refl (omega arith) c.write_u8-in-Some.ensures.all
    (more_written 18 2 (big_bytes 2 0) _ _ refl (omega arith) c.write_u16-5.ensures.all
    (more_written 16 2 (big_bytes 2 h.checksum) _ _ refl (omega arith) c.write_u16-4.ensures.all
    (more_written 14 2 (big_bytes 2 h.window) _ _ refl (omega arith) c.write_u16-3.ensures.all
    (more_written 13 1 (big_bytes 1 h.flags) _ _ refl (omega arith) c.write_u8-2.ensures.all
    (more_written 12 1 (big_bytes 1 c.size_byte.result) _ _ refl (omega arith) c.write_u8.ensures.all
    (more_written 8 4 (big_bytes 4 h.ack) _ _ refl (omega arith) c.write_u32-2.ensures.all
    (more_written 4 4 (big_bytes 4 h.seq) _ _ refl (omega arith) c.write_u32.ensures.all
    (more_written 2 2 (big_bytes 2 h.dport) _ _ refl (omega arith) c.write_u16-2.ensures.all
    (more_written 0 2 (big_bytes 2 h.sport) _ _ refl (omega arith) c.write_u16.ensures.all (nothing_written c.args.out.now)))))))))))))
    ∙ ap (λ n. tcp_with n (Some c.in-Some.mss) h) c.size_byte.ensures ∙ ap (λ m. tcp_with (size_byte h.mss) m h) (sym c.in-Some.is)
