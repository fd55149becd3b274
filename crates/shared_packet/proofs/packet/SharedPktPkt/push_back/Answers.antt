use Rattle.std.proofs.Common.{refl, ◌≡◌, sym, subst, ap, ◌∙◌, ◌++◌, length}
use Rattle.sim_base.specs.Items.{cut_items, total_left, whole}
use Rattle.sim_base.specs.Packet.{IsPacket}
use Rattle.sim_base.proofs.PacketLaws.{IsPacket-push_back}
use Rattle.sim_base.proofs.PacketMade.{made-push_back}
use Rattle.zero_buffer.proofs.Taken.{takes_none}
use Rattle.shared_packet.specs.Shared.{plain_packet}
use Rattle.shared_packet.proofs.Undone.{undone-back}
use Rattle.shared_packet.proofs.Made.{parts-same}
use Rattle.shared_packet.proofs.packet.SharedPktPkt.push_back.Goals as goal

pub returns-in-Ok-clause-ok : goal.returns-in-Ok-clause-ok
returns-in-Ok-clause-ok c =
    made-push_back c.args.kind c.args.bytes.now (plain_packet c.args.self.now) c.push_back-2.new.self.bytes c.push_back.new.self c.in-Ok.ensures.bytes c.in_ok-push_back.ensures.ok

pub invariant_of-self-in-Ok : goal.invariant_of-self-in-Ok
invariant_of-self-in-Ok c =
    let p = plain_packet c.args.self.now in
    record {
      valid =
          subst IsPacket (sym (made-push_back c.args.kind c.args.bytes.now p c.push_back-2.new.self.bytes c.push_back.new.self c.in-Ok.ensures.bytes c.in_ok-push_back.ensures.ok))
          (IsPacket-push_back c.args.kind c.args.bytes.now p c.args.self.now.valid c.requires);
    }

pub returns-in-Err-clause-err : goal.returns-in-Err-clause-err
returns-in-Err-clause-err c =
    let p = plain_packet c.args.self.now in
    let valid : IsPacket p = c.args.self.now.valid in
    let all : c.len-len.result ≡ total_left p.items = c.len-len.ensures ∙ sym valid.items_cover in
    parts-same p c.push_back-2.new.self.bytes c.cut.new.self c.in-Err.ensures.err.0
    (c.cut.ensures ∙ ap (cut_items 0 c.len-len.result) c.in_ok-push_back.ensures.ok
    ∙ ap (λ n. cut_items 0 n (p.items ++ whole c.args.kind (length c.args.bytes.now))) all ∙ undone-back c.args.kind (length c.args.bytes.now) p.items valid.items_left)

pub invariant_of-self-in-Err : goal.invariant_of-self-in-Err
invariant_of-self-in-Err c =
    let p = plain_packet c.args.self.now in
    let valid : IsPacket p = c.args.self.now.valid in
    let all : c.len-len.result ≡ total_left p.items = c.len-len.ensures ∙ sym valid.items_cover in
    record {
      valid =
          subst IsPacket
          (sym (parts-same p c.push_back-2.new.self.bytes c.cut.new.self c.in-Err.ensures.err.0
          (c.cut.ensures ∙ ap (cut_items 0 c.len-len.result) c.in_ok-push_back.ensures.ok
          ∙ ap (λ n. cut_items 0 n (p.items ++ whole c.args.kind (length c.args.bytes.now))) all ∙ undone-back c.args.kind (length c.args.bytes.now) p.items valid.items_left)))
          valid;
    }

pub returns-in_err-push_back-clause-taken : goal.returns-in_err-push_back-clause-taken
returns-in_err-push_back-clause-taken c = takes_none c.args.maker.now c.args.maker.now refl
