use Rattle.std.proofs.Common.{refl, ◌+◌, sym, subst, ap, ◌∙◌, length, arith}
use Rattle.sim_base.specs.Items.{cut_items}
use Rattle.sim_base.specs.Packet.{IsPacket}
use Rattle.sim_base.proofs.PacketLaws.{IsPacket-push_front}
use Rattle.zero_buffer.proofs.Taken.{takes_none}
use Rattle.shared_packet.specs.Shared.{plain_packet}
use Rattle.shared_packet.proofs.Undone.{undone-front}
use Rattle.shared_packet.proofs.Made.{parts-push_front, parts-same}
use Rattle.shared_packet.proofs.packet.SharedPktPkt.push_front.Goals as goal

pub returns-in-Ok-clause-ok : goal.returns-in-Ok-clause-ok
returns-in-Ok-clause-ok c =
    parts-push_front (plain_packet c.args.self.now) c.args.kind c.args.bytes.now c.push_front-2.new.self.bytes c.shift.new.self c.push_front.new.self c.in-Ok.ensures.bytes c.shift.ensures
    c.in_ok-push_front.ensures.ok

pub invariant_of-self-in-Ok : goal.invariant_of-self-in-Ok
invariant_of-self-in-Ok c =
    let p = plain_packet c.args.self.now in
    record {
      valid =
          subst IsPacket
          (sym (parts-push_front p c.args.kind c.args.bytes.now c.push_front-2.new.self.bytes c.shift.new.self c.push_front.new.self c.in-Ok.ensures.bytes c.shift.ensures
          c.in_ok-push_front.ensures.ok))
          (IsPacket-push_front c.args.kind c.args.bytes.now p c.args.self.now.valid c.requires);
    }

pub returns-in-Err-clause-err : goal.returns-in-Err-clause-err
returns-in-Err-clause-err c =
    let p = plain_packet c.args.self.now in
    let n = length c.args.bytes.now in
    let valid : IsPacket p = c.args.self.now.valid in
    let cover = valid.items_cover in
    parts-same p c.push_front-2.new.self.bytes c.cut.new.self c.in-Err.ensures.err.0
    (c.cut.ensures ∙ ap (cut_items n (n + c.len-len.result)) c.in_ok-push_front.ensures.ok
    ∙ undone-front c.args.kind n c.len-len.result p.items valid.items_left (omega (arith, cover, c.len-len.ensures)))

pub invariant_of-self-in-Err : goal.invariant_of-self-in-Err
invariant_of-self-in-Err c =
    let p = plain_packet c.args.self.now in
    let n = length c.args.bytes.now in
    let valid : IsPacket p = c.args.self.now.valid in
    let cover = valid.items_cover in
    record {
      valid =
          subst IsPacket
          (sym (parts-same p c.push_front-2.new.self.bytes c.cut.new.self c.in-Err.ensures.err.0
          (c.cut.ensures ∙ ap (cut_items n (n + c.len-len.result)) c.in_ok-push_front.ensures.ok
          ∙ undone-front c.args.kind n c.len-len.result p.items valid.items_left (omega (arith, cover, c.len-len.ensures)))))
          valid;
    }

pub returns-in_err-push_front-clause-taken : goal.returns-in_err-push_front-clause-taken
returns-in_err-push_front-clause-taken c = takes_none c.args.maker.now c.args.maker.now refl
