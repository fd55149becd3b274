use Rattle.std.proofs.Common.{◌≡◌, length, take, arith, length-take}
use Rattle.layer_words.proofs.PieceLaws.{more_added, all_added, all_small}
use Rattle.layer_words.proofs.checksum.add_packet.Goals as goal

pub loop-at-preserved : goal.loop-at-preserved
loop-at-preserved g c =
    let bytes = (g.P.Pkt.plain c.args.packet.now).bytes in
    let size = c.min-size.result in
    let long : length (take size c.loop-at.buffer) ≡ size = omega (arith, length-take size c.loop-at.buffer) in
    (omega arith, more_added bytes _ _ _ c.loop-at.at _ size long c.add_piece.ensures.sum c.add_piece.ensures.bytes c.loop-at.invariant.1)

pub returns-clause-sum : goal.returns-clause-sum
returns-clause-sum g c =
    all_added (g.P.Pkt.plain c.args.packet.now).bytes _ _ c.loop-at.at (omega (arith, c.len-len.ensures.value)) c.loop-at.invariant.1

pub returns-clause-bytes : goal.returns-clause-bytes
returns-clause-bytes g c =
    all_small (g.P.Pkt.plain c.args.packet.now).bytes _ _ c.loop-at.at (omega (arith, c.len-len.ensures.value)) c.loop-at.invariant.1
