use Rattle.std.proofs.Common.{sym}
use Rattle.pcap_form.proofs.LoopLaws.{nothing_read, one_read, one_broken, all_read}
use Rattle.pcap_form.proofs.reader.read_packets.Goals as goal

pub loop-at-init : goal.loop-at-init
loop-at-init c = rw c.new-packets.ensures (nothing_read c.args.form c.args.bytes.now c.requires)

pub returns-in-Err : goal.returns-in-Err
returns-in-Err c =
    one_broken c.args.form c.args.bytes.now c.loop-at.at c.in-Err.offset c.loop-at.packets c.loop-at.invariant c.loop-at-test.true (sym c.in-Err.ensures.value)

pub loop-at-preserved : goal.loop-at-preserved
loop-at-preserved c =
    rw c.in-Ok-push.ensures.ok
    (one_read c.args.form c.args.bytes.now c.loop-at.at c.loop-at.packets c.in-Ok.packet c.loop-at.invariant c.loop-at-test.true (sym c.in-Ok.ensures.value) c.in-Ok.ensures.size)

pub returns : goal.returns
returns c = all_read c.args.form c.args.bytes.now c.loop-at.at c.loop-at.packets c.loop-at.invariant c.loop-at-test.false
