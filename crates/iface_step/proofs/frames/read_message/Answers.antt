use Rattle.std.proofs.Common.{arith}
use Rattle.iface_step.proofs.Attached.{arp_of-short}
use Rattle.iface_step.proofs.frames.read_message.Goals as goal

pub returns-then-len-lt-SIZE : goal.returns-then-len-lt-SIZE
returns-then-len-lt-SIZE g c = arp_of-short (g.P.Pkt.plain c.args.packet.now).bytes (omega (arith, c.len.ensures.value))
