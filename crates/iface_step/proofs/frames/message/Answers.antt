use Rattle.std.proofs.Common.{[], ap, arith}
use Rattle.sim_base.specs.Packet.{len}
use Rattle.sim_base.proofs.PacketLaws.{len-from_bytes}
use Rattle.iface_step.proofs.frames.message.Goals as goal

pub push_front-requires : goal.push_front-requires
push_front-requires g c = omega (arith, ap len c.in_ok-packet.ensures, len-from_bytes c.args.uid [], c.write.auto.out)
