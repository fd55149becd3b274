-- Inputs and acts of a bridge, seen with plain packets.
use Rattle.sim_base.specs.Packet.{Packet}
use Rattle.bridge_dev.specs.declared.words.In.{In}
use Rattle.bridge_dev.specs.declared.words.In.TheVariants.{Frame}
use Rattle.bridge_dev.specs.declared.words.Act.{Act}
use Rattle.bridge_dev.specs.declared.words.Act.TheVariants.{Out, Ignored}

abbrev pub plain_in : {P : Type 0} → (P → Packet) → In P → In Packet
plain_in plain (Frame now port frame) = Frame now port (plain frame)

abbrev pub plain_act : {P : Type 0} → (P → Packet) → Act P → Act Packet
plain_act plain (Out port frame) = Out port (plain frame)
plain_act plain Ignored = Ignored
