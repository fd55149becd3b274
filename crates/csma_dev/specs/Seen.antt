-- Inputs and acts of a device, seen with plain packets.
use Rattle.sim_base.specs.Packet.{Packet}
use Rattle.csma_dev.specs.declared.words.In.{In}
use Rattle.csma_dev.specs.declared.words.In.TheVariants.{Start, BusFree, BackoffOver, Arrive}
use Rattle.csma_dev.specs.declared.words.Act.{Act}
use Rattle.csma_dev.specs.declared.words.Act.TheVariants.{Save, ArriveAt, SentAt, BackoffAt, GaveUp, Lost, Up}

abbrev pub plain_in : {P : Type 0} → (P → Packet) → In P → In Packet
plain_in plain (Start now frame) = Start now (plain frame)
plain_in plain BusFree = BusFree
plain_in plain (BackoffOver now) = BackoffOver now
plain_in plain (Arrive frame) = Arrive (plain frame)

abbrev pub plain_act : {P : Type 0} → (P → Packet) → Act P → Act Packet
plain_act plain (Save frame) = Save (plain frame)
plain_act plain (ArriveAt at frame) = ArriveAt at (plain frame)
plain_act plain (SentAt at) = SentAt at
plain_act plain (BackoffAt at) = BackoffAt at
plain_act plain (GaveUp frame) = GaveUp (plain frame)
plain_act plain (Lost frame) = Lost (plain frame)
plain_act plain (Up proto packet) = Up proto (plain packet)
