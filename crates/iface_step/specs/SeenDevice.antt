-- What a device asks for, seen with plain packets.
use Rattle.sim_base.specs.Packet.{Packet}
use Rattle.iface_step.specs.declared.device.DeviceAct.{DeviceAct}
use Rattle.iface_step.specs.declared.device.DeviceAct.TheVariants.{Tell, Wait, Reach, Save, Lose, Lift}

abbrev pub plain_device_act : {P : Type 0} → (P → Packet) → DeviceAct P → DeviceAct Packet
plain_device_act plain (Tell at) = Tell at
plain_device_act plain (Wait at) = Wait at
plain_device_act plain (Reach at frame) = Reach at (plain frame)
plain_device_act plain (Save frame) = Save (plain frame)
plain_device_act plain (Lose frame) = Lose (plain frame)
plain_device_act plain (Lift proto packet) = Lift proto (plain packet)
