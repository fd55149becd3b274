-- What is scheduled and written, seen with plain packets.
use Rattle.std.specs.Prelude.{ℕ}
use Rattle.sim_base.specs.Packet.{Packet}
use Rattle.iface_step.specs.declared.words.Happening.{Happening}
use Rattle.iface_step.specs.declared.words.Happening.TheVariants.{Arrive as Arrives, Sent as HasLeft, BusFree as BusIsFree, BackoffOver as BackoffIsOver, DiscReady as DiscIsReady, ArpTimer as ArpTimerEnds}
use Rattle.node_step.specs.declared.loads.Load.{Load}
use Rattle.node_step.specs.declared.loads.Load.TheVariants.{Arrive, Sent, BusFree, BackoffOver, DiscReady, ArpTimer, FragTimer, TcpTimer, Tick}
use Rattle.node_step.specs.declared.loads.Event.{Event}

abbrev pub plain_load : {P : Type 0} → (P → Packet) → Load P → Load Packet
plain_load plain (Arrive iface packet) = Arrive iface (plain packet)
plain_load plain (Sent iface) = Sent iface
plain_load plain (BusFree iface) = BusFree iface
plain_load plain (BackoffOver iface) = BackoffOver iface
plain_load plain (DiscReady iface) = DiscReady iface
plain_load plain (ArpTimer iface addr stamp) = ArpTimer iface addr stamp
plain_load plain (FragTimer stamp) = FragTimer stamp
plain_load plain (TcpTimer conn stamp) = TcpTimer conn stamp
plain_load plain (Tick app) = Tick app

abbrev pub plain_event : {P : Type 0} → (P → Packet) → Event P → Event Packet
plain_event plain e = record { key = e.key; load = plain_load plain e.load }

-- what happens at an interface, as a load
abbrev pub load_of : {P : Type 0} → ℕ → Happening P → Load P
load_of iface (Arrives frame) = Arrive iface frame
load_of iface HasLeft = Sent iface
load_of iface BusIsFree = BusFree iface
load_of iface BackoffIsOver = BackoffOver iface
load_of iface DiscIsReady = DiscReady iface
load_of iface (ArpTimerEnds addr stamp) = ArpTimer iface addr stamp
