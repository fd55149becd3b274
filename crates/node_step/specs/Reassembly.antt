-- Fragments for this node, which are put together again: RFC 791, section 3.2.
use Rattle.std.specs.Prelude.{fold}
use Rattle.sim_base.specs.Packet.{Packet}
use Rattle.layer_words.specs.Acts.{Numbered}
use Rattle.frag_core.specs.declared.words.Act.{Act as FragsAct}
use Rattle.frag_core.specs.declared.words.Act.TheVariants.{Whole, TimerAt, Dropped}
use Rattle.frag_core.specs.declared.words.In.{In as FragsIn}
use Rattle.frag_core.specs.Step.{PlainFrags, step as frags_step}
use Rattle.node_step.specs.declared.loads.Load.TheVariants.{FragTimer}
use Rattle.node_step.specs.Delivery.{deliver_whole}
use Rattle.node_step.specs.Firing.{schedule}
use Rattle.node_step.specs.Node.{Progress, dropped, with_firing, with_frags, with_numbers}

-- what reassembly asks for: a whole datagram goes to its protocol, a timer is scheduled, or a packet is dropped
unfoldable pub carry_frags : Progress → FragsAct Packet → Progress
carry_frags p (Whole head packet) = deliver_whole head packet p
carry_frags p (TimerAt at stamp) = with_firing (schedule at p.node.numbers.node (FragTimer stamp) p.firing) p
carry_frags p Dropped = dropped p

-- reassembly after a step, whose acts are carried out in order
abbrev pub stepped_frags : Numbered PlainFrags (FragsAct Packet) → Progress → Progress
stepped_frags s p = fold carry_frags (with_numbers s.numbers (with_frags s.state p)) s.acts

-- a fragment comes to reassembly, or the timer of a datagram fires
unfoldable pub frags_take : FragsIn Packet → Progress → Progress
frags_take input p = stepped_frags (frags_step p.node.frags p.node.numbers input) p
