-- What an application asks of TCP, on its way down.
use Rattle.std.specs.Prelude.{Some, fold}
use Rattle.sim_base.specs.Packet.{Packet}
use Rattle.layer_words.specs.Acts.{Numbered}
use Rattle.ipv4_core.specs.declared.ip.In.TheVariants.{Send}
use Rattle.tcp_flow.specs.declared.words.Act.{Act as ConnsAct}
use Rattle.tcp_flow.specs.declared.words.Act.TheVariants.{Emit, TimerAt, Connected, Room, Deliver, End, Reset, Dropped}
use Rattle.tcp_flow.specs.declared.words.In.{In as ConnsIn}
use Rattle.tcp_flow.specs.Conns.{PlainConns, step as conns_step}
use Rattle.node_step.specs.declared.loads.Load.TheVariants.{TcpTimer}
use Rattle.node_step.specs.Firing.{schedule}
use Rattle.node_step.specs.Node.{Progress, dropped, with_conns, with_firing, with_numbers}
use Rattle.node_step.specs.Sending.{ip_sends}

-- what TCP asks for when an application has asked something of it: a segment goes to IPv4, a timer is scheduled, or a packet is
-- dropped
unfoldable pub carry_asked : Progress → ConnsAct Packet → Progress
carry_asked p (Emit s) = ip_sends (Send (Some s.src) s.dst 6 s.packet) p
carry_asked p (TimerAt at conn stamp) = with_firing (schedule at p.node.numbers.node (TcpTimer conn stamp) p.firing) p
carry_asked p (Connected app) = p
carry_asked p (Room app free) = p
carry_asked p (Deliver app src sport packet) = p
carry_asked p (End app) = p
carry_asked p (Reset app) = p
carry_asked p Dropped = dropped p

-- TCP after a step by which an application opens, writes or closes, whose acts are carried out in order
abbrev pub stepped_asked : Numbered PlainConns (ConnsAct Packet) → Progress → Progress
stepped_asked s p = fold carry_asked (with_numbers s.numbers (with_conns s.state p)) s.acts

-- an application asks something of TCP
unfoldable pub conns_ask : ConnsIn Packet → Progress → Progress
conns_ask input p = stepped_asked (conns_step p.node.conns p.node.numbers input) p
