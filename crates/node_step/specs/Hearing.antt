-- What comes to TCP, on its way up to an application.
use Rattle.std.specs.Prelude.{ℕ, fold}
use Rattle.sim_base.specs.Packet.{Packet}
use Rattle.layer_words.specs.Acts.{Numbered}
use Rattle.tcp_flow.specs.declared.words.Act.{Act as ConnsAct}
use Rattle.tcp_flow.specs.declared.words.Act.TheVariants.{Emit, TimerAt, Connected, Room, Deliver, End, Reset, Dropped}
use Rattle.tcp_flow.specs.declared.words.In.{In as ConnsIn}
use Rattle.tcp_flow.specs.Conns.{PlainConns, step as conns_step}
use Rattle.traffic_apps.specs.declared.app.In.TheVariants.{Got, Connected as IsConnected, Room as HasRoom, End as HasEnded, Reset as IsReset}
use Rattle.node_step.specs.Apps.{app_counts, app_takes}
use Rattle.node_step.specs.Asking.{carry_asked}
use Rattle.node_step.specs.Node.{Progress, with_conns, with_numbers}

-- what TCP asks for when a segment has come or a timer has fired: an application is told, and the rest is as when one asks
unfoldable pub carry_heard : Progress → ConnsAct Packet → Progress
carry_heard p (Emit s) = carry_asked p (Emit s)
carry_heard p (TimerAt at conn stamp) = carry_asked p (TimerAt at conn stamp)
carry_heard p (Connected app) = app_takes app IsConnected p
carry_heard p (Room app free) = app_takes app (HasRoom free) p
carry_heard p (Deliver app src sport packet) = app_counts app (Got src sport packet) p
carry_heard p (End app) = app_takes app HasEnded p
carry_heard p (Reset app) = app_takes app IsReset p
carry_heard p Dropped = carry_asked p Dropped

-- TCP after a step at which a segment comes or a timer fires, whose acts are carried out in order
abbrev pub stepped_heard : Numbered PlainConns (ConnsAct Packet) → Progress → Progress
stepped_heard s p = fold carry_heard (with_numbers s.numbers (with_conns s.state p)) s.acts

-- a segment comes to TCP, or a timer of a connection fires
unfoldable pub conns_hear : ConnsIn Packet → Progress → Progress
conns_hear input p = stepped_heard (conns_step p.node.conns p.node.numbers input) p
