-- A stage with a node that was opened is the stage with the node.
use Rattle.std.proofs.Common.{◌≡◌, ℕ, ◌<◌, ◌≤◌, List, [], ◌++◌, map, fold, length, Some, ap, sym, subst, ◌∙◌, refl, get_or, slice_get, slice_set}
use Rattle.std.proofs.lemmas.List.{append-nil}
use Rattle.std.proofs.lemmas.Option.{slice_get_past, slice_get_read}
use Rattle.sim_base.specs.declared.numbers.Numbers.{Numbers}
use Rattle.sim_base.specs.declared.time.Time.{Time}
use Rattle.sim_base.specs.Packet.{Packet}
use Rattle.layer_words.specs.Acts.{Appends}
use Rattle.frag_core.specs.declared.words.Act.{Act as FragsAct}
use Rattle.frag_core.specs.declared.words.Act.TheVariants.{TimerAt as FragTimerAt}
use Rattle.frag_core.specs.declared.words.In.{In as FragsIn}
use Rattle.frag_core.specs.Step.{PlainFrags, step as frags_step}
use Rattle.ipv4_core.specs.declared.ip.Act.{Act as IpAct}
use Rattle.ipv4_core.specs.declared.ip.In.{In as IpIn}
use Rattle.ipv4_core.specs.Ip.{step as ip_step}
use Rattle.udp_icmp.specs.declared.ports.Act.{Act as PortsAct}
use Rattle.udp_icmp.specs.declared.ports.In.{In as PortsIn}
use Rattle.udp_icmp.specs.Step.{step as ports_step}
use Rattle.tcp_flow.specs.declared.words.Act.{Act as ConnsAct}
use Rattle.tcp_flow.specs.declared.words.Act.TheVariants.{TimerAt}
use Rattle.tcp_flow.specs.declared.words.In.{In as ConnsIn}
use Rattle.tcp_flow.specs.Conns.{PlainConns, step as conns_step}
use Rattle.traffic_apps.specs.declared.app.Act.{Act as AppAct}
use Rattle.traffic_apps.specs.declared.app.Act.TheVariants.{TickAt}
use Rattle.traffic_apps.specs.declared.app.In.{In as AppIn}
use Rattle.node_step.specs.Apps.{app_counts, app_takes, carry_app, counted_app, stepped_app}
use Rattle.node_step.specs.Asking.{carry_asked, conns_ask}
use Rattle.node_step.specs.Hearing.{carry_heard, conns_hear}
use Rattle.node_step.specs.declared.loads.Load.TheVariants.{FragTimer, TcpTimer, Tick}
use Rattle.node_step.specs.Firing.{PlainFiring, schedule}
use Rattle.node_step.specs.LocalApp.{PlainLocalApp, app_step}
use Rattle.node_step.specs.Node.{PlainNode, Progress, changed, progress}
use Rattle.node_step.specs.Sending.{carry_sent, carry_to_ip, ip_sends, ports_send}
use Rattle.node_step.specs.Delivery.{carry_ports, ports_take}
use Rattle.node_step.specs.Reassembly.{carry_frags, frags_take}
use Rattle.node_step.specs.Up.{carry_ip, ip_takes}

-- acts that were put into an empty list are those that the list holds
pub made : {A X : Type 0} (see : A → X) (old new : List A) (acts : List X) → old ≡ [] → Appends see old new acts → map see new ≡ acts
made see old new acts none put = put ∙ ap (λ xs. map see xs ++ acts) none

-- where nothing is asked for, nothing is put into a list
pub puts-none : {A X : Type 0} (see : A → X) (xs : List A) (acts : List X) → acts ≡ [] → Appends see xs xs acts
puts-none see xs acts none = sym (append-nil (map see xs)) ∙ ap (λ ys. map see xs ++ ys) (sym none)

-- a stage whose acts are carried out, with the numbers that its step leaves
stage : {A : Type 0} (carry : Progress → A → Progress) (inside : PlainNode) (firing : PlainFiring) (numbers n : Numbers) (acts made : List A)
    (end : Progress) → numbers ≡ n → acts ≡ made → end ≡ fold carry (progress (record inside { numbers = numbers }) firing) acts →
    end ≡ fold carry (progress (record inside { numbers = n }) firing) made
stage carry inside firing numbers n acts made end numbered asked carried =
    carried ∙ ap (λ (m : Numbers). fold carry (progress (record inside { numbers = m }) firing) acts) numbered
    ∙ ap (λ ys. fold carry (progress (record inside { numbers = n }) firing) ys) asked

pub ip-sends : (input : IpIn Packet) (inside node : PlainNode) (firing : PlainFiring) (numbers : Numbers) (acts : List (IpAct Packet)) (end : Progress) →
    inside ≡ node → numbers ≡ (ip_step inside.ip inside.numbers input).numbers → acts ≡ (ip_step inside.ip inside.numbers input).acts →
    end ≡ fold carry_sent (progress (record inside { numbers = numbers }) firing) acts → end ≡ ip_sends input (progress node firing)
unfolding ip_sends
ip-sends input inside node firing numbers acts end same numbered asked carried =
    stage carry_sent inside firing numbers _ acts _ end numbered asked carried ∙ ap (λ (n : PlainNode). ip_sends input (progress n firing)) same

pub ip-takes : (input : IpIn Packet) (inside node : PlainNode) (firing : PlainFiring) (numbers : Numbers) (acts : List (IpAct Packet)) (end : Progress) →
    inside ≡ node → numbers ≡ (ip_step inside.ip inside.numbers input).numbers → acts ≡ (ip_step inside.ip inside.numbers input).acts →
    end ≡ fold carry_ip (progress (record inside { numbers = numbers }) firing) acts → end ≡ ip_takes input (progress node firing)
unfolding ip_takes
ip-takes input inside node firing numbers acts end same numbered asked carried =
    stage carry_ip inside firing numbers _ acts _ end numbered asked carried ∙ ap (λ (n : PlainNode). ip_takes input (progress n firing)) same

pub ports-send : (input : PortsIn Packet) (inside node : PlainNode) (firing : PlainFiring) (numbers : Numbers) (acts : List (PortsAct Packet)) (end : Progress) →
    inside ≡ node → numbers ≡ (ports_step inside.ports inside.numbers input).numbers → acts ≡ (ports_step inside.ports inside.numbers input).acts →
    end ≡ fold carry_to_ip (progress (record inside { numbers = numbers }) firing) acts → end ≡ ports_send input (progress node firing)
unfolding ports_send
ports-send input inside node firing numbers acts end same numbered asked carried =
    stage carry_to_ip inside firing numbers _ acts _ end numbered asked carried ∙ ap (λ (n : PlainNode). ports_send input (progress n firing)) same

pub ports-take : (input : PortsIn Packet) (inside node : PlainNode) (firing : PlainFiring) (numbers : Numbers) (acts : List (PortsAct Packet)) (end : Progress) →
    inside ≡ node → numbers ≡ (ports_step inside.ports inside.numbers input).numbers → acts ≡ (ports_step inside.ports inside.numbers input).acts →
    end ≡ fold carry_ports (progress (record inside { numbers = numbers }) firing) acts → end ≡ ports_take input (progress node firing)
unfolding ports_take
ports-take input inside node firing numbers acts end same numbered asked carried =
    stage carry_ports inside firing numbers _ acts _ end numbered asked carried ∙ ap (λ (n : PlainNode). ports_take input (progress n firing)) same

-- a stage of TCP, which leaves other connections besides
conns-stage : (carry : Progress → ConnsAct Packet → Progress) (inside : PlainNode) (firing : PlainFiring) (conns t : PlainConns) (numbers n : Numbers)
    (acts made : List (ConnsAct Packet)) (end : Progress) → conns ≡ t → numbers ≡ n → acts ≡ made →
    end ≡ fold carry (progress (record inside { conns = conns; numbers = numbers }) firing) acts →
    end ≡ fold carry (progress (record inside { conns = t; numbers = n }) firing) made
conns-stage carry inside firing conns t numbers n acts made end changed numbered asked carried =
    carried ∙ ap (λ (k : PlainConns). fold carry (progress (record inside { conns = k; numbers = numbers }) firing) acts) changed
    ∙ ap (λ (m : Numbers). fold carry (progress (record inside { conns = t; numbers = m }) firing) acts) numbered
    ∙ ap (λ ys. fold carry (progress (record inside { conns = t; numbers = n }) firing) ys) asked

pub conns-ask : (input : ConnsIn Packet) (inside node : PlainNode) (firing : PlainFiring) (conns : PlainConns) (numbers : Numbers) (acts : List (ConnsAct Packet)) (end : Progress) →
    inside ≡ node → conns ≡ (conns_step inside.conns inside.numbers input).state → numbers ≡ (conns_step inside.conns inside.numbers input).numbers →
    acts ≡ (conns_step inside.conns inside.numbers input).acts →
    end ≡ fold carry_asked (progress (record inside { conns = conns; numbers = numbers }) firing) acts → end ≡ conns_ask input (progress node firing)
unfolding conns_ask
conns-ask input inside node firing conns numbers acts end same changed numbered asked carried =
    conns-stage carry_asked inside firing conns _ numbers _ acts _ end changed numbered asked carried ∙ ap (λ (n : PlainNode). conns_ask input (progress n firing)) same

pub conns-hear : (input : ConnsIn Packet) (inside node : PlainNode) (firing : PlainFiring) (conns : PlainConns) (numbers : Numbers) (acts : List (ConnsAct Packet)) (end : Progress) →
    inside ≡ node → conns ≡ (conns_step inside.conns inside.numbers input).state → numbers ≡ (conns_step inside.conns inside.numbers input).numbers →
    acts ≡ (conns_step inside.conns inside.numbers input).acts →
    end ≡ fold carry_heard (progress (record inside { conns = conns; numbers = numbers }) firing) acts → end ≡ conns_hear input (progress node firing)
unfolding conns_hear
conns-hear input inside node firing conns numbers acts end same changed numbered asked carried =
    conns-stage carry_heard inside firing conns _ numbers _ acts _ end changed numbered asked carried ∙ ap (λ (n : PlainNode). conns_hear input (progress n firing)) same

pub frags-take : (input : FragsIn Packet) (inside node : PlainNode) (firing : PlainFiring) (frags : PlainFrags) (numbers : Numbers) (acts : List (FragsAct Packet)) (end : Progress) →
    inside ≡ node → frags ≡ (frags_step inside.frags inside.numbers input).state → numbers ≡ (frags_step inside.frags inside.numbers input).numbers →
    acts ≡ (frags_step inside.frags inside.numbers input).acts →
    end ≡ fold carry_frags (progress (record inside { frags = frags; numbers = numbers }) firing) acts → end ≡ frags_take input (progress node firing)
unfolding frags_take
frags-take input inside node firing frags numbers acts end same changed numbered asked carried =
    let s = frags_step inside.frags inside.numbers input in
    carried ∙ ap (λ (f : PlainFrags). fold carry_frags (progress (record inside { frags = f; numbers = numbers }) firing) acts) changed
    ∙ ap (λ (m : Numbers). fold carry_frags (progress (record inside { frags = s.state; numbers = m }) firing) acts) numbered
    ∙ ap (λ ys. fold carry_frags (progress (record inside { frags = s.state; numbers = s.numbers }) firing) ys) asked
    ∙ ap (λ (n : PlainNode). frags_take input (progress n firing)) same

-- where there is no application, nothing happens
pub app-none : (app : ℕ) (input : AppIn Packet) (inside node : PlainNode) (firing : PlainFiring) → inside ≡ node → length inside.apps ≤ app →
    progress node firing ≡ app_takes app input (progress node firing)
unfolding app_takes
app-none app input inside node firing same past =
    let over : length node.apps ≤ app = subst (λ (n : PlainNode). length n.apps ≤ app) same past in
    sym (ap (λ o. changed o (λ a. stepped_app app (app_step a node.numbers input) (progress node firing)) (progress node firing)) (slice_get_past node.apps app over))

-- the application that was read at its number takes what comes
pub app-some : (app : ℕ) (input : AppIn Packet) (inside node : PlainNode) (firing : PlainFiring) (old new : PlainLocalApp) (port : ℕ) (numbers : Numbers)
    (acts : List (AppAct Packet)) (end : Progress) → inside ≡ node → app < length inside.apps → old ≡ get_or inside.apps app old →
    new ≡ (app_step old inside.numbers input).state → port ≡ new.port → numbers ≡ (app_step old inside.numbers input).numbers →
    acts ≡ (app_step old inside.numbers input).acts →
    end ≡ fold (carry_app app port) (progress (record inside { apps = slice_set inside.apps app new; numbers = numbers }) firing) acts →
    end ≡ app_takes app input (progress node firing)
unfolding app_takes
app-some app input inside node firing old new port numbers acts end same below read state from numbered asked carried =
    let found : slice_get inside.apps app ≡ Some old = slice_get_read inside.apps (length inside.apps) app old refl below read in
    let here : Progress = progress inside firing in
    carried
    ∙ ap (λ (k : ℕ). fold (carry_app app k) (progress (record inside { apps = slice_set inside.apps app new; numbers = numbers }) firing) acts) from
    ∙ ap (λ (a : PlainLocalApp). fold (carry_app app a.port) (progress (record inside { apps = slice_set inside.apps app a; numbers = numbers }) firing) acts) state
    ∙ ap (λ (m : Numbers). fold (carry_app app (app_step old inside.numbers input).state.port) (progress (record inside { apps = slice_set inside.apps app (app_step old inside.numbers input).state; numbers = m }) firing) acts) numbered
    ∙ ap (λ ys. fold (carry_app app (app_step old inside.numbers input).state.port) (progress (record inside { apps = slice_set inside.apps app (app_step old inside.numbers input).state; numbers = (app_step old inside.numbers input).numbers }) firing) ys) asked
    ∙ sym (ap (λ o. changed o (λ a. stepped_app app (app_step a inside.numbers input) here) here) found)
    ∙ ap (λ (n : PlainNode). app_takes app input (progress n firing)) same

pub counts-none : (app : ℕ) (input : AppIn Packet) (inside node : PlainNode) (firing : PlainFiring) → inside ≡ node → length inside.apps ≤ app →
    progress node firing ≡ app_counts app input (progress node firing)
unfolding app_counts
counts-none app input inside node firing same past =
    let over : length node.apps ≤ app = subst (λ (n : PlainNode). length n.apps ≤ app) same past in
    sym (ap (λ o. changed o (λ a. counted_app app (app_step a node.numbers input) (progress node firing)) (progress node firing)) (slice_get_past node.apps app over))

-- the application that was read at its number counts what comes
pub counts-some : (app : ℕ) (input : AppIn Packet) (inside node : PlainNode) (firing : PlainFiring) (old new : PlainLocalApp) (numbers : Numbers) →
    inside ≡ node → app < length inside.apps → old ≡ get_or inside.apps app old → new ≡ (app_step old inside.numbers input).state →
    numbers ≡ (app_step old inside.numbers input).numbers →
    progress (record inside { apps = slice_set inside.apps app new; numbers = numbers }) firing ≡ app_counts app input (progress node firing)
unfolding app_counts
counts-some app input inside node firing old new numbers same below read state numbered =
    let found : slice_get inside.apps app ≡ Some old = slice_get_read inside.apps (length inside.apps) app old refl below read in
    let here : Progress = progress inside firing in
    ap (λ (a : PlainLocalApp). progress (record inside { apps = slice_set inside.apps app a; numbers = numbers }) firing) state
    ∙ ap (λ (m : Numbers). progress (record inside { apps = slice_set inside.apps app (app_step old inside.numbers input).state; numbers = m }) firing) numbered
    ∙ sym (ap (λ o. changed o (λ a. counted_app app (app_step a inside.numbers input) here) here) found)
    ∙ ap (λ (n : PlainNode). app_counts app input (progress n firing)) same

-- TCP asks for a timer
pub timers : (at : Time) (conn stamp : ℕ) (inside node : PlainNode) (old new : PlainFiring) → inside ≡ node →
    new ≡ schedule at inside.numbers.node (TcpTimer conn stamp) old → progress node new ≡ carry_asked (progress node old) (TimerAt at conn stamp)
unfolding carry_asked
timers at conn stamp inside node old new same is =
    ap (progress node) (is ∙ ap (λ (n : PlainNode). schedule at n.numbers.node (TcpTimer conn stamp) old) same)

-- reassembly asks for a timer
pub frag-timers : (at : Time) (stamp : ℕ) (inside node : PlainNode) (old new : PlainFiring) → inside ≡ node →
    new ≡ schedule at inside.numbers.node (FragTimer stamp) old → progress node new ≡ carry_frags (progress node old) (FragTimerAt at stamp)
unfolding carry_frags
frag-timers at stamp inside node old new same is =
    ap (progress node) (is ∙ ap (λ (n : PlainNode). schedule at n.numbers.node (FragTimer stamp) old) same)

-- an application asks for a tick
pub ticks : (app port : ℕ) (at : Time) (inside node : PlainNode) (old new : PlainFiring) → inside ≡ node →
    new ≡ schedule at inside.numbers.node (Tick app) old → progress node new ≡ carry_app app port (progress node old) (TickAt at)
unfolding carry_app
ticks app port at inside node old new same is =
    ap (progress node) (is ∙ ap (λ (n : PlainNode). schedule at n.numbers.node (Tick app) old) same)
