-- What an application sends fits a datagram, and what it asks for comes later.
use Rattle.std.proofs.Common.{ℕ, ◌≡◌, ◌==◌, ◌+◌, ◌-◌, ◌<◌, ◌≤◌, min, Bool, true, false, List, [], ◌∷◌, All, refl, arith}
use Rattle.std.specs.Prelude.{nat_lt, max, unwrap_or}
use Rattle.std.proofs.lemmas.Bool.{cond_both}
use Rattle.std.proofs.lemmas.List.Elements.{All-append, All-nil, All-cons}
use Rattle.sim_base.specs.declared.numbers.Numbers.{Numbers}
use Rattle.sim_base.specs.declared.time.Time.{Time}
use Rattle.sim_base.specs.Packet.{Packet, len, add_byte_tag, replace_tag, remove_tag}
use Rattle.sim_base.proofs.PacketLaws.{len-zeros}
use Rattle.layer_words.specs.Acts.{Stepped}
use Rattle.layer_words.specs.Counting.{new_uid}
use Rattle.traffic_apps.specs.declared.app.Act.{Act}
use Rattle.traffic_apps.specs.declared.app.Act.TheVariants.{UdpSend as UdpSendAct, PingSend as PingSendAct, TickAt, Connect, Write, Close}
use Rattle.traffic_apps.specs.declared.app.In.{In}
use Rattle.traffic_apps.specs.declared.app.In.TheVariants.{Tick, Got, Connected, Room, End, Reset}
use Rattle.traffic_apps.specs.declared.kind.AppKind.{AppKind}
use Rattle.traffic_apps.specs.declared.kind.AppKind.TheVariants.{UdpSend, UdpSink, UdpEchoClient, UdpEchoServer, OnOff, TcpBulk, TcpSink, Ping}
use Rattle.traffic_apps.specs.declared.kind.Schedule.{Schedule}
use Rattle.traffic_apps.specs.App.{PlainApp, IsKind, longest_payload}
use Rattle.traffic_apps.specs.Step.{Ticked, BringsDatagram, FitsDatagram, IsLater, IsLaterThan, payload, after, next_tick, sent_one, sends, sends_on_off, stays, stays_on, next_on_off, next_period, echo_rest, ticks, gets, step, silent, write_of, close_if, writes, first_room, connected, finds_room}
use Rattle.traffic_apps.specs.Stream.{stream}

len-payload : (a : PlainApp) (s : Schedule) (numbers : Numbers) → len (payload a s numbers) ≡ s.size
unfolding replace_tag add_byte_tag
len-payload a s numbers = len-zeros (new_uid numbers) s.size

len-remove_tag : (tag : ℕ) (p : Packet) → len (remove_tag tag p) ≡ len p
unfolding remove_tag
len-remove_tag tag p = refl

-- the acts of a tick that sends, by what holds of each
sends_all : (P : Act Packet → Type 0) (next : Time) (s : Schedule) (message : Packet → Act Packet) (a : PlainApp) (numbers : Numbers) → P (message (payload a s numbers)) → P (TickAt next) → All P (sends next s message a numbers).acts
sends_all P next s message a numbers sent again =
    let rest = cond_both (nat_lt (a.counts.sent + 1) s.count) (TickAt next ∷ []) [] (All P) (λ more. All-cons P (TickAt next) [] again (All-nil P)) (λ done. All-nil P) in
    cond_both (nat_lt a.counts.sent s.count) (sent_one next s message a numbers) (stays a numbers) (λ (t : Ticked). All P t.acts)
    (λ more. All-cons P (message (payload a s numbers)) (next_tick next s (a.counts.sent + 1)) sent rest) (λ done. All-nil P)

short : (a : PlainApp) (s : Schedule) (numbers : Numbers) → s.size ≤ longest_payload → len (payload a s numbers) ≤ longest_payload
short a s numbers fits = omega (arith, len-payload a s numbers, fits)

-- the same of an application that is on and off, whose period doesn't show in its payload
sends_on_off_all : (P : Act Packet → Type 0) (now : Time) (s : Schedule) (on off : Time) (message : Packet → Act Packet) (a : PlainApp) (numbers : Numbers) → P (message (payload a s numbers)) → ((began : Time) → P (TickAt (next_on_off now s.interval on off began))) → All P (sends_on_off now s on off message a numbers).acts
sends_on_off_all P now s on off message a numbers sent again =
    let began = unwrap_or a.period now in
    sends_all P (next_on_off now s.interval on off began) s message (record a { period = next_period now s.interval on began }) numbers sent (again began)

ticks_fit : (now : Time) (kind : AppKind) (a : PlainApp) (numbers : Numbers) → IsKind kind → All FitsDatagram (ticks now kind a numbers).acts
ticks_fit now (UdpSend dst port s) a numbers ok =
    sends_all FitsDatagram (after now s.interval) s (λ packet. UdpSendAct dst port packet) a numbers (short a s numbers ok.0) tt
ticks_fit now UdpSink a numbers ok = All-nil FitsDatagram
ticks_fit now (UdpEchoClient dst port s) a numbers ok =
    sends_all FitsDatagram (after now s.interval) s (λ packet. UdpSendAct dst port packet) a numbers (short a s numbers ok.0) tt
ticks_fit now UdpEchoServer a numbers ok = All-nil FitsDatagram
ticks_fit now (OnOff dst port s on off) a numbers ok =
    sends_on_off_all FitsDatagram now s on off (λ packet. UdpSendAct dst port packet) a numbers (short a s numbers ok.0) (λ began. tt)
ticks_fit now (TcpBulk dst port bytes mss) a numbers ok = All-cons FitsDatagram (Connect dst port mss) [] (ok.1, ok.2) (All-nil FitsDatagram)
ticks_fit now TcpSink a numbers ok = All-nil FitsDatagram
ticks_fit now (Ping dst s) a numbers ok =
    sends_all FitsDatagram (after now s.interval) s (λ packet. PingSendAct dst (echo_rest a.number a.counts.sent) packet) a numbers (short a s numbers ok.0) tt

gets_fit : (src sport : ℕ) (packet : Packet) (kind : AppKind) (a : PlainApp) → len packet ≤ longest_payload → All FitsDatagram (gets src sport packet kind a).acts
gets_fit src sport packet (UdpSend dst port s) a fits = All-nil FitsDatagram
gets_fit src sport packet UdpSink a fits = All-nil FitsDatagram
gets_fit src sport packet (UdpEchoClient dst port s) a fits = All-nil FitsDatagram
gets_fit src sport packet UdpEchoServer a fits =
    All-cons FitsDatagram (UdpSendAct src sport (remove_tag 1 packet)) [] (omega (arith, len-remove_tag 1 packet, fits)) (All-nil FitsDatagram)
gets_fit src sport packet (OnOff dst port s on off) a fits = All-nil FitsDatagram
gets_fit src sport packet (TcpBulk dst port bytes mss) a fits = All-nil FitsDatagram
gets_fit src sport packet TcpSink a fits = All-nil FitsDatagram
gets_fit src sport packet (Ping dst s) a fits = All-nil FitsDatagram

-- the acts of a bulk sender that writes, by what holds of each
write_all : (P : Act Packet → Type 0) (count from : ℕ) → ((bytes : List ℕ) → P (Write bytes)) → All P (write_of count from)
write_all P count from write =
    cond_both (count == 0) [] (Write (stream count from) ∷ []) (All P) (λ none. All-nil P) (λ some. All-cons P (Write (stream count from)) [] (write (stream count from)) (All-nil P))

close_all : (P : Act Packet → Type 0) (all : Bool) → P Close → All P (close_if all)
close_all P true close = All-cons P Close [] close (All-nil P)
close_all P false close = All-nil P

writes_all : (P : Act Packet → Type 0) (left free : ℕ) (a : PlainApp) → ((bytes : List ℕ) → P (Write bytes)) → P Close → All P (writes left free a).acts
writes_all P left free a write close =
    let count = min left free in
    All-append P (write_of count a.counts.sent_bytes) (close_if (count == left)) (write_all P count a.counts.sent_bytes write) (close_all P (count == left) close)

connected_all : (P : Act Packet → Type 0) (kind : AppKind) (a : PlainApp) → ((bytes : List ℕ) → P (Write bytes)) → P Close → All P (connected kind a).acts
connected_all P (TcpBulk dst port bytes mss) a write close = writes_all P (bytes - a.counts.sent_bytes) first_room a write close
connected_all P other a write close = All-nil P

room_all : (P : Act Packet → Type 0) (free : ℕ) (kind : AppKind) (a : PlainApp) → ((bytes : List ℕ) → P (Write bytes)) → P Close → All P (finds_room free kind a).acts
room_all P free (TcpBulk dst port bytes mss) a write close =
    let left = bytes - a.counts.sent_bytes in
    cond_both (left == 0) (silent a) (writes left free a) (λ (s : Stepped PlainApp (Act Packet)). All P s.acts) (λ none. All-nil P) (λ some. writes_all P left free a write close)
room_all P free other a write close = All-nil P

-- what is sent as a datagram fits one, and the segments of a connection are within their limits
pub step_fits : (a : PlainApp) (numbers : Numbers) (input : In Packet) → IsKind a.kind → BringsDatagram input → All FitsDatagram (step a numbers input).acts
step_fits a numbers (Tick now) ok can = ticks_fit now a.kind a numbers ok
step_fits a numbers (Got src sport packet) ok can = gets_fit src sport packet a.kind a can
step_fits a numbers Connected ok can = connected_all FitsDatagram a.kind a (λ bytes. tt) tt
step_fits a numbers (Room free) ok can = room_all FitsDatagram free a.kind a (λ bytes. tt) tt
step_fits a numbers End ok can = All-nil FitsDatagram
step_fits a numbers Reset ok can = All-nil FitsDatagram

-- the next tick of an application that is on and off comes later
on_off_later : (now gap on off began : Time) → 1 ≤ gap.0 → now.0 < (next_on_off now gap on off began).0
on_off_later now gap on off began some =
    cond_both (stays_on now gap on began) (after now gap) (record { 0 = max (began.0 + on.0 + off.0) (now.0 + 1) }) (λ (t : Time). now.0 < t.0)
    (λ stays. omega arith) (λ goes. omega arith)

ticks_are_later : (now : Time) (kind : AppKind) (a : PlainApp) (numbers : Numbers) → IsKind kind → All (IsLater now.0) (ticks now kind a numbers).acts
ticks_are_later now (UdpSend dst port s) a numbers ok =
    sends_all (IsLater now.0) (after now s.interval) s (λ packet. UdpSendAct dst port packet) a numbers tt (omega (arith, ok.2))
ticks_are_later now UdpSink a numbers ok = All-nil (IsLater now.0)
ticks_are_later now (UdpEchoClient dst port s) a numbers ok =
    sends_all (IsLater now.0) (after now s.interval) s (λ packet. UdpSendAct dst port packet) a numbers tt (omega (arith, ok.2))
ticks_are_later now UdpEchoServer a numbers ok = All-nil (IsLater now.0)
ticks_are_later now (OnOff dst port s on off) a numbers ok =
    sends_on_off_all (IsLater now.0) now s on off (λ packet. UdpSendAct dst port packet) a numbers tt (λ began. on_off_later now s.interval on off began ok.2)
ticks_are_later now (TcpBulk dst port bytes mss) a numbers ok = All-cons (IsLater now.0) (Connect dst port mss) [] tt (All-nil (IsLater now.0))
ticks_are_later now TcpSink a numbers ok = All-nil (IsLater now.0)
ticks_are_later now (Ping dst s) a numbers ok =
    sends_all (IsLater now.0) (after now s.interval) s (λ packet. PingSendAct dst (echo_rest a.number a.counts.sent) packet) a numbers tt (omega (arith, ok.2))

gets_are_later : (src sport : ℕ) (packet : Packet) (kind : AppKind) (a : PlainApp) → All (IsLater 0) (gets src sport packet kind a).acts
gets_are_later src sport packet (UdpSend dst port s) a = All-nil (IsLater 0)
gets_are_later src sport packet UdpSink a = All-nil (IsLater 0)
gets_are_later src sport packet (UdpEchoClient dst port s) a = All-nil (IsLater 0)
gets_are_later src sport packet UdpEchoServer a = All-cons (IsLater 0) (UdpSendAct src sport (remove_tag 1 packet)) [] tt (All-nil (IsLater 0))
gets_are_later src sport packet (OnOff dst port s on off) a = All-nil (IsLater 0)
gets_are_later src sport packet (TcpBulk dst port bytes mss) a = All-nil (IsLater 0)
gets_are_later src sport packet TcpSink a = All-nil (IsLater 0)
gets_are_later src sport packet (Ping dst s) a = All-nil (IsLater 0)

-- what is asked for comes later
pub step_is_later : (a : PlainApp) (numbers : Numbers) (input : In Packet) → IsKind a.kind → All (IsLaterThan input) (step a numbers input).acts
step_is_later a numbers (Tick now) ok = ticks_are_later now a.kind a numbers ok
step_is_later a numbers (Got src sport packet) ok = gets_are_later src sport packet a.kind a
step_is_later a numbers Connected ok = connected_all (IsLater 0) a.kind a (λ bytes. tt) tt
step_is_later a numbers (Room free) ok = room_all (IsLater 0) free a.kind a (λ bytes. tt) tt
step_is_later a numbers End ok = All-nil (IsLater 0)
step_is_later a numbers Reset ok = All-nil (IsLater 0)
