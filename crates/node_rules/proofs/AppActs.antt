-- What an application leaves as it was, and when it asks for ticks.
use Rattle.std.proofs.Common.{◌≡◌, ℕ, ◌-◌, ◌++◌, ◌∷◌, Bool, min, [], All, refl}
use Rattle.std.specs.Prelude.{◌==◌, nat_lt, unwrap_or}
use Rattle.std.proofs.lemmas.Bool.{cond_both}
use Rattle.std.proofs.lemmas.List.Elements.{All-nil, All-cons, All-append}
use Rattle.layer_words.specs.Acts.{Stepped}
use Rattle.sim_base.specs.declared.numbers.Numbers.{Numbers}
use Rattle.sim_base.specs.declared.time.Time.{Time}
use Rattle.sim_base.specs.Packet.{Packet, remove_tag}
use Rattle.traffic_apps.specs.declared.app.Act.{Act}
use Rattle.traffic_apps.specs.declared.app.Act.TheVariants.{UdpSend as UdpSendAct, PingSend as PingSendAct, Write, Close}
use Rattle.traffic_apps.specs.declared.app.In.{In}
use Rattle.traffic_apps.specs.declared.app.In.TheVariants.{Tick, Got, Connected, Room, End, Reset}
use Rattle.traffic_apps.specs.declared.kind.AppKind.{AppKind}
use Rattle.traffic_apps.specs.declared.kind.AppKind.TheVariants.{UdpSend, UdpSink, UdpEchoClient, UdpEchoServer, OnOff, TcpBulk, TcpSink, Ping}
use Rattle.traffic_apps.specs.declared.kind.Schedule.{Schedule}
use Rattle.traffic_apps.specs.App.{PlainApp}
use Rattle.traffic_apps.specs.Step.{IsLater, Ticked, after, after_write, close_if, connected, echo_rest, finds_room, first_room, gets, next_on_off, next_period, sends, sent_one, silent, stays, step, ticks, write_of, writes, writes_again}
use Rattle.traffic_apps.specs.Counts.{with_sent}
use Rattle.traffic_apps.specs.Stream.{stream}

-- an application stays what it is, and its node's number stays
pub record IsStillIt (a : PlainApp) (numbers : Numbers) (t : Ticked) : Type 0 where
  pub kind : t.state.kind ≡ a.kind
  pub node : t.numbers.node ≡ numbers.node

sends-same : (next : Time) (s : Schedule) (message : Packet → Act Packet) (a : PlainApp) (numbers : Numbers) →
    IsStillIt a numbers (sends next s message a numbers)
sends-same next s message a numbers =
    cond_both (nat_lt a.counts.sent s.count) (sent_one next s message a numbers) (stays a numbers) (IsStillIt a numbers)
    (λ more. record { kind = refl; node = refl }) (λ done. record { kind = refl; node = refl })

ticks-same : (now : Time) (kind : AppKind) (a : PlainApp) (numbers : Numbers) → IsStillIt a numbers (ticks now kind a numbers)
ticks-same now (UdpSend dst port s) a numbers = sends-same (after now s.interval) s (λ packet. UdpSendAct dst port packet) a numbers
ticks-same now UdpSink a numbers = record { kind = refl; node = refl }
ticks-same now (UdpEchoClient dst port s) a numbers = sends-same (after now s.interval) s (λ packet. UdpSendAct dst port packet) a numbers
ticks-same now UdpEchoServer a numbers = record { kind = refl; node = refl }
ticks-same now (OnOff dst port s on off) a numbers =
    let began = unwrap_or a.period now in
    let same = sends-same (next_on_off now s.interval on off began) s (λ packet. UdpSendAct dst port packet) (record a { period = next_period now s.interval on began }) numbers in
    record { kind = same.kind; node = same.node }
ticks-same now (TcpBulk dst port bytes mss) a numbers = record { kind = refl; node = refl }
ticks-same now TcpSink a numbers = record { kind = refl; node = refl }
ticks-same now (Ping dst s) a numbers =
    sends-same (after now s.interval) s (λ packet. PingSendAct dst (echo_rest a.number a.counts.sent) packet) a numbers

gets-same : (src sport : ℕ) (packet : Packet) (kind : AppKind) (a : PlainApp) → (gets src sport packet kind a).state.kind ≡ a.kind
gets-same src sport packet (UdpSend dst port s) a = refl
gets-same src sport packet UdpSink a = refl
gets-same src sport packet (UdpEchoClient dst port s) a = refl
gets-same src sport packet UdpEchoServer a = refl
gets-same src sport packet (OnOff dst port s on off) a = refl
gets-same src sport packet (TcpBulk dst port bytes mss) a = refl
gets-same src sport packet TcpSink a = refl
gets-same src sport packet (Ping dst s) a = refl

writes-same : (left free : ℕ) (a : PlainApp) → (writes left free a).state.kind ≡ a.kind
writes-same left free a =
    cond_both (min left free == 0) a (record a { counts = with_sent (min left free) a.counts }) (λ (x : PlainApp). x.kind ≡ a.kind) (λ none. refl) (λ some. refl)

again-same : (left free : ℕ) (a : PlainApp) → (writes_again left free a).state.kind ≡ a.kind
again-same left free a =
    cond_both (left == 0) (silent a) (writes left free a) (λ (s : Stepped PlainApp (Act Packet)). s.state.kind ≡ a.kind) (λ none. refl)
    (λ some. writes-same left free a)

connected-same : (kind : AppKind) (a : PlainApp) → (connected kind a).state.kind ≡ a.kind
connected-same (TcpBulk dst port bytes mss) a = writes-same (bytes - a.counts.sent_bytes) first_room a
connected-same other a = refl

room-same : (free : ℕ) (kind : AppKind) (a : PlainApp) → (finds_room free kind a).state.kind ≡ a.kind
room-same free (TcpBulk dst port bytes mss) a = again-same (bytes - a.counts.sent_bytes) free a
room-same free other a = refl

pub step-same : (a : PlainApp) (numbers : Numbers) (input : In Packet) → IsStillIt a numbers (step a numbers input)
step-same a numbers (Tick now) = ticks-same now a.kind a numbers
step-same a numbers (Got src sport packet) = record { kind = gets-same src sport packet a.kind a; node = refl }
step-same a numbers Connected = record { kind = connected-same a.kind a; node = refl }
step-same a numbers (Room free) = record { kind = room-same free a.kind a; node = refl }
step-same a numbers End = record { kind = refl; node = refl }
step-same a numbers Reset = record { kind = refl; node = refl }

gets-later : (now src sport : ℕ) (packet : Packet) (kind : AppKind) (a : PlainApp) → All (IsLater now) (gets src sport packet kind a).acts
gets-later now src sport packet (UdpSend dst port s) a = All-nil (IsLater now)
gets-later now src sport packet UdpSink a = All-nil (IsLater now)
gets-later now src sport packet (UdpEchoClient dst port s) a = All-nil (IsLater now)
gets-later now src sport packet UdpEchoServer a =
    All-cons (IsLater now) (UdpSendAct src sport (remove_tag 1 packet)) [] tt (All-nil (IsLater now))
gets-later now src sport packet (OnOff dst port s on off) a = All-nil (IsLater now)
gets-later now src sport packet (TcpBulk dst port bytes mss) a = All-nil (IsLater now)
gets-later now src sport packet TcpSink a = All-nil (IsLater now)
gets-later now src sport packet (Ping dst s) a = All-nil (IsLater now)

-- what comes for an application lets it ask for no tick
pub got-later : (now src sport : ℕ) (packet : Packet) (a : PlainApp) (numbers : Numbers) →
    All (IsLater now) (step a numbers (Got src sport packet)).acts
got-later now src sport packet a numbers = gets-later now src sport packet a.kind a

writes-later : (now left free : ℕ) (a : PlainApp) → All (IsLater now) (writes left free a).acts
writes-later now left free a =
    let count : ℕ = min left free in
    let from : ℕ = a.counts.sent_bytes in
    let written : All (IsLater now) (write_of count from) =
    cond_both (count == 0) [] (Write (stream count from) ∷ []) (All (IsLater now)) (λ none. All-nil (IsLater now))
    (λ some. All-cons (IsLater now) (Write (stream count from)) [] tt (All-nil (IsLater now))) in
    let closed : All (IsLater now) (close_if (count == left)) =
    cond_both (count == left) (Close ∷ []) [] (All (IsLater now)) (λ all. All-cons (IsLater now) Close [] tt (All-nil (IsLater now)))
    (λ more. All-nil (IsLater now)) in
    All-append (IsLater now) (write_of count from) (close_if (count == left)) written closed

again-later : (now left free : ℕ) (a : PlainApp) → All (IsLater now) (writes_again left free a).acts
again-later now left free a =
    cond_both (left == 0) (silent a) (writes left free a) (λ (s : Stepped PlainApp (Act Packet)). All (IsLater now) s.acts) (λ none. All-nil (IsLater now))
    (λ some. writes-later now left free a)

opened-later : (now : ℕ) (kind : AppKind) (a : PlainApp) → All (IsLater now) (connected kind a).acts
opened-later now (TcpBulk dst port bytes mss) a = writes-later now (bytes - a.counts.sent_bytes) first_room a
opened-later now other a = All-nil (IsLater now)

room-later : (now free : ℕ) (kind : AppKind) (a : PlainApp) → All (IsLater now) (finds_room free kind a).acts
room-later now free (TcpBulk dst port bytes mss) a = again-later now (bytes - a.counts.sent_bytes) free a
room-later now free other a = All-nil (IsLater now)

-- nor does what a connection tells it

pub connected-later : (now : ℕ) (a : PlainApp) (numbers : Numbers) → All (IsLater now) (step a numbers Connected).acts
connected-later now a numbers = opened-later now a.kind a

pub has_room-later : (now free : ℕ) (a : PlainApp) (numbers : Numbers) → All (IsLater now) (step a numbers (Room free)).acts
has_room-later now free a numbers = room-later now free a.kind a

pub ended-later : (now : ℕ) (a : PlainApp) (numbers : Numbers) → All (IsLater now) (step a numbers End).acts
ended-later now a numbers = All-nil (IsLater now)

pub reset-later : (now : ℕ) (a : PlainApp) (numbers : Numbers) → All (IsLater now) (step a numbers Reset).acts
reset-later now a numbers = All-nil (IsLater now)
