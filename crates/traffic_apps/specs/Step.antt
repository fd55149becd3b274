-- What an application does.
use Rattle.std.specs.Prelude.{ℕ, ◌+◌, ◌*◌, ◌%◌, ◌^◌, ◌<◌, ◌≤◌, ◌-◌, ◌==◌, nat_lt, Bool, List, [], ◌∷◌, ◌++◌, if◌then◌else◌, min, Option, None, Some, unwrap_or, max}
use Rattle.sim_base.specs.declared.numbers.Numbers.{Numbers}
use Rattle.sim_base.specs.declared.time.Time.{Time}
use Rattle.sim_base.specs.Packet.{Packet, len, zeros, add_byte_tag, replace_tag, remove_tag}
use Rattle.layer_words.specs.Acts.{Numbered, Stepped}
use Rattle.layer_words.specs.Counting.{new_uid, with_packet}
use Rattle.traffic_apps.specs.declared.app.In.{In}
use Rattle.traffic_apps.specs.declared.app.In.TheVariants.{Tick, Got, Connected, Room, End, Reset}
use Rattle.traffic_apps.specs.declared.app.Act.{Act}
use Rattle.traffic_apps.specs.declared.app.Act.TheVariants.{UdpSend as UdpSendAct, PingSend as PingSendAct, TickAt, Connect, Write, Close}
use Rattle.traffic_apps.specs.declared.kind.AppKind.{AppKind}
use Rattle.traffic_apps.specs.declared.kind.AppKind.TheVariants.{UdpSend, UdpSink, UdpEchoClient, UdpEchoServer, OnOff, TcpBulk, TcpSink, Ping}
use Rattle.traffic_apps.specs.declared.kind.Schedule.{Schedule}
use Rattle.traffic_apps.specs.App.{PlainApp, longest_payload}
use Rattle.traffic_apps.specs.Counts.{with_got, with_sent}
use Rattle.traffic_apps.specs.Stream.{stream}

-- an application and the node's numbers after a tick, and what is to be done then
abbrev pub Ticked : Type 0
Ticked = Numbered PlainApp (Act Packet)

abbrev pub stays : PlainApp → Numbers → Ticked
stays a numbers = record { state = a; numbers = numbers; acts = [] }

-- a payload: zeros, with the application's number on its bytes, and the priority on the packet
abbrev pub payload : PlainApp → Schedule → Numbers → Packet
payload a s numbers = replace_tag 1 s.priority (add_byte_tag 1 a.number (zeros (new_uid numbers) s.size))

-- the next tick comes as long as payloads are left
abbrev pub next_tick : Time → Schedule → ℕ → List (Act Packet)
next_tick next s sent = if nat_lt sent s.count then TickAt next ∷ [] else []

abbrev pub sent_one : Time → Schedule → (Packet → Act Packet) → PlainApp → Numbers → Ticked
sent_one next s message a numbers = record {
  state = record a { counts = with_sent s.size a.counts };
  numbers = with_packet numbers;
  acts = message (payload a s numbers) ∷ next_tick next s (a.counts.sent + 1);
}

-- a tick sends one payload, and no more than count in all; the next tick is to come at this time
abbrev pub sends : Time → Schedule → (Packet → Act Packet) → PlainApp → Numbers → Ticked
sends next s message a numbers =
    if nat_lt a.counts.sent s.count then sent_one next s message a numbers else stays a numbers

-- so long after now
abbrev pub after : Time → Time → Time
after now span = record { 0 = now.0 + span.0 }

-- an application that is on and off in turn: it stays on where the next tick comes before the end of the period's on time
abbrev pub stays_on : Time → Time → Time → Time → Bool
stays_on now gap on began = nat_lt (now.0 + gap.0) (began.0 + on.0)

-- else the next tick begins a period, when the off time is over, and later than now
abbrev pub next_on_off : Time → Time → Time → Time → Time → Time
next_on_off now gap on off began =
    if stays_on now gap on began then after now gap else record { 0 = max (began.0 + on.0 + off.0) (now.0 + 1) }

abbrev pub next_period : Time → Time → Time → Time → Option Time
next_period now gap on began = if stays_on now gap on began then Some began else None

-- a tick that begins a period, or belongs to one that has begun
abbrev pub sends_on_off : Time → Schedule → Time → Time → (Packet → Act Packet) → PlainApp → Numbers → Ticked
sends_on_off now s on off message a numbers =
    let began = unwrap_or a.period now in
    sends (next_on_off now s.interval on off began) s message (record a { period = next_period now s.interval on began }) numbers

-- an echo request has the number of its application, and its own from 0, each modulo 2^16
abbrev pub echo_rest : ℕ → ℕ → ℕ
echo_rest number sent = number % 2 ^ 16 * 2 ^ 16 + sent % 2 ^ 16

abbrev pub ticks : Time → AppKind → PlainApp → Numbers → Ticked
ticks now (UdpSend dst port s) a numbers =
    sends (after now s.interval) s (λ packet. UdpSendAct dst port packet) a numbers
ticks now UdpSink a numbers = stays a numbers
ticks now (UdpEchoClient dst port s) a numbers =
    sends (after now s.interval) s (λ packet. UdpSendAct dst port packet) a numbers
ticks now UdpEchoServer a numbers = stays a numbers
ticks now (OnOff dst port s on off) a numbers =
    sends_on_off now s on off (λ packet. UdpSendAct dst port packet) a numbers
ticks now (TcpBulk dst port bytes mss) a numbers =
    record { state = a; numbers = numbers; acts = Connect dst port mss ∷ [] }
ticks now TcpSink a numbers = stays a numbers
ticks now (Ping dst s) a numbers =
    sends (after now s.interval) s (λ packet. PingSendAct dst (echo_rest a.number a.counts.sent) packet) a numbers

abbrev pub counted : Packet → PlainApp → PlainApp
counted packet a = record a { counts = with_got (len packet) a.counts }

-- an application that only counts what it gets
abbrev pub counts_it : Packet → PlainApp → Stepped PlainApp (Act Packet)
counts_it packet a = record { state = counted packet a; acts = [] }

-- the same packet goes back to its sender, without its priority
abbrev pub sends_back : ℕ → ℕ → Packet → PlainApp → Stepped PlainApp (Act Packet)
sends_back src sport packet a = record {
  state = record a { counts = with_sent (len packet) (with_got (len packet) a.counts) };
  acts = UdpSendAct src sport (remove_tag 1 packet) ∷ [];
}

abbrev pub gets : ℕ → ℕ → Packet → AppKind → PlainApp → Stepped PlainApp (Act Packet)
gets src sport packet (UdpSend dst port s) a = record { state = a; acts = [] }
gets src sport packet UdpSink a = counts_it packet a
gets src sport packet (UdpEchoClient dst port s) a = counts_it packet a
gets src sport packet UdpEchoServer a = sends_back src sport packet a
gets src sport packet (OnOff dst port s on off) a = record { state = a; acts = [] }
gets src sport packet (TcpBulk dst port bytes mss) a = record { state = a; acts = [] }
gets src sport packet TcpSink a = counts_it packet a
gets src sport packet (Ping dst s) a = counts_it packet a

-- ---- a bulk sender writes as much as fits, and closes when all is written

abbrev pub silent : PlainApp → Stepped PlainApp (Act Packet)
silent a = record { state = a; acts = [] }

-- a write that takes bytes counts as one packet
abbrev pub after_write : ℕ → PlainApp → PlainApp
after_write count a = if count == 0 then a else record a { counts = with_sent count a.counts }

abbrev pub write_of : ℕ → ℕ → List (Act Packet)
write_of count from = if count == 0 then [] else Write (stream count from) ∷ []

abbrev pub close_if : Bool → List (Act Packet)
close_if all = if all then Close ∷ [] else []

-- as many of the bytes that are left as there is room for
abbrev pub writes : ℕ → ℕ → PlainApp → Stepped PlainApp (Act Packet)
writes left free a =
    let count = min left free in
    record { state = after_write count a; acts = write_of count a.counts.sent_bytes ++ close_if (count == left) }

-- the room of a connection that has just opened
abbrev pub first_room : ℕ
first_room = 131072

abbrev pub connected : AppKind → PlainApp → Stepped PlainApp (Act Packet)
connected (TcpBulk dst port bytes mss) a = writes (bytes - a.counts.sent_bytes) first_room a
connected other a = silent a

-- once all is written, room is of no use
abbrev pub writes_again : ℕ → ℕ → PlainApp → Stepped PlainApp (Act Packet)
writes_again left free a = if left == 0 then silent a else writes left free a

abbrev pub finds_room : ℕ → AppKind → PlainApp → Stepped PlainApp (Act Packet)
finds_room free (TcpBulk dst port bytes mss) a = writes_again (bytes - a.counts.sent_bytes) free a
finds_room free other a = silent a

abbrev pub with_numbers : Numbers → Stepped PlainApp (Act Packet) → Ticked
with_numbers numbers stepped = record { state = stepped.state; numbers = numbers; acts = stepped.acts }

abbrev pub step : PlainApp → Numbers → In Packet → Ticked
step a numbers (Tick now) = ticks now a.kind a numbers
step a numbers (Got src sport packet) = with_numbers numbers (gets src sport packet a.kind a)
step a numbers Connected = with_numbers numbers (connected a.kind a)
step a numbers (Room free) = with_numbers numbers (finds_room free a.kind a)
step a numbers End = stays a numbers
step a numbers Reset = stays a numbers

-- a tick comes at a time of a run
abbrev pub CanTake : In Packet → Type 0
CanTake (Tick now) = now.0 ≤ 10 ^ 12
CanTake other = Unit {0}

-- what comes as a datagram fits one
abbrev pub BringsDatagram : In Packet → Type 0
BringsDatagram (Got src sport packet) = len packet ≤ longest_payload
BringsDatagram other = Unit {0}

-- what is sent as a datagram fits one, and the segments of a connection are within their limits
abbrev pub FitsDatagram : Act Packet → Type 0
FitsDatagram (UdpSendAct dst port packet) = len packet ≤ longest_payload
FitsDatagram (PingSendAct dst rest packet) = len packet ≤ longest_payload
FitsDatagram (Connect dst port mss) = (64 ≤ mss) × (mss ≤ 9000)
FitsDatagram other = Unit {0}

-- an act asks for no time but a later one
abbrev pub IsLater : ℕ → Act Packet → Type 0
IsLater now (TickAt at) = now < at.0
IsLater now other = Unit {0}

-- the same of an act that follows from an input
abbrev pub IsLaterThan : In Packet → Act Packet → Type 0
IsLaterThan (Tick now) act = IsLater now.0 act
IsLaterThan other act = IsLater 0 act
