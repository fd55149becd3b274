-- An application over many ticks.
use Rattle.std.specs.Prelude.{ℕ, zero, suc, ◌≡◌, ◌<◌, ◌≤◌, ◌+◌, ◌-◌, min, List, [], ◌∷◌, length, Option, None, Some}
use Rattle.sim_base.specs.declared.numbers.Numbers.{Numbers}
use Rattle.sim_base.specs.declared.time.Time.{Time}
use Rattle.sim_base.specs.Packet.{Packet}
use Rattle.traffic_apps.specs.declared.app.Act.{Act}
use Rattle.traffic_apps.specs.declared.app.Act.TheVariants.{TickAt}
use Rattle.traffic_apps.specs.declared.app.In.TheVariants.{Tick}
use Rattle.traffic_apps.specs.declared.kind.AppKind.{AppKind}
use Rattle.traffic_apps.specs.declared.kind.AppKind.TheVariants.{UdpSend, UdpSink, UdpEchoClient, UdpEchoServer, OnOff, TcpBulk, TcpSink, Ping}
use Rattle.traffic_apps.specs.App.{PlainApp, IsKind}
use Rattle.traffic_apps.specs.Step.{step}

-- how many payloads an application sends of itself
abbrev pub count_of : AppKind → ℕ
count_of (UdpSend dst port schedule) = schedule.count
count_of UdpSink = 0
count_of (UdpEchoClient dst port schedule) = schedule.count
count_of UdpEchoServer = 0
count_of (OnOff dst port schedule on off) = schedule.count
count_of (TcpBulk dst port bytes mss) = 0
count_of TcpSink = 0
count_of (Ping dst schedule) = schedule.count

-- an application after ticks at these times
abbrev pub after_ticks : List Time → PlainApp → Numbers → PlainApp
after_ticks [] a numbers = a
after_ticks (now ∷ times) a numbers =
    after_ticks times (step a numbers (Tick now)).state (step a numbers (Tick now)).numbers

-- each tick sends one payload, until all are sent
abbrev pub SendsCountInAll : List Time → PlainApp → Numbers → Type 0
SendsCountInAll times a numbers =
    IsKind a.kind → a.counts.sent ≤ count_of a.kind
    → (after_ticks times a numbers).counts.sent ≡ min (a.counts.sent + length times) (count_of a.kind)

-- when acts ask for a tick
abbrev pub asked_tick : List (Act Packet) → Option Time
asked_tick [] = None
asked_tick (TickAt next ∷ acts) = Some next
asked_tick (other ∷ acts) = asked_tick acts

-- the ticks of an application on its own, which ticks first at a time and then whenever it asks for it; so many at most
unfoldable pub ticks_from : ℕ → Option Time → PlainApp → Numbers → List Time
ticks_from zero first a numbers = []
ticks_from (suc most) None a numbers = []
ticks_from (suc most) (Some now) a numbers =
    let t = step a numbers (Tick now) in now ∷ ticks_from most (asked_tick t.acts) t.state t.numbers

-- it ticks as often as payloads are left, and no more
abbrev pub SendsAlone : ℕ → Time → PlainApp → Numbers → Type 0
SendsAlone most first a numbers =
    IsKind a.kind → a.counts.sent < count_of a.kind
    → length (ticks_from most (Some first) a numbers) ≡ min most (count_of a.kind - a.counts.sent)
