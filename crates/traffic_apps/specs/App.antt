-- An application.
use Rattle.std.specs.Prelude.{ℕ, ◌≤◌, ◌^◌, Option, None, IfSome}
use Rattle.sim_base.specs.declared.time.Rate.{Rate}
use Rattle.sim_base.specs.declared.time.Time.{Time}
use Rattle.sim_base.specs.Time.{frame_time}
use Rattle.traffic_apps.specs.declared.counts.Counts.{Counts}
use Rattle.traffic_apps.specs.declared.kind.AppKind.{AppKind}
use Rattle.traffic_apps.specs.declared.kind.AppKind.TheVariants.{UdpSend, UdpSink, UdpEchoClient, UdpEchoServer, OnOff, TcpBulk, TcpSink, Ping}
use Rattle.traffic_apps.specs.declared.kind.Schedule.{Schedule}
use Rattle.traffic_apps.specs.Counts.{none_counted}

-- The number of the application in the scenario, what it does, and what it has sent and got. The period of one that is on
-- and off is known by the time at which it began; where there is none, the next tick begins one.
pub record PlainApp : Type 0 where
  pub number : ℕ
  pub kind : AppKind
  pub counts : Counts
  pub period : Option Time

-- an application that has sent and got nothing
abbrev pub idle : ℕ → AppKind → PlainApp
idle number kind = record { number = number; kind = kind; counts = none_counted; period = None }

-- an application whose payloads follow each other, while it is on, as a line of this rate would carry them
abbrev pub on_off : ℕ → ℕ → ℕ → ℕ → ℕ → Rate → Time → Time → AppKind
on_off dst port size count priority rate on off =
    OnOff dst port (record { size = size; count = count; interval = record { 0 = frame_time rate.0 size }; priority = priority }) on off

-- the longest payload of UDP and of an echo request: 65535 less 20 and 8
abbrev pub longest_payload : ℕ
longest_payload = 65507

-- payloads that fit a datagram, at least a nanosecond apart
abbrev pub IsSchedule : Schedule → Type 0
IsSchedule s = (s.size ≤ longest_payload) × (s.count ≤ 10 ^ 9) × (1 ≤ s.interval.0) × (s.interval.0 ≤ 10 ^ 12)

-- Payloads that fit a datagram, at least a nanosecond apart, and times within the limits. A payload takes less than
-- 10 ^ 15 ns on any line.
abbrev pub IsOnOff : Schedule → Time → Time → Type 0
IsOnOff s on off =
    (s.size ≤ longest_payload) × (s.count ≤ 10 ^ 9) × (1 ≤ s.interval.0) × (s.interval.0 ≤ 10 ^ 15) × (on.0 ≤ 10 ^ 12) × (off.0 ≤ 10 ^ 12)

-- what is sent, if anything is, is within the limits
abbrev pub IsKind : AppKind → Type 0
IsKind (UdpSend dst port schedule) = IsSchedule schedule
IsKind UdpSink = Unit {0}
IsKind (UdpEchoClient dst port schedule) = IsSchedule schedule
IsKind UdpEchoServer = Unit {0}
IsKind (OnOff dst port schedule on off) = IsOnOff schedule on off
IsKind (TcpBulk dst port bytes mss) = (bytes ≤ 2 ^ 30) × (64 ≤ mss) × (mss ≤ 9000)
IsKind TcpSink = Unit {0}
IsKind (Ping dst schedule) = IsSchedule schedule

-- a period began at a time of the run
abbrev pub IsPeriod : Option Time → Type 0
IsPeriod period = IfSome period (λ began. began.0 ≤ 10 ^ 12)
