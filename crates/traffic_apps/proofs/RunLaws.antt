-- Each tick sends one payload, until all are sent.
use Rattle.std.proofs.Common.{ℕ, zero, suc, ◌≡◌, ◌+◌, ◌-◌, ◌^◌, ◌<◌, ◌≤◌, min, cond, List, [], ◌∷◌, length, Option, None, Some, refl, sym, ap, subst, ◌∙◌, arith}
use Rattle.std.specs.Prelude.{nat_lt, unwrap_or}
use Rattle.std.proofs.lemmas.Bool.{cond_both, cond-true, cond-false}
use Rattle.std.proofs.lemmas.Bool.Decides.{nat_tests}
use Rattle.sim_base.specs.declared.numbers.Numbers.{Numbers}
use Rattle.sim_base.specs.declared.time.Time.{Time}
use Rattle.sim_base.specs.Packet.{Packet}
use Rattle.traffic_apps.specs.declared.app.Act.{Act}
use Rattle.traffic_apps.specs.declared.app.Act.TheVariants.{UdpSend as UdpSendAct, PingSend as PingSendAct, TickAt}
use Rattle.traffic_apps.specs.declared.app.In.TheVariants.{Tick}
use Rattle.traffic_apps.specs.declared.kind.AppKind.{AppKind}
use Rattle.traffic_apps.specs.declared.kind.AppKind.TheVariants.{UdpSend, UdpSink, UdpEchoClient, UdpEchoServer, OnOff, TcpBulk, TcpSink, Ping}
use Rattle.traffic_apps.specs.declared.kind.Schedule.{Schedule}
use Rattle.traffic_apps.specs.App.{PlainApp, IsKind}
use Rattle.traffic_apps.specs.Runs.{asked_tick, ticks_from, count_of, SendsCountInAll, SendsAlone}
use Rattle.traffic_apps.specs.Step.{Ticked, after, next_tick, payload, sends, sent_one, stays, next_on_off, next_period, echo_rest, ticks, step}

-- a tick leaves the kind, and sends one more unless all are sent
record Advances (kind : AppKind) (count sent : ℕ) (t : Ticked) : Type 0 where
  same : t.state.kind ≡ kind
  one_more : t.state.counts.sent ≡ min (sent + 1) count

sends_advance : (next : Time) (s : Schedule) (message : Packet → Act Packet) (a : PlainApp) (numbers : Numbers) → s.count ≤ 10 ^ 9 → a.counts.sent ≤ s.count → Advances a.kind s.count a.counts.sent (sends next s message a numbers)
sends_advance next s message a numbers few below =
    cond_both (nat_lt a.counts.sent s.count) (sent_one next s message a numbers) (stays a numbers) (Advances a.kind s.count a.counts.sent)
    (λ more. let left : a.counts.sent < s.count = grind (arith, nat_tests, more) in record { same = refl; one_more = omega (arith, few) })
    (λ done. let all : s.count ≤ a.counts.sent = grind (arith, nat_tests, done) in record { same = refl; one_more = omega arith })

ticks_advance : (now : Time) (kind : AppKind) (a : PlainApp) (numbers : Numbers) → IsKind kind → a.counts.sent ≤ count_of kind → Advances a.kind (count_of kind) a.counts.sent (ticks now kind a numbers)
ticks_advance now (UdpSend dst port s) a numbers ok below =
    sends_advance (after now s.interval) s (λ packet. UdpSendAct dst port packet) a numbers ok.1 below
ticks_advance now UdpSink a numbers ok below = record { same = refl; one_more = omega arith }
ticks_advance now (UdpEchoClient dst port s) a numbers ok below =
    sends_advance (after now s.interval) s (λ packet. UdpSendAct dst port packet) a numbers ok.1 below
ticks_advance now UdpEchoServer a numbers ok below = record { same = refl; one_more = omega arith }
ticks_advance now (OnOff dst port s on off) a numbers ok below =
    let began = unwrap_or a.period now in
    sends_advance (next_on_off now s.interval on off began) s (λ packet. UdpSendAct dst port packet) (record a { period = next_period now s.interval on began }) numbers ok.1 below
ticks_advance now (TcpBulk dst port bytes mss) a numbers ok below = record { same = refl; one_more = omega arith }
ticks_advance now TcpSink a numbers ok below = record { same = refl; one_more = omega arith }
ticks_advance now (Ping dst s) a numbers ok below =
    sends_advance (after now s.interval) s (λ packet. PingSendAct dst (echo_rest a.number a.counts.sent) packet) a numbers ok.1 below

pub sends_count_in_all : (times : List Time) (a : PlainApp) (numbers : Numbers) → SendsCountInAll times a numbers
sends_count_in_all [] a numbers ok below = omega arith
sends_count_in_all (now ∷ times) a numbers ok below =
    let t = step a numbers (Tick now) in
    let first = ticks_advance now a.kind a numbers ok below in
    let count : count_of t.state.kind ≡ count_of a.kind = ap count_of first.same in
    let fits : IsKind t.state.kind = subst IsKind (sym first.same) ok in
    let rest = sends_count_in_all times t.state t.numbers fits (omega (arith, first.one_more, count)) in
    omega (arith, rest, count, first.one_more)

-- ---- an application on its own

-- a tick asks for the next where one is left
record Asks (count sent : ℕ) (t : Ticked) : Type 0 where
  more : sent + 1 < count → (next : Time) × (asked_tick t.acts ≡ Some next)
  last : count ≤ sent + 1 → asked_tick t.acts ≡ None

sends_ask : (next : Time) (s : Schedule) (message : Packet → Act Packet) (a : PlainApp) (numbers : Numbers) → a.counts.sent < s.count →
    ((packet : Packet) (acts : List (Act Packet)) → asked_tick (message packet ∷ acts) ≡ asked_tick acts) → Asks s.count a.counts.sent (sends next s message a numbers)
sends_ask next s message a numbers left passes =
    let one = sent_one next s message a numbers in
    let is : sends next s message a numbers ≡ one = cond-true (nat_lt a.counts.sent s.count) one (stays a numbers) (grind (arith, nat_tests, left)) in
    let test = nat_lt (a.counts.sent + 1) s.count in
    let asked : asked_tick one.acts ≡ asked_tick (next_tick next s (a.counts.sent + 1)) = passes (payload a s numbers) (next_tick next s (a.counts.sent + 1)) in
    subst (Asks s.count a.counts.sent) (sym is)
    (record {
      more = λ more. (next, asked ∙ ap asked_tick (cond-true test (TickAt next ∷ []) [] (grind (arith, nat_tests, more))));
      last = λ last. asked ∙ ap asked_tick (cond-false test (TickAt next ∷ []) [] (grind (arith, nat_tests, last)));
    })

ticks_ask : (now : Time) (kind : AppKind) (a : PlainApp) (numbers : Numbers) → a.counts.sent < count_of kind → Asks (count_of kind) a.counts.sent (ticks now kind a numbers)
ticks_ask now (UdpSend dst port s) a numbers left =
    sends_ask (after now s.interval) s (λ packet. UdpSendAct dst port packet) a numbers left (λ packet acts. refl)
ticks_ask now UdpSink a numbers left = absurd (omega arith)
ticks_ask now (UdpEchoClient dst port s) a numbers left =
    sends_ask (after now s.interval) s (λ packet. UdpSendAct dst port packet) a numbers left (λ packet acts. refl)
ticks_ask now UdpEchoServer a numbers left = absurd (omega arith)
ticks_ask now (OnOff dst port s on off) a numbers left =
    let began = unwrap_or a.period now in
    sends_ask (next_on_off now s.interval on off began) s (λ packet. UdpSendAct dst port packet) (record a { period = next_period now s.interval on began }) numbers left
    (λ packet acts. refl)
ticks_ask now (TcpBulk dst port bytes mss) a numbers left = absurd (omega arith)
ticks_ask now TcpSink a numbers left = absurd (omega arith)
ticks_ask now (Ping dst s) a numbers left =
    sends_ask (after now s.interval) s (λ packet. PingSendAct dst (echo_rest a.number a.counts.sent) packet) a numbers left (λ packet acts. refl)

none_asked : (more : ℕ) (a : PlainApp) (numbers : Numbers) → length (ticks_from more None a numbers) ≡ 0
unfolding ticks_from
none_asked zero a numbers = refl
none_asked (suc more) a numbers = refl

pub sends_alone : (most : ℕ) (now : Time) (a : PlainApp) (numbers : Numbers) → SendsAlone most now a numbers
unfolding ticks_from
sends_alone zero now a numbers ok left = omega arith
sends_alone (suc most) now a numbers ok left =
    let t = step a numbers (Tick now) in
    let count = count_of a.kind in
    let one = ticks_advance now a.kind a numbers ok (omega (arith, left)) in
    let asks = ticks_ask now a.kind a numbers left in
    let same : count_of t.state.kind ≡ count = ap count_of one.same in
    let fits : IsKind t.state.kind = subst IsKind (sym one.same) ok in
    cond_both {A = ℕ} (nat_lt (a.counts.sent + 1) count) 0 1 (λ _. length (ticks_from (suc most) (Some now) a numbers) ≡ min (suc most) (count - a.counts.sent))
    (λ more.
    let further : a.counts.sent + 1 < count = grind (arith, nat_tests, more) in
    let next = asks.more further in
    let rest = sends_alone most next.0 t.state t.numbers fits (omega (arith, one.one_more, same, further)) in
    let along = ap (λ (at : Option Time). length (ticks_from most at t.state t.numbers)) next.1 in
    omega (arith, rest, along, one.one_more, same, further))
    (λ done.
    let last : count ≤ a.counts.sent + 1 = grind (arith, nat_tests, done) in
    let along = ap (λ (at : Option Time). length (ticks_from most at t.state t.numbers)) (asks.last last) ∙ none_asked most t.state t.numbers in
    omega (arith, along, last, left))
