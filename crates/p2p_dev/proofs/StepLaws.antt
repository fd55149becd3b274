-- How long frames take, that they keep their order on the link, and that nothing is asked for but at a later time.
use Rattle.std.proofs.Common.{ℕ, ◌*◌, ◌^◌, ◌<◌, ◌≤◌, zero, suc, List, [], ◌∷◌, ◌++◌, arith}
use Rattle.std.specs.List.{AllByRecursion}
use Rattle.std.proofs.lemmas.Bool.{cond_both}
use Rattle.std.proofs.lemmas.Grind.{div_ceil_times}
use Rattle.sim_base.specs.Draws.{PlainRandom}
use Rattle.sim_base.specs.Packet.{Packet, len}
use Rattle.sim_base.specs.Time.{frame_time, IsFrameTime}
use Rattle.frame_loss.specs.declared.fate.Fate.{Fate}
use Rattle.frame_loss.specs.declared.fate.Fate.TheVariants.{Lost as LostFrame, Received}
use Rattle.frame_loss.specs.Fate.{fate}
use Rattle.p2p_dev.specs.declared.In.{In}
use Rattle.p2p_dev.specs.declared.In.TheVariants.{Start, Sent, Arrive}
use Rattle.p2p_dev.specs.declared.Act.{Act}
use Rattle.p2p_dev.specs.declared.Act.TheVariants.{SentAt, ArriveAt, Save}
use Rattle.p2p_dev.specs.Device.{Device, IsDevice}
use Rattle.p2p_dev.specs.Law.{IsLater, time_of}
use Rattle.p2p_dev.specs.Step.{CanTake, arrives, comes_as, leaves, lifted, saved, step}

positive : (c r a : ℕ) → a ≤ c * r → 1 ≤ a → 1 ≤ c
positive zero r a h some = omega (arith, h)
positive (suc c) r a h some = omega arith

frame_time-positive : (r n : ℕ) → 1 ≤ r → 1 ≤ n → 1 ≤ frame_time r n
frame_time-positive r n some bytes =
    positive (frame_time r n) r (8 * n * 10 ^ 9) (div_ceil_times (8 * n * 10 ^ 9) r some).0 (omega arith)

pub frame_time-small : (r n t : ℕ) → 1 ≤ r → n ≤ 131072 → IsFrameTime r n t → t < 2 ^ 62
frame_time-small r n t some small h =
    let k : 8 * n * 10 ^ 9 ≤ r * (8 * n * 10 ^ 9) = grind arith in
    let low = h.least (8 * n * 10 ^ 9) k in
    omega (arith, low)

-- a frame takes some time, so the second arrives after the first
pub second_arrives_later : (d : Device) (start next : ℕ) (first second : Packet) → IsDevice d → 2 ≤ len second → leaves d start first ≤ next → arrives d start first < arrives d next second
second_arrives_later d start next first second ok long left =
    let some : 1 ≤ frame_time d.rate (len second) = frame_time-positive d.rate (len second) ok.0 (omega arith) in
    omega (arith, some)

later-saved : (now : ℕ) (d : Device) (frame : Packet) (rest : List (Act Packet)) → AllByRecursion (IsLater now) rest → AllByRecursion (IsLater now) (saved d frame ++ rest)
later-saved now d frame rest h =
    cond_both d.traced (Save frame ∷ []) [] (λ acts. AllByRecursion (IsLater now) (acts ++ rest)) (λ _. (tt, h)) (λ _. h)

later-comes_as : (d : Device) (f : Fate Packet) → AllByRecursion (IsLater 0) (comes_as d f)
later-comes_as d (LostFrame frame) = (tt, tt)
later-comes_as d (Received frame) = later-saved 0 d frame (lifted frame ∷ []) (tt, tt)

-- a frame takes some time, so it leaves and arrives later than it starts
pub step_is_later : (d : Device) (r : PlainRandom) (input : In Packet) → IsDevice d → CanTake input → AllByRecursion (IsLater (time_of input)) (step d r input).acts
step_is_later d r (Start now frame) ok can =
    let time : 1 ≤ frame_time d.rate (len frame) = frame_time-positive d.rate (len frame) ok.0 (omega (arith, can.1)) in
    let left : now.0 < leaves d now.0 frame = omega (arith, time) in
    let came : now.0 < arrives d now.0 frame = omega (arith, time) in
    later-saved now.0 d frame
    (SentAt (record { 0 = leaves d now.0 frame }) ∷ ArriveAt (record { 0 = arrives d now.0 frame }) frame ∷ [])
    (left, (came, tt))
step_is_later d r Sent ok can = tt
step_is_later d r (Arrive frame) ok can = later-comes_as d (fate r d.loss frame)
