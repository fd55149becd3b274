-- How long frames take, what a bus keeps, and that nothing is asked for but at a later time.
use Rattle.std.proofs.Common.{◌≡◌, ℕ, ◌+◌, ◌-◌, ◌*◌, ◌^◌, ◌<◌, ◌≤◌, nat_le, zero, suc, List, [], ◌∷◌, ◌++◌, refl, ap, ◌∙◌, arith, leb-true}
use Rattle.std.specs.List.{AllByRecursion}
use Rattle.std.proofs.lemmas.Bool.{cond_both}
use Rattle.std.proofs.lemmas.Grind.{div_ceil_times}
use Rattle.sim_base.specs.Packet.{Packet, len, pop_back, pop_front}
use Rattle.sim_base.specs.Time.{frame_time, IsFrameTime}
use Rattle.sim_base.proofs.PacketLaws.{len-cut}
use Rattle.sim_base.specs.Draws.{PlainRandom, after_draw}
use Rattle.frame_loss.specs.declared.fate.Fate.{Fate}
use Rattle.frame_loss.specs.declared.fate.Fate.TheVariants.{Lost as LostFrame, Received}
use Rattle.frame_loss.specs.Fate.{fate}
use Rattle.csma_dev.specs.declared.bus.Bus.{Bus}
use Rattle.csma_dev.specs.declared.device.Use.{Use}
use Rattle.csma_dev.specs.declared.device.Use.TheVariants.{Idle, Sending, Waiting}
use Rattle.csma_dev.specs.declared.words.In.{In}
use Rattle.csma_dev.specs.declared.words.In.TheVariants.{Start, BusFree, BackoffOver, Arrive}
use Rattle.csma_dev.specs.declared.words.Act.{Act}
use Rattle.csma_dev.specs.declared.words.Act.TheVariants.{Save, ArriveAt, SentAt, BackoffAt, GaveUp, Lost, Up}
use Rattle.csma_dev.specs.Device.{Device, IsDevice, IsUse}
use Rattle.csma_dev.specs.Law.{IsAlone, IsLater, time_of}
use Rattle.csma_dev.specs.Step.{CanTake, Shared, Own, arrives, backs_off, comes_as, hears, ignores, is_free, is_heard, leaves, lifted, on_bus, protocol, retries, saved, sends, step, tries_once, wait}

positive : (c r a : ℕ) → a ≤ c * r → 1 ≤ a → 1 ≤ c
positive zero r a h some = omega (arith, h)
positive (suc c) r a h some = omega arith

pub frame_time-positive : (r n : ℕ) → 1 ≤ r → 1 ≤ n → 1 ≤ frame_time r n
frame_time-positive r n some bytes =
    positive (frame_time r n) r (8 * n * 10 ^ 9) (div_ceil_times (8 * n * 10 ^ 9) r some).0 (omega arith)

pub frame_time-small : (r n t : ℕ) → 1 ≤ r → n ≤ 131072 → IsFrameTime r n t → t < 2 ^ 62
frame_time-small r n t some small h =
    let k : 8 * n * 10 ^ 9 ≤ r * (8 * n * 10 ^ 9) = grind arith in
    let low = h.least (8 * n * 10 ^ 9) k in
    omega (arith, low)

-- a frame without its trailer has its header
pub header_left : (p q : Packet) → 18 ≤ len p → q ≡ pop_back 4 p → 14 ≤ len q
header_left p q long is = let left = ap len is ∙ len-cut 0 (len p - 4) p (omega arith) (omega arith) in omega (arith, left, long)

-- what holds of each act that follows from a step

abbrev Each : (Act Packet → Type 0) → List (Act Packet) → Type 0
Each P acts = AllByRecursion P acts

each-saved : (P : Act Packet → Type 0) (d : Device) (frame : Packet) (rest : List (Act Packet)) → P (Save frame) → Each P rest → Each P (saved d frame ++ rest)
each-saved P d frame rest h hs =
    cond_both d.traced (Save frame ∷ []) [] (λ acts. Each P (acts ++ rest)) (λ _. (h, hs)) (λ _. hs)

alone-sends : (now : ℕ) (frame : Packet) (d : Device) (bus : Bus) (r : PlainRandom) → bus.busy_until.0 ≤ now →
    Each (IsAlone now bus (sends now frame d r).bus) (sends now frame d r).acts
alone-sends now frame d bus r free =
    each-saved (IsAlone now bus (sends now frame d r).bus) d frame
    (ArriveAt (record { 0 = leaves d now frame }) frame ∷ SentAt (record { 0 = leaves d now frame }) ∷ []) tt
    ((free, refl), (refl, tt))

alone-waits : (now : ℕ) (frame : Packet) (tries : ℕ) (d : Device) (bus : Bus) (r : PlainRandom) →
    Each (IsAlone now bus bus) (backs_off now frame tries d r).acts
alone-waits now frame tries d bus r =
    cond_both (nat_le 1000 tries)
    (record { device = record d { does = Idle }; random = r; acts = GaveUp frame ∷ [] })
    (record {
      device = record d { does = Waiting frame tries };
      random = after_draw r;
      acts = BackoffAt (record { 0 = now + wait tries r }) ∷ [];
    })
    (λ (w : Own). Each (IsAlone now bus bus) w.acts) (λ _. (refl, tt)) (λ _. (refl, tt))

alone-tries : (now : ℕ) (frame : Packet) (tries : ℕ) (d : Device) (bus : Bus) (r : PlainRandom) →
    Each (IsAlone now bus (tries_once now frame tries d bus r).bus) (tries_once now frame tries d bus r).acts
alone-tries now frame tries d bus r =
    cond_both (is_free now bus) (sends now frame d r) (on_bus bus (backs_off now frame (tries + 1) d r))
    (λ (s : Shared). Each (IsAlone now bus s.bus) s.acts)
    (λ b. alone-sends now frame d bus r (leb-true bus.busy_until.0 now b))
    (λ _. alone-waits now frame (tries + 1) d bus r)

alone-retries : (does : Use Packet) (now : ℕ) (d : Device) (bus : Bus) (r : PlainRandom) →
    Each (IsAlone now bus (retries does now d bus r).bus) (retries does now d bus r).acts
alone-retries Idle now d bus r = tt
alone-retries Sending now d bus r = tt
alone-retries (Waiting frame tries) now d bus r = alone-tries now frame tries d bus r

each-comes_as : (P : Act Packet → Type 0) (d : Device) (f : Fate Packet) → ((frame : Packet) → P (Save frame)) → ((frame : Packet) → P (Lost frame)) → ((proto : ℕ) (packet : Packet) → P (Up proto packet)) → Each P (comes_as d f)
each-comes_as P d (LostFrame frame) saves loses ups = (loses frame, tt)
each-comes_as P d (Received frame) saves loses ups =
    each-saved P d frame (lifted frame ∷ []) (saves frame) (ups (protocol frame) (pop_front 14 (pop_back 4 frame)), tt)

each-arrives : (P : Act Packet → Type 0) (d : Device) (r : PlainRandom) (frame : Packet) → ((f : Packet) → P (Save f)) → ((f : Packet) → P (Lost f)) → ((proto : ℕ) (packet : Packet) → P (Up proto packet)) → Each P (arrives frame d r).acts
each-arrives P d r frame saves loses ups =
    cond_both (is_heard d frame) (hears frame d r) (ignores d r) (λ (o : Own). Each P o.acts)
    (λ _. each-comes_as P d (fate r d.loss frame) saves loses ups) (λ _. tt)

pub step_is_alone : (d : Device) (bus : Bus) (r : PlainRandom) (input : In Packet) →
    AllByRecursion (IsAlone (time_of input) bus (step d bus r input).bus) (step d bus r input).acts
step_is_alone d bus r (Start now frame) = alone-tries now.0 frame 0 d bus r
step_is_alone d bus r BusFree = tt
step_is_alone d bus r (BackoffOver now) = alone-retries d.does now.0 d bus r
step_is_alone d bus r (Arrive frame) = each-arrives (IsAlone 0 bus bus) d r frame (λ f. tt) (λ f. refl) (λ proto packet. refl)

later-sends : (now : ℕ) (frame : Packet) (d : Device) (r : PlainRandom) → 1 ≤ d.rate → 1 ≤ len frame → Each (IsLater now) (sends now frame d r).acts
later-sends now frame d r some long =
    let time : 1 ≤ frame_time d.rate (len frame) = frame_time-positive d.rate (len frame) some long in
    let later : now < leaves d now frame = omega (arith, time) in
    each-saved (IsLater now) d frame
    (ArriveAt (record { 0 = leaves d now frame }) frame ∷ SentAt (record { 0 = leaves d now frame }) ∷ []) tt
    (later, (later, tt))

later-waits : (now : ℕ) (frame : Packet) (tries : ℕ) (d : Device) (r : PlainRandom) → Each (IsLater now) (backs_off now frame tries d r).acts
later-waits now frame tries d r =
    cond_both (nat_le 1000 tries)
    (record { device = record d { does = Idle }; random = r; acts = GaveUp frame ∷ [] })
    (record {
      device = record d { does = Waiting frame tries };
      random = after_draw r;
      acts = BackoffAt (record { 0 = now + wait tries r }) ∷ [];
    })
    (λ (w : Own). Each (IsLater now) w.acts) (λ _. (tt, tt)) (λ _. (omega arith, tt))

later-tries : (now : ℕ) (frame : Packet) (tries : ℕ) (d : Device) (bus : Bus) (r : PlainRandom) → 1 ≤ d.rate → 1 ≤ len frame →
    Each (IsLater now) (tries_once now frame tries d bus r).acts
later-tries now frame tries d bus r some long =
    cond_both (is_free now bus) (sends now frame d r) (on_bus bus (backs_off now frame (tries + 1) d r))
    (λ (s : Shared). Each (IsLater now) s.acts)
    (λ _. later-sends now frame d r some long) (λ _. later-waits now frame (tries + 1) d r)

later-retries : (does : Use Packet) (now : ℕ) (d : Device) (bus : Bus) (r : PlainRandom) → 1 ≤ d.rate → IsUse does →
    Each (IsLater now) (retries does now d bus r).acts
later-retries Idle now d bus r some h = tt
later-retries Sending now d bus r some h = tt
later-retries (Waiting frame tries) now d bus r some h = later-tries now frame tries d bus r some (omega (arith, h.0))

pub step_is_later : (d : Device) (bus : Bus) (r : PlainRandom) (input : In Packet) → IsDevice d → CanTake input →
    AllByRecursion (IsLater (time_of input)) (step d bus r input).acts
step_is_later d bus r (Start now frame) ok can = later-tries now.0 frame 0 d bus r ok.0 (omega (arith, can.1))
step_is_later d bus r BusFree ok can = tt
step_is_later d bus r (BackoffOver now) ok can = later-retries d.does now.0 d bus r ok.0 ok.3
step_is_later d bus r (Arrive frame) ok can = each-arrives (IsLater 0) d r frame (λ f. tt) (λ f. tt) (λ proto packet. tt)
