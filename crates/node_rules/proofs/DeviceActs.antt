-- What devices keep, and what they ask for.
use Rattle.std.proofs.Common.{◌≡◌, ℕ, ◌+◌, ◌*◌, ◌^◌, ◌<◌, ◌≤◌, nat_le, zero, suc, List, [], ◌∷◌, ◌++◌, map, refl, arith}
use Rattle.std.specs.List.{AllByRecursion}
use Rattle.std.proofs.lemmas.Bool.{cond_both, leb-false}
use Rattle.std.proofs.lemmas.Grind.{div_ceil_times}
use Rattle.sim_base.specs.declared.time.Time.{Time}
use Rattle.sim_base.specs.Draws.{PlainRandom, after_draw}
use Rattle.sim_base.specs.Packet.{Packet, len}
use Rattle.sim_base.specs.Time.{frame_time}
use Rattle.frame_loss.specs.declared.fate.Fate.{Fate}
use Rattle.frame_loss.specs.declared.fate.Fate.TheVariants.{Lost as LostFrame, Received}
use Rattle.frame_loss.specs.Fate.{fate}
use Rattle.p2p_dev.specs.declared.Act.{Act as LinkAct}
use Rattle.p2p_dev.specs.declared.Act.TheVariants.{SentAt as LinkSentAt, ArriveAt as LinkArriveAt, Save as LinkSave}
use Rattle.p2p_dev.specs.declared.In.TheVariants.{Start as LinkStart, Arrive as LinkArrive}
use Rattle.p2p_dev.specs.Device.{Device as LinkDevice, IsDevice as IsLinkDevice}
use Rattle.p2p_dev.specs.Step.{step as link_step}
use Rattle.p2p_dev.specs.Step as link
use Rattle.csma_dev.specs.declared.bus.Bus.{Bus}
use Rattle.csma_dev.specs.declared.device.Use.{Use}
use Rattle.csma_dev.specs.declared.device.Use.TheVariants.{Idle, Sending, Waiting}
use Rattle.csma_dev.specs.declared.words.Act.{Act as LanAct}
use Rattle.csma_dev.specs.declared.words.Act.TheVariants.{Save as LanSave, ArriveAt as LanArriveAt, SentAt as LanSentAt, BackoffAt, GaveUp}
use Rattle.csma_dev.specs.Device.{Device as LanDevice, IsDevice as IsLanDevice, IsUse}
use Rattle.csma_dev.specs.Step.{Own as LanOwn, Shared}
use Rattle.csma_dev.specs.Step as lan
use Rattle.iface_step.specs.declared.device.DeviceAct.{DeviceAct}
use Rattle.iface_step.specs.declared.device.DeviceAct.TheVariants.{Tell, Wait, Reach, Save, Lose, Lift}
use Rattle.iface_step.specs.Devices.{of_lan, of_link}

-- later; and a frame that reaches the neighbours does so no sooner than the delay, and has so many bytes
abbrev pub IsDeviceAct : ℕ → ℕ → ℕ → DeviceAct Packet → Type 0
IsDeviceAct now delay least (Tell at) = now < at.0
IsDeviceAct now delay least (Wait at) = now < at.0
IsDeviceAct now delay least (Reach at frame) = (now < at.0) × (now + delay ≤ at.0) × (least ≤ len frame)
IsDeviceAct now delay least (Save frame) = Unit {0}
IsDeviceAct now delay least (Lose frame) = Unit {0}
IsDeviceAct now delay least (Lift proto packet) = Unit {0}

abbrev pub AreDeviceActs : ℕ → ℕ → ℕ → List (DeviceAct Packet) → Type 0
AreDeviceActs now delay least acts = AllByRecursion (IsDeviceAct now delay least) acts

some-times : (c r a : ℕ) → a ≤ c * r → 1 ≤ a → 1 ≤ c
some-times zero r a h some = omega (arith, h)
some-times (suc c) r a h some = omega arith

frame_time-some : (r n : ℕ) → 1 ≤ r → 1 ≤ n → 1 ≤ frame_time r n
frame_time-some r n some bytes =
    some-times (frame_time r n) r (8 * n * 10 ^ 9) (div_ceil_times (8 * n * 10 ^ 9) r some).0 (omega arith)

-- a device of a link

link-saved : (now delay least : ℕ) (d : LinkDevice) (frame : Packet) (rest : List (LinkAct Packet)) →
    AreDeviceActs now delay least (map of_link rest) → AreDeviceActs now delay least (map of_link (link.saved d frame ++ rest))
link-saved now delay least d frame rest h =
    cond_both d.traced (LinkSave frame ∷ []) [] (λ acts. AreDeviceActs now delay least (map of_link (acts ++ rest))) (λ _. (tt, h)) (λ _. h)

pub link-begins : (now : Time) (frame : Packet) (d : LinkDevice) (r : PlainRandom) → 2 ≤ len frame → IsLinkDevice d →
    AreDeviceActs now.0 d.delay 2 (map of_link (link_step d r (LinkStart now frame)).acts)
link-begins now frame d r long ok =
    let some : 1 ≤ frame_time d.rate (len frame) = frame_time-some d.rate (len frame) ok.0 (omega arith) in
    let left : now.0 < link.leaves d now.0 frame = omega (arith, some) in
    let came : now.0 < link.arrives d now.0 frame = omega (arith, some) in
    let late : now.0 + d.delay ≤ link.arrives d now.0 frame = omega (arith, some) in
    link-saved now.0 d.delay 2 d frame
    (LinkSentAt (record { 0 = link.leaves d now.0 frame }) ∷ LinkArriveAt (record { 0 = link.arrives d now.0 frame }) frame ∷ [])
    (left, ((came, late, long), tt))

link-comes_as : (now delay least : ℕ) (d : LinkDevice) (f : Fate Packet) → AreDeviceActs now delay least (map of_link (link.comes_as d f))
link-comes_as now delay least d (LostFrame frame) = (tt, tt)
link-comes_as now delay least d (Received frame) = link-saved now delay least d frame (link.lifted frame ∷ []) (tt, tt)

pub link-comes : (now delay least : ℕ) (frame : Packet) (d : LinkDevice) (r : PlainRandom) →
    AreDeviceActs now delay least (map of_link (link_step d r (LinkArrive frame)).acts)
link-comes now delay least frame d r = link-comes_as now delay least d (fate r d.loss frame)

-- a device of a LAN

pub record IsLanStep (now : ℕ) (d : LanDevice) (s : Shared) : Type 0 where
  pub delay : s.device.delay ≡ d.delay
  pub device : IsLanDevice d → IsLanDevice s.device
  pub acts : IsLanDevice d → AreDeviceActs now d.delay 18 (map of_lan s.acts)

lan-saved : (now delay least : ℕ) (d : LanDevice) (frame : Packet) (rest : List (LanAct Packet)) →
    AreDeviceActs now delay least (map of_lan rest) → AreDeviceActs now delay least (map of_lan (lan.saved d frame ++ rest))
lan-saved now delay least d frame rest h =
    cond_both d.traced (LanSave frame ∷ []) [] (λ acts. AreDeviceActs now delay least (map of_lan (acts ++ rest))) (λ _. (tt, h)) (λ _. h)

sends-step : (now : ℕ) (frame : Packet) (d : LanDevice) (r : PlainRandom) → (IsLanDevice d → 18 ≤ len frame) →
    IsLanStep now d (lan.sends now frame d r)
sends-step now frame d r long = record {
  delay = refl;
  device = λ ok. (ok.0, ok.1, ok.2, tt);
  acts = λ ok.
      let bytes : 18 ≤ len frame = long ok in
      let some : 1 ≤ frame_time d.rate (len frame) = frame_time-some d.rate (len frame) ok.0 (omega arith) in
      let later : now < lan.leaves d now frame = omega (arith, some) in
      let late : now + d.delay ≤ lan.leaves d now frame = omega (arith, some) in
      lan-saved now d.delay 18 d frame
      (LanArriveAt (record { 0 = lan.leaves d now frame }) frame ∷ LanSentAt (record { 0 = lan.leaves d now frame }) ∷ [])
      ((later, late, bytes), (later, tt));
}

waits-step : (now : ℕ) (frame : Packet) (tries : ℕ) (d : LanDevice) (bus : Bus) (r : PlainRandom) → (IsLanDevice d → 18 ≤ len frame) →
    IsLanStep now d (lan.on_bus bus (lan.backs_off now frame tries d r))
waits-step now frame tries d bus r long =
    cond_both (nat_le 1000 tries)
    (record { device = record d { does = Idle }; random = r; acts = GaveUp frame ∷ [] })
    (record {
      device = record d { does = Waiting frame tries };
      random = after_draw r;
      acts = BackoffAt (record { 0 = now + lan.wait tries r }) ∷ [];
    })
    (λ (w : LanOwn). IsLanStep now d (lan.on_bus bus w))
    (λ many. record { delay = refl; device = λ ok. (ok.0, ok.1, ok.2, tt); acts = λ ok. (tt, tt) })
    (λ few. record {
      delay = refl;
      device = λ ok. (ok.0, ok.1, ok.2, (long ok, leb-false 1000 tries few));
      acts = λ ok. (omega arith, tt);
    })

pub tries-step : (now : ℕ) (frame : Packet) (tries : ℕ) (d : LanDevice) (bus : Bus) (r : PlainRandom) → (IsLanDevice d → 18 ≤ len frame) →
    IsLanStep now d (lan.tries_once now frame tries d bus r)
tries-step now frame tries d bus r long =
    cond_both (lan.is_free now bus) (lan.sends now frame d r) (lan.on_bus bus (lan.backs_off now frame (tries + 1) d r)) (IsLanStep now d)
    (λ free. sends-step now frame d r long) (λ taken. waits-step now frame (tries + 1) d bus r long)

waits-delay : (now : ℕ) (frame : Packet) (tries : ℕ) (d : LanDevice) (r : PlainRandom) → (lan.backs_off now frame tries d r).device.delay ≡ d.delay
waits-delay now frame tries d r =
    cond_both (nat_le 1000 tries)
    (record { device = record d { does = Idle }; random = r; acts = GaveUp frame ∷ [] })
    (record {
      device = record d { does = Waiting frame tries };
      random = after_draw r;
      acts = BackoffAt (record { 0 = now + lan.wait tries r }) ∷ [];
    })
    (λ (w : LanOwn). w.device.delay ≡ d.delay) (λ many. refl) (λ few. refl)

pub tries-delay : (now : ℕ) (frame : Packet) (tries : ℕ) (d : LanDevice) (bus : Bus) (r : PlainRandom) →
    (lan.tries_once now frame tries d bus r).device.delay ≡ d.delay
tries-delay now frame tries d bus r =
    cond_both (lan.is_free now bus) (lan.sends now frame d r) (lan.on_bus bus (lan.backs_off now frame (tries + 1) d r))
    (λ (s : Shared). s.device.delay ≡ d.delay) (λ free. refl) (λ taken. waits-delay now frame (tries + 1) d r)

retries-step : (does : Use Packet) (now : ℕ) (d : LanDevice) (bus : Bus) (r : PlainRandom) → (IsLanDevice d → IsUse does) →
    IsLanStep now d (lan.retries does now d bus r)
retries-step Idle now d bus r held = record { delay = refl; device = λ ok. ok; acts = λ ok. tt }
retries-step Sending now d bus r held = record { delay = refl; device = λ ok. ok; acts = λ ok. tt }
retries-step (Waiting frame tries) now d bus r held = tries-step now frame tries d bus r (λ ok. (held ok).0)

pub again-step : (now : ℕ) (d : LanDevice) (bus : Bus) (r : PlainRandom) → IsLanStep now d (lan.retries d.does now d bus r)
again-step now d bus r = retries-step d.does now d bus r (λ ok. ok.3)

lan-comes_as : (now delay least : ℕ) (d : LanDevice) (f : Fate Packet) → AreDeviceActs now delay least (map of_lan (lan.comes_as d f))
lan-comes_as now delay least d (LostFrame frame) = (tt, tt)
lan-comes_as now delay least d (Received frame) = lan-saved now delay least d frame (lan.lifted frame ∷ []) (tt, tt)

pub comes-step : (now : ℕ) (frame : Packet) (d : LanDevice) (bus : Bus) (r : PlainRandom) →
    IsLanStep now d (lan.on_bus bus (lan.arrives frame d r))
comes-step now frame d bus r =
    cond_both (lan.is_heard d frame) (lan.hears frame d r) (lan.ignores d r) (λ (o : LanOwn). IsLanStep now d (lan.on_bus bus o))
    (λ heard. record {
      delay = refl;
      device = λ ok. (ok.0, ok.1, ok.2, ok.3);
      acts = λ ok. lan-comes_as now d.delay 18 d (fate r d.loss frame);
    })
    (λ other. record { delay = refl; device = λ ok. ok; acts = λ ok. tt })

pub free-step : (now : ℕ) (d : LanDevice) (bus : Bus) (r : PlainRandom) →
    IsLanStep now d (lan.with_acts (record d { does = Idle }) bus r [])
free-step now d bus r = record { delay = refl; device = λ ok. (ok.0, ok.1, ok.2, tt); acts = λ ok. tt }
