-- What a step of an interface keeps, and what it asks for: the way down.
use Rattle.std.proofs.Common.{◌≡◌, ℕ, ◌+◌, ◌-◌, ◌<◌, ◌≤◌, nat_lt, List, [], ◌∷◌, map, refl, sym, ap, ◌∙◌, subst, arith, inl, inr, ◌⊎◌}
use Rattle.std.specs.List.{AllByRecursion, flat_map}
use Rattle.std.specs.Prelude.{◌||◌, Bool, true, false, None, Some, replicate}
use Rattle.std.proofs.lemmas.Bool.{cond_both, ltb-false, ltb-true}
use Rattle.std.proofs.lemmas.List.{length-replicate}
use Rattle.sim_base.specs.declared.item.Kind.TheVariants.{Ethernet, Pad, Ppp, Trailer}
use Rattle.sim_base.specs.declared.time.Time.{Time}
use Rattle.sim_base.specs.Packet.{Packet, len, push_back}
use Rattle.sim_base.proofs.PacketLaws.{len-push_back, len-push_front}
use Rattle.header_forms.specs.Link.{ethernet_bytes}
use Rattle.layer_words.specs.Acts.{Stepped}
use Rattle.pkt_face.specs.declared.line.Sign.{Sign}
use Rattle.pkt_face.specs.declared.line.Sign.TheVariants.{Enqueue, Dequeue, Drop as DropSign, Save as SaveSign}
use Rattle.queue_discs.specs.declared.disc.Next.{Next}
use Rattle.queue_discs.specs.declared.disc.Next.TheVariants.{Frame, Wait as WaitUntil, Empty}
use Rattle.queue_discs.specs.Answers.{Taken, next}
use Rattle.queue_discs.specs.Disc.{PlainDisc, is_full, with_frame}
use Rattle.queue_discs.proofs.DiscLaws.{AllHeld-next, AllHeld-with_frame, IfFrame, IfFrame-next}
use Rattle.p2p_dev.specs.declared.In.TheVariants.{Start as LinkStart, Sent as LinkSent, Arrive as LinkArrive}
use Rattle.p2p_dev.specs.Device.{IsDevice as IsLinkDevice}
use Rattle.p2p_dev.specs.Step.{Own, step as link_step}
use Rattle.csma_dev.specs.Device.{IsDevice as IsLanDevice}
use Rattle.csma_dev.specs.declared.words.In.TheVariants.{BusFree as LanFree, BackoffOver as LanOver, Arrive as LanArrive}
use Rattle.csma_dev.specs.Step.{Shared, step as lan_step}
use Rattle.csma_dev.specs.Step as lan
use Rattle.iface_step.specs.declared.words.Act.{Act}
use Rattle.iface_step.specs.declared.words.Act.TheVariants.{Schedule, Write, Up, Dropped}
use Rattle.iface_step.specs.declared.words.Happening.{Happening}
use Rattle.iface_step.specs.declared.words.Happening.TheVariants.{Arrive, Sent, BusFree, BackoffOver, DiscReady, ArpTimer}
use Rattle.iface_step.specs.declared.words.Place.{Place}
use Rattle.iface_step.specs.Attachment.{PlainAttachment, PlainLanEnd, PlainLinkEnd, OnLan, OnLink, is_sending, least_frame, neighbours}
use Rattle.iface_step.specs.declared.device.DeviceAct.{DeviceAct}
use Rattle.iface_step.specs.declared.device.DeviceAct.TheVariants.{Tell, Wait, Reach, Save, Lose, Lift}
use Rattle.iface_step.specs.Devices.{Begin, Over, Again, Come, Turn, device_steps, lan_turn, link_takes, link_turn, of_lan, of_link, turn_at}
use Rattle.iface_step.specs.Down.{asked_down, asks_disc, begins, carried_down, ends, frees, offered, over, retries, send_frame, take, taken, takes, tries_again, with_offer}
use Rattle.iface_step.specs.Frames.{lan_frame, link_frame, padded}
use Rattle.iface_step.specs.Iface.{PlainIface}
use Rattle.iface_step.specs.Transit.{Transit, asking, captured, told, with_disc, with_ready_later}
use Rattle.node_rules.specs.Health.{HasFrames, IsAttached, IsPaced}
use Rattle.node_rules.specs.Shape.{Wire, delay_of, least_on, wire_of}
use Rattle.node_rules.proofs.DeviceActs.{AreDeviceActs, IsDeviceAct, IsLanStep, again-step, comes-step, free-step, link-begins, link-comes, tries-delay, tries-step}
use Rattle.node_rules.proofs.Lists.{IsAmong, each-among, each-append, each-flat, each-map, each-over}
use Rattle.node_rules.proofs.Pacing.{IsWaitLater, later-next, paced-next}

-- an event of an interface itself
abbrev pub IsOwn : Happening Packet → Type 0
IsOwn (Arrive frame) = ⊥
IsOwn Sent = Unit {0}
IsOwn BusFree = Unit {0}
IsOwn BackoffOver = Unit {0}
IsOwn DiscReady = Unit {0}
IsOwn (ArpTimer addr stamp) = Unit {0}

-- a frame of so many bytes that arrives
abbrev pub IsArrival : ℕ → Happening Packet → Type 0
IsArrival least (Arrive frame) = least ≤ len frame
IsArrival least Sent = ⊥
IsArrival least BusFree = ⊥
IsArrival least BackoffOver = ⊥
IsArrival least DiscReady = ⊥
IsArrival least (ArpTimer addr stamp) = ⊥

-- a frame reaches a neighbour, no sooner than the delay
pub record IsReach (now : ℕ) (i : PlainIface) (at : Time) (to : Place) (what : Happening Packet) : Type 0 where
  pub among : IsAmong to (neighbours i.at)
  pub late : now + delay_of i.at ≤ at.0
  pub arrival : IsArrival (least_frame i.at) what

-- what an interface schedules comes later, and it is for the interface itself, or a frame reaches a neighbour
abbrev pub IsIfaceAct : ℕ → PlainIface → Act Packet → Type 0
IsIfaceAct now i (Schedule at to what) = (now < at.0) × (((to ≡ i.place) × IsOwn what) ⊎ IsReach now i at to what)
IsIfaceAct now i (Write sign frame) = Unit {0}
IsIfaceAct now i (Up packet) = Unit {0}
IsIfaceAct now i Dropped = Unit {0}

abbrev pub AreIfaceActs : ℕ → PlainIface → List (Act Packet) → Type 0
AreIfaceActs now i acts = AllByRecursion (IsIfaceAct now i) acts

-- an interface that is where it was, and all else that is well where it began well
pub record Moves (ok : Type 0) (now : ℕ) (i : PlainIface) (t : Transit) : Type 0 where
  pub place : t.iface.place ≡ i.place
  pub wire : wire_of t.iface.at ≡ wire_of i.at
  pub device : ok → IsAttached t.iface.at
  pub paced : ok → IsPaced t.iface.disc.bucket
  pub frames : ok → HasFrames (least_frame i.at) t.iface.disc
  pub acts : ok → AreIfaceActs now i t.acts

pub least-wire : (at : PlainAttachment) → least_frame at ≡ least_on (wire_of at).lan
least-wire (OnLink e) = refl
least-wire (OnLan e) = refl

over-own : (at : PlainAttachment) → IsOwn (over at)
over-own (OnLink e) = tt
over-own (OnLan e) = tt

pub link-long : (packet : Packet) → 2 ≤ len (link_frame packet)
link-long packet = omega (arith, len-push_front Ppp (0 ∷ 0x21 ∷ []) packet)

padded-long : (packet : Packet) → 46 ≤ len (padded packet)
padded-long packet =
    cond_both (nat_lt (len packet) 46) (push_back Pad (replicate (46 - len packet) 0) packet) packet (λ q. 46 ≤ len q)
    (λ few. let less = ltb-true (len packet) 46 few in
    omega (arith, less, len-push_back Pad (replicate (46 - len packet) 0) packet, length-replicate {A = ℕ} (46 - len packet) 0))
    (λ many. ltb-false (len packet) 46 many)

-- a frame of a LAN has its header and trailer, whatever its packet
pub lan-long : (to from : List ℕ) (proto : ℕ) (packet : Packet) → 18 ≤ len (lan_frame to from proto packet)
lan-long to from proto packet =
    let behind : Packet = push_back Trailer (0 ∷ 0 ∷ 0 ∷ 0 ∷ []) (padded packet) in
    let long : 46 ≤ len (padded packet) = padded-long packet in
    omega (
      arith,
      long,
      len-push_back Trailer (0 ∷ 0 ∷ 0 ∷ 0 ∷ []) (padded packet),
      len-push_front Ethernet (ethernet_bytes (record { dst = to; src = from; proto = proto })) behind,
    )

pub least-most : (at : PlainAttachment) → least_frame at ≤ 18
least-most (OnLink e) = omega arith
least-most (OnLan e) = omega arith

-- a turn of the device keeps all well, and asks for what devices ask for
pub record IsTurn (ok : Type 0) (now : ℕ) (i : PlainIface) (turn : Turn) : Type 0 where
  pub transit : Moves ok now i turn.transit
  pub acts : ok → AreDeviceActs now (delay_of i.at) (least_frame i.at) turn.acts

-- a wire with this delay
abbrev link-wire_by : PlainLinkEnd → ℕ → Wire
link-wire_by e delay = record { lan = None; reaches = e.peer ∷ []; delay = delay }

abbrev lan-wire_by : PlainLanEnd → ℕ → Wire
lan-wire_by e delay = record { lan = Some e.lan; reaches = e.others; delay = delay }

module _ (ok : Type 0) (now : Time) (i : PlainIface) where
  abbrev M : Transit → Type 0
  M t = Moves ok now.0 i t

  abbrev T : Turn → Type 0
  T turn = IsTurn ok now.0 i turn

  pub asking-moves : (acts : List (Act Packet)) (t : Transit) → (ok → AreIfaceActs now.0 i acts) → M t → M (asking acts t)
  asking-moves acts t more m = record {
    place = m.place;
    wire = m.wire;
    device = m.device;
    paced = m.paced;
    frames = m.frames;
    acts = λ o. each-append (IsIfaceAct now.0 i) t.acts acts (m.acts o) (more o);
  }

  disc-moves : (disc : PlainDisc) (t : Transit) → (ok → IsPaced disc.bucket) → (ok → HasFrames (least_frame i.at) disc) → M t → M (with_disc disc t)
  disc-moves disc t paced frames m =
      record { place = m.place; wire = m.wire; device = m.device; paced = paced; frames = frames; acts = m.acts }

  ready-moves : (later : Bool) (t : Transit) → M t → M (with_ready_later later t)
  ready-moves later t m =
      record { place = m.place; wire = m.wire; device = m.device; paced = m.paced; frames = m.frames; acts = m.acts }

  pub told-acts : (j : PlainIface) (sign : Sign) (frame : Packet) → AreIfaceActs now.0 i (told j sign frame)
  told-acts j sign frame = cond_both j.told (Write sign frame ∷ []) [] (AreIfaceActs now.0 i) (λ _. (tt, tt)) (λ _. tt)

  pub captured-acts : (j : PlainIface) (frame : Packet) → AreIfaceActs now.0 i (captured j frame)
  captured-acts j frame = cond_both j.captured (Write SaveSign frame ∷ []) [] (AreIfaceActs now.0 i) (λ _. (tt, tt)) (λ _. tt)

  -- a device of a link

  module _ (e : PlainLinkEnd) (s : Own) (t : Transit) (is : t.iface.at ≡ OnLink e) (m : M t) where
    link-wire : wire_of (OnLink e) ≡ wire_of i.at
    link-wire = sym (ap wire_of is) ∙ m.wire

    link-least : 2 ≡ least_frame i.at
    link-least = ap (λ (w : Wire). least_on w.lan) link-wire ∙ sym (least-wire i.at)

    link-device : ok → IsLinkDevice e.device
    link-device o = subst IsAttached is (m.device o)

    link-is-turn : s.device.delay ≡ e.device.delay → (IsLinkDevice e.device → IsLinkDevice s.device) →
        (ok → AreDeviceActs now.0 e.device.delay 2 (map of_link s.acts)) → T (link_turn e s t)
    link-is-turn delay device acts = record {
      transit = record {
        place = m.place;
        wire = ap (link-wire_by e) delay ∙ link-wire;
        device = λ o. device (link-device o);
        paced = m.paced;
        frames = m.frames;
        acts = m.acts;
      };
      acts = λ o. subst (λ (d : ℕ). AreDeviceActs now.0 d (least_frame i.at) (map of_link s.acts)) (ap (λ (w : Wire). w.delay) link-wire)
          (subst (λ (l : ℕ). AreDeviceActs now.0 e.device.delay l (map of_link s.acts)) link-least (acts o));
    }

  -- a device of a LAN

  module _ (e : PlainLanEnd) (s : Shared) (t : Transit) (is : t.iface.at ≡ OnLan e) (m : M t) where
    lan-wire : wire_of (OnLan e) ≡ wire_of i.at
    lan-wire = sym (ap wire_of is) ∙ m.wire

    pub lan-least : 18 ≡ least_frame i.at
    lan-least = ap (λ (w : Wire). least_on w.lan) lan-wire ∙ sym (least-wire i.at)

    lan-device : ok → IsLanDevice e.device
    lan-device o = subst IsAttached is (m.device o)

    lan-is-turn : (ok → IsLanStep now.0 e.device s) → s.device.delay ≡ e.device.delay → T (lan_turn e s t)
    lan-is-turn step delay = record {
      transit = record {
        place = m.place;
        wire = ap (lan-wire_by e) delay ∙ lan-wire;
        device = λ o. (step o).device (lan-device o);
        paced = m.paced;
        frames = m.frames;
        acts = m.acts;
      };
      acts = λ o. subst (λ (d : ℕ). AreDeviceActs now.0 d (least_frame i.at) (map of_lan s.acts)) (ap (λ (w : Wire). w.delay) lan-wire)
          (subst (λ (l : ℕ). AreDeviceActs now.0 e.device.delay l (map of_lan s.acts)) lan-least ((step o).acts (lan-device o)));
    }

  -- what happens to a device of either kind

  begin-turn : (at : PlainAttachment) (frame : Packet) (t : Transit) → t.iface.at ≡ at → (ok → least_frame i.at ≤ len frame) → M t →
      T (turn_at at (Begin now frame) t)
  begin-turn (OnLink e) frame t is long m =
      let s : Own = link_step e.device t.random (LinkStart now frame) in
      link-is-turn e s t is m refl (λ d. d)
      (λ o. link-begins now frame e.device t.random
      (subst (λ (l : ℕ). l ≤ len frame) (sym (link-least e s t is m)) (long o)) (link-device e s t is m o))
  begin-turn (OnLan e) frame t is long m =
      let s : Shared = lan.tries_once now.0 frame 0 e.device t.bus t.random in
      let step : (IsLanDevice e.device → 18 ≤ len frame) → IsLanStep now.0 e.device s = tries-step now.0 frame 0 e.device t.bus t.random in
      lan-is-turn e s t is m
      (λ o. step (λ d. subst (λ (l : ℕ). l ≤ len frame) (sym (lan-least e s t is m)) (long o))) (tries-delay now.0 frame 0 e.device t.bus t.random)

  over-turn : (at : PlainAttachment) (t : Transit) → t.iface.at ≡ at → M t → T (turn_at at Over t)
  over-turn (OnLink e) t is m = link-is-turn e (link_step e.device t.random LinkSent) t is m refl (λ d. d) (λ o. tt)
  over-turn (OnLan e) t is m =
      let s : Shared = lan_step e.device t.bus t.random LanFree in
      let step : IsLanStep now.0 e.device s = free-step now.0 e.device t.bus t.random in lan-is-turn e s t is m (λ o. step) step.delay

  again-turn : (at : PlainAttachment) (t : Transit) → t.iface.at ≡ at → M t → T (turn_at at (Again now) t)
  again-turn (OnLink e) t is m = link-is-turn e (link_takes (Again now) e.device t.random) t is m refl (λ d. d) (λ o. tt)
  again-turn (OnLan e) t is m =
      let s : Shared = lan_step e.device t.bus t.random (LanOver now) in
      let step : IsLanStep now.0 e.device s = again-step now.0 e.device t.bus t.random in lan-is-turn e s t is m (λ o. step) step.delay

  pub come-turn : (at : PlainAttachment) (frame : Packet) (t : Transit) → t.iface.at ≡ at → M t → T (turn_at at (Come frame) t)
  come-turn (OnLink e) frame t is m =
      let s : Own = link_step e.device t.random (LinkArrive frame) in
      link-is-turn e s t is m refl (λ d. d) (λ o. link-comes now.0 e.device.delay 2 frame e.device t.random)
  come-turn (OnLan e) frame t is m =
      let s : Shared = lan_step e.device t.bus t.random (LanArrive frame) in
      let step : IsLanStep now.0 e.device s = comes-step now.0 frame e.device t.bus t.random in lan-is-turn e s t is m (λ o. step) step.delay

  -- what a device asks for is carried out

  asked-acts : (j : PlainIface) → j.place ≡ i.place → wire_of j.at ≡ wire_of i.at → (act : DeviceAct Packet) →
      IsDeviceAct now.0 (delay_of i.at) (least_frame i.at) act → AreIfaceActs now.0 i (asked_down j act)
  asked-acts j place wire (Tell at) is = ((is, inl (place, over-own j.at)), tt)
  asked-acts j place wire (Wait at) is = ((is, inl (place, tt)), tt)
  asked-acts j place wire (Reach at frame) is =
      each-over (IsIfaceAct now.0 i) (λ to. Schedule at to (Arrive frame)) (neighbours j.at)
      (each-map (λ to. IsAmong to (neighbours j.at)) (λ to. IsIfaceAct now.0 i (Schedule at to (Arrive frame)))
      (λ to among. (
        is.0,
        inr (record {
          among = subst (λ (places : List Place). IsAmong to places) (ap (λ (w : Wire). w.reaches) wire) among;
          late = is.1;
          arrival = is.2;
        }),
      ))
      (neighbours j.at) (each-among (neighbours j.at)))
  asked-acts j place wire (Save frame) is = captured-acts j frame
  asked-acts j place wire (Lose frame) is = told-acts j DropSign frame
  asked-acts j place wire (Lift proto packet) is = tt

  carried-moves : (turn : Turn) → T turn → M (carried_down turn)
  carried-moves turn k =
      asking-moves (flat_map (asked_down turn.transit.iface) turn.acts) turn.transit
      (λ o. each-flat (IsIfaceAct now.0 i) (IsDeviceAct now.0 (delay_of i.at) (least_frame i.at)) (asked_down turn.transit.iface)
      (λ act is. asked-acts turn.transit.iface k.transit.place k.transit.wire act is) turn.acts (k.acts o))
      k.transit

  begins-moves : (frame : Packet) (t : Transit) → (ok → least_frame i.at ≤ len frame) → M t → M (begins now frame t)
  unfolding begins
  begins-moves frame t long m =
      let first : Transit = asking (told t.iface Dequeue frame) t in
      carried-moves (device_steps (Begin now frame) first)
      (begin-turn first.iface.at frame first refl long (asking-moves (told t.iface Dequeue frame) t (λ o. told-acts t.iface Dequeue frame) m))

  takes-moves : (answer : Next Packet) (t : Transit) → (ok → IfFrame (λ frame. least_frame i.at ≤ len frame) answer) →
      (ok → IsWaitLater now.0 answer) → M t → M (takes now answer t)
  takes-moves (Frame frame) t long later m = begins-moves frame t long m
  takes-moves (WaitUntil at) t long later m =
      asking-moves (Schedule at t.iface.place DiscReady ∷ []) (with_ready_later true t)
      (λ o. ((later o, inl (m.place, tt)), tt)) (ready-moves true t m)
  takes-moves Empty t long later m = m

  pub take-moves : (t : Transit) → M t → M (take now t)
  unfolding take
  take-moves t m =
      let s : Taken = next now.0 t.iface.disc in
      cond_both (is_sending t.iface.at || t.iface.ready_later) t (taken now s t) M (λ busy. m)
      (λ idle. takes-moves s.answer (with_disc s.disc t)
      (λ o. IfFrame-next (λ frame. least_frame i.at ≤ len frame) now.0 t.iface.disc (m.frames o))
      (λ o. later-next now.0 t.iface.disc (m.paced o))
      (disc-moves s.disc t (λ o. paced-next now.0 t.iface.disc (m.paced o))
      (λ o. AllHeld-next (λ frame. least_frame i.at ≤ len frame) now.0 t.iface.disc (m.frames o)) m))

  offered-moves : (frame : Packet) (t : Transit) → (ok → least_frame i.at ≤ len frame) → M t → M (with_offer (offered frame t.iface) t)
  unfolding offered
  offered-moves frame t long m =
      let disc : PlainDisc = with_frame frame t.iface.disc in
      cond_both (is_full t.iface.disc) (record { state = t.iface; acts = told t.iface DropSign frame })
      (record { state = record t.iface { disc = disc }; acts = told t.iface Enqueue frame }) (λ (s : Stepped PlainIface (Act Packet)). M (with_offer s t))
      (λ full. asking-moves (told t.iface DropSign frame) t (λ o. told-acts t.iface DropSign frame) m)
      (λ room. asking-moves (told t.iface Enqueue frame) (with_disc disc t) (λ o. told-acts t.iface Enqueue frame)
      (disc-moves disc t m.paced
      (λ o. AllHeld-with_frame (λ f. least_frame i.at ≤ len f) frame t.iface.disc (long o) (m.frames o)) m))

  pub send_frame-moves : (frame : Packet) (t : Transit) → (ok → least_frame i.at ≤ len frame) → M t → M (send_frame now frame t)
  unfolding send_frame
  send_frame-moves frame t long m = take-moves (with_offer (offered frame t.iface) t) (offered-moves frame t long m)

  pub frees-moves : (t : Transit) → M t → M (frees now t)
  unfolding frees ends
  frees-moves t m = take-moves (device_steps Over t).transit (over-turn t.iface.at t refl m).transit

  pub tries_again-moves : (t : Transit) → M t → M (tries_again now t)
  unfolding tries_again retries
  tries_again-moves t m =
      cond_both (is_sending t.iface.at) (take now (carried_down (device_steps (Again now) t))) t M
      (λ waits. take-moves (carried_down (device_steps (Again now) t))
      (carried-moves (device_steps (Again now) t) (again-turn t.iface.at t refl m)))
      (λ idle. m)

  pub asks_disc-moves : (t : Transit) → M t → M (asks_disc now t)
  unfolding asks_disc
  asks_disc-moves t m = take-moves (with_ready_later false t) (ready-moves false t m)
