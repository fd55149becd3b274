-- What a step of an interface asks for, and what it leaves alone.
use Rattle.std.proofs.Common.{◌≡◌, ℕ, Bool, List, [], ◌∷◌, refl, subst}
use Rattle.std.specs.List.{AllByRecursion, flat_map}
use Rattle.std.proofs.lemmas.Bool.{cond_both}
use Rattle.std.proofs.lemmas.List.Concat.{flat_map-cons}
use Rattle.sim_base.specs.declared.numbers.Numbers.{Numbers}
use Rattle.sim_base.specs.declared.time.Time.{Time}
use Rattle.sim_base.specs.Draws.{PlainRandom}
use Rattle.sim_base.specs.Packet.{Packet}
use Rattle.pkt_face.specs.declared.line.Sign.{Sign}
use Rattle.pkt_face.specs.declared.line.Sign.TheVariants.{Enqueue, Dequeue, Drop as DropSign, Save as SaveSign}
use Rattle.layer_words.specs.Acts.{Stepped}
use Rattle.queue_discs.specs.declared.disc.Next.{Next}
use Rattle.queue_discs.specs.declared.disc.Next.TheVariants.{Frame, Wait as WaitUntil, Empty}
use Rattle.queue_discs.specs.Answers.{next}
use Rattle.queue_discs.specs.Disc.{is_full, with_frame}
use Rattle.csma_dev.specs.declared.bus.Bus.{Bus}
use Rattle.arp_core.specs.declared.words.In.{In as ArpIn}
use Rattle.iface_step.specs.declared.device.DeviceAct.{DeviceAct}
use Rattle.iface_step.specs.declared.device.DeviceAct.TheVariants.{Tell, Wait, Reach, Save, Lose, Lift}
use Rattle.iface_step.specs.declared.words.Act.{Act}
use Rattle.iface_step.specs.declared.words.Act.TheVariants.{Schedule, Dropped}
use Rattle.iface_step.specs.declared.words.Happening.{Happening}
use Rattle.iface_step.specs.declared.words.Happening.TheVariants.{Arrive, Sent, BusFree, BackoffOver, DiscReady, ArpTimer}
use Rattle.iface_step.specs.declared.words.In.{In}
use Rattle.iface_step.specs.declared.words.In.TheVariants.{Send, Happens}
use Rattle.iface_step.specs.declared.words.Place.{Place}
use Rattle.iface_step.specs.Attachment.{PlainAttachment, PlainLinkEnd, OnLink, OnLan, least_frame, neighbours}
use Rattle.iface_step.specs.Devices.{DeviceIn, Again, Begin, Come, Over, turn_at}
use Rattle.iface_step.specs.Down.{arrivals, asked_down, begins, carried_down, ends, offered, retries, takes, with_offer}
use Rattle.iface_step.specs.Iface.{PlainIface}
use Rattle.iface_step.specs.Law.{BringsNoFrame, IsFor, IsIface, IsLater, IsNear, IsOwn, StaysBelow, time_of}
use Rattle.iface_step.specs.Resolution.{arp_takes, arp_takes_at}
use Rattle.iface_step.specs.Step.{handled, happened, step}
use Rattle.iface_step.specs.Transit.{Progress, Transit, asking, asks, in_transit, line, told, transit_of, with_disc}
use Rattle.iface_step.proofs.Glue.{KeepsArp, KeepsComing, KeepsDown, KeepsOwn, arp_takes_keeps, attached, comes_keeps, happened_keeps, sends_keeps}
use Rattle.iface_step.proofs.Sound.{Allows, IsOn, all-append, all-line, on_coming}

-- a fact that the parts keep is kept by every step

happens_keeps : (now : Time) (G : Progress → Type 0) → KeepsComing now G → (what : Happening Packet) (p : Progress) → G p → G (happened now what p)
unfolding happened
happens_keeps now G keeps (Arrive frame) p h = comes_keeps now G keeps frame p h
happens_keeps now G keeps Sent p h = happened_keeps now G keeps.own Sent p tt h
happens_keeps now G keeps BusFree p h = happened_keeps now G keeps.own BusFree p tt h
happens_keeps now G keeps BackoffOver p h = happened_keeps now G keeps.own BackoffOver p tt h
happens_keeps now G keeps DiscReady p h = happened_keeps now G keeps.own DiscReady p tt h
happens_keeps now G keeps (ArpTimer addr stamp) p h = happened_keeps now G keeps.own (ArpTimer addr stamp) p tt h

handled_keeps : (G : Progress → Type 0) → ((now : Time) → KeepsComing now G) → (input : In Packet) (p : Progress) → G p → G (handled input p)
unfolding handled
handled_keeps G keeps (Send now hop packet) p h = sends_keeps now G (keeps now).own hop packet p h
handled_keeps G keeps (Happens now what) p h = happens_keeps now G (keeps now) what p h

-- the same of a step at whose time alone the parts keep it
timed_keeps : (G : Progress → Type 0) (input : In Packet) → ((now : Time) → now.0 ≡ time_of input → KeepsComing now G) → (p : Progress) → G p → G (handled input p)
unfolding handled
timed_keeps G (Send now hop packet) keeps p h = sends_keeps now G (keeps now refl).own hop packet p h
timed_keeps G (Happens now what) keeps p h = happens_keeps now G (keeps now refl) what p h

-- acts come later

later-allows : (now : ℕ) (i : PlainIface) → Allows now i.place (neighbours i.at) (least_frame i.at) (IsLater now)
later-allows now i = record {
  own = λ at what later own. later;
  reach = λ at to frame later among long. later;
  writes = λ sign frame. tt;
  ups = λ packet. tt;
  drops = tt;
}

opening : (i : PlainIface) (bus : Bus) (r : PlainRandom) (n : Numbers) (Q : Act Packet → Type 0) → IsIface i →
    IsOn i.place (neighbours i.at) (least_frame i.at) Q (record { iface = i; bus = bus; random = r; numbers = n; acts = [] })
opening i bus r n Q fine = record { place_is = refl; near_is = refl; least_is = refl; fine = fine; acts = tt }

pub step_is_later : (i : PlainIface) (bus : Bus) (r : PlainRandom) (n : Numbers) (input : In Packet) → IsIface i →
    AllByRecursion (IsLater (time_of input)) (step i bus r n input).acts
step_is_later i bus r n input fine =
    (timed_keeps (IsOn i.place (neighbours i.at) (least_frame i.at) (IsLater (time_of input))) input
    (λ now is. on_coming now i.place (neighbours i.at) (least_frame i.at) (IsLater (time_of input))
    (subst (λ (t : ℕ). Allows now.0 i.place (neighbours i.at) (least_frame i.at) (IsLater t)) is (later-allows now.0 i)))
    (record { iface = i; bus = bus; random = r; numbers = n; acts = [] }) (opening i bus r n (IsLater (time_of input)) fine)).acts

-- acts are for the interface itself, or bring a neighbour a frame

own-near : (i : PlainIface) (what : Happening Packet) → IsOwn what → IsFor i i.place what
own-near i (Arrive frame) own = absurd own
own-near i Sent own = refl
own-near i BusFree own = refl
own-near i BackoffOver own = refl
own-near i DiscReady own = refl
own-near i (ArpTimer addr stamp) own = refl

near-allows : (now : ℕ) (i : PlainIface) → Allows now i.place (neighbours i.at) (least_frame i.at) (IsNear i)
near-allows now i = record {
  own = λ at what later own. own-near i what own;
  reach = λ at to frame later among long. (among, long);
  writes = λ sign frame. tt;
  ups = λ packet. tt;
  drops = tt;
}

pub step_is_near : (i : PlainIface) (bus : Bus) (r : PlainRandom) (n : Numbers) (input : In Packet) → IsIface i →
    AllByRecursion (IsNear i) (step i bus r n input).acts
step_is_near i bus r n input fine =
    (handled_keeps (IsOn i.place (neighbours i.at) (least_frame i.at) (IsNear i)) (λ now. on_coming now i.place (neighbours i.at) (least_frame i.at) (IsNear i) (near-allows now.0 i)) input
    (record { iface = i; bus = bus; random = r; numbers = n; acts = [] }) (opening i bus r n (IsNear i) fine)).acts

-- nothing goes up where no frame comes

abbrev AllBelow : List (Act Packet) → Type 0
AllBelow acts = AllByRecursion StaysBelow acts

abbrev IsBelow : Progress → Type 0
IsBelow p = AllBelow p.acts

below-line : (wanted : Bool) (sign : Sign) (frame : Packet) → AllBelow (line wanted sign frame)
below-line wanted sign frame = all-line StaysBelow wanted sign frame tt

below-arrivals : (at : Time) (frame : Packet) (places : List Place) → AllBelow (arrivals places at frame)
below-arrivals at frame [] = tt
below-arrivals at frame (place ∷ places) = (tt, below-arrivals at frame places)

below-asked : (i : PlainIface) (act : DeviceAct Packet) → AllBelow (asked_down i act)
below-asked i (Tell at) = (tt, tt)
below-asked i (Wait at) = (tt, tt)
below-asked i (Reach at frame) = below-arrivals at frame (neighbours i.at)
below-asked i (Save frame) = below-line i.captured SaveSign frame
below-asked i (Lose frame) = below-line i.told DropSign frame
below-asked i (Lift proto packet) = tt

below-flat : (i : PlainIface) (acts : List (DeviceAct Packet)) → AllBelow (flat_map (asked_down i) acts)
below-flat i [] = tt
below-flat i (act ∷ acts) =
    rw (flat_map-cons (asked_down i) act acts) (all-append StaysBelow (asked_down i act) (flat_map (asked_down i) acts) (below-asked i act) (below-flat i acts))

below-turn : (at : PlainAttachment) (input : DeviceIn) (t : Transit) → AllBelow t.acts → AllBelow (turn_at at input t).transit.acts
below-turn (OnLink e) input t h = h
below-turn (OnLan e) input t h = h

below-carried : (at : PlainAttachment) (input : DeviceIn) (t : Transit) → AllBelow t.acts → AllBelow (carried_down (turn_at at input t)).acts
below-carried at input t h =
    all-append StaysBelow (turn_at at input t).transit.acts _ (below-turn at input t h) (below-flat (turn_at at input t).transit.iface (turn_at at input t).acts)

below-begins : (now : Time) (frame : Packet) (t : Transit) → AllBelow t.acts → AllBelow (begins now frame t).acts
unfolding begins
below-begins now frame t h =
    below-carried t.iface.at (Begin now frame) (asking (told t.iface Dequeue frame) t) (all-append StaysBelow t.acts (told t.iface Dequeue frame) h (below-line t.iface.told Dequeue frame))

below-takes : (now : Time) (answer : Next Packet) (t : Transit) → AllBelow t.acts → AllBelow (takes now answer t).acts
below-takes now (Frame frame) t h = below-begins now frame t h
below-takes now (WaitUntil until) t h = all-append StaysBelow t.acts (Schedule until t.iface.place DiscReady ∷ []) h (tt, tt)
below-takes now Empty t h = h

below-offers : (p : Progress) (frame : Packet) → IsBelow p → IsBelow (in_transit (with_offer (offered frame p.iface)) p)
unfolding offered
below-offers p frame h =
    cond_both (is_full p.iface.disc)
    (record { state = p.iface; acts = told p.iface DropSign frame })
    (record { state = record p.iface { disc = with_frame frame p.iface.disc }; acts = told p.iface Enqueue frame })
    (λ (s : Stepped PlainIface (Act Packet)). IsBelow (in_transit (with_offer s) p))
    (λ _. all-append StaysBelow p.acts (told p.iface DropSign frame) h (below-line p.iface.told DropSign frame))
    (λ _. all-append StaysBelow p.acts (told p.iface Enqueue frame) h (below-line p.iface.told Enqueue frame))

below-ends : (p : Progress) → IsBelow p → IsBelow (in_transit ends p)
unfolding ends
below-ends p h = below-turn p.iface.at Over (transit_of p) h

below-retries : (now : Time) (p : Progress) → IsBelow p → IsBelow (in_transit (retries now) p)
unfolding retries
below-retries now p h = below-carried p.iface.at (Again now) (transit_of p) h

below-down : (now : Time) → KeepsDown now IsBelow
below-down now = record {
  offers = λ p frame long h. below-offers p frame h;
  takes = λ p h. below-takes now (next now.0 p.iface.disc).answer (with_disc (next now.0 p.iface.disc).disc (transit_of p)) h;
  ends = below-ends;
  retries = below-retries now;
  ready = λ p h. h;
}

below-asks : (p : Progress) (act : Act Packet) → StaysBelow act → IsBelow p → IsBelow (asks act p)
below-asks p act below h = all-append StaysBelow p.acts (act ∷ []) h (below, tt)

below-arp : (now : Time) → KeepsArp now IsBelow
below-arp now = record {
  down = below-down now;
  timers = λ p at addr stamp later h. below-asks p (Schedule at p.iface.place (ArpTimer addr stamp)) tt h;
  drops = λ p h. below-asks p Dropped tt h;
  caches = λ p e cache numbers h. h;
  numbers = λ p h. h;
}

below-own : (now : Time) → KeepsOwn now IsBelow
below-own now = record {
  down = below-down now;
  drops = λ p h. below-asks p Dropped tt h;
  arps = λ p input later h. arp_takes_keeps now IsBelow (below-arp now) input later p h;
}

below-handled : (input : In Packet) (p : Progress) → BringsNoFrame input → IsBelow p → IsBelow (handled input p)
unfolding handled
below-handled (Send now hop packet) p own h = sends_keeps now IsBelow (below-own now) hop packet p h
below-handled (Happens now what) p own h = happened_keeps now IsBelow (below-own now) what p own h

pub step_stays_below : (i : PlainIface) (bus : Bus) (r : PlainRandom) (n : Numbers) (input : In Packet) → BringsNoFrame input →
    AllByRecursion StaysBelow (step i bus r n input).acts
step_stays_below i bus r n input own = below-handled input (record { iface = i; bus = bus; random = r; numbers = n; acts = [] }) own tt

-- a link has no bus, and numbers nothing

abbrev IsOnLink : PlainAttachment → Type 0
IsOnLink (OnLink e) = Unit {0}
IsOnLink (OnLan e) = ⊥

record LeavesAlone (bus : Bus) (n : Numbers) (p : Progress) : Type 0 where
  link : IsOnLink p.iface.at
  bus_is : p.bus ≡ bus
  numbers_is : p.numbers ≡ n

alone-turn : (bus : Bus) (n : Numbers) (at : PlainAttachment) (input : DeviceIn) (p : Progress) → LeavesAlone bus n (attached at p) →
    LeavesAlone bus n (in_transit (λ t. (turn_at at input t).transit) (attached at p))
alone-turn bus n (OnLink e) input p h = record { link = tt; bus_is = h.bus_is; numbers_is = h.numbers_is }
alone-turn bus n (OnLan e) input p h = absurd h.link

alone-carried : (bus : Bus) (n : Numbers) (at : PlainAttachment) (input : DeviceIn) (p : Progress) → LeavesAlone bus n (attached at p) →
    LeavesAlone bus n (in_transit (λ t. carried_down (turn_at at input t)) (attached at p))
alone-carried bus n (OnLink e) input p h = record { link = tt; bus_is = h.bus_is; numbers_is = h.numbers_is }
alone-carried bus n (OnLan e) input p h = absurd h.link

alone-begins : (bus : Bus) (n : Numbers) (now : Time) (frame : Packet) (p : Progress) → LeavesAlone bus n p → LeavesAlone bus n (in_transit (begins now frame) p)
unfolding begins
alone-begins bus n now frame p h =
    alone-carried bus n p.iface.at (Begin now frame) (in_transit (asking (told p.iface Dequeue frame)) p) (record { link = h.link; bus_is = h.bus_is; numbers_is = h.numbers_is })

alone-takes : (bus : Bus) (n : Numbers) (now : Time) (answer : Next Packet) (p : Progress) → LeavesAlone bus n p → LeavesAlone bus n (in_transit (takes now answer) p)
alone-takes bus n now (Frame frame) p h = alone-begins bus n now frame p h
alone-takes bus n now (WaitUntil until) p h = record { link = h.link; bus_is = h.bus_is; numbers_is = h.numbers_is }
alone-takes bus n now Empty p h = h

alone-offers : (bus : Bus) (n : Numbers) (p : Progress) (frame : Packet) → LeavesAlone bus n p → LeavesAlone bus n (in_transit (with_offer (offered frame p.iface)) p)
unfolding offered
alone-offers bus n p frame h =
    cond_both (is_full p.iface.disc)
    (record { state = p.iface; acts = told p.iface DropSign frame })
    (record { state = record p.iface { disc = with_frame frame p.iface.disc }; acts = told p.iface Enqueue frame })
    (λ (s : Stepped PlainIface (Act Packet)). LeavesAlone bus n (in_transit (with_offer s) p))
    (λ _. record { link = h.link; bus_is = h.bus_is; numbers_is = h.numbers_is })
    (λ _. record { link = h.link; bus_is = h.bus_is; numbers_is = h.numbers_is })

alone-ends : (bus : Bus) (n : Numbers) (p : Progress) → LeavesAlone bus n p → LeavesAlone bus n (in_transit ends p)
unfolding ends
alone-ends bus n p h = alone-turn bus n p.iface.at Over p h

alone-retries : (bus : Bus) (n : Numbers) (now : Time) (p : Progress) → LeavesAlone bus n p → LeavesAlone bus n (in_transit (retries now) p)
unfolding retries
alone-retries bus n now p h = alone-carried bus n p.iface.at (Again now) p h

alone-arp : (bus : Bus) (n : Numbers) (now : Time) (input : ArpIn Packet) (at : PlainAttachment) (p : Progress) → LeavesAlone bus n (attached at p) → LeavesAlone bus n (arp_takes_at at now input (attached at p))
alone-arp bus n now input (OnLink e) p h = h
alone-arp bus n now input (OnLan e) p h = absurd h.link

alone-arps : (bus : Bus) (n : Numbers) (now : Time) (input : ArpIn Packet) (p : Progress) → LeavesAlone bus n p → LeavesAlone bus n (arp_takes now input p)
unfolding arp_takes
alone-arps bus n now input p h = alone-arp bus n now input p.iface.at p h

alone-coming : (bus : Bus) (n : Numbers) (now : Time) → KeepsComing now (LeavesAlone bus n)
alone-coming bus n now = record {
  own = record {
    down = record {
      offers = λ p frame long h. alone-offers bus n p frame h;
      takes = λ p h. alone-takes bus n now (next now.0 p.iface.disc).answer (in_transit (with_disc (next now.0 p.iface.disc).disc) p) (record { link = h.link; bus_is = h.bus_is; numbers_is = h.numbers_is });
      ends = alone-ends bus n;
      retries = alone-retries bus n now;
      ready = λ p h. record { link = h.link; bus_is = h.bus_is; numbers_is = h.numbers_is };
    };
    drops = λ p h. record { link = h.link; bus_is = h.bus_is; numbers_is = h.numbers_is };
    arps = λ p input later h. alone-arps bus n now input p h;
  };
  turns = λ p frame h. alone-turn bus n p.iface.at (Come frame) p h;
  receives = λ p frame h. record { link = h.link; bus_is = h.bus_is; numbers_is = h.numbers_is };
  loses = λ p frame h. record { link = h.link; bus_is = h.bus_is; numbers_is = h.numbers_is };
  ups = λ p packet h. record { link = h.link; bus_is = h.bus_is; numbers_is = h.numbers_is };
}

alone-step : (i : PlainIface) (e : PlainLinkEnd) (bus : Bus) (r : PlainRandom) (n : Numbers) (input : In Packet) → LeavesAlone bus n (step (record i { at = OnLink e }) bus r n input)
alone-step i e bus r n input =
    handled_keeps (LeavesAlone bus n) (alone-coming bus n) input (record { iface = record i { at = OnLink e }; bus = bus; random = r; numbers = n; acts = [] }) (record { link = tt; bus_is = refl; numbers_is = refl })

pub step_leaves_bus : (i : PlainIface) (e : PlainLinkEnd) (bus : Bus) (r : PlainRandom) (n : Numbers) (input : In Packet) → (step (record i { at = OnLink e }) bus r n input).bus ≡ bus
step_leaves_bus i e bus r n input = (alone-step i e bus r n input).bus_is

pub step_numbers_nothing : (i : PlainIface) (e : PlainLinkEnd) (bus : Bus) (r : PlainRandom) (n : Numbers) (input : In Packet) → (step (record i { at = OnLink e }) bus r n input).numbers ≡ n
step_numbers_nothing i e bus r n input = (alone-step i e bus r n input).numbers_is
