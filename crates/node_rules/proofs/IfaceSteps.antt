-- What a step of an interface keeps, and what it asks for: address resolution, the way up, and the whole step.
use Rattle.std.proofs.Common.{◌≡◌, ℕ, ◌≤◌, List, [], ◌∷◌, ◌++◌, Option, None, Some, refl, sym, ap, ◌∙◌, subst, arith, inl}
use Rattle.std.specs.List.{AllByRecursion}
use Rattle.std.specs.Prelude.{◌==◌, ◌||◌, if◌then◌else◌}
use Rattle.std.proofs.lemmas.Bool.{cond_both}
use Rattle.sim_base.specs.declared.numbers.Numbers.{Numbers}
use Rattle.sim_base.specs.declared.time.Time.{Time}
use Rattle.sim_base.specs.Draws.{PlainRandom}
use Rattle.sim_base.specs.Packet.{Packet, len}
use Rattle.pkt_face.specs.declared.line.Sign.TheVariants.{Drop as DropSign, Receive}
use Rattle.header_forms.specs.declared.arp.Arp.{Arp}
use Rattle.layer_words.specs.Acts.{Numbered}
use Rattle.layer_words.specs.Counting.{new_uid, with_packet}
use Rattle.csma_dev.specs.declared.bus.Bus.{Bus}
use Rattle.csma_dev.specs.Step.{broadcast}
use Rattle.arp_core.specs.declared.words.Act.{Act as ArpAct}
use Rattle.arp_core.specs.declared.words.Act.TheVariants.{SendTo, Ask, Answer, TimerAt, Dropped as ArpDropped}
use Rattle.arp_core.specs.declared.words.In.{In as ArpIn}
use Rattle.arp_core.specs.declared.words.In.TheVariants.{Resolve, Heard, Timer}
use Rattle.arp_core.specs.Cache.{PlainCache}
use Rattle.arp_core.specs.Law.{IsLater, time_of}
use Rattle.arp_core.specs.Step.{step as arp_step}
use Rattle.arp_core.proofs.StepLaws.{step_is_later}
use Rattle.iface_step.specs.declared.words.Act.{Act}
use Rattle.iface_step.specs.declared.words.Act.TheVariants.{Schedule, Up, Dropped}
use Rattle.iface_step.specs.declared.words.Happening.{Happening}
use Rattle.iface_step.specs.declared.words.Happening.TheVariants.{Arrive, Sent, BusFree, BackoffOver, DiscReady, ArpTimer}
use Rattle.iface_step.specs.declared.words.In.TheVariants.{Send, Happens}
use Rattle.iface_step.specs.Attachment.{PlainAttachment, PlainLanEnd, PlainLinkEnd, OnLan, OnLink, least_frame}
use Rattle.iface_step.specs.declared.device.DeviceAct.{DeviceAct}
use Rattle.iface_step.specs.declared.device.DeviceAct.TheVariants.{Tell, Wait, Reach, Save, Lose, Lift}
use Rattle.iface_step.specs.Devices.{Come, Turn, device_steps}
use Rattle.iface_step.specs.Down.{asks_disc, frees, send_frame, tries_again}
use Rattle.iface_step.specs.Frames.{arp_on_lan, ip_on_lan, ip_on_link, lan_frame, link_frame, message}
use Rattle.iface_step.specs.Iface.{PlainIface}
use Rattle.iface_step.specs.Resolution.{arp_takes, arp_takes_at, carry_arp, resolved, sends_message}
use Rattle.iface_step.specs.Step.{handled, happened, sends, sends_at, step}
use Rattle.iface_step.specs.Transit.{Progress, Transit, asking, asks, captured, in_transit, told, transit_of, with_attachment, with_transit}
use Rattle.iface_step.specs.Up.{carry_up, comes, hears, lifts, message_at, message_comes}
use Rattle.node_rules.specs.Health.{HasFrames, IsAttached, IsPaced}
use Rattle.node_rules.specs.Shape.{Wire, least_on, wire_of}
use Rattle.node_rules.proofs.ArpKeeps.{step-node}
use Rattle.node_rules.proofs.Folds.{fold-keeps_all}
use Rattle.node_rules.proofs.IfaceKeeps.{IsIfaceAct, Moves, asking-moves, asks_disc-moves, captured-acts, come-turn, frees-moves, lan-long, least-most, least-wire, link-long, send_frame-moves, told-acts, tries_again-moves}
use Rattle.node_rules.proofs.Lists.{each-append, fold-each}

-- an interface within the limits, before which each frame that waits has its header and trailer
pub record IsWithin (i : PlainIface) : Type 0 where
  pub device : IsAttached i.at
  pub paced : IsPaced i.disc.bucket
  pub frames : HasFrames (least_frame i.at) i.disc

-- the interface moves, and its node's number stays
pub record Goes (ok : Type 0) (now : ℕ) (i : PlainIface) (numbers : Numbers) (p : Progress) : Type 0 where
  pub moves : Moves ok now i (transit_of p)
  pub node : p.numbers.node ≡ numbers.node

module _ (ok : Type 0) (now : Time) (i : PlainIface) (numbers : Numbers) where
  abbrev G : Progress → Type 0
  G p = Goes ok now.0 i numbers p

  in_transit-goes : (f : Transit → Transit) → ((t : Transit) → Moves ok now.0 i t → Moves ok now.0 i (f t)) → (p : Progress) → G p → G (in_transit f p)
  in_transit-goes f keeps p g = record { moves = keeps (transit_of p) g.moves; node = g.node }

  asks-goes : (act : Act Packet) (p : Progress) → (ok → IsIfaceAct now.0 i act) → G p → G (asks act p)
  asks-goes act p is g = record {
    moves = asking-moves ok now i (act ∷ []) (transit_of p) (λ o. (is o, tt)) g.moves;
    node = g.node;
  }

  lan-least : (to from : List ℕ) (proto : ℕ) (packet : Packet) → least_frame i.at ≤ len (lan_frame to from proto packet)
  lan-least to from proto packet =
      let long : 18 ≤ len (lan_frame to from proto packet) = lan-long to from proto packet in
      let most : least_frame i.at ≤ 18 = least-most i.at in
      omega (arith, long, most)

  frame-goes : (to from : List ℕ) (proto : ℕ) (packet : Packet) (p : Progress) → G p →
      G (in_transit (send_frame now (lan_frame to from proto packet)) p)
  frame-goes to from proto packet p g = in_transit-goes (send_frame now (lan_frame to from proto packet))
      (λ t m. send_frame-moves ok now i (lan_frame to from proto packet) t (λ o. lan-least to from proto packet) m) p g

  sends_message-goes : (to from : List ℕ) (arp : Arp) (p : Progress) → G p → G (sends_message now to from arp p)
  unfolding sends_message
  sends_message-goes to from arp p g =
      frame-goes to from arp_on_lan (message (new_uid p.numbers) arp) (record p { numbers = with_packet p.numbers })
      (record { moves = g.moves; node = g.node })

  carry_arp-goes : (mac : List ℕ) (p : Progress) (act : ArpAct Packet) → IsLater now.0 act → G p → G (carry_arp now mac p act)
  unfolding carry_arp
  carry_arp-goes mac p (SendTo to packet) is g = frame-goes to mac ip_on_lan packet p g
  carry_arp-goes mac p (Ask arp) is g = sends_message-goes broadcast mac arp p g
  carry_arp-goes mac p (Answer arp) is g = sends_message-goes arp.target_mac mac arp p g
  carry_arp-goes mac p (TimerAt at addr stamp) is g =
      asks-goes (Schedule at p.iface.place (ArpTimer addr stamp)) p (λ o. (is, inl (g.moves.place, tt))) g
  carry_arp-goes mac p ArpDropped is g = asks-goes Dropped p (λ o. tt) g

  resolved-goes : (e : PlainLanEnd) (s : Numbered PlainCache (ArpAct Packet)) (p : Progress) → p.iface.at ≡ OnLan e →
      s.numbers.node ≡ p.numbers.node → AllByRecursion (IsLater now.0) s.acts → G p → G (resolved now e s p)
  resolved-goes e s p is node later g =
      let at : PlainAttachment = OnLan (record e { cache = s.state }) in
      let m = g.moves in
      fold-each G (IsLater now.0) (carry_arp now e.cache.mac) (λ q act h kept. carry_arp-goes e.cache.mac q act h kept) s.acts
      (record (in_transit (with_attachment at) p) { numbers = s.numbers }) later
      (record {
        moves = record {
          place = m.place;
          wire = sym (ap wire_of is) ∙ m.wire;
          device = λ o. subst IsAttached is (m.device o);
          paced = m.paced;
          frames = m.frames;
          acts = m.acts;
        };
        node = node ∙ g.node;
      })

  arp_takes_at-goes : (at : PlainAttachment) (input : ArpIn Packet) (p : Progress) → p.iface.at ≡ at → time_of input ≡ now.0 → G p →
      G (arp_takes_at at now input p)
  arp_takes_at-goes (OnLink e) input p is time g = g
  arp_takes_at-goes (OnLan e) input p is time g =
      resolved-goes e (arp_step e.cache p.numbers input) p is (step-node e.cache p.numbers input)
      (subst (λ (t : ℕ). AllByRecursion (IsLater t) (arp_step e.cache p.numbers input).acts) time (step_is_later e.cache p.numbers input)) g

  arp_takes-goes : (input : ArpIn Packet) (p : Progress) → time_of input ≡ now.0 → G p → G (arp_takes now input p)
  unfolding arp_takes
  arp_takes-goes input p time g = arp_takes_at-goes p.iface.at input p refl time g

  -- the way up

  hears-goes : (arp : Option Arp) (p : Progress) → G p → G (hears now arp p)
  hears-goes None p g = asks-goes Dropped p (λ o. tt) g
  hears-goes (Some arp) p g = arp_takes-goes (Heard now arp) p refl g

  message_comes-goes : (packet : Packet) (p : Progress) → G p → G (message_comes now packet p)
  unfolding message_comes
  message_comes-goes packet p g = hears-goes (message_at p.iface.at packet) p g

  lifts-goes : (proto : ℕ) (packet : Packet) (p : Progress) → G p → G (lifts now proto packet p)
  unfolding lifts
  lifts-goes proto packet p g =
      let drop : G (asks Dropped p) = asks-goes Dropped p (λ o. tt) g in
      cond_both (proto == ip_on_link || proto == ip_on_lan) (asks (Up packet) p)
      (if proto == arp_on_lan then message_comes now packet p else asks Dropped p) G
      (λ ip. asks-goes (Up packet) p (λ o. tt) g)
      (λ other. cond_both (proto == arp_on_lan) (message_comes now packet p) (asks Dropped p) G
      (λ arp. message_comes-goes packet p g) (λ unknown. drop))

  carry_up-goes : (p : Progress) (act : DeviceAct Packet) → G p → G (carry_up now p act)
  unfolding carry_up
  carry_up-goes p (Tell at) g = g
  carry_up-goes p (Wait at) g = g
  carry_up-goes p (Reach at frame) g = g
  carry_up-goes p (Save frame) g = in_transit-goes (asking (told p.iface Receive frame ++ captured p.iface frame))
      (λ t m. asking-moves ok now i (told p.iface Receive frame ++ captured p.iface frame) t
      (λ o. each-append (IsIfaceAct now.0 i) (told p.iface Receive frame) (captured p.iface frame)
      (told-acts ok now i p.iface Receive frame) (captured-acts ok now i p.iface frame)) m) p g
  carry_up-goes p (Lose frame) g = in_transit-goes (asking (told p.iface DropSign frame))
      (λ t m. asking-moves ok now i (told p.iface DropSign frame) t (λ o. told-acts ok now i p.iface DropSign frame) m) p g
  carry_up-goes p (Lift proto packet) g = lifts-goes proto packet p g

  comes-goes : (frame : Packet) (p : Progress) → G p → G (comes now frame p)
  unfolding comes
  comes-goes frame p g =
      let turn : Turn = device_steps (Come frame) (transit_of p) in
      fold-keeps_all G (carry_up now) (λ q act kept. carry_up-goes q act kept) turn.acts (with_transit turn.transit p)
      (record { moves = (come-turn ok now i p.iface.at frame (transit_of p) refl g.moves).transit; node = g.node })

  -- the whole step

  link-two : (e : PlainLinkEnd) (p : Progress) → p.iface.at ≡ OnLink e → G p → least_frame i.at ≤ 2
  link-two e p is g =
      let same : 2 ≡ least_frame i.at = ap (λ (w : Wire). least_on w.lan) (sym (ap wire_of is) ∙ g.moves.wire) ∙ sym (least-wire i.at) in
      omega (arith, same)

  sends_at-goes : (at : PlainAttachment) (hop : ℕ) (packet : Packet) (p : Progress) → p.iface.at ≡ at → G p → G (sends_at at now hop packet p)
  sends_at-goes (OnLink e) hop packet p is g = in_transit-goes (send_frame now (link_frame packet))
      (λ t m. send_frame-moves ok now i (link_frame packet) t (λ o.
      let two : least_frame i.at ≤ 2 = link-two e p is g in
      let long : 2 ≤ len (link_frame packet) = link-long packet in
      omega (arith, two, long)) m) p g
  sends_at-goes (OnLan e) hop packet p is g = arp_takes-goes (Resolve now hop packet) p refl g

  sends-goes : (hop : ℕ) (packet : Packet) (p : Progress) → G p → G (sends now hop packet p)
  unfolding sends
  sends-goes hop packet p g = sends_at-goes p.iface.at hop packet p refl g

  happened-goes : (what : Happening Packet) (p : Progress) → G p → G (happened now what p)
  unfolding happened
  happened-goes (Arrive frame) p g = comes-goes frame p g
  happened-goes Sent p g = in_transit-goes (frees now) (λ t m. frees-moves ok now i t m) p g
  happened-goes BusFree p g = in_transit-goes (frees now) (λ t m. frees-moves ok now i t m) p g
  happened-goes BackoffOver p g = in_transit-goes (tries_again now) (λ t m. tries_again-moves ok now i t m) p g
  happened-goes DiscReady p g = in_transit-goes (asks_disc now) (λ t m. asks_disc-moves ok now i t m) p g
  happened-goes (ArpTimer addr stamp) p g = arp_takes-goes (Timer now addr stamp) p refl g

  module _ (bus : Bus) (r : PlainRandom) (well : ok → IsWithin i) where
    begins-goes : G (record { iface = i; bus = bus; random = r; numbers = numbers; acts = [] })
    begins-goes = record {
      moves = record {
        place = refl;
        wire = refl;
        device = λ o. (well o).device;
        paced = λ o. (well o).paced;
        frames = λ o. (well o).frames;
        acts = λ o. tt;
      };
      node = refl;
    }

    -- an interface that IPv4 has given a packet to
    pub send-goes : (hop : ℕ) (packet : Packet) → Goes ok now.0 i numbers (step i bus r numbers (Send now hop packet))
    unfolding handled
    send-goes hop packet = sends-goes hop packet _ begins-goes

    -- an interface at which something has happened
    pub happens-goes : (what : Happening Packet) → Goes ok now.0 i numbers (step i bus r numbers (Happens now what))
    unfolding handled
    happens-goes what = happened-goes what _ begins-goes
