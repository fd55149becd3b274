-- A step of an interface of a node.
use Rattle.std.proofs.Common.{◌≡◌, ◌↔◌, ℕ, ◌<◌, ◌≤◌, List, [], length, Option, None, Some, false, leb, IsTrue, get_or, slice_get, slice_set, ap, sym, ◌∙◌, refl, subst}
use Rattle.std.specs.Prelude.{IfSome, IsSomeAnd}
use Rattle.std.proofs.lemmas.Option.{slice_get_past, slice_get_read}
use Rattle.std.proofs.lemmas.Bool.{both_ways, le-leb, leb-true}
use Rattle.sim_base.specs.declared.numbers.Numbers.{Numbers}
use Rattle.sim_base.specs.Draws.{PlainRandom}
use Rattle.sim_base.specs.Packet.{Packet}
use Rattle.csma_dev.specs.declared.bus.Bus.{Bus}
use Rattle.iface_step.specs.Attachment.{lan_of, least_frame}
use Rattle.iface_step.specs.Step.{step}
use Rattle.iface_step.specs.Transit.{Progress as IfaceProgress}
use Rattle.iface_step.specs.declared.words.In.{In}
use Rattle.iface_step.specs.Iface.{PlainIface}
use Rattle.node_step.specs.Down.{IfaceStepped, iface_takes, step_at, taken_by, with_iface}
use Rattle.node_step.specs.Firing.{PlainFiring, bus_of, with_bus}
use Rattle.node_step.specs.Node.{PlainNode, Progress, progress}
use Rattle.node_step.specs.React.{CanArrive}

-- where there is no interface, nothing happens
pub step_at-none : (iface : ℕ) (input : In Packet) (p : Progress) → length p.node.ifaces ≤ iface →
    step_at iface input p ≡ record { progress = p; acts = [] }
unfolding step_at
step_at-none iface input p past = ap (taken_by iface input p) (slice_get_past p.node.ifaces iface past)

-- what was read at its number is the interface
pub is-iface : (ifaces : List PlainIface) (iface : ℕ) (face : PlainIface) → iface < length ifaces → face ≡ get_or ifaces iface face →
    slice_get ifaces iface ≡ Some face
is-iface ifaces iface face below read = slice_get_read ifaces (length ifaces) iface face refl below read

pub step_at-some : (iface : ℕ) (input : In Packet) (p : Progress) (face : PlainIface) → iface < length p.node.ifaces →
    face ≡ get_or p.node.ifaces iface face → step_at iface input p ≡ iface_takes iface input p face
unfolding step_at
step_at-some iface input p face below read =
    ap (taken_by iface input p) (is-iface p.node.ifaces iface face below read)

-- what holds of the interface of this number
pub of-iface : (P : PlainIface → Type 0) (ifaces : List PlainIface) (iface : ℕ) (face : PlainIface) → IfSome (slice_get ifaces iface) P →
    iface < length ifaces → face ≡ get_or ifaces iface face → P face
of-iface P ifaces iface face holds below read = subst (λ o. IfSome o P) (is-iface ifaces iface face below read) holds

pub of-node : (P : PlainIface → Type 0) (inside node : PlainNode) (iface : ℕ) (face : PlainIface) → inside ≡ node →
    IfSome (slice_get node.ifaces iface) P → iface < length inside.ifaces → face ≡ get_or inside.ifaces iface face → P face
of-node P inside node iface face same holds below read =
    of-iface P inside.ifaces iface face (subst (λ (n : PlainNode). IfSome (slice_get n.ifaces iface) P) (sym same) holds) below read

pub past : (inside node : PlainNode) (iface : ℕ) → inside ≡ node → length inside.ifaces ≤ iface → length node.ifaces ≤ iface
past inside node iface same over = subst (λ (n : PlainNode). length n.ifaces ≤ iface) same over

-- what the step of an interface leaves, made of its parts
same-step : (s : IfaceProgress) (face : PlainIface) (bus : Bus) (random : PlainRandom) (numbers : Numbers) → face ≡ s.iface → bus ≡ s.bus →
    random ≡ s.random → numbers ≡ s.numbers →
    record { iface = face; bus = bus; random = random; numbers = numbers; acts = s.acts } ≡ s
same-step s face bus random numbers is-face is-bus is-random is-numbers =
    let made : PlainIface → Bus → PlainRandom → Numbers → IfaceProgress =
    λ f b r n. record { iface = f; bus = b; random = r; numbers = n; acts = s.acts } in
    ap (λ f. made f bus random numbers) is-face ∙ ap (λ b. made s.iface b random numbers) is-bus
    ∙ ap (λ r. made s.iface s.bus r numbers) is-random ∙ ap (made s.iface s.bus s.random) is-numbers

module _ (iface : ℕ) (input : In Packet) (inside node : PlainNode) (firing : PlainFiring) (old : PlainIface) (lan : Option ℕ) (bus : Bus)
    (same : inside ≡ node) (below : iface < length inside.ifaces) (read : old ≡ get_or inside.ifaces iface old)
    (on : lan ≡ lan_of old.at) (lent : bus ≡ bus_of lan firing.lans) where
  abbrev steps : Bus → IfaceProgress
  steps b = step old b inside.random inside.numbers input

  abbrev own : Bus
  own = bus_of (lan_of old.at) firing.lans

  is-own : bus ≡ own
  is-own = lent ∙ ap (λ (l : Option ℕ). bus_of l firing.lans) on

  taken : iface_takes iface input (progress inside firing) old ≡ step_at iface input (progress node firing)
  taken = sym (step_at-some iface input (progress inside firing) old below read) ∙ ap (λ (n : PlainNode). step_at iface input (progress n firing)) same

  pub takes-acts : (steps bus).acts ≡ (step_at iface input (progress node firing)).acts
  takes-acts = ap (λ (b : Bus). (steps b).acts) is-own ∙ ap (λ (s : IfaceStepped). s.acts) taken

  pub takes : (new : PlainIface) (after : Bus) (random : PlainRandom) (numbers : Numbers) (end : PlainFiring) → new ≡ (steps bus).iface →
      after ≡ (steps bus).bus → random ≡ (steps bus).random → numbers ≡ (steps bus).numbers →
      end ≡ record firing { lans = with_bus lan after firing.lans } →
      progress (record inside { ifaces = slice_set inside.ifaces iface new; random = random; numbers = numbers }) end
      ≡ (step_at iface input (progress node firing)).progress
  takes new after random numbers end is-new is-after is-random is-numbers is-end =
      let s : IfaceProgress = record { iface = new; bus = after; random = random; numbers = numbers; acts = (steps bus).acts } in
      let p : Progress = progress inside firing in
      ap (progress (record inside { ifaces = slice_set inside.ifaces iface new; random = random; numbers = numbers })) is-end
      ∙ ap (λ (l : Option ℕ). with_iface iface l s p) on
      ∙ ap (λ (x : IfaceProgress). with_iface iface (lan_of old.at) x p) (same-step (steps bus) new after random numbers is-new is-after is-random is-numbers)
      ∙ ap (λ (b : Bus). with_iface iface (lan_of old.at) (steps b) p) is-own
      ∙ ap (λ (x : IfaceStepped). x.progress) taken

-- whether a frame of so many bytes may come
pub arrives-none : (iface bytes : ℕ) (inside node : PlainNode) → inside ≡ node → length inside.ifaces ≤ iface →
    IsTrue false ↔ CanArrive iface bytes node
arrives-none iface bytes inside node same over = (
  λ never. absurd (both_ways false refl never),
  λ there. absurd (subst (λ o. IsSomeAnd o (λ face. least_frame face.at ≤ bytes)) (slice_get_past node.ifaces iface (past inside node iface same over)) there),
)

pub arrives-some : (iface bytes least : ℕ) (inside node : PlainNode) (face : PlainIface) → inside ≡ node → iface < length inside.ifaces →
    face ≡ get_or inside.ifaces iface face → least ≡ least_frame face.at → IsTrue (leb least bytes) ↔ CanArrive iface bytes node
arrives-some iface bytes least inside node face same below read is =
    let found : slice_get node.ifaces iface ≡ Some face =
    ap (λ (n : PlainNode). slice_get n.ifaces iface) (sym same) ∙ is-iface inside.ifaces iface face below read in (
      λ long. subst (λ o. IsSomeAnd o (λ f. least_frame f.at ≤ bytes)) (sym found) (subst (λ (l : ℕ). l ≤ bytes) is (leb-true least bytes long)),
      λ there. le-leb least bytes (subst (λ (l : ℕ). l ≤ bytes) (sym is) (subst (λ o. IsSomeAnd o (λ f. least_frame f.at ≤ bytes)) found there)),
    )
