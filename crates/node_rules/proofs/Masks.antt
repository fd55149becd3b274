-- Buses, of which some are put out of sight.
use Rattle.std.proofs.Common.{◌≡◌, ℕ, zero, suc, Bool, true, false, List, [], ◌∷◌, length, None, Option, Some, slice_set, refl, sym, ap, ◌∙◌, inl, inr}
use Rattle.std.specs.Prelude.{if◌then◌else◌, not, unwrap_or}
use Rattle.std.proofs.lemmas.Bool.{cases_Bool}
use Rattle.csma_dev.specs.declared.bus.Bus.{Bus}
use Rattle.node_step.specs.Firing.{bus_at, bus_of, free, with_bus}
use Rattle.node_rules.specs.Rules.{buses}

-- those that pass a test by their LAN's number; another looks like one that no frame has used
abbrev pub masked : (ℕ → Bool) → List Bus → List Bus
masked test [] = []
masked test (bus ∷ lans) = (if test 0 then bus else free) ∷ masked (λ lan. test (suc lan)) lans

-- an interface is on a link, or on a LAN that passes
abbrev pub Passes : (ℕ → Bool) → Option ℕ → Type 0
Passes test None = Unit {0}
Passes test (Some lan) = test lan ≡ true

pub length-masked : (test : ℕ → Bool) (lans : List Bus) → length (masked test lans) ≡ length lans
length-masked test [] = refl
length-masked test (bus ∷ lans) = ap suc (length-masked (λ lan. test (suc lan)) lans)

pub bus_at-masked : (test : ℕ → Bool) (lans : List Bus) (lan : ℕ) → test lan ≡ true → bus_at (masked test lans) lan ≡ bus_at lans lan
bus_at-masked test [] lan on = refl
bus_at-masked test (bus ∷ lans) zero on = rw on refl
bus_at-masked test (bus ∷ lans) (suc lan) on = bus_at-masked (λ l. test (suc l)) lans lan on

masked-set : (test : ℕ → Bool) (lans : List Bus) (lan : ℕ) (bus : Bus) → test lan ≡ true →
    masked test (slice_set lans lan bus) ≡ slice_set (masked test lans) lan bus
masked-set test [] lan bus on = refl
masked-set test (b ∷ lans) zero bus on = rw on refl
masked-set test (b ∷ lans) (suc lan) bus on =
    ap (λ bs. (if test 0 then b else free) ∷ bs) (masked-set (λ l. test (suc l)) lans lan bus on)

masked-set_out : (test : ℕ → Bool) (lans : List Bus) (lan : ℕ) (bus : Bus) → test lan ≡ false →
    masked test (slice_set lans lan bus) ≡ masked test lans
masked-set_out test [] lan bus off = refl
masked-set_out test (b ∷ lans) zero bus off = rw off refl
masked-set_out test (b ∷ lans) (suc lan) bus off =
    ap (λ bs. (if test 0 then b else free) ∷ bs) (masked-set_out (λ l. test (suc l)) lans lan bus off)

-- an interface on a LAN that passes uses the same bus
pub bus_of-masked : (test : ℕ → Bool) (lan : Option ℕ) (lans : List Bus) → Passes test lan → bus_of lan (masked test lans) ≡ bus_of lan lans
bus_of-masked test None lans passes = refl
bus_of-masked test (Some lan) lans passes = bus_at-masked test lans lan passes

pub with_bus-masked : (test : ℕ → Bool) (lan : Option ℕ) (bus : Bus) (lans : List Bus) → Passes test lan →
    masked test (with_bus lan bus lans) ≡ with_bus lan bus (masked test lans)
with_bus-masked test None bus lans passes = refl
with_bus-masked test (Some lan) bus lans passes = masked-set test lans lan bus passes

abbrev pub others : (ℕ → Bool) → ℕ → Bool
others test lan = not (test lan)

-- and it changes none that doesn't pass
pub with_bus-others : (test : ℕ → Bool) (lan : Option ℕ) (bus : Bus) (lans : List Bus) → Passes test lan →
    masked (others test) (with_bus lan bus lans) ≡ masked (others test) lans
with_bus-others test None bus lans passes = refl
with_bus-others test (Some lan) bus lans passes = masked-set_out (others test) lans lan bus (ap not passes)

abbrev seeing : (ℕ → Bool) → (ℕ → Bus) → ℕ → Option Bus
seeing test lans lan = if test lan then Some (lans lan) else None

one-seen : (test : Bool) (bus : Bus) → unwrap_or (if test then Some bus else None) free ≡ (if test then bus else free)
one-seen true bus = refl
one-seen false bus = refl

-- what a node sees are the buses of the LANs on which it sits
pub buses-seen : (test : ℕ → Bool) (lans : List Bus) → buses (length lans) (seeing test (bus_at lans)) ≡ masked test lans
buses-seen test [] = refl
buses-seen test (bus ∷ lans) = λ i. one-seen (test 0) bus i ∷ buses-seen (λ lan. test (suc lan)) lans i

-- buses of which those that pass are as here, and the others as there
pub bus_at-joined : (test : ℕ → Bool) (new old reacted : List Bus) → masked test new ≡ reacted → masked (others test) new ≡ masked (others test) old →
    (lan : ℕ) → bus_at new lan ≡ (if test lan then bus_at reacted lan else bus_at old lan)
bus_at-joined test new old reacted here there lan = elim (cases_Bool (test lan)) [
  | inl on ↦ rw on (sym (bus_at-masked test new lan on) ∙ ap (λ (bs : List Bus). bus_at bs lan) here)
  | inr off ↦ rw off (sym (bus_at-masked (others test) new lan (ap not off))
      ∙ ap (λ (bs : List Bus). bus_at bs lan) there ∙ bus_at-masked (others test) old lan (ap not off))
]

pub length-joined : (test : ℕ → Bool) (new old : List Bus) → masked (others test) new ≡ masked (others test) old → length new ≡ length old
length-joined test new old there = sym (length-masked (others test) new) ∙ ap length there ∙ length-masked (others test) old
