-- Cuts by a lookahead: the least delay between two groups.
use Rattle.std.specs.List.{AllByRecursion}
use Rattle.std.specs.Prelude.{◌≡◌, ℕ, ◌+◌, ◌<◌, ◌≤◌, min, Option, Some, None, ◌⊎◌}
use Rattle.round_core.specs.Laws.{Health, IsHealthy, KeepsLans}
use Rattle.round_core.specs.Rounds.{Cut}
use Rattle.round_core.specs.World.{Event, Effect, Rules, World, Does, reaction}

-- where a window ends that begins at a time
abbrev pub window_end : Option ℕ → ℕ → ℕ → ℕ
window_end None stop from = stop
window_end (Some lookahead) stop from = min (from + lookahead) stop

-- something is at least the lookahead later; with no lookahead nothing goes to another group
abbrev pub IsAhead : Option ℕ → ℕ → ℕ → Type 0
IsAhead None now time = ⊥
IsAhead (Some lookahead) now time = now + lookahead ≤ time

abbrev pub IsPositive : Option ℕ → Type 0
IsPositive None = Unit {0}
IsPositive (Some lookahead) = 0 < lookahead

-- each LAN lies within one group, and what is scheduled for another group is at least the lookahead later
pub record LooksAhead {Node Lan Load Text : Type 0} (rules : Rules Node Lan Load Text) (ok : Health Node Lan Load)
    (group_of : ℕ → ℕ) (lookahead : Option ℕ) : Type 0 where
  pub lans : KeepsLans rules group_of
  pub positive : IsPositive lookahead
  pub ahead : (w : World Node Lan Load Text) (e : Event Load) (effect : Effect Node Lan Load Text) →
      IsHealthy ok w → ok.event e → reaction rules w e ≡ Does effect →
      AllByRecursion (λ s. (group_of s.to ≡ group_of e.key.node.0) ⊎ IsAhead lookahead e.key.time.0 s.at) effect.sends

abbrev pub lookahead_cut : (ℕ → ℕ) → Option ℕ → ℕ → Cut
lookahead_cut group_of lookahead stop = record { group_of = group_of; end_of = window_end lookahead stop }

-- a lookahead that changes at stated steps: what it is at a time, and the first step above a time
pub record Steps : Type 0 where
  pub lookahead : ℕ → ℕ
  pub next_step : ℕ → ℕ

-- no step lies at or below its time, and between steps the lookahead doesn't fall
pub record AreSteps (steps : Steps) : Type 0 where
  pub above : (time : ℕ) → time < steps.next_step time
  pub positive : (time : ℕ) → 0 < steps.lookahead time
  pub stays : (from time : ℕ) → from ≤ time → time < steps.next_step from → steps.lookahead from ≤ steps.lookahead time

-- what is scheduled for another group is at least the lookahead of that time later
pub record LooksAheadBySteps {Node Lan Load Text : Type 0} (rules : Rules Node Lan Load Text) (ok : Health Node Lan Load)
    (group_of : ℕ → ℕ) (steps : Steps) : Type 0 where
  pub lans : KeepsLans rules group_of
  pub are_steps : AreSteps steps
  pub ahead : (w : World Node Lan Load Text) (e : Event Load) (effect : Effect Node Lan Load Text) →
      IsHealthy ok w → ok.event e → reaction rules w e ≡ Does effect →
      AllByRecursion (λ s. (group_of s.to ≡ group_of e.key.node.0) ⊎ (e.key.time.0 + steps.lookahead e.key.time.0 ≤ s.at)) effect.sends

-- no window passes a step
abbrev pub stepped_cut : (ℕ → ℕ) → Steps → ℕ → Cut
stepped_cut group_of steps stop = record {
  group_of = group_of;
  end_of = λ from. min (min (from + steps.lookahead from) (steps.next_step from)) stop;
}
