-- A group's part of the tokens, by the definitions of rounds.
use Rattle.std.specs.Prelude.{◌≡◌, ◌<◌, ℕ, List, [], length, map, Option, Some, None, slice_get, option_map}
use Rattle.sim_base.specs.declared.key.Key.{Key}
use Rattle.round_core.specs.Parts.{IsPartSound, PartRuns, part_after}
use Rattle.round_core.specs.Parts.{Part as GroupPart}
use Rattle.round_core.specs.Rounds.{below}
use Rattle.round_core.specs.World.{Event, Ready, Rules, World, first, next}
use Rattle.model_tokens.specs.Tokens.{event_of, firing_of, group_of, token_health, token_rules}
use Rattle.model_tokens.specs.declared.Token.{Token}
use Rattle.model_tokens.specs.declared.Net.{Net}
use Rattle.model_tokens.specs.declared.Part.{Part}
use Rattle.model_tokens.specs.declared.Step.{Step}
use Rattle.model_tokens.specs.declared.Step.TheVariants.{Fired, Idle, Refused}

abbrev pub world_of : List ℕ → List Token → List Token → World (Option ℕ) ℕ ℕ ℕ
world_of counts pending fired = record {
  nodes = λ n. slice_get counts n;
  lans = λ l. 0;
  pending = map event_of pending;
  fired = map firing_of fired;
}

abbrev pub part_by : List ℕ → List Token → List Token → List Token → GroupPart (Option ℕ) ℕ ℕ ℕ
part_by counts pending sent fired = record { world = world_of counts pending fired; sent = map event_of sent }

abbrev pub part_of : Part → GroupPart (Option ℕ) ℕ ℕ ℕ
part_of p = part_by p.counts.items p.pending.items p.sent.items p.fired.items

-- a part's step: its least token below the end is fired, or there is none, or its node may pass on no more
abbrev pub IsStep : Rules (Option ℕ) ℕ ℕ ℕ → (ℕ → ℕ) → ℕ → ℕ → GroupPart (Option ℕ) ℕ ℕ ℕ → GroupPart (Option ℕ) ℕ ℕ ℕ → Step → Type 0
IsStep rules groups group end old new Fired =
    (r : Ready (Option ℕ) ℕ ℕ ℕ) × (next rules (below end) old.world ≡ Some r) × (new ≡ part_after rules groups group end old r)
IsStep rules groups group end old new Idle = (first (below end) old.world.pending ≡ None) × (new ≡ old)
IsStep rules groups group end old new (Refused key) =
    (e : Event ℕ) × (first (below end) old.world.pending ≡ Some e) × (e.key ≡ key) × (next rules (below end) old.world ≡ None) × (new ≡ old)

-- the key of the first token that a part has left below an end
abbrev pub key_left : ℕ → GroupPart (Option ℕ) ℕ ℕ ℕ → Option Key
key_left end p = option_map (λ e. e.key) (first (below end) p.world.pending)

-- a list of parts, by the number of their group
abbrev pub part_at : Option Part → GroupPart (Option ℕ) ℕ ℕ ℕ
part_at None = part_by [] [] [] []
part_at (Some p) = part_of p

abbrev pub parts_of : List Part → ℕ → GroupPart (Option ℕ) ℕ ℕ ℕ
parts_of parts group = part_at (slice_get parts group)

-- a part that may run
pub record MayRun (net : Net) (groups : List ℕ) (group : ℕ) (p : Part) : Type 0 where
  pub nodes : length p.counts.items ≡ length net.links.items
  pub sound : IsPartSound (token_rules net.links.items net.allowance) (token_health net.links.items) (group_of groups) group (part_of p)

-- the first parts have run up to an end
abbrev pub HaveRun : Net → List ℕ → ℕ → ℕ → List Part → List Part → Type 0
HaveRun net groups end count old new = (g : ℕ) → g < count →
    PartRuns (token_rules net.links.items net.allowance) (group_of groups) g end (parts_of old g) (parts_of new g)
