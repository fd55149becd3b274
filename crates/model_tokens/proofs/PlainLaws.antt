-- The part of the only group is the world of the plain run.
use Rattle.std.proofs.Common.{◌≡◌, ℕ, [], refl, ap, ◌∙◌, sym, Option}
use Rattle.round_core.specs.Laws.{IsSound}
use Rattle.round_core.specs.Parts.{Part as GroupPart, PartRuns, IsPartSound}
use Rattle.round_core.specs.Rounds.{IsPlainRun}
use Rattle.round_core.proofs.ListLaws.{all-map}
use Rattle.round_core.proofs.Members.{all-in}
use Rattle.round_core.proofs.OneGroup.{one-group}
use Rattle.model_tokens.specs.Tokens.{group_of, token_rules, token_health}
use Rattle.model_tokens.specs.declared.Net.{Net}

module _ (net : Net) (p : GroupPart (Option ℕ) ℕ ℕ ℕ) where
  pub plain-sound : IsSound (token_rules net.links.items net.allowance) (token_health net.links.items) p.world →
      IsPartSound (token_rules net.links.items net.allowance) (token_health net.links.items) (group_of []) 0 p
  plain-sound sound = record {
    health = sound.health;
    rising = sound.rising;
    own = all-in (λ e. group_of [] e.key.node.0 ≡ 0) p.world.pending (λ e i. refl);
    counted = all-map _ _ (λ e h mine. h) p.world.pending sound.counted;
  }

  pub plain-runs : (new : GroupPart (Option ℕ) ℕ ℕ ℕ) → PartRuns (token_rules net.links.items net.allowance) (group_of []) 0 net.stop p new →
      IsPlainRun (token_rules net.links.items net.allowance) net.stop p.world new.world
  plain-runs new runs = record {
    steps = runs.steps;
    reached = sym (one-group (token_rules net.links.items net.allowance) (group_of []) 0 net.stop (λ n. refl) runs.steps p)
        ∙ ap (λ (x : GroupPart (Option ℕ) ℕ ℕ ℕ). x.world) runs.reached;
    rests = runs.rests;
  }
