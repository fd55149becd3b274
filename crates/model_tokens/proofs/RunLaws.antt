-- The loop of a part's firings.
use Rattle.std.proofs.Common.{◌≡◌, ℕ, ◌<◌, zero, refl, ap, ◌∙◌, sym, subst, arith, Option, Some, None, length}
use Rattle.round_core.specs.Bound.{most_firings}
use Rattle.round_core.specs.Parts.{Part as GroupPart, part_after, part_next, part_firings, PartRuns, IsPartSound}
use Rattle.round_core.specs.Rounds.{below}
use Rattle.round_core.specs.World.{Ready, Rules, next}
use Rattle.round_core.proofs.PartSound.{part-more, part-sound, part-spends}
use Rattle.round_core.proofs.Plain.{next-none}
use Rattle.sim_base.specs.declared.key.Key.{Key}
use Rattle.model_tokens.specs.TokenParts.{IsStep}
use Rattle.model_tokens.specs.declared.Step.{Step}
use Rattle.model_tokens.specs.declared.Step.TheVariants.{Fired, Idle, Refused}
use Rattle.model_tokens.proofs.TokenLaws.{token-lawful, token-bounded}
use Rattle.model_tokens.specs.Tokens.{IsWell, room, token_rules, token_health}
use Rattle.model_tokens.specs.declared.Net.{Net}

-- what the loop keeps: some firings of the part as it began
pub record Runs (net : Net) (groups : ℕ → ℕ) (group end : ℕ) (old now : GroupPart (Option ℕ) ℕ ℕ ℕ) : Type 0 where
  pub steps : ℕ
  pub reached : part_firings (token_rules net.links.items net.allowance) groups group end steps old ≡ now
  pub sound : IsPartSound (token_rules net.links.items net.allowance) (token_health net.links.items) groups group now

-- how many firings are left at most
abbrev pub firings_left : Net → GroupPart (Option ℕ) ℕ ℕ ℕ → ℕ
firings_left net p = most_firings (length net.links.items) (room net.allowance) p.world

module _ (net : Net) (well : IsWell net) (groups : ℕ → ℕ) (group end : ℕ) (old : GroupPart (Option ℕ) ℕ ℕ ℕ) where
  abbrev rules : Rules (Option ℕ) ℕ ℕ ℕ
  rules = token_rules net.links.items net.allowance

  pub runs-first : IsPartSound rules (token_health net.links.items) groups group old → Runs net groups group end old old
  unfolding part_firings
  runs-first sound = record { steps = zero; reached = refl; sound = sound }

  -- one more firing
  pub runs-more : (now new : GroupPart (Option ℕ) ℕ ℕ ℕ) (r : Ready (Option ℕ) ℕ ℕ ℕ) → Runs net groups group end old now →
      next rules (below end) now.world ≡ Some r → new ≡ part_after rules groups group end now r → Runs net groups group end old new
  runs-more now new r runs is same =
      let more = part-more rules (token_health net.links.items) (token-lawful net well) groups group end runs.steps old in
      let P : GroupPart (Option ℕ) ℕ ℕ ℕ → Type 0 = λ x. IsPartSound rules (token_health net.links.items) groups group x in
      record {
        steps = more.0;
        reached = more.1 ∙ ap (λ (x : GroupPart (Option ℕ) ℕ ℕ ℕ). part_next rules groups group end x (next rules (below end) x.world)) runs.reached
            ∙ ap (part_next rules groups group end now) is ∙ sym same;
        sound = subst P (sym same) (part-sound rules (token_health net.links.items) (token-lawful net well) groups group end now r runs.sound is);
      }

  pub runs-less : (now new : GroupPart (Option ℕ) ℕ ℕ ℕ) (r : Ready (Option ℕ) ℕ ℕ ℕ) → Runs net groups group end old now →
      next rules (below end) now.world ≡ Some r → new ≡ part_after rules groups group end now r → firings_left net new < firings_left net now
  runs-less now new r runs is same =
      let less = part-spends rules (token_health net.links.items) (token-lawful net well) groups group end (length net.links.items) (room net.allowance) now r
      (token-bounded net well) runs.sound.health is in
      let e = ap (firings_left net) same in omega arith

  -- the end of the loop
  pub runs-last : (now new : GroupPart (Option ℕ) ℕ ℕ ℕ) → Runs net groups group end old now → next rules (below end) now.world ≡ None →
      new ≡ now → PartRuns rules groups group end old new
  runs-last now new runs rests same = record {
    steps = runs.steps;
    reached = runs.reached ∙ sym same;
    rests = ap (λ (x : GroupPart (Option ℕ) ℕ ℕ ℕ). next rules (below end) x.world) same ∙ rests;
  }

  pub runs-sound : (now new : GroupPart (Option ℕ) ℕ ℕ ℕ) → Runs net groups group end old now → new ≡ now →
      IsPartSound rules (token_health net.links.items) groups group new
  runs-sound now new runs same = let P : GroupPart (Option ℕ) ℕ ℕ ℕ → Type 0 = λ x. IsPartSound rules (token_health net.links.items) groups group x in
      subst P (sym same) runs.sound

  fired : (now new : GroupPart (Option ℕ) ℕ ℕ ℕ) (step : Step) → IsStep rules groups group end now new step → step ≡ Fired →
      (r : Ready (Option ℕ) ℕ ℕ ℕ) × (next rules (below end) now.world ≡ Some r) × (new ≡ part_after rules groups group end now r)
  fired now new step h is = let P : Step → Type 0 = λ x. IsStep rules groups group end now new x in subst P is h

  pub loop-more : (now new : GroupPart (Option ℕ) ℕ ℕ ℕ) (step : Step) → Runs net groups group end old now →
      IsStep rules groups group end now new step → step ≡ Fired → Runs net groups group end old new
  loop-more now new step runs h is = let f = fired now new step h is in runs-more now new f.0 runs f.1 f.2

  pub loop-less : (now new : GroupPart (Option ℕ) ℕ ℕ ℕ) (step : Step) → Runs net groups group end old now →
      IsStep rules groups group end now new step → step ≡ Fired → firings_left net new < firings_left net now
  loop-less now new step runs h is = let f = fired now new step h is in runs-less now new f.0 runs f.1 f.2

  pub loop-idle : (now new : GroupPart (Option ℕ) ℕ ℕ ℕ) (step : Step) → Runs net groups group end old now →
      IsStep rules groups group end now new step → step ≡ Idle → PartRuns rules groups group end old new
  loop-idle now new step runs h is = let P : Step → Type 0 = λ x. IsStep rules groups group end now new x in
      let idle = subst P is h in runs-last now new runs (next-none rules (below end) now.world idle.0) idle.1

  pub loop-refused : (now new : GroupPart (Option ℕ) ℕ ℕ ℕ) (step : Step) (key : Key) → Runs net groups group end old now →
      IsStep rules groups group end now new step → step ≡ Refused key → PartRuns rules groups group end old new
  loop-refused now new step key runs h is = let P : Step → Type 0 = λ x. IsStep rules groups group end now new x in
      let refused = subst P is h in runs-last now new runs refused.3 refused.4
