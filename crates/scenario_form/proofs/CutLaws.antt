-- The cut of a scenario's network into groups, from that of its shape.
use Rattle.std.proofs.Common.{◌≡◌, ℕ, List, Option, Some, None, Result, Ok, Err, IfOk, IfErr, OnOk, sym, ap, ◌∙◌, subst}
use Rattle.partition_cut.specs.declared.network.Cut.{Cut}
use Rattle.partition_cut.specs.declared.network.Shape.{Shape}
use Rattle.partition_cut.specs.declared.verdict.CutBad.{CutBad}
use Rattle.partition_cut.specs.declared.verdict.CutStop.{CutStop}
use Rattle.partition_cut.specs.AllowedCut.{IsCutOf}
use Rattle.partition_cut.specs.NamedCut.{listed_cut}
use Rattle.partition_cut.specs.Network.{PlainShape, plain_cut, plain_shape}
use Rattle.partition_cut.specs.Refusal.{IsRefusedFor, first_refusal, refusal_in}
use Rattle.scenario_form.specs.declared.scenario.Scenario.{Scenario}
use Rattle.scenario_form.specs.Shape.{IsCutFor, IsNetworkOf, network_of}
use Rattle.scenario_form.proofs.ShapeLaws.{is-network}

pub cut-allowed : (s : Scenario) (shape : Shape) (r : Result Cut CutStop) → IsNetworkOf s shape → IfOk r (IsCutOf shape) → IfOk r (IsCutFor s)
cut-allowed s shape (Ok cut) are is = record { shape = shape; network = are; is_cut = is }
cut-allowed s shape (Err e) are is = is

module _ (s : Scenario) (shape : Shape) (lists numbers : List (List ℕ)) where
  same-refusal : IsNetworkOf s shape → lists ≡ numbers → first_refusal shape lists ≡ refusal_in (network_of s) numbers
  same-refusal are same = ap (λ (net : PlainShape). refusal_in net lists) (is-network s shape are) ∙ ap (refusal_in (network_of s)) same

  pub cut-named : (r : Result Cut CutStop) → IsNetworkOf s shape → lists ≡ numbers → IfOk r (λ cut. plain_cut cut ≡ listed_cut (plain_shape shape) lists)
      → IfOk r (λ cut. plain_cut cut ≡ listed_cut (network_of s) numbers)
  cut-named (Ok cut) are same is = is ∙ ap (λ (net : PlainShape). listed_cut net lists) (is-network s shape are) ∙ ap (listed_cut (network_of s)) same
  cut-named (Err e) are same is = is

  pub cut-good : (r : Result Cut CutStop) → IsNetworkOf s shape → lists ≡ numbers → OnOk r (first_refusal shape lists ≡ None)
      → OnOk r (refusal_in (network_of s) numbers ≡ None)
  cut-good (Ok cut) are same is = sym (same-refusal are same) ∙ is
  cut-good (Err e) are same is = is

  pub cut-bad : (r : Result Cut CutStop) → IsNetworkOf s shape → lists ≡ numbers → IfErr r (λ stop. IsRefusedFor stop (first_refusal shape lists))
      → IfErr r (λ stop. IsRefusedFor stop (refusal_in (network_of s) numbers))
  cut-bad (Ok cut) are same is = is
  cut-bad (Err e) are same is = subst (IsRefusedFor e) (same-refusal are same) is
