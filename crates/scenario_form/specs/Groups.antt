-- The check of groups, which comes behind all others: they are an allowed cut of the scenario's network.
use Rattle.std.specs.Prelude.{ℕ, List, map, Option, Some, None, Ok, Err}
use Rattle.sim_base.specs.declared.key.NodeId.{NodeId}
use Rattle.partition_cut.specs.declared.verdict.CutBad.{CutBad}
use Rattle.partition_cut.specs.declared.verdict.CutBad.TheVariants.{Twice, Missing, Lan as CutsLan, ZeroDelay as HasNoDelay}
use Rattle.partition_cut.specs.Refusal.{refusal_in}
use Rattle.scenario_form.specs.declared.field.Code.{Code}
use Rattle.scenario_form.specs.declared.field.Code.TheVariants.{GroupTwice, GroupMissing, Lan, ZeroDelay}
use Rattle.scenario_form.specs.declared.refusal.Refusal.{Refusal}
use Rattle.scenario_form.specs.declared.refusal.Refusal.TheVariants.{Schema}
use Rattle.scenario_form.specs.declared.scenario.Scenario.{Scenario}
use Rattle.scenario_form.specs.Checks.{Check, where_present}
use Rattle.scenario_form.specs.Shape.{network_of, numbers_of}
use Rattle.scenario_form.specs.Walk.{place}

-- the code of a cut that isn't allowed
abbrev pub code_of : CutBad → Code
code_of (Twice node) = GroupTwice node
code_of (Missing node) = GroupMissing node
code_of (CutsLan lan) = Lan lan
code_of (HasNoDelay link) = ZeroDelay link

-- it is refused at the key of the groups
abbrev pub refuse_cut : Option CutBad → Check Refusal
refuse_cut None = Ok tt
refuse_cut (Some bad) = Err (Schema (place 0 0 8) (code_of bad))

-- why groups of nodes are no allowed cut of a scenario's network
abbrev pub groups_refusal : Scenario → List (List NodeId) → Option CutBad
groups_refusal s groups = refusal_in (network_of s) (map numbers_of groups)

-- 8. groups in which a node stands twice or not at all, or that part a LAN or a link without delay
abbrev pub groups_check : Scenario → Check Refusal
groups_check s = where_present (λ groups. refuse_cut (groups_refusal s groups)) s.groups
