-- What the end of a run says of its summary.
use Rattle.std.proofs.Common.{◌≡◌, ℕ, zero, suc, ◌+◌, ◌-◌, ◌≤◌, ◌^◌, min, if◌then◌else◌, List, [], ◌∷◌, ◌++◌, map, length, Option, Result, Ok, Err, OnOk, OnErr, refl, ap, sym, ◌∙◌, append-nil, arith}
use Rattle.std.specs.List.{range_with_len}
use Rattle.std.proofs.lemmas.List.FromFn.{length-map-range_with_len}
use Rattle.partition_cut.specs.declared.network.Cut.{Cut}
use Rattle.partition_cut.specs.Network.{plain_cut}
use Rattle.round_core.specs.Rounds.{fired_by, times_of, windows}
use Rattle.outside.specs.declared.store.StoreStop.{StoreStop}
use Rattle.node_step.specs.Part.{counts, drops}
use Rattle.lp_run.specs.Lp.{counted}
use Rattle.scenario_form.specs.declared.scenario.Scenario.{Scenario}
use Rattle.scenario_form.specs.Limits.{IsWithinLimits}
use Rattle.sim_world.specs.World.{node_in, world_of}
use Rattle.plain_kernel.specs.declared.report.Report.{Report}
use Rattle.plain_kernel.specs.Run.{RunWorld, nodes_in}
use Rattle.round_kernel.specs.Cut.{group_of, rounds_cut}
use Rattle.round_kernel.specs.Report.{HasEnded}
use Rattle.command_words.specs.declared.command.Settings.{Settings}
use Rattle.sim_run.specs.Output.{HasGot, HasGotPrefix}
use Rattle.sim_run.specs.Plain.{run_text}
use Rattle.sim_run.specs.Report.{cut_for, group_counts, report_over, report_text, windows_in}
use Rattle.sim_run.specs.Run.{ending_of, events_in}
use Rattle.sim_run.specs.Summary.{summary}

-- ---- the world of a scenario

-- it stops in time
pub world_of-stop : (s : Scenario) → IsWithinLimits s → (world_of s).stop.0 ≤ 10 ^ 12
unfolding world_of
world_of-stop s limits = omega (arith, limits.stop_ns)

length-nodes : (s : Scenario) → length (world_of s).nodes ≡ s.nodes
unfolding world_of
length-nodes s = length-map-range_with_len (node_in s) 0 s.nodes

-- ---- its run

-- a count from 0 stays at the end of its type
counted-all : (n : ℕ) → counted n 0 ≡ min n (2 ^ 64 - 1)
counted-all zero = refl
counted-all (suc n) = ap (λ c. min (c + 1) (2 ^ 64 - 1)) (counted-all n) ∙ omega arith

-- the windows of a cut are those of its groups and lookahead
windows-over : (s : Scenario) (cut : Cut) (final : RunWorld)
    → windows (rounds_cut (world_of s) cut).end_of 0 (times_of final.fired) ≡ windows_in (plain_cut cut) s.stop_ns.0 final
unfolding world_of
windows-over s cut final = refl

counts-over : (cut : Cut) (final : RunWorld)
    → map (λ g. counted (fired_by (group_of cut) g final.fired) 0) (range_with_len 0 cut.groups) ≡ group_counts (plain_cut cut) final
counts-over cut final = map-same (λ g. counted-all (fired_by (group_of cut) g final.fired)) (range_with_len 0 cut.groups)
  where
    map-same : {f g : ℕ → ℕ} → ((n : ℕ) → f n ≡ g n) → (ns : List ℕ) → map f ns ≡ map g ns
    map-same same [] = refl
    map-same {f} {g} same (n ∷ ns) = ap (λ m. m ∷ map f ns) (same n) ∙ ap (λ ms. g n ∷ ms) (map-same same ns)

-- what the report of a run over a cut that has come to its end says is the text of the run
pub text-ended : (s : Scenario) (settings : Settings) (cut : Cut) (report : Report) → HasEnded (world_of s) cut report
    → plain_cut cut ≡ cut_for settings.partition s
    → (summary report.events report.drops s.apps report.apps.items ++ (if settings.report then report_text report.windows report.group_events.items else []))
    ≡ run_text settings s (ending_of s)
text-ended s settings cut report ended named =
    let final = ended.final in
    let events : report.events ≡ events_in final = ended.reports.events ∙ counted-all (length final.fired) in
    let nodes = ap (λ n. nodes_in n final) (length-nodes s) in
    let dropped : report.drops ≡ drops (nodes_in s.nodes final) = ended.reports.drops_are ∙ ap drops nodes in
    let counted_so : report.apps.items ≡ counts (nodes_in s.nodes final) = ended.reports.apps ∙ ap counts nodes in
    let told : summary report.events report.drops s.apps report.apps.items ≡ summary (events_in final) (drops (nodes_in s.nodes final)) s.apps (counts (nodes_in s.nodes final)) =
    ap (λ n. summary n report.drops s.apps report.apps.items) events
    ∙ ap (λ n. summary (events_in final) n s.apps report.apps.items) dropped
    ∙ ap (λ cs. summary (events_in final) (drops (nodes_in s.nodes final)) s.apps cs) counted_so in
    let behind : report_text report.windows report.group_events.items ≡ report_over (cut_for settings.partition s) s final =
    ap (λ n. report_text n report.group_events.items) (ended.reports.windows_are ∙ windows-over s cut final)
    ∙ ap (λ gs. report_text (windows_in (plain_cut cut) s.stop_ns.0 final) gs) (ended.reports.groups ∙ counts-over cut final)
    ∙ ap (λ c. report_over c s final) named in
    ap (λ text. text ++ (if settings.report then report_text report.windows report.group_events.items else [])) told
    ∙ ap (λ more. summary (events_in final) (drops (nodes_in s.nodes final)) s.apps (counts (nodes_in s.nodes final)) ++ (if settings.report then more else [])) behind
    ∙ sym (ap (run_text settings s) ended.ends)

-- a text that was written, or a front of it
pub written-front : (result : Result (Unit {0}) StoreStop) (before after : Option (List ℕ)) (text : List ℕ)
    → OnOk result (HasGot before after text) → OnErr result (HasGotPrefix before after text) → HasGotPrefix before after text
written-front (Ok done) before after text got part = (text, ([], sym (append-nil text)), got)
written-front (Err stop) before after text got part = part
