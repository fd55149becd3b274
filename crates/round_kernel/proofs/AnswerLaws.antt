-- What a run in rounds answers.
use Rattle.std.proofs.Common.{◌≡◌, ◌<◌, ◌≤◌, ℕ, suc, ◌+◌, List, [], ◌++◌, All, Result, Ok, Err, Option, Some, None, length, map, sym, ap, ◌∙◌, subst, arith}
use Rattle.std.proofs.lemmas.List.{length-map}
use Rattle.sim_base.specs.Packet.{Packet}
use Rattle.sim_base.specs.declared.key.Key.{Key}
use Rattle.sim_base.specs.declared.key.NodeId.{NodeId}
use Rattle.sim_base.specs.declared.time.Time.{Time}
use Rattle.pkt_face.specs.declared.line.Line.{Line}
use Rattle.outside.specs.Causes.{HasCause, Rose}
use Rattle.partition_cut.specs.declared.network.Cut.{Cut}
use Rattle.partition_cut.specs.Network.{group_at}
use Rattle.round_core.specs.Lines.{lines_of}
use Rattle.round_core.specs.Rounds.{IsPrefixOf}
use Rattle.round_core.specs.World.{Event, Firing}
use Rattle.node_step.specs.declared.loads.Load.{Load}
use Rattle.node_step.specs.Firing.{Text}
use Rattle.node_rules.specs.Firings.{trace_line}
use Rattle.lp_run.specs.Lp.{IsWellLp, PlainLp}
use Rattle.sim_world.specs.Opening.{OpensRuns}
use Rattle.sim_world.specs.World.{PlainWorld}
use Rattle.plain_kernel.specs.declared.stop.KernelStop.{KernelStop}
use Rattle.plain_kernel.specs.declared.stop.KernelStop.TheVariants.{NoMemory, Limit, WriteFault}
use Rattle.plain_kernel.specs.declared.report.Report.{Report}
use Rattle.plain_kernel.specs.Run.{run_lines, shape_in}
use Rattle.plain_kernel.specs.Stop.{MeetsLimit}
use Rattle.round_kernel.specs.Cut.{Fits}
use Rattle.round_kernel.specs.Groups.{AreFirst, Between}
use Rattle.round_kernel.specs.Handing.{CanGet, HaveGot}
use Rattle.round_kernel.specs.Left.{HavePlayed, emptied, lps_of}
use Rattle.round_kernel.specs.Report.{Answers, IsWantOrFault}
use Rattle.round_kernel.specs.Window.{Gone}
use Rattle.round_kernel.proofs.Begin.{begins}
use Rattle.round_kernel.proofs.GroupLists.{all-well}
use Rattle.round_kernel.proofs.RoundLaws.{each-well}
use Rattle.round_kernel.proofs.RunLaws.{IsWindow, goes-on, lines-append, put-so-far, round-prefix, stops}

-- some of what the plain run writes has been put
abbrev pub HasPutSome : PlainWorld → (List (Line Packet) → Type 0) → Type 0
HasPutSome w HasPut = (put : List (Line Packet)) × IsPrefixOf put (run_lines w) × HasPut put

-- an answer that comes when not all could be put
pub answer-stop : (w : PlainWorld) (cut : Cut) (HasPut : List (Line Packet) → Type 0) (stop : KernelStop) → IsWantOrFault stop →
    HasPutSome w HasPut → Answers w cut HasPut (Err stop)
answer-stop w cut HasPut NoMemory why put = put
answer-stop w cut HasPut WriteFault why put = put
answer-stop w cut HasPut (Limit key node) why put = absurd why

-- a count of faults that has risen since a later count has risen since an earlier one
pub rose-since : (first before now : ℕ) → first ≤ before → Rose before now → Rose first now
rose-since first before now le rose = omega arith

-- an answer that names no fault has no cause to show
pub cause-memory : (first now : ℕ) → first ≤ now → HasCause {T = Report} WriteFault first now (Err NoMemory)
cause-memory first now later = record {
  later = later;
  risen = λ is. absurd (let d : ◌≡◌ {A = Result Report KernelStop} (Err NoMemory) (Err WriteFault) = is in cc);
}

pub cause-limit : (first now : ℕ) (key : Key) (node : NodeId) → first ≤ now → HasCause {T = Report} WriteFault first now (Err (Limit key node))
cause-limit first now key node later = record {
  later = later;
  risen = λ is. absurd (let d : ◌≡◌ {A = Result Report KernelStop} (Err (Limit key node)) (Err WriteFault) = is in cc);
}

pub cause-done : (first now : ℕ) (report : Report) → first ≤ now → HasCause {E = KernelStop} WriteFault first now (Ok report)
cause-done first now report later = record {
  later = later;
  risen = λ is. absurd (let d : ◌≡◌ {A = Result Report KernelStop} (Ok report) (Err WriteFault) = is in cc);
}

-- a fault of the last put is one of the run
pub cause-put : {A : Type 0} (first before now : ℕ) (stop : KernelStop) → first ≤ before → HasCause {T = A} WriteFault before now (Err stop) →
    HasCause {T = Report} WriteFault first now (Err stop)
cause-put {A} first before now stop le put = record {
  later = (let l = put.later in omega arith);
  risen = λ is.
      let same : stop ≡ WriteFault = (let d : ◌≡◌ {A = Result Report KernelStop} (Err stop) (Err WriteFault) = is in cc) in
      rose-since first before now le (put.risen (ap (λ (s : KernelStop). Err s) same));
}

-- each node's group is there
pub all-within : (cut : Cut) (w : PlainWorld) (fits : Fits w cut) (numbers : List ℕ) (count : ℕ) → numbers ≡ cut.group_of.items → count ≡ cut.groups →
    All (λ group. group < count) numbers
all-within cut w fits numbers count same is = subst (λ (l : List ℕ). All (λ group. group < count) l) (sym same)
    (λ k d low. let inside = fits.within k d low in omega arith)

-- as many groups are there after a window
pub played-count : (end : ℕ) (old after : List PlainLp) (lines : List (Line Packet)) (sends : List (Event (Load Packet))) (stop : Option (Key × NodeId)) →
    HavePlayed end old after lines sends stop → length after ≡ length old
played-count end old after lines sends stop played =
    ap length played.left ∙ length-map played.gone (λ (group : Gone). emptied group.0) ∙ played.are_gone.count

-- the groups of a cut begin the rounds
pub first-between : (w : PlainWorld) (cut : Cut) (lps : List PlainLp) → OpensRuns w → Fits w cut → AreFirst w cut lps → Between w cut lps [] 0 0
first-between w cut lps opens fits first = begins w opens cut fits first.parts first.split lps first.made_of

module _ (w : PlainWorld) (opens : OpensRuns w) (cut : Cut) (fits : Fits w cut) (groups : List Gone) (written : List (Firing Text))
    (rounds last : ℕ) (at : Between w cut (lps_of groups) written rounds last) (HasPut : List (Line Packet) → Type 0) where
  abbrev Put : List (Line Packet)
  Put = map trace_line (lines_of written)

  pub answer-so-far : HasPut Put → HasPutSome w HasPut
  answer-so-far put = (Put, put-so-far w opens cut fits (lps_of groups) written rounds last at, put)

  -- each group is well before the window
  pub groups-well : All (λ group. IsWellLp group.0) groups
  groups-well = all-well groups (λ g lp is. (shape_in w, each-well w cut fits (lps_of groups) written rounds last at g lp is))

  module _ (end : Time) (window : IsWindow w cut (lps_of groups) written rounds last at end) (after : List Gone) (lines : List (Line Packet))
      (sends : List (Event (Load Packet))) where
    pub answer-round : (stop : Option (Key × NodeId)) → HavePlayed end.0 (lps_of groups) (lps_of after) lines sends stop → HasPut (Put ++ lines) →
        HasPutSome w HasPut
    answer-round stop played put = (
      Put ++ lines,
      round-prefix w opens cut fits (lps_of groups) written rounds last at window.least end.0 window.begins window.ends (lps_of after) lines sends stop played,
      put,
    )

    pub answer-limit : (key : Key) (node : NodeId) → HavePlayed end.0 (lps_of groups) (lps_of after) lines sends (Some (key, node)) →
        HasPut (Put ++ lines) → MeetsLimit w key node × HasPut (run_lines w)
    answer-limit key node played put =
        let met = stops w opens cut fits (lps_of groups) written rounds last at window.least end.0 window.begins window.ends (lps_of after) lines sends key node played in
        (met.meets, subst HasPut met.all put)

    -- what was sent can be handed over
    pub sends-fit : HavePlayed end.0 (lps_of groups) (lps_of after) lines sends None → (numbers : List ℕ) → numbers ≡ cut.group_of.items →
        All (λ e. e.key.node.0 < length numbers) sends × CanGet (group_at numbers) (lps_of after) sends
    sends-fit played numbers same =
        let on = goes-on w opens cut fits (lps_of groups) written rounds last at window.least end.0 window.begins window.ends (lps_of after) lines sends played in
        let count : length numbers ≡ length w.nodes = ap length same ∙ fits.each in (
          (λ k d low. let known = on.known k d low in omega arith),
          subst (λ (l : List ℕ). CanGet (group_at l) (lps_of after) sends) (sym same) on.can,
        )

    -- the next round begins where all could be handed over
    pub next-round : HavePlayed end.0 (lps_of groups) (lps_of after) lines sends None → (numbers : List ℕ) → numbers ≡ cut.group_of.items →
        (later : List Gone) → HaveGot (group_at numbers) sends (lps_of after) (lps_of later) → HasPut (Put ++ lines) →
        (fired : List (Firing Text)) × Between w cut (lps_of later) fired (rounds + 1) end.0 × HasPut (map trace_line (lines_of fired))
    next-round played numbers same later got put =
        let on = goes-on w opens cut fits (lps_of groups) written rounds last at window.least end.0 window.begins window.ends (lps_of after) lines sends played in
        let s : suc rounds ≡ rounds + 1 = omega arith in (
          written ++ on.fired,
          subst (λ (n : ℕ). Between w cut (lps_of later) (written ++ on.fired) n end.0) s
              (on.next (lps_of later) (subst (λ (l : List ℕ). HaveGot (group_at l) sends (lps_of after) (lps_of later)) same got)),
          subst HasPut (ap (λ l. Put ++ l) on.lines_are ∙ sym (lines-append written on.fired)) put,
        )
