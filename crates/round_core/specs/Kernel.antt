-- What a kernel has done so far, by the plain run.
use Rattle.std.specs.List.{AllByRecursion}
use Rattle.std.specs.Prelude.{◌≡◌, ℕ, ◌+◌, ◌<◌, ◌≤◌, true, List, [], ◌++◌, Some, ◌⊎◌}
use Rattle.round_core.specs.Laws.{Health, IsSound}
use Rattle.sim_base.specs.KeyOrder.{before}
use Rattle.round_core.specs.Parts.{Part, PartRuns, AreParts, AreMerged}
use Rattle.round_core.specs.Rounds.{Cut, below, plain_firings, times_of, windows}
use Rattle.round_core.specs.World.{Event, Firing, Rules, World, first, with_log}

-- The plain run from a world comes by here: these firings are written, and a world with an empty log is left
pub record ComesBy {Node Lan Load Text : Type 0} (rules : Rules Node Lan Load Text) (ok : Health Node Lan Load) (stop : ℕ)
    (start : World Node Lan Load Text) (written : List (Firing Text)) (w : World Node Lan Load Text) : Type 0 where
  pub steps : ℕ
  pub reached : plain_firings rules stop steps start ≡ with_log written w
  pub unlogged : w.fired ≡ []
  pub sound : IsSound rules ok w

-- so many windows hold the firings that are written, the last of which ends here
pub record FillsWindows {Node Lan Load Text : Type 0} (cut : Cut) (written : List (Firing Text)) (rounds last : ℕ)
    (w : World Node Lan Load Text) : Type 0 where
  pub above : AllByRecursion (λ e. last ≤ e.key.time.0) w.pending
  pub count : (more : List (Firing Text)) →
      windows cut.end_of 0 (times_of (written ++ more)) ≡ rounds + windows cut.end_of last (times_of more)

-- A round of a kernel: its window begins at the least pending time, each group's part has run to the window's end,
-- and the firings of all parts are merged
pub record IsRoundOfParts {Node Lan Load Text : Type 0} (rules : Rules Node Lan Load Text) (stop : ℕ) (cut : Cut) (count end : ℕ)
    (w : World Node Lan Load Text) (parts news : ℕ → Part Node Lan Load Text) (fired : List (Firing Text)) : Type 0 where
  pub least : Event Load
  pub begins : first (below stop) w.pending ≡ Some least
  pub ends : cut.end_of least.key.time.0 ≡ end
  pub within : (n : ℕ) → cut.group_of n < count
  pub are : AreParts rules cut.group_of end parts w
  pub runs : (g : ℕ) → g < count → PartRuns rules cut.group_of g end (parts g) (news g)
  pub rest : (g : ℕ) → count ≤ g → news g ≡ parts g
  pub merged : AreMerged news fired

-- where the next round finds the run: its parts make up what is left, and so many windows are full
pub record IsNextRound {Node Lan Load Text : Type 0} (rules : Rules Node Lan Load Text) (ok : Health Node Lan Load) (stop : ℕ)
    (cut : Cut) (start : World Node Lan Load Text) (written : List (Firing Text)) (rounds last : ℕ)
    (parts : ℕ → Part Node Lan Load Text) : Type 0 where
  pub world : World Node Lan Load Text
  pub comes : ComesBy rules ok stop start written world
  pub are : (end : ℕ) → AreParts rules cut.group_of end parts world
  pub fills : FillsWindows cut written rounds last world

-- the least event that the parts have left below an end
pub record IsLeastLeft {Node Lan Load Text : Type 0} (end : ℕ) (parts : ℕ → Part Node Lan Load Text) (e : Event Load) : Type 0 where
  pub group : ℕ
  pub has : first (below end) (parts group).world.pending ≡ Some e
  pub least : (h : ℕ) (x : Event Load) → first (below end) (parts h).world.pending ≡ Some x → (x ≡ e) ⊎ (before e.key x.key ≡ true)
