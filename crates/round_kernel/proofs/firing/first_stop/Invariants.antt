use Rattle.std.proofs.Common.{◌≡◌, ◌≢◌, ◌<◌, ℕ, fold, get_or, take, None, Some}
use Rattle.lp_run.specs.declared.stop.LpStop.TheVariants.{NoMemory}
use Rattle.round_kernel.specs.Stops.{with_stop}
use Rattle.round_kernel.specs.Window.{Gone}
use Rattle.round_kernel.proofs.firing.first_stop.Given as goal

-- the least stop of the groups so far, none of which wants memory
abbrev pub invariant-loop-group : goal.invariant-loop-group
invariant-loop-group g l = record {
  memory : (k : ℕ) (d : Gone) → k < l.group-index → (get_or l.groups.items k d).1 ≢ Some NoMemory;
  least : l.least ≡ fold (λ least group. with_stop least group.1) None (take l.group-index l.groups.items);
}
