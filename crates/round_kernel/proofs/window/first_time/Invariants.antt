use Rattle.std.proofs.Common.{◌≡◌, fold, take, None}
use Rattle.lp_run.specs.Pending.{first_key}
use Rattle.round_kernel.specs.Window.{sooner_of}
use Rattle.round_kernel.proofs.window.first_time.Given as goal

-- the least time of the groups so far
abbrev pub invariant-loop-group : goal.invariant-loop-group
invariant-loop-group g l =
    l.least ≡ fold (λ least group. sooner_of least (first_key group.0.pending)) None (take l.group-index l.groups.items)
