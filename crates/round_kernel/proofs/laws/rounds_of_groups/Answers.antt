use Rattle.std.proofs.Common.{filter}
use Rattle.sim_base.specs.KeyOrder.{before}
use Rattle.plain_kernel.specs.Run.{shape_in}
use Rattle.round_kernel.proofs.Begin.{begins}
use Rattle.round_kernel.proofs.NextRound.{Fired, next-between, round-lines}
use Rattle.round_kernel.proofs.RoundLaws.{each-well}
use Rattle.round_kernel.proofs.StopRound as stopping
use Rattle.round_kernel.proofs.Turns.{done, moves}
use Rattle.round_kernel.proofs.laws.rounds_of_groups.Goals as goal

pub returns-clause-begins : goal.returns-clause-begins
returns-clause-begins c w cut parts lps opens fits split are = begins w opens cut fits parts split lps are

pub returns-clause-well : goal.returns-clause-well
returns-clause-well c w cut lps written rounds last fits at g lp is = (shape_in w, each-well w cut fits lps written rounds last at g lp is)

pub returns-clause-goes_on : goal.returns-clause-goes_on
returns-clause-goes_on c w cut lps ran written rounds last end least fits now gone begins ends = (
  Fired w cut fits lps written rounds last now end ran gone least begins ends,
  (λ later over. next-between w cut fits lps written rounds last now end ran gone least begins ends later over),
  (λ lines rises members. round-lines w cut fits lps written rounds last now end ran gone least begins ends lines rises members),
)

pub returns-clause-stops : goal.returns-clause-stops
returns-clause-stops c w cut lps ran written rounds last end least key node fits now gone begins ends stop = (
  stopping.node-is w cut fits lps written rounds last now end ran gone least begins ends key node stop,
  filter (λ f. before f.key key) (stopping.Fired w cut fits lps written rounds last now end ran gone least begins ends key node stop),
  stopping.limited w cut fits lps written rounds last now end ran gone least begins ends key node stop,
  (λ lines rises members. stopping.limit-lines w cut fits lps written rounds last now end ran gone least begins ends key node stop lines rises members),
)

pub returns-clause-moves : goal.returns-clause-moves
returns-clause-moves c w cut lps written rounds last end least fits now begins ends = moves w cut fits lps written rounds last now least end begins ends

pub returns-clause-ends : goal.returns-clause-ends
returns-clause-ends c w cut lps written rounds last fits now none = done w cut fits lps written rounds last now none
