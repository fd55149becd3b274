use Rattle.std.proofs.Common.{refl}
use Rattle.traffic_apps.specs.Stream.{stream}
use Rattle.traffic_apps.proofs.stream.turn.Goals as goal

pub returns : goal.returns
unfolding stream
returns c = refl
