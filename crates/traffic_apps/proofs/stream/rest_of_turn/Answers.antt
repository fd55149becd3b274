use Rattle.std.proofs.Common.{ℕ, ◌≡◌, ◌+◌, ◌-◌, ◌≤◌, length, drop, take, ap, ◌∙◌, sym, arith, rules, length-drop}
use Rattle.traffic_apps.specs.Stream.{stream}
use Rattle.traffic_apps.proofs.Turns.{length-stream, rest-of-turn}
use Rattle.traffic_apps.proofs.stream.rest_of_turn.Goals as goal

pub slice_bounds-result-count : goal.slice_bounds-result-count
slice_bounds-result-count c = let e = ap length c.turn-turn.ensures ∙ length-stream 251 0 in omega arith

pub slice_bounds-result-start : goal.slice_bounds-result-start
slice_bounds-result-start c = let e = ap length c.turn-turn.ensures ∙ length-stream 251 0 in search rules

pub returns : goal.returns
returns c = rest-of-turn c.turn-turn.result.now c.args.at c.turn-turn.ensures (omega arith)
