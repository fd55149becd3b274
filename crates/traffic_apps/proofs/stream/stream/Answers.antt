use Rattle.std.proofs.Common.{ℕ, ◌≡◌, ◌+◌, ◌-◌, ◌≤◌, ◌++◌, length, take, sym, ◌∙◌, ap, arith, length-append}
use Rattle.traffic_apps.specs.Stream.{stream}
use Rattle.traffic_apps.proofs.Turns.{all-copied, some-rest, turn-copied, whole-turn}
use Rattle.traffic_apps.proofs.stream.stream.Goals as goal

pub turns-smaller : goal.turns-smaller
turns-smaller c = let some = some-rest _ _ c.turns.invariant.rest in omega arith

pub turns-preserved : goal.turns-preserved
turns-preserved c =
    let added = c.in_ok-extend_from_slice.ensures.items in
    let long : length c.extend_from_slice.new.self.items ≡ length c.turns.bytes.items + length c.turns.turn.now =
    ap length added ∙ length-append c.turns.bytes.items c.turns.turn.now in
    record {
      so_far = turn-copied _ _ _ _ _ _ _ c.turns.invariant.so_far c.turns.invariant.rest added (omega arith);
      rest = whole-turn (c.args.from + length c.turns.bytes.items) _ _ _ c.turns.invariant.rest (omega (arith, long)) c.rest_of_turn-turn-in-turns.ensures;
    }

pub returns : goal.returns
returns c =
    c.in_ok-extend_from_slice-2.ensures.items
    ∙ all-copied _ _ _ _ _ c.turns.invariant.so_far c.turns.invariant.rest (omega arith)
