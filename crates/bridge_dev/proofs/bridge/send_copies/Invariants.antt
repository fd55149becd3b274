use Rattle.std.proofs.Common.{◌≡◌, ◌++◌, map}
use Rattle.bridge_dev.specs.Seen.{plain_act}
use Rattle.bridge_dev.specs.Step.{others, outs}
use Rattle.bridge_dev.proofs.bridge.send_copies.Given as goal

-- the frame stays, and has gone out at each port below this one but its own
abbrev pub invariant-loop-other : goal.invariant-loop-other
invariant-loop-other g l =
    (g.P.Pkt.plain l.frame ≡ g.P.Pkt.plain l.initial.frame)
    × (map (plain_act g.P.Pkt.plain) l.out.items ≡
    map (plain_act g.P.Pkt.plain) l.initial.out.items ++ outs (g.P.Pkt.plain l.initial.frame) (others l.port l.other))
