use Rattle.std.proofs.Common.{◌≡◌, ◌++◌, true, map, take}
use Rattle.pkt_face.specs.Seen.{plain_line}
use Rattle.trace_merge.specs.Kept.{kept_of}
use Rattle.trace_merge.proofs.kept.KeptLinesLineOut.put.Given as goal

abbrev pub invariant-loop-line : goal.invariant-loop-line
invariant-loop-line g l = record {
  failed : l.self.failed ≡ true;
  lines : l.self.lines.items ≡ l.fn.self.lines.items ++ map kept_of (map (plain_line g.P.Pkt.plain) (take l.line-index l.lines));
}
