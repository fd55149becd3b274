use Rattle.std.proofs.Common.{◌≡◌, true, map, take}
use Rattle.pkt_face.specs.Seen.{plain_line}
use Rattle.sim_run.specs.Pieces.{written_pieces}
use Rattle.sim_run.proofs.trace_files.TraceFilesLineOut.put.Given as goal

abbrev pub invariant-loop-line : goal.invariant-loop-line
invariant-loop-line g l = record {
  failed : l.self.failed ≡ true;
  store : l.self.store ≡ l.fn.self.store;
  first : l.self.first ≡ l.fn.self.first;
  traces : l.self.pieces.now.traces ≡ l.fn.self.pieces.now.traces;
  pieces : l.self.pieces.now.pieces ≡ written_pieces l.fn.self.pieces.now.traces (map (plain_line g.P.Pkt.plain) (take l.line-index l.lines));
}
