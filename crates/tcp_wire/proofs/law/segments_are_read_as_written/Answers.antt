use Rattle.tcp_wire.proofs.ReadBack.{read-back}
use Rattle.tcp_wire.proofs.law.segments_are_read_as_written.Goals as goal

pub returns : goal.returns
returns c uid app pair says bytes h = read-back uid app pair says bytes h
