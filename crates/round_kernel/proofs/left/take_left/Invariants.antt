use Rattle.std.proofs.Common.{◌≡◌, ◌++◌, map, take, drop}
use Rattle.round_kernel.specs.Left.{emptied_group, full_lines, plain_lists, plain_sends, sends_in}
use Rattle.round_kernel.proofs.left.take_left.Given as goal

-- what the groups before this one have left was taken out
abbrev pub invariant-loop-at : goal.invariant-loop-at
invariant-loop-at g l = record {
  groups : l.groups.items ≡ map emptied_group (take l.at l.fn.groups.items) ++ drop l.at l.fn.groups.items;
  lines : plain_lists g.P.Pkt.plain l.left.lines.items ≡ full_lines (take l.at l.fn.groups.items);
  sends : plain_sends g.P.Pkt.plain l.left.sends.items ≡ sends_in (take l.at l.fn.groups.items);
}
