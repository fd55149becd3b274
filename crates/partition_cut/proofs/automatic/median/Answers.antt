use Rattle.std.proofs.Common.{◌∙◌, ℕ, ◌-◌, ◌/◌, List, length, slice_get, sym, ap}
use Rattle.partition_cut.proofs.automatic.median.Goals as goal

pub returns : goal.returns
returns c = record {
  sorted = c.sort.new.self.items;
  permutes = c.sort.ensures.permutation;
  ordered = c.in_ok-sort.ensures.sorted;
  middle = ap (λ (l : List ℕ). slice_get l ((length l - 1) / 2)) (sym c.as_slice.ensures.value) ∙ sym c.middle_of.ensures;
}
