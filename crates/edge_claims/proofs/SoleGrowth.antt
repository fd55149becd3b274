-- What the only window of a block is after it has grown in front.
use Rattle.std.proofs.Common.{◌≡◌, ℕ, ◌+◌, ◌-◌, ◌≤◌, List, ◌++◌, length, length-append, slice_range, refl, ap, subst, ◌∙◌, arith}
use Rattle.byte_block.specs.Ranges.{Whole}
use Rattle.edge_claims.specs.Window.{Seen}
use Rattle.edge_claims.specs.Sole.{seen_of_sole, IsSole}
use Rattle.edge_claims.specs.Grown.{GrownFront}
use Rattle.edge_claims.specs.declared.sole.SoleWindow.TheInside.{Inside}
use Rattle.edge_claims.proofs.Growth.{joined}

abbrev pub grown_by : Inside → Whole → List ℕ → Inside
grown_by i b bs = record { alloc = i.alloc; block = b; start = i.start - length bs; end = i.end; first_low = i.first_low; first_high = i.first_high }

pub grows_front : (i : Inside) (b : Whole) (bs : List ℕ) (old : Seen) → seen_of_sole i ≡ old → IsSole i → i.block.from ≡ i.start → length bs ≤ i.start
    → b ≡ record { block = i.block.block; from = i.block.from - length bs; bytes = bs ++ i.block.bytes; capacity = i.block.capacity }
    → GrownFront bs old (seen_of_sole (grown_by i b bs))
grows_front i b bs old is s here fits grown = subst (λ w. GrownFront bs w (seen_of_sole (grown_by i b bs))) is grown_here
  where
    grown_here : GrownFront bs (seen_of_sole i) (seen_of_sole (grown_by i b bs))
    grown_here =
        let from : b.from ≡ i.start - length bs = ap (λ (w : Whole). w.from) grown ∙ omega (arith, here) in
        let long : length b.bytes ≡ length bs + length i.block.bytes = ap (λ (w : Whole). length w.bytes) grown ∙ length-append bs i.block.bytes in
        let none_cut : (i.start - length bs) - b.from ≡ 0 = omega (arith, from) in
        let none_cut_before : i.start - i.block.from ≡ 0 = omega (arith, here) in
        let upto : i.end - b.from ≡ length bs + (i.end - i.block.from) = omega (arith, from, here, fits, s.ordered) in
        record {
          bytes = ap (λ (w : Whole). slice_range w.bytes ((i.start - length bs) - b.from) (i.end - b.from)) grown
              ∙ joined bs i.block.bytes ((i.start - length bs) - b.from) (i.start - i.block.from) (i.end - b.from) (i.end - i.block.from) none_cut none_cut_before upto;
          start = omega (arith, fits);
          end = refl;
          low_seen = λ _. from;
          high_seen = omega (arith, from, long, here, fits);
          claims = omega (arith, from, long, here, fits, s.low, s.high);
          there = record {
            block = ap (λ (w : Whole). w.block) grown;
            capacity = ap (λ (w : Whole). w.capacity) grown;
            alone = refl;
            first_low = refl;
            first_high = refl;
          };
        }
