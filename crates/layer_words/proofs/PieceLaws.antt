-- The sum of bytes, piece by piece.
use Rattle.std.proofs.Common.{ℕ, ◌≡◌, ◌+◌, ◌-◌, ◌<◌, ◌≤◌, List, ◌++◌, All, take, drop, length, refl, sym, ap, ◌∙◌, subst, arith}
use Rattle.std.specs.Prelude.{slice_range}
use Rattle.std.proofs.Math.Seq.{take-add}
use Rattle.std.proofs.lemmas.List.{take_all}
use Rattle.std.proofs.lemmas.List.Elements.{All-nil, All-append}
use Rattle.std.proofs.lemmas.List.Sums.{fold-append}
use Rattle.header_forms.specs.Checksum.{Running, with_byte, with_bytes}

-- the first bytes were added to a sum
pub record AreAdded (bytes : List ℕ) (before now : Running) (count : ℕ) : Type 0 where
  pub sum : now ≡ with_bytes before (take count bytes)
  pub small : All (λ b. b < 256) (take count bytes)

pub none_added : (bytes : List ℕ) (sum : Running) → AreAdded bytes sum sum 0
none_added bytes sum = record { sum = refl; small = All-nil (λ b. b < 256) }

-- the first bytes, and the piece behind them
take-slice_range : (bytes : List ℕ) (at n : ℕ) → take (at + n) bytes ≡ take at bytes ++ slice_range bytes at (at + n)
take-slice_range bytes at n =
    let same : n ≡ at + n - at = omega arith in
    take-add at n bytes ∙ ap (λ m. take at bytes ++ take m (drop at bytes)) same

pub more_added : (bytes : List ℕ) (before sum after : Running) (at m n : ℕ) → m ≡ n → after ≡ with_bytes sum (slice_range bytes at (at + m)) → All (λ b. b < 256) (slice_range bytes at (at + m)) → AreAdded bytes before sum at → AreAdded bytes before after (at + n)
more_added bytes before sum after at m n same e small so_far =
    let front = take at bytes in
    let piece = slice_range bytes at (at + m) in
    let split = sym (take-slice_range bytes at m) ∙ ap (λ k. take (at + k) bytes) same in
    record {
      sum =
          e ∙ ap (λ s. with_bytes s piece) so_far.sum ∙ sym (fold-append with_byte before front piece)
          ∙ ap (with_bytes before) split;
      small = subst (All (λ b. b < 256)) split (All-append (λ b. b < 256) front piece so_far.small small);
    }

pub all_added : (bytes : List ℕ) (before sum : Running) (count : ℕ) → length bytes ≤ count → AreAdded bytes before sum count → sum ≡ with_bytes before bytes
all_added bytes before sum count all added = added.sum ∙ ap (with_bytes before) (take_all count bytes all)

pub all_small : (bytes : List ℕ) (before sum : Running) (count : ℕ) → length bytes ≤ count → AreAdded bytes before sum count → All (λ b. b < 256) bytes
all_small bytes before sum count all added = subst (All (λ b. b < 256)) (take_all count bytes all) added.small
