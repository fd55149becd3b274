use Rattle.std.proofs.Common.{◌∙◌, ◌<◌, ℕ, List, All, length, map, sym, ap, subst, arith}
use Rattle.partition_cut.specs.AllowedCut.{IsLookahead, lookahead_of}
use Rattle.partition_cut.specs.AutoCut.{AreSettled, IsMedian, positive_delays, rank}
use Rattle.partition_cut.specs.Network.{Link, group_at, plain_shape}
use Rattle.partition_cut.proofs.AutoLaws.{few-numbers, labels, groups-allowed, groups-joined, groups-numbered, labels-settled, length-labels, length-numbers, numbers-below}
use Rattle.partition_cut.proofs.MedianLaws.{median-found}
use Rattle.partition_cut.proofs.NamedLaws.{named-auto}
use Rattle.partition_cut.proofs.UsedGroups.{used-ranks}
use Rattle.partition_cut.proofs.automatic.auto.Goals as goal

pub numbers_of-requires-clause-settled : goal.numbers_of-requires-clause-settled
numbers_of-requires-clause-settled c =
    let P : List ℕ → Type 0 = λ l. AreSettled l in
    subst P (sym (c.as_slice.ensures.value ∙ c.in_ok-labels.ensures.labels)) (labels-settled c.args.shape.now c.in_ok-threshold.threshold c.requires)

pub numbers_of-requires-clause-few : goal.numbers_of-requires-clause-few
numbers_of-requires-clause-few c =
    let l = ap length (c.as_slice.ensures.value ∙ c.in_ok-labels.ensures.labels)
    ∙ length-labels c.args.shape.now c.in_ok-threshold.threshold c.requires in
    omega (arith, c.in_ok-labels.ensures.few)

pub least_cut_delay-lookahead-requires : goal.least_cut_delay-lookahead-requires
least_cut_delay-lookahead-requires c =
    let shape = c.args.shape.now in
    let q = c.as_slice.ensures.value ∙ c.in_ok-labels.ensures.labels in
    let e = c.in_ok-numbered.ensures.numbers ∙ ap (λ (l : List ℕ). map (rank l) l) q in
    let n = ap length c.as_slice-2.ensures.value ∙ length-numbers shape c.in_ok-threshold.threshold c.requires c.in_ok-numbered.numbered.0.items e in
    let P : List Link → ℕ → Type 0 = λ links m. All (λ link. (link.0 < m) × (link.1 < m)) links in
    let Q : List Link → Type 0 = λ links. P links (length c.as_slice-2.result.now) in
    subst Q (sym c.deref-2.ensures.value) (subst (P shape.links.items) (sym n) c.requires.links)

pub returns-clause-allowed : goal.returns-clause-allowed
returns-clause-allowed c =
    let shape = c.args.shape.now in
    let threshold = c.in_ok-threshold.threshold in
    let numbers = c.in_ok-numbered.numbered.0.items in
    let q = c.as_slice.ensures.value ∙ c.in_ok-labels.ensures.labels in
    let e = c.in_ok-numbered.ensures.numbers ∙ ap (λ (l : List ℕ). map (rank l) l) q in
    let g = c.in_ok-numbered.ensures.groups ∙ ap (λ (l : List ℕ). rank l (length l)) q in
    let M : List ℕ → Type 0 = λ delays. IsMedian delays threshold in
    let median = subst M (c.in_ok-delays.ensures ∙ ap positive_delays c.deref.ensures.value) c.in_ok-threshold.ensures in
    let P : List ℕ → Type 0 = λ l. IsLookahead (group_at l) shape.links.items c.least_cut_delay-lookahead.result in
    let Q : List Link → Type 0 = λ l. IsLookahead (group_at c.as_slice-2.result.now) l c.least_cut_delay-lookahead.result in
    record {
      each = length-numbers shape threshold c.requires numbers e;
      within = λ k d lt. let h = numbers-below shape threshold c.requires numbers e k d lt in omega arith;
      used = λ number lt. used-ranks (labels shape threshold c.requires) numbers e
          (length-numbers shape threshold c.requires numbers e ∙ sym (length-labels shape threshold c.requires)) number (omega arith);
      few = let h = few-numbers shape threshold c.requires numbers e in omega arith;
      allowed = groups-allowed shape threshold c.requires numbers e median;
      lookahead = subst P c.as_slice-2.ensures.value (subst Q c.deref-2.ensures.value c.least_cut_delay-lookahead.ensures.least);
    }

pub returns-clause-joined : goal.returns-clause-joined
returns-clause-joined c =
    let shape = c.args.shape.now in
    let threshold = c.in_ok-threshold.threshold in
    let numbers = c.in_ok-numbered.numbered.0.items in
    let q = c.as_slice.ensures.value ∙ c.in_ok-labels.ensures.labels in
    let e = c.in_ok-numbered.ensures.numbers ∙ ap (λ (l : List ℕ). map (rank l) l) q in
    let M : List ℕ → Type 0 = λ delays. IsMedian delays threshold in
    record {
      threshold = threshold;
      median = subst M (c.in_ok-delays.ensures ∙ ap positive_delays c.deref.ensures.value) c.in_ok-threshold.ensures;
      joined = groups-joined shape threshold c.requires numbers e;
      numbered = groups-numbered shape threshold c.requires numbers e;
    }

pub returns-clause-named : goal.returns-clause-named
returns-clause-named c =
    let shape = c.args.shape.now in
    let q = c.as_slice.ensures.value ∙ c.in_ok-labels.ensures.labels in
    let e = c.in_ok-numbered.ensures.numbers ∙ ap (λ (l : List ℕ). map (rank l) l) q in
    let g = c.in_ok-numbered.ensures.groups ∙ ap (λ (l : List ℕ). rank l (length l)) q in
    let M : List ℕ → Type 0 = λ delays. IsMedian delays c.in_ok-threshold.threshold in
    let found = median-found (positive_delays shape.links.items) c.in_ok-threshold.threshold
    (subst M (c.in_ok-delays.ensures ∙ ap positive_delays c.deref.ensures.value) c.in_ok-threshold.ensures) in
    named-auto (plain_shape shape) _ c.in_ok-numbered.numbered.0.items c.in_ok-numbered.numbered.1 c.least_cut_delay-lookahead.result found e g
    (c.least_cut_delay-lookahead.ensures.value
    ∙ ap (λ (l : List Link). lookahead_of (group_at c.as_slice-2.result.now) l) c.deref-2.ensures.value
    ∙ ap (λ (l : List ℕ). lookahead_of (group_at l) shape.links.items) c.as_slice-2.ensures.value)
