-- Groups by their numbers.
use Rattle.std.proofs.Common.{◌≡◌, ◌≢◌, ℕ, ◌<◌, List, All, length, length-set, set, Option, Some, None, slice_get, refl, sym, ap, ◌∙◌, subst, arith, inl, inr}
use Rattle.std.proofs.lemmas.List.{get_or-set_other, get_or-set_same, length-map}
use Rattle.std.proofs.lemmas.Option.{slice_get-get_or, slice_get-map, slice_get_cases, slice_get_past}
use Rattle.std.specs.Option.{option_map}
use Rattle.lp_run.specs.declared.stop.LpStop.{LpStop}
use Rattle.lp_run.specs.declared.stop.LpStop.TheVariants.{NoMemory}
use Rattle.lp_run.specs.Lp.{HasRun, IsWellLp, PlainLp}
use Rattle.row_work.specs.Made.{AreMade}
use Rattle.row_work.proofs.MadeLaws.{all-at}
use Rattle.round_kernel.specs.Left.{lps_of}
use Rattle.round_kernel.specs.Rounds.{HaveRun}
use Rattle.round_kernel.specs.Stops.{HaveGone, IsStopOf}
use Rattle.round_kernel.specs.Window.{Gone, HasGone}
use Rattle.round_kernel.proofs.Begin.{some-mapped}

-- the group that is seen at a place of a list of groups
pub group-at : (groups : List Gone) (g : ℕ) (lp : PlainLp) → slice_get (lps_of groups) g ≡ Some lp →
    (group : Gone) × (slice_get groups g ≡ Some group) × (lp ≡ group.0)
group-at groups g lp is = some-mapped (λ (x : Gone). x.0) (slice_get groups g) lp (sym (slice_get-map (λ (x : Gone). x.0) groups g) ∙ is)

pub at-group : (groups : List Gone) (g : ℕ) (group : Gone) → slice_get groups g ≡ Some group → slice_get (lps_of groups) g ≡ Some group.0
at-group groups g group is = slice_get-map (λ (x : Gone). x.0) groups g ∙ ap (option_map (λ (x : Gone). x.0)) is

-- there is a group at each number
pub group-there : (g : ℕ) (groups : List Gone) → g < length groups → (group : Gone) × (slice_get groups g ≡ Some group)
group-there g groups low = elim (slice_get_cases groups g).1 [
  | inl found ↦ (found.0, found.2)
  | inr past ↦ absurd (let high = past.0 in omega arith)
]

pub length-lps : (groups : List Gone) → length (lps_of groups) ≡ length groups
length-lps groups = length-map groups (λ (x : Gone). x.0)

-- a list of which one item has changed
pub set-same : {T : Type 0} (xs : List T) (n : ℕ) (y : T) → n < length xs → slice_get (set xs n y) n ≡ Some y
set-same xs n y low = slice_get-get_or (set xs n y) n y (let l = length-set xs n y in omega arith) ∙ ap Some (get_or-set_same xs n y y low)

pub set-other : {T : Type 0} (xs : List T) (i n : ℕ) (y : T) → (n ≡ i → ⊥) → slice_get (set xs i y) n ≡ slice_get xs n
set-other xs i n y other = elim (slice_get_cases xs n).1 [
  | inl found ↦
      slice_get-get_or (set xs i y) n y (let l = length-set xs i y in let low = found.1 in omega arith)
      ∙ ap Some (get_or-set_other xs i n y y other) ∙ sym (slice_get-get_or xs n y found.1)
  | inr past ↦ slice_get_past (set xs i y) n (let l = length-set xs i y in let high = past.0 in omega arith) ∙ sym past.1
]

-- groups that have run or stopped, none for want of memory
pub have-gone : (end : ℕ) (old new : List Gone) → AreMade (λ _ o n. HasGone end o.0 n.0 n.1) old new →
    All (λ group. group.1 ≢ Some NoMemory) new → HaveGone end (lps_of old) new
have-gone end old new made memory = record {
  count = made.count ∙ sym (length-lps old);
  each = λ g lp is. let was = group-at old g lp is in let later = made.each g was.0 was.1 in
      (later.0, later.1, subst (λ (x : PlainLp). HasGone end x later.0.0 later.0.1) (sym was.2) later.2);
  memory = λ g lp there. all-at (λ (group : Gone). group.1 ≢ Some NoMemory) new g (lp, Some NoMemory) memory there refl;
}

-- where none has stopped, all have run
pub have-run : (end : ℕ) (old : List PlainLp) (gone : List Gone) → HaveGone end old gone → IsStopOf gone None → HaveRun end old (lps_of gone)
have-run end old gone have none = record {
  count = length-lps gone ∙ have.count;
  each = λ g lp is. let later = have.each g lp is in
      (later.0.0, at-group gone g later.0 later.1, ran g lp later.0.0 later.0.1 later.1 later.2);
}
  where
    ran : (g : ℕ) (lp now : PlainLp) (stop : Option LpStop) → slice_get gone g ≡ Some (now, stop) → HasGone end lp now stop → HasRun end lp now
    ran g lp now None there h = h
    ran g lp now (Some stop) there h = absurd (none g now stop there)

-- each group is well
pub all-well : (groups : List Gone) → ((g : ℕ) (lp : PlainLp) → slice_get (lps_of groups) g ≡ Some lp → IsWellLp lp) →
    All (λ group. IsWellLp group.0) groups
all-well groups well = all-of groups (λ group. IsWellLp group.0) (λ g group is. well g group.0 (at-group groups g group is))
  where
    all-of : (xs : List Gone) (P : Gone → Type 0) → ((g : ℕ) (x : Gone) → slice_get xs g ≡ Some x → P x) → All P xs
    all-of xs P h k d low = h k _ (slice_get-get_or xs k d low)
