-- How much another class gives while one waits for its turn: what it may still give only falls.
use Rattle.std.proofs.Common.{◌≡◌, ◌≢◌, ℕ, zero, suc, ◌+◌, ◌*◌, ◌-◌, ◌<◌, ◌≤◌, Bool, true, false, cond, List, [], ◌∷◌, ◌++◌, Option, Some, None, IsNone, fold, refl, sym, ap, ◌∙◌, subst, arith, get_or, set, inl, inr, ◌⊎◌, length, get_or-set_same, get_or-set_other}
use Rattle.std.proofs.lemmas.Bool.{cond_both, cond-true, cond-false, cases_eq, cases_lt, or_cases, or_parts, or_left, or_right}
use Rattle.std.proofs.lemmas.Int.{ints}
use Rattle.std.proofs.lemmas.List.Folds.{list_any-append}
use Rattle.std.proofs.lemmas.List.{get_or_past}
use Rattle.std.proofs.lemmas.List.Elements.{All-get_or}
use Rattle.std.specs.List.{list_any}
use Rattle.std.specs.Option.{option_to_list}
use Rattle.std.specs.Prelude.{◌==◌, ◌||◌, ℤ, pos, negsuc, ◌+ℤ◌, ◌-ℤ◌, ◌≤ℤ◌, int_lt}
use Rattle.sim_base.specs.Packet.{Packet, len}
use Rattle.codel_disc.specs.declared.turn.Turn.{Turn}
use Rattle.codel_disc.specs.declared.turn.Turn.TheVariants.{Gave, Passed, Over}
use Rattle.codel_disc.specs.declared.waiting.Waiting.{Waiting}
use Rattle.codel_disc.specs.Class as codel
use Rattle.codel_disc.specs.Class.{PlainClass, Taken, with_frame}
use Rattle.codel_disc.specs.Fairness.{Step, keep, take, stepped, after_steps, turn_bytes, bytes_in, bytes_over, GoesBack, WaitsThroughout, KeepsWithin, IsFair}
use Rattle.codel_disc.specs.Flows.{PlainFlows, Turned, class_at, class_of, credit_at, empty_flows, kept, refilled, served_with, turn, turn_of, with_class}
use Rattle.codel_disc.specs.Order.{IsWithin}
use Rattle.codel_disc.specs.Roster.{first, stands, sent_back_in, let_go_in}
use Rattle.codel_disc.proofs.FlowLaws.{self-eq, apart-eq, woken_parts}
use Rattle.codel_disc.proofs.SoundLaws.{Sound, IsHome, AreHome, after_keep, all_split, class_by-known, empty_sound, first_in-known, sound_kept, turn_of-keeps}
use Rattle.codel_disc.proofs.RosterLaws.{counted, one, counted-append, counted-cons, counted-push, none_counts, one-same, one-other}
use Rattle.codel_disc.proofs.TakenLaws.{next-all, none-empty}
use Rattle.codel_disc.proofs.PotentialLaws.{any, spend, potential, spend-most, potential-most, any-cons, any-push, any-last, any-grows, absent, in_new, alike, Once, moved-new, moved-old, gone-old, gave-new, gave-old, potential_of, Falls, once-moved-new, once-moved-old, once-gone, credit_other, credit_same, bytes_same, bytes_other}

-- the class gives a frame, and stays where it is
gives-less : (m a b k : ℕ) (new old : List ℕ) (credits : List ℤ) (w : Waiting Packet) → k < length credits →
    len w.frame + potential m a k new old (get_or credits k (pos 0) -ℤ pos (len w.frame)) ≤ potential m a k new old (get_or credits k (pos 0)) →
    turn_bytes b (Some k) (Gave w) + potential m a b new old (get_or (set credits k (get_or credits k (pos 0) -ℤ pos (len w.frame))) b (pos 0)) ≤
    potential m a b new old (get_or credits b (pos 0))
gives-less m a b k new old credits w within less =
    elim (cases_eq b k) [
      | inl here ↦
          let e = bytes_same k w in
          let f = ap (potential m a k new old) (credit_same k credits (get_or credits k (pos 0) -ℤ pos (len w.frame)) within) in
          subst (λ (i : ℕ). turn_bytes i (Some k) (Gave w) + potential m a i new old (get_or (set credits k (get_or credits k (pos 0) -ℤ pos (len w.frame))) i (pos 0)) ≤
          potential m a i new old (get_or credits i (pos 0))) (sym here) (omega (arith, e, f, less))
      | inr apart ↦
          let e = bytes_other b k w apart in
          let f = ap (potential m a b new old) (credit_other b k credits (get_or credits k (pos 0) -ℤ pos (len w.frame)) apart) in
          omega (arith, e, f)
    ]

gives-waiting : (m a b : ℕ) (new old : List ℕ) (credits : List ℤ) (c : ℤ) (w : Waiting Packet) → b ≢ a →
    turn_bytes b (Some a) (Gave w) + potential m a b new old (get_or (set credits a c) b (pos 0)) ≤ potential m a b new old (get_or credits b (pos 0))
gives-waiting m a b new old credits c w apart =
    omega (arith, bytes_other b a w apart, ap (potential m a b new old) (credit_other b a credits c apart))

module _ (m a b : ℕ) (apart : b ≢ a) (classes : List PlainClass) (credits : List ℤ) (k : ℕ) (within : k < length credits) where
  abbrev pub flows_new : List ℕ → List ℕ → PlainFlows
  flows_new new old = record { classes = classes; credits = credits; roster = record { new_ones = new; old_ones = old } }

  served-new : (new old : List ℕ) (t : Taken PlainClass) (o : Option (Waiting Packet)) → int_lt (pos 0) (get_or credits k (pos 0)) ≡ true →
      ((w : Waiting Packet) → o ≡ Some w → len w.frame ≤ m) → Once (k ∷ new) old → any a old ≡ true →
      Falls m a b (turn_bytes b (Some k) (served_with k (flows_new (k ∷ new) old) t o).ended) (flows_new (k ∷ new) old) (served_with k (flows_new (k ∷ new) old) t o).flows
  served-new new old t (Some w) some short once waits = record {
    less = gives-less m a b k (k ∷ new) old credits w within (gave-new m a k new old (get_or credits k (pos 0)) (len w.frame) some (short w refl));
    waits = waits;
    once = once;
  }
  served-new new old t None some short once waits = record {
    less = omega (arith, moved-new m a b k new old (get_or credits b (pos 0)) (get_or credits b (pos 0)) once waits (λ _. refl));
    waits = any-grows a old k waits;
    once = once-moved-new k new old once;
  }

  refilled-new : (new old : List ℕ) → Once (k ∷ new) old → any a old ≡ true →
      Falls m a b 0 (flows_new (k ∷ new) old) (refilled k (flows_new (k ∷ new) old)).flows
  refilled-new new old once waits = record {
    less = omega (
      arith,
      moved-new m a b k new old (get_or credits b (pos 0)) (get_or (set credits k (get_or credits k (pos 0) +ℤ pos 1518)) b (pos 0)) once waits
          (credit_other b k credits (get_or credits k (pos 0) +ℤ pos 1518)),
    );
    waits = any-grows a old k waits;
    once = once-moved-new k new old once;
  }

  served-old : (old : List ℕ) (t : Taken PlainClass) (o : Option (Waiting Packet)) → k ≢ a → int_lt (pos 0) (get_or credits k (pos 0)) ≡ true →
      ((w : Waiting Packet) → o ≡ Some w → len w.frame ≤ m) → Once [] (k ∷ old) → any a (k ∷ old) ≡ true →
      Falls m a b (turn_bytes b (Some k) (served_with k (flows_new [] (k ∷ old)) t o).ended) (flows_new [] (k ∷ old)) (served_with k (flows_new [] (k ∷ old)) t o).flows
  served-old old t (Some w) other some short once waits = record {
    less = gives-less m a b k [] (k ∷ old) credits w within (gave-old m a k old (get_or credits k (pos 0)) (len w.frame) other some (short w refl));
    waits = waits;
    once = once;
  }
  served-old old t None other some short once waits = record {
    less = omega (arith, gone-old m a b k old (get_or credits b (pos 0)) other once);
    waits = sym (any-cons a k old (λ (e : a ≡ k). other (sym e))) ∙ waits;
    once = once-gone k old once;
  }

  refilled-old : (old : List ℕ) → k ≢ a → Once [] (k ∷ old) → any a (k ∷ old) ≡ true →
      Falls m a b 0 (flows_new [] (k ∷ old)) (refilled k (flows_new [] (k ∷ old))).flows
  refilled-old old other once waits =
      let still : any a old ≡ true = sym (any-cons a k old (λ (e : a ≡ k). other (sym e))) ∙ waits in
      record {
        less = omega (
          arith,
          moved-old m a b k old (get_or credits b (pos 0)) (get_or (set credits k (get_or credits k (pos 0) +ℤ pos 1518)) b (pos 0)) other once still
              (credit_other b k credits (get_or credits k (pos 0) +ℤ pos 1518)),
        );
        waits = any-grows a old k still;
        once = once-moved-old k old once;
      }

-- a frame that is given is not too long
given_short : (m k : ℕ) (d l frames : List (Waiting Packet)) (o : Option (Waiting Packet)) → d ++ option_to_list o ++ l ≡ frames → AreHome m k frames →
    (w : Waiting Packet) → o ≡ Some w → len w.frame ≤ m
given_short m k d l frames None all mine w e = cc
given_short m k d l frames (Some v) all mine w e =
    let parts = all_split (IsHome m k) (d ++ v ∷ []) l (subst (AreHome m k) (sym all) mine) in
    let last = all_split (IsHome m k) d (v ∷ []) parts.0 in
    let same : v ≡ w = cc in
    subst (λ (x : Waiting Packet). len x.frame ≤ m) same last.1.0.1

waiting_gives : (m a b : ℕ) (f : PlainFlows) (t : Taken PlainClass) (o : Option (Waiting Packet)) → b ≢ a → (o ≡ None → ⊥) → any a f.roster.old_ones ≡ true →
    Once f.roster.new_ones f.roster.old_ones → Falls m a b (turn_bytes b (Some a) (served_with a f t o).ended) f (served_with a f t o).flows
waiting_gives m a b f t (Some w) apart some waits once = record {
  less = gives-waiting m a b f.roster.new_ones f.roster.old_ones f.credits (credit_at a f -ℤ pos (len w.frame)) w apart;
  waits = waits;
  once = once;
}
waiting_gives m a b f t None apart some waits once = absurd (some refl)

none_is : (o : Option (Waiting Packet)) → o ≡ None → IsNone o
none_is None e = refl
none_is (Some w) e = cc

abbrev pub Stays : ℕ → ℕ → Turned → Type 0
Stays a k t = (Some k ≡ Some a) × (t.ended ≡ Passed) × (any a t.flows.roster.old_ones ≡ true) → ⊥

fair_turn : (m a b : ℕ) → b ≢ a → (now : ℕ) (classes : List PlainClass) (credits : List ℤ) (new old : List ℕ) →
    let f : PlainFlows = record { classes = classes; credits = credits; roster = record { new_ones = new; old_ones = old } } in
    Sound m f → Once new old → any a old ≡ true → (class_at a f).frames ≢ [] → (GoesBack a f (take now) → ⊥) →
    Falls m a b (bytes_in b f (take now)) f (turn now f).flows
fair_turn m a b apart now classes credits [] [] s once waits held stays = cc
fair_turn m a b apart now classes credits (k ∷ new) old s once waits held stays =
    let f : PlainFlows = record { classes = classes; credits = credits; roster = record { new_ones = k ∷ new; old_ones = old } } in
    let within : k < length credits = omega (arith, s.new_known.0, s.all_credits) in
    cond_both (int_lt (pos 0) (credit_at k f)) _ _ (λ (t : Turned). Falls m a b (turn_bytes b (Some k) t.ended) f t.flows)
    (λ some. served-new m a b apart classes credits k within new old (codel.next now (class_at k f)) (codel.next now (class_at k f)).given some
    (given_short m k _ _ _ _ (next-all now (class_at k f)) (s.home k)) once waits)
    (λ none. refilled-new m a b apart classes credits k within new old once waits)
fair_turn m a b apart now classes credits [] (k ∷ old) s once waits held stays =
    let f : PlainFlows = record { classes = classes; credits = credits; roster = record { new_ones = []; old_ones = k ∷ old } } in
    let within : k < length credits = omega (arith, s.old_known.0, s.all_credits) in
    elim (cases_eq k a) [
      | inr other ↦
          cond_both (int_lt (pos 0) (credit_at k f)) _ _ (λ (t : Turned). Falls m a b (turn_bytes b (Some k) t.ended) f t.flows)
          (λ some. served-old m a b apart classes credits k within old (codel.next now (class_at k f)) (codel.next now (class_at k f)).given other some
          (given_short m k _ _ _ _ (next-all now (class_at k f)) (s.home k)) once waits)
          (λ none. refilled-old m a b apart classes credits k within old other once waits)
      | inl here ↦
          cond_both (int_lt (pos 0) (credit_at k f)) _ _ (λ (t : Turned). Stays a k t → Falls m a b (turn_bytes b (Some k) t.ended) f t.flows)
          (λ some _. subst (λ (i : ℕ). Falls m a b (turn_bytes b (Some i) (served_with i f (codel.next now (class_at i f)) (codel.next now (class_at i f)).given).ended) f
          (served_with i f (codel.next now (class_at i f)) (codel.next now (class_at i f)).given).flows) (sym here)
          (waiting_gives m a b f (codel.next now (class_at a f)) (codel.next now (class_at a f)).given apart
          (λ e. held (none-empty now (class_at a f) (none_is _ e))) waits once))
          (λ none back. absurd (back (ap Some here, refl, subst (λ (i : ℕ). any a (old ++ i ∷ []) ≡ true) (sym here) (any-last a old))))
          stays
    ]

-- a frame is kept

any-false-counted : (b : ℕ) (xs : List ℕ) → any b xs ≡ false → counted b xs ≡ 0
any-false-counted b [] h = refl
any-false-counted b (x ∷ xs) h =
    let parts = or_parts (x == b) (any b xs) h in
    omega (arith, counted-cons b x xs, cond-false {A = ℕ} (x == b) 1 0 parts.0, any-false-counted b xs parts.1)

once_joined : (k : ℕ) (new old : List ℕ) → Once new old → counted k (new ++ old) ≡ 0 → Once (new ++ k ∷ []) old
once_joined k new old h none q =
    elim (cases_eq q k) [
      | inl same ↦
          subst (λ (i : ℕ). counted i ((new ++ k ∷ []) ++ old) ≤ 1) (sym same)
          (omega (arith, counted-append k (new ++ k ∷ []) old, counted-push k k new, one-same k, counted-append k new old, none))
      | inr apart ↦ omega (arith, counted-append q (new ++ k ∷ []) old, counted-push q k new, one-other q k apart, counted-append q new old, h q)
    ]

fair_keep : (m a b k : ℕ) (f : PlainFlows) (c : PlainClass) (t : Bool) → stands k f.roster ≡ t → k < length f.credits → any a f.roster.old_ones ≡ true →
    Once f.roster.new_ones f.roster.old_ones → Falls m a b 0 f (after_keep k f c t)
fair_keep m a b k f c true stands_now within waits once = record { less = omega arith; waits = waits; once = once }
fair_keep m a b k f c false fresh within waits once =
    let none : counted k (f.roster.new_ones ++ f.roster.old_ones) ≡ 0 = any-false-counted k (f.roster.new_ones ++ f.roster.old_ones) fresh in
    let parts = counted-append k f.roster.new_ones f.roster.old_ones in
    record {
      less = elim (cases_eq b k) [
        | inl here ↦
            let e = absent m a k f.roster.new_ones f.roster.old_ones (credit_at k f) (omega (arith, none, parts)) (omega (arith, none, parts)) in
            let g = in_new m a k (f.roster.new_ones ++ k ∷ []) f.roster.old_ones (get_or (set f.credits k (pos 1518)) k (pos 0)) (any-last k f.roster.new_ones) in
            let h = ap (spend m) (credit_same k f.credits (pos 1518) within) in
            let full : spend m (pos 1518) ≤ 1518 + m = spend-most m (pos 1518) (omega (arith, ints)) in
            subst (λ (i : ℕ). 0 + potential_of m a i (after_keep k f c false) ≤ potential_of m a i f) (sym here) (omega (arith, e, g, h, full))
        | inr apart ↦
            let e = alike m a b f.roster.new_ones (f.roster.new_ones ++ k ∷ []) f.roster.old_ones f.roster.old_ones (credit_at b f) (get_or (set f.credits k (pos 1518)) b (pos 0))
            (any-push b k f.roster.new_ones apart) refl refl (credit_other b k f.credits (pos 1518) apart) in
            omega (arith, e)
      ];
      waits = waits;
      once = once_joined k f.roster.new_ones f.roster.old_ones once none;
    }

-- whole runs

sound_step : (m : ℕ) (f : PlainFlows) (step : Step) (steps : List Step) → KeepsWithin m (step ∷ steps) → Sound m f → Sound m (stepped f step)
sound_step m f (keep w) steps short s = sound_kept m w f short.0 s
sound_step m f (take now) steps short s =
    (turn_of-keeps m now f (first f.roster) (first_in-known f.roster.new_ones f.roster.old_ones s.new_known s.old_known) s).sound

rest_within : (m : ℕ) (step : Step) (steps : List Step) → KeepsWithin m (step ∷ steps) → KeepsWithin m steps
rest_within m (keep w) steps h = h.1
rest_within m (take now) steps h = h

fair_step : (m a b : ℕ) → b ≢ a → (f : PlainFlows) (step : Step) → Sound m f → Once f.roster.new_ones f.roster.old_ones → any a f.roster.old_ones ≡ true →
    (class_at a f).frames ≢ [] → (GoesBack a f step → ⊥) → Falls m a b (bytes_in b f step) f (stepped f step)
fair_step m a b apart f (take now) s once waits held stays =
    fair_turn m a b apart now f.classes f.credits f.roster.new_ones f.roster.old_ones s once waits held stays
fair_step m a b apart f (keep w) s once waits held stays =
    let k = class_of w.frame in
    let c = with_frame w (class_at k f) in
    let same : kept w f ≡ after_keep k f c (stands k f.roster) = woken_parts k (with_class k c f) (stands k f.roster) in
    let known : k < 64 = class_by-known _ in
    subst (λ (g : PlainFlows). Falls m a b 0 f g) (sym same)
    (fair_keep m a b k f c (stands k f.roster) refl (omega (arith, known, s.all_credits)) waits once)

fair_run : (m a b : ℕ) → b ≢ a → (f : PlainFlows) (steps : List Step) → Sound m f → Once f.roster.new_ones f.roster.old_ones → any a f.roster.old_ones ≡ true →
    KeepsWithin m steps → WaitsThroughout a f steps → bytes_over b f steps ≤ potential_of m a b f
fair_run m a b apart f [] s once waits short held = omega arith
fair_run m a b apart f (step ∷ steps) s once waits short held =
    let one = fair_step m a b apart f step s once waits held.0 held.1 in
    let rest = fair_run m a b apart (stepped f step) steps (sound_step m f step steps short s) one.once one.waits (rest_within m step steps short) held.2 in
    omega (arith, one.less, rest)

once_back : (new old : List ℕ) → Once new old → Once (sent_back_in new old).new_ones (sent_back_in new old).old_ones
once_back (k ∷ new) old h = once-moved-new k new old h
once_back [] [] h = h
once_back [] (k ∷ old) h = once-moved-old k old h

once_let_go : (new old : List ℕ) → Once new old → Once (let_go_in new old).new_ones (let_go_in new old).old_ones
once_let_go (k ∷ new) old h = once-moved-new k new old h
once_let_go [] [] h = h
once_let_go [] (k ∷ old) h = once-gone k old h

once_served : (k : ℕ) (f : PlainFlows) (t : Taken PlainClass) (o : Option (Waiting Packet)) → Once f.roster.new_ones f.roster.old_ones →
    Once (served_with k f t o).flows.roster.new_ones (served_with k f t o).flows.roster.old_ones
once_served k f t (Some w) h = h
once_served k f t None h = once_let_go f.roster.new_ones f.roster.old_ones h

once_keep : (k : ℕ) (f : PlainFlows) (c : PlainClass) (t : Bool) → stands k f.roster ≡ t → Once f.roster.new_ones f.roster.old_ones →
    Once (after_keep k f c t).roster.new_ones (after_keep k f c t).roster.old_ones
once_keep k f c true e h = h
once_keep k f c false e h = once_joined k f.roster.new_ones f.roster.old_ones h (any-false-counted k (f.roster.new_ones ++ f.roster.old_ones) e)

credit_top : (m b : ℕ) (f : PlainFlows) → Sound m f → credit_at b f ≤ℤ pos 1518
credit_top m b f s =
    elim (cases_lt b (length f.credits)) [
      | inl below ↦ (All-get_or (IsWithin m) f.credits b (pos 0) below s.within).1
      | inr past ↦ subst (λ (c : ℤ). c ≤ℤ pos 1518) (sym (get_or_past f.credits b (pos 0) past)) (omega (arith, ints))
    ]

once_turn : (now : ℕ) (f : PlainFlows) (o : Option ℕ) → first f.roster ≡ o → Once f.roster.new_ones f.roster.old_ones →
    Once (turn_of now f o).flows.roster.new_ones (turn_of now f o).flows.roster.old_ones
once_turn now f None e once = once
once_turn now f (Some k) e once =
    cond_both (int_lt (pos 0) (credit_at k f)) _ _ (λ (t : Turned). Once t.flows.roster.new_ones t.flows.roster.old_ones)
    (λ some. once_served k f (codel.next now (class_at k f)) (codel.next now (class_at k f)).given once)
    (λ none. once_back f.roster.new_ones f.roster.old_ones once)

once_step : (f : PlainFlows) (step : Step) → Once f.roster.new_ones f.roster.old_ones → Once (stepped f step).roster.new_ones (stepped f step).roster.old_ones
once_step f (take now) once = once_turn now f (first f.roster) refl once
once_step f (keep w) once =
    let k = class_of w.frame in
    let c = with_frame w (class_at k f) in
    let same : kept w f ≡ after_keep k f c (stands k f.roster) = woken_parts k (with_class k c f) (stands k f.roster) in
    subst (λ (g : PlainFlows). Once g.roster.new_ones g.roster.old_ones) (sym same) (once_keep k f c (stands k f.roster) refl once)

reached : (m : ℕ) (f : PlainFlows) (steps : List Step) → KeepsWithin m steps → Sound m f → Once f.roster.new_ones f.roster.old_ones →
    Sound m (fold stepped f steps) × Once (fold stepped f steps).roster.new_ones (fold stepped f steps).roster.old_ones
reached m f [] short s once = (s, once)
reached m f (step ∷ steps) short s once =
    reached m (stepped f step) steps (rest_within m step steps short) (sound_step m f step steps short s) (once_step f step once)

empty_once : Once empty_flows.roster.new_ones empty_flows.roster.old_ones
unfolding empty_flows
empty_once q = omega arith

pub fair : (m : ℕ) (earlier : List Step) (now : ℕ) (later : List Step) → IsFair m earlier now later
fair m earlier now later a b apart short_before short back held =
    let r = reached m empty_flows earlier short_before (empty_sound m) empty_once in
    let f = after_steps earlier in
    let g = stepped f (take now) in
    let s : Sound m g = sound_step m f (take now) [] tt r.0 in
    let once = once_step f (take now) r.1 in
    let total = fair_run m a b apart g later s once back.2 short held in
    let top = potential-most m a b g.roster.new_ones g.roster.old_ones (credit_at b g) (credit_top m b g s) in
    omega (arith, total, top)
