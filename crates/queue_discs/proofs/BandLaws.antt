-- The frames of a band.
use Rattle.std.proofs.Common.{◌≡◌, ℕ, ◌+◌, ◌<◌, ◌≤◌, Bool, cond, List, [], ◌∷◌, ◌++◌, None, Some, length, map, option_map, slice_index_or, refl, sym, ap, ◌∙◌, arith}
use Rattle.std.proofs.lemmas.List.{append-nil, length-append}
use Rattle.std.specs.List.{AllByRecursion}
use Rattle.sim_base.specs.Packet.{Packet, len}
use Rattle.queue_discs.specs.declared.band.Band.{Band}
use Rattle.queue_discs.specs.declared.band.Band.TheVariants.{First, Second, Third}
use Rattle.queue_discs.specs.Answers.{given}
use Rattle.queue_discs.specs.Band.{band_of, is_same_band}
use Rattle.queue_discs.specs.Bands.{PlainBands, all_of, first_len, frames_of, front, front_len, front_of, pushed}
use Rattle.queue_discs.specs.History.{frame_of, in_band}

-- a frame, where its band is the one that is meant
abbrev pub only : Band → Band → Packet → List Packet
only own band frame = cond (is_same_band own band) (frame ∷ []) []

-- these frames are of a band
abbrev pub AreOf : Bool → Band → List Packet → Type 0
AreOf by_priority band frames = AllByRecursion (λ frame. band_of by_priority frame ≡ band) frames

pub in_band-one : (by_priority : Bool) (own band : Band) (frame : Packet) → band_of by_priority frame ≡ own → in_band by_priority band (frame ∷ []) ≡ only own band frame
in_band-one by_priority own band frame is = ap (λ b. cond (is_same_band b band) (frame ∷ []) []) is

pub frames_of-pushed : (own band : Band) (frame : Packet) (b : PlainBands) → frames_of band (pushed own frame b) ≡ frames_of band b ++ only own band frame
frames_of-pushed First First frame b = refl
frames_of-pushed First Second frame b = sym (append-nil b.second)
frames_of-pushed First Third frame b = sym (append-nil b.third)
frames_of-pushed Second First frame b = sym (append-nil b.first)
frames_of-pushed Second Second frame b = refl
frames_of-pushed Second Third frame b = sym (append-nil b.third)
frames_of-pushed Third First frame b = sym (append-nil b.first)
frames_of-pushed Third Second frame b = sym (append-nil b.second)
frames_of-pushed Third Third frame b = refl

AreOf-push : (by_priority : Bool) (band : Band) (frames : List Packet) (frame : Packet) → AreOf by_priority band frames → band_of by_priority frame ≡ band → AreOf by_priority band (frames ++ frame ∷ [])
AreOf-push by_priority band [] frame h is = (is, tt)
AreOf-push by_priority band (f ∷ frames) frame h is = (h.0, AreOf-push by_priority band frames frame h.1 is)

-- each band has the frames that are of it
pub record ArePlaced (by_priority : Bool) (b : PlainBands) : Type 0 where
  pub first : AreOf by_priority First b.first
  pub second : AreOf by_priority Second b.second
  pub third : AreOf by_priority Third b.third

placed : (by_priority : Bool) (own : Band) (frame : Packet) (b : PlainBands) → band_of by_priority frame ≡ own → ArePlaced by_priority b → ArePlaced by_priority (pushed own frame b)
placed by_priority First frame b is h = record { first = AreOf-push by_priority First b.first frame h.first is; second = h.second; third = h.third }
placed by_priority Second frame b is h = record { first = h.first; second = AreOf-push by_priority Second b.second frame h.second is; third = h.third }
placed by_priority Third frame b is h = record { first = h.first; second = h.second; third = AreOf-push by_priority Third b.third frame h.third is }

pub placed-pushed : (by_priority : Bool) (frame : Packet) (b : PlainBands) → ArePlaced by_priority b → ArePlaced by_priority (pushed (band_of by_priority frame) frame b)
placed-pushed by_priority frame b h = placed by_priority (band_of by_priority frame) frame b refl h

pub placed-left : (by_priority : Bool) (first second third : List Packet) → AreOf by_priority First first → AreOf by_priority Second second → AreOf by_priority Third third
    → ArePlaced by_priority (front_of first second third).left
placed-left by_priority (frame ∷ first) second third h i j = record { first = h.1; second = i; third = j }
placed-left by_priority [] (frame ∷ second) third h i j = record { first = tt; second = i.1; third = j }
placed-left by_priority [] [] (frame ∷ third) h i j = record { first = tt; second = tt; third = j.1 }
placed-left by_priority [] [] [] h i j = record { first = tt; second = tt; third = tt }

-- the frame in front is the first of its band
pub front-splits : (by_priority : Bool) (band : Band) (first second third : List Packet) → AreOf by_priority First first → AreOf by_priority Second second → AreOf by_priority Third third
    → in_band by_priority band (frame_of (given (front_of first second third).frame)) ++ frames_of band (front_of first second third).left
    ≡ frames_of band (record { first = first; second = second; third = third })
front-splits by_priority band (frame ∷ first) second third h i j = from_first band
  where
    left : PlainBands
    left = record { first = first; second = second; third = third }

    step : (b : Band) → only First b frame ++ frames_of b left ≡ frames_of b (record left { first = frame ∷ first })
    step First = refl
    step Second = refl
    step Third = refl

    from_first : (b : Band) → in_band by_priority b (frame ∷ []) ++ frames_of b left ≡ frames_of b (record left { first = frame ∷ first })
    from_first b = ap (λ fs. fs ++ frames_of b left) (in_band-one by_priority First b frame h.0) ∙ step b
front-splits by_priority band [] (frame ∷ second) third h i j = from_second band
  where
    left : PlainBands
    left = record { first = []; second = second; third = third }

    step : (b : Band) → only Second b frame ++ frames_of b left ≡ frames_of b (record left { second = frame ∷ second })
    step First = refl
    step Second = refl
    step Third = refl

    from_second : (b : Band) → in_band by_priority b (frame ∷ []) ++ frames_of b left ≡ frames_of b (record left { second = frame ∷ second })
    from_second b = ap (λ fs. fs ++ frames_of b left) (in_band-one by_priority Second b frame i.0) ∙ step b
front-splits by_priority band [] [] (frame ∷ third) h i j = from_third band
  where
    left : PlainBands
    left = record { first = []; second = []; third = third }

    step : (b : Band) → only Third b frame ++ frames_of b left ≡ frames_of b (record left { third = frame ∷ third })
    step First = refl
    step Second = refl
    step Third = refl

    from_third : (b : Band) → in_band by_priority b (frame ∷ []) ++ frames_of b left ≡ frames_of b (record left { third = frame ∷ third })
    from_third b = ap (λ fs. fs ++ frames_of b left) (in_band-one by_priority Third b frame j.0) ∙ step b
front-splits by_priority band [] [] [] h i j = refl

-- how many frames wait

pub all_of_size : (b : PlainBands) → length (all_of b) ≡ length b.first + length b.second + length b.third
all_of_size b = length-append (b.first ++ b.second) b.third ∙ ap (λ n. n + length b.third) (length-append b.first b.second)

pub pushed_size : (band : Band) (frame : Packet) (b : PlainBands) → length (all_of (pushed band frame b)) ≡ length (all_of b) + 1
pushed_size First frame b = omega (arith, all_of_size b, all_of_size (pushed First frame b), length-append b.first (frame ∷ []))
pushed_size Second frame b = omega (arith, all_of_size b, all_of_size (pushed Second frame b), length-append b.second (frame ∷ []))
pushed_size Third frame b = omega (arith, all_of_size b, all_of_size (pushed Third frame b), length-append b.third (frame ∷ []))

left_size : (first second third : List Packet) → length (all_of (front_of first second third).left) ≤ length (all_of (record { first = first; second = second; third = third }))
left_size (frame ∷ first) second third =
    omega (arith, all_of_size (record { first = first; second = second; third = third }), all_of_size (record { first = frame ∷ first; second = second; third = third }))
left_size [] (frame ∷ second) third =
    omega (arith, all_of_size (record { first = []; second = second; third = third }), all_of_size (record { first = []; second = frame ∷ second; third = third }))
left_size [] [] (frame ∷ third) = omega arith
left_size [] [] [] = omega arith

pub front_size : (b : PlainBands) → length (all_of (front b).left) ≤ length (all_of b)
front_size b = left_size b.first b.second b.third

-- the length of the frame in front

pub first_len_some : {P : Type 0} (see : P → Packet) (frames : List P) (frame : P) → 0 < length frames → frame ≡ slice_index_or frames 0 frame
    → first_len (map see frames) ≡ Some (len (see frame))
first_len_some see [] frame some is = absurd (omega (arith, some))
first_len_some see (f ∷ frames) frame some is = ap (λ x. Some (len (see x))) (sym is)

pub first_len_none : {P : Type 0} (see : P → Packet) (frames : List P) → length frames ≡ 0 → first_len (map see frames) ≡ None
first_len_none see [] none = refl
first_len_none see (f ∷ frames) none = absurd (omega (arith, none))

len_first : (first second third : List Packet) (bytes : ℕ) → first_len first ≡ Some bytes → option_map len (front_of first second third).frame ≡ Some bytes
len_first [] second third bytes is = cc
len_first (frame ∷ first) second third bytes is = is

len_second : (first second third : List Packet) (bytes : ℕ) → first_len first ≡ None → first_len second ≡ Some bytes → option_map len (front_of first second third).frame ≡ Some bytes
len_second (frame ∷ first) second third bytes none is = cc
len_second [] [] third bytes none is = cc
len_second [] (frame ∷ second) third bytes none is = is

len_third : (first second third : List Packet) → first_len first ≡ None → first_len second ≡ None → option_map len (front_of first second third).frame ≡ first_len third
len_third (frame ∷ first) second third none neither = cc
len_third [] (frame ∷ second) third none neither = cc
len_third [] [] [] none neither = refl
len_third [] [] (frame ∷ third) none neither = refl

pub front_len_first : (b : PlainBands) (bytes : ℕ) → first_len b.first ≡ Some bytes → front_len b ≡ Some bytes
front_len_first b bytes is = len_first b.first b.second b.third bytes is

pub front_len_second : (b : PlainBands) (bytes : ℕ) → first_len b.first ≡ None → first_len b.second ≡ Some bytes → front_len b ≡ Some bytes
front_len_second b bytes none is = len_second b.first b.second b.third bytes none is

pub front_len_third : (b : PlainBands) → first_len b.first ≡ None → first_len b.second ≡ None → front_len b ≡ first_len b.third
front_len_third b none neither = len_third b.first b.second b.third none neither
