-- What a turn keeps: each frame waits in its class, and each credit is small.
use Rattle.std.proofs.Common.{◌≡◌, ◌≢◌, ℕ, zero, suc, ◌+◌, ◌<◌, ◌≤◌, max, Bool, true, false, cond, List, [], ◌∷◌, ◌++◌, map, fold, length, replicate, Option, Some, None, refl, sym, ap, ◌∙◌, subst, append_assoc, append-nil, arith, get_or, set, inl, inr, ◌⊎◌, get_or-set_same, get_or-set_other}
use Rattle.std.proofs.lemmas.Bool.{cond_both, cond-true, cond-false, cases_eq, cases_lt}
use Rattle.std.proofs.lemmas.Int.{ints}
use Rattle.std.proofs.lemmas.List.{map-append, length-set, length-replicate, get_or-replicate, get_or_past}
use Rattle.std.proofs.lemmas.List.Elements.{All-set, All-get_or, All-replicate, filter-append}
use Rattle.std.specs.List.{AllByRecursion, filter}
use Rattle.std.specs.Option.{IfSome, option_to_list}
use Rattle.std.specs.Prelude.{◌==◌, All, ℤ, pos, ◌+ℤ◌, ◌-ℤ◌, ◌≤ℤ◌, int_lt}
use Rattle.sim_base.specs.declared.tags.ByteTag.{ByteTag}
use Rattle.sim_base.specs.Packet.{Packet, len}
use Rattle.codel_disc.specs.declared.kind.CodelKind.{CodelKind}
use Rattle.codel_disc.specs.declared.kind.CodelKind.TheVariants.{Codel, FqCodel}
use Rattle.codel_disc.specs.declared.turn.Turn.{Turn}
use Rattle.codel_disc.specs.declared.turn.Turn.TheVariants.{Gave, Passed, Over}
use Rattle.codel_disc.specs.declared.waiting.Waiting.{Waiting}
use Rattle.codel_disc.specs.Class as codel
use Rattle.codel_disc.specs.Class.{PlainClass, Taken, empty_class, with_frame}
use Rattle.codel_disc.specs.Disc.{PlainCodel, PlainQueues, alone, flows, is_full, kept_in, next_in, time_at, next}
use Rattle.codel_disc.specs.Flows.{PlainFlows, Turned, class_at, class_by, class_of, credit_at, empty_flows, kept, quantum, refilled, served_with, taken_in, turn, turn_of, turns, with_class, woken}
use Rattle.codel_disc.specs.History.{Call, offer, ask, Gone, History, begun, was_dropped, was_given, leaving, with_call, after}
use Rattle.codel_disc.specs.Order.{is_of, InOrder, frames_gone, IsInOrder, longest_offer, IsWithin, CreditsWithin}
use Rattle.codel_disc.specs.Roster.{PlainRoster, first, first_in, stands, joined, sent_back, sent_back_in, let_go, let_go_in, rotated}
use Rattle.codel_disc.specs.Runs.{all_of}
use Rattle.codel_disc.proofs.FlowLaws.{self-eq, apart-eq, woken_parts}
use Rattle.codel_disc.proofs.TakenLaws.{next-all}

pub all_both : {A : Type 0} (P : A → Type 0) (xs ys : List A) → AllByRecursion P xs → AllByRecursion P ys → AllByRecursion P (xs ++ ys)
all_both P [] ys a b = b
all_both P (x ∷ xs) ys a b = (a.0, all_both P xs ys a.1 b)

pub all_split : {A : Type 0} (P : A → Type 0) (xs ys : List A) → AllByRecursion P (xs ++ ys) → AllByRecursion P xs × AllByRecursion P ys
all_split P [] ys h = (tt, h)
all_split P (x ∷ xs) ys h = let rest = all_split P xs ys h.1 in ((h.0, rest.0), rest.1)

abbrev pub Known : List ℕ → Type 0
Known ks = AllByRecursion (λ k. k < 64) ks

-- a frame waits in its class, and is not too long
abbrev pub IsHome : ℕ → ℕ → Waiting Packet → Type 0
IsHome m k w = (class_of w.frame ≡ k) × (len w.frame ≤ m)

abbrev pub AreHome : ℕ → ℕ → List (Waiting Packet) → Type 0
AreHome m k ws = AllByRecursion (IsHome m k) ws

pub record Sound (m : ℕ) (f : PlainFlows) : Type 0 where
  pub all_classes : length f.classes ≡ 64
  pub all_credits : length f.credits ≡ 64
  pub new_known : Known f.roster.new_ones
  pub old_known : Known f.roster.old_ones
  pub within : All (IsWithin m) f.credits
  pub home : (k : ℕ) → AreHome m k (class_at k f).frames

pub filter-home : (m k : ℕ) (ws : List (Waiting Packet)) → AreHome m k ws → filter (is_of k) ws ≡ ws
filter-home m k [] h = refl
filter-home m k (w ∷ ws) h =
    cond-true (class_of w.frame == k) _ _ (ap (λ (i : ℕ). i == k) h.0.0 ∙ self-eq k) ∙ ap (λ (l : List (Waiting Packet)). w ∷ l) (filter-home m k ws h.1)

pub filter-away : (m j k : ℕ) (ws : List (Waiting Packet)) → j ≢ k → AreHome m k ws → filter (is_of j) ws ≡ []
filter-away m j k [] apart h = refl
filter-away m j k (w ∷ ws) apart h =
    cond-false (class_of w.frame == j) _ _ (ap (λ (i : ℕ). i == j) h.0.0 ∙ apart-eq k j (λ (e : k ≡ j). apart (sym e))) ∙ filter-away m j k ws apart h.1

pub read_same : (k : ℕ) (c : PlainClass) (cs : List PlainClass) → k < length cs → get_or (set cs k c) k empty_class ≡ c
read_same k c cs within = get_or-set_same cs k c empty_class within

pub read_apart : (k j : ℕ) (c : PlainClass) (cs : List PlainClass) → j ≢ k → get_or (set cs k c) j empty_class ≡ get_or cs j empty_class
read_apart k j c cs apart = get_or-set_other cs k j c empty_class apart

home_set : (m k j : ℕ) (c : PlainClass) (cs : List PlainClass) → k < length cs → AreHome m k c.frames → AreHome m j (get_or cs j empty_class).frames →
    AreHome m j (get_or (set cs k c) j empty_class).frames
home_set m k j c cs within mine others =
    elim (cases_eq j k) [
      | inl same ↦
          subst (λ (i : ℕ). AreHome m i (get_or (set cs k c) i empty_class).frames) (sym same)
          (subst (λ (q : PlainClass). AreHome m k q.frames) (sym (read_same k c cs within)) mine)
      | inr apart ↦ subst (λ (q : PlainClass). AreHome m j q.frames) (sym (read_apart k j c cs apart)) others
    ]

order_set : (m k j : ℕ) (c : PlainClass) (cs : List PlainClass) (gone : List (Waiting Packet)) → k < length cs → AreHome m k gone →
    gone ++ c.frames ≡ (get_or cs k empty_class).frames →
    filter (is_of j) gone ++ (get_or (set cs k c) j empty_class).frames ≡ (get_or cs j empty_class).frames
order_set m k j c cs gone within mine all =
    elim (cases_eq j k) [
      | inl same ↦
          subst (λ (i : ℕ). filter (is_of i) gone ++ (get_or (set cs k c) i empty_class).frames ≡ (get_or cs i empty_class).frames) (sym same)
          (ap (λ (l : List (Waiting Packet)). l ++ (get_or (set cs k c) k empty_class).frames) (filter-home m k gone mine)
          ∙ ap (λ (q : PlainClass). gone ++ q.frames) (read_same k c cs within) ∙ all)
      | inr apart ↦
          ap (λ (l : List (Waiting Packet)). l ++ (get_or (set cs k c) j empty_class).frames) (filter-away m j k gone apart mine)
          ∙ ap (λ (q : PlainClass). q.frames) (read_apart k j c cs apart)
    ]

-- after some turns the queue is sound, and per class what has left and what is held is what was held
pub record Keeps (m : ℕ) (f : PlainFlows) (dropped given : List (Waiting Packet)) (g : PlainFlows) : Type 0 where
  pub sound : Sound m g
  pub order : (j : ℕ) → filter (is_of j) (dropped ++ given) ++ (class_at j g).frames ≡ (class_at j f).frames

abbrev pub given_of : Turn (Waiting Packet) → List (Waiting Packet)
given_of (Gave w) = w ∷ []
given_of Passed = []
given_of Over = []

-- whose turn it is

known_push : (ks : List ℕ) (k : ℕ) → Known ks → k < 64 → Known (ks ++ k ∷ [])
known_push ks k a b = all_both (λ (i : ℕ). i < 64) ks (k ∷ []) a (b, tt)

pub first_in-known : (new old : List ℕ) → Known new → Known old → IfSome (first_in new old) (λ k. k < 64)
first_in-known [] [] a b = tt
first_in-known [] (k ∷ old) a b = b.0
first_in-known (k ∷ new) old a b = a.0

sent_back_in-known : (new old : List ℕ) → Known new → Known old → Known (sent_back_in new old).new_ones × Known (sent_back_in new old).old_ones
sent_back_in-known (k ∷ new) old a b = (a.1, known_push old k b a.0)
sent_back_in-known [] [] a b = (tt, tt)
sent_back_in-known [] (k ∷ old) a b = (tt, known_push old k b.1 b.0)

let_go_in-known : (new old : List ℕ) → Known new → Known old → Known (let_go_in new old).new_ones × Known (let_go_in new old).old_ones
let_go_in-known (k ∷ new) old a b = (a.1, known_push old k b a.0)
let_go_in-known [] [] a b = (tt, tt)
let_go_in-known [] (k ∷ old) a b = (tt, b.1)

-- a turn

filled_within : (m : ℕ) (c : ℤ) → int_lt (pos 0) c ≡ false → IsWithin m c → IsWithin m (c +ℤ pos 1518)
filled_within m c none h = let a = h.0 in let b = h.1 in (grind (arith, ints), grind (arith, ints))

spent_within : (m n : ℕ) (c : ℤ) → int_lt (pos 0) c ≡ true → n ≤ m → IsWithin m c → IsWithin m (c -ℤ pos n)
spent_within m n c some short h = let a = h.0 in let b = h.1 in (grind (arith, ints), grind (arith, ints))

refilled-keeps : (m k : ℕ) (f : PlainFlows) → k < 64 → int_lt (pos 0) (credit_at k f) ≡ false → Sound m f → Keeps m f [] [] (refilled k f).flows
refilled-keeps m k f within none s =
    let known = sent_back_in-known f.roster.new_ones f.roster.old_ones s.new_known s.old_known in
    record {
      sound = record {
        all_classes = s.all_classes;
        all_credits = length-set f.credits k (credit_at k f +ℤ pos 1518) ∙ s.all_credits;
        new_known = known.0;
        old_known = known.1;
        within = All-set (IsWithin m) f.credits k (credit_at k f +ℤ pos 1518)
            (filled_within m (credit_at k f) none (All-get_or (IsWithin m) f.credits k (pos 0) (omega (arith, s.all_credits)) s.within)) s.within;
        home = s.home;
      };
      order = λ j. refl;
    }

served_with-keeps : (m k : ℕ) (f : PlainFlows) (t : Taken PlainClass) (o : Option (Waiting Packet)) → k < 64 → int_lt (pos 0) (credit_at k f) ≡ true → Sound m f →
    t.dropped ++ option_to_list o ++ t.left.frames ≡ (class_at k f).frames →
    Keeps m f (served_with k f t o).dropped (given_of (served_with k f t o).ended) (served_with k f t o).flows
served_with-keeps m k f t (Some w) within some s all =
    let here : k < length f.classes = omega (arith, s.all_classes) in
    let mine : AreHome m k (t.dropped ++ w ∷ [] ++ t.left.frames) = subst (AreHome m k) (sym all) (s.home k) in
    let parts = all_split (IsHome m k) (t.dropped ++ w ∷ []) t.left.frames mine in
    let front = all_split (IsHome m k) t.dropped (w ∷ []) parts.0 in
    let short : len w.frame ≤ m = front.1.0.1 in
    record {
      sound = record {
        all_classes = length-set f.classes k t.left ∙ s.all_classes;
        all_credits = length-set f.credits k (credit_at k f -ℤ pos (len w.frame)) ∙ s.all_credits;
        new_known = s.new_known;
        old_known = s.old_known;
        within = All-set (IsWithin m) f.credits k (credit_at k f -ℤ pos (len w.frame))
            (spent_within m (len w.frame) (credit_at k f) some short (All-get_or (IsWithin m) f.credits k (pos 0) (omega (arith, s.all_credits)) s.within)) s.within;
        home = λ j. home_set m k j t.left f.classes here parts.1 (s.home j);
      };
      order = λ j. order_set m k j t.left f.classes (t.dropped ++ w ∷ []) here parts.0 all;
    }
served_with-keeps m k f t None within some s all =
    let here : k < length f.classes = omega (arith, s.all_classes) in
    let mine : AreHome m k (t.dropped ++ [] ++ t.left.frames) = subst (AreHome m k) (sym all) (s.home k) in
    let parts = all_split (IsHome m k) (t.dropped ++ []) t.left.frames mine in
    let known = let_go_in-known f.roster.new_ones f.roster.old_ones s.new_known s.old_known in
    record {
      sound = record {
        all_classes = length-set f.classes k t.left ∙ s.all_classes;
        all_credits = s.all_credits;
        new_known = known.0;
        old_known = known.1;
        within = s.within;
        home = λ j. home_set m k j t.left f.classes here parts.1 (s.home j);
      };
      order = λ j. order_set m k j t.left f.classes (t.dropped ++ []) here parts.0 all;
    }

pub turn_of-keeps : (m now : ℕ) (f : PlainFlows) (o : Option ℕ) → IfSome o (λ k. k < 64) → Sound m f →
    Keeps m f (turn_of now f o).dropped (given_of (turn_of now f o).ended) (turn_of now f o).flows
turn_of-keeps m now f None known s = record { sound = s; order = λ j. refl }
turn_of-keeps m now f (Some k) known s =
    cond_both (int_lt (pos 0) (credit_at k f)) _ _ (λ (t : Turned). Keeps m f t.dropped (given_of t.ended) t.flows)
    (λ some. served_with-keeps m k f (codel.next now (class_at k f)) (codel.next now (class_at k f)).given known some s (next-all now (class_at k f)))
    (λ none. refilled-keeps m k f known none s)

-- turns

after_both : (j : ℕ) (a b c x y z : List (Waiting Packet)) → filter (is_of j) (a ++ []) ++ y ≡ z → filter (is_of j) (b ++ c) ++ x ≡ y →
    filter (is_of j) ((a ++ b) ++ c) ++ x ≡ z
after_both j a b c x y z e f =
    ap (λ (l : List (Waiting Packet)). filter (is_of j) l ++ x) (append_assoc a b c)
    ∙ ap (λ (l : List (Waiting Packet)). l ++ x) (filter-append (is_of j) a (b ++ c))
    ∙ append_assoc (filter (is_of j) a) (filter (is_of j) (b ++ c)) x
    ∙ ap (λ (l : List (Waiting Packet)). filter (is_of j) a ++ l) f
    ∙ ap (λ (l : List (Waiting Packet)). filter (is_of j) l ++ y) (sym (append-nil a))
    ∙ e

taken_in-keeps : (m : ℕ) (f : PlainFlows) (t : Turned) (e : Turn (Waiting Packet)) (rest : Taken PlainFlows) → Keeps m f t.dropped (given_of e) t.flows →
    Keeps m t.flows rest.dropped (option_to_list rest.given) rest.left →
    Keeps m f (taken_in t e rest).dropped (option_to_list (taken_in t e rest).given) (taken_in t e rest).left
taken_in-keeps m f t (Gave w) rest a b = a
taken_in-keeps m f t Over rest a b = a
taken_in-keeps m f t Passed rest a b = record {
  sound = b.sound;
  order = λ j. after_both j t.dropped rest.dropped (option_to_list rest.given) _ _ _ (a.order j) (b.order j);
}

pub turns-keeps : (m n now : ℕ) (f : PlainFlows) → Sound m f → Keeps m f (turns n now f).dropped (option_to_list (turns n now f).given) (turns n now f).left
unfolding turns
turns-keeps m zero now f s = record { sound = s; order = λ j. refl }
turns-keeps m (suc n) now f s =
    let one = turn_of-keeps m now f (first f.roster) (first_in-known f.roster.new_ones f.roster.old_ones s.new_known s.old_known) s in
    taken_in-keeps m f (turn now f) (turn now f).ended (turns n now (turn now f).flows) one (turns-keeps m n now (turn now f).flows one.sound)

-- a frame is kept

pub class_by-known : (o : Option ByteTag) → class_by o < 64
class_by-known None = omega arith
class_by-known (Some tag) = omega arith

abbrev pub after_keep : ℕ → PlainFlows → PlainClass → Bool → PlainFlows
after_keep k f c b =
    record { classes = set f.classes k c; credits = cond b f.credits (set f.credits k (pos 1518)); roster = cond b f.roster (joined k f.roster) }

pub sound_keep : (m k : ℕ) (f : PlainFlows) (c : PlainClass) (b : Bool) → k < 64 → AreHome m k c.frames → Sound m f → Sound m (after_keep k f c b)
sound_keep m k f c true within mine s = record {
  all_classes = length-set f.classes k c ∙ s.all_classes;
  all_credits = s.all_credits;
  new_known = s.new_known;
  old_known = s.old_known;
  within = s.within;
  home = λ j. home_set m k j c f.classes (omega (arith, s.all_classes)) mine (s.home j);
}
sound_keep m k f c false within mine s = record {
  all_classes = length-set f.classes k c ∙ s.all_classes;
  all_credits = length-set f.credits k (pos 1518) ∙ s.all_credits;
  new_known = known_push f.roster.new_ones k s.new_known within;
  old_known = s.old_known;
  within = All-set (IsWithin m) f.credits k (pos 1518) (omega (arith, ints), omega (arith, ints)) s.within;
  home = λ j. home_set m k j c f.classes (omega (arith, s.all_classes)) mine (s.home j);
}

pub sound_kept : (m : ℕ) (w : Waiting Packet) (f : PlainFlows) → len w.frame ≤ m → Sound m f → Sound m (kept w f)
sound_kept m w f short s =
    let k = class_of w.frame in
    let c = with_frame w (class_at k f) in
    let known : k < 64 = class_by-known _ in
    let mine : AreHome m k c.frames = all_both (IsHome m k) (class_at k f).frames (w ∷ []) (s.home k) ((refl, short), tt) in
    let same : kept w f ≡ after_keep k f c (stands k f.roster) = woken_parts k (with_class k c f) (stands k f.roster) in
    subst (λ (g : PlainFlows). Sound m g) (sym same) (sound_keep m k f c (stands k f.roster) known mine s)

-- no frame waits at first

pub replicate-any : {A : Type 0} (n i : ℕ) (a : A) → get_or (replicate n a) i a ≡ a
replicate-any n i a =
    elim (cases_lt i n) [
      | inl below ↦ get_or-replicate n i a a below
      | inr past ↦ get_or_past (replicate n a) i a (omega (arith, length-replicate n a))
    ]

pub empty_sound : (m : ℕ) → Sound m empty_flows
unfolding empty_flows
empty_sound m = record {
  all_classes = length-replicate 64 empty_class;
  all_credits = length-replicate 64 (pos 1518);
  new_known = tt;
  old_known = tt;
  within = All-replicate (IsWithin m) 64 (pos 1518) (omega (arith, ints), omega (arith, ints));
  home = λ k. subst (λ (c : PlainClass). AreHome m k c.frames) (sym (replicate-any 64 k empty_class)) tt;
}
