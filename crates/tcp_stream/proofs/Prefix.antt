-- The law of the delivered prefix: what each event keeps true of a connection.
use Rattle.std.proofs.Common.{◌≡◌, ℕ, zero, suc, ◌+◌, ◌%◌, ◌^◌, ◌<◌, ◌≤◌, Bool, true, false, cond, ◌&&◌, ◌||◌, ◌⊎◌, nat_eq, nat_le, List, [], ◌∷◌, ◌++◌, length, Option, Some, None, refl, sym, ap, ◌∙◌, subst, arith, inl, inr, append_assoc, length-append}
use Rattle.std.proofs.lemmas.Bool.Decides.{nat_tests}
use Rattle.std.proofs.lemmas.List.{append-nil}
use Rattle.std.proofs.lemmas.Option.{cond_some, slice_get_within}
use Rattle.std.proofs.Math.Nat.{mod-eq_of_lt}
use Rattle.std.specs.Ordering.{nat_cmp}
use Rattle.std.specs.List.{slice_get, AllByRecursion}
use Rattle.std.specs.Option.{option_or}
use Rattle.std.specs.FinMap.{get, retain_keys, get-empty, get-retain_keys, nat_cmp-IsAntisymmetric}
use Rattle.tcp_stream.specs.Held.{Held, window, in_window, taken_in, front, begun}
use Rattle.tcp_stream.specs.History.{Segment, Told, Sink, World, Event, CarriesWritten, IsPrefixOf, IsHistory, MayHappen, written_at, fin_of, with_segment, past, delivery, is_at, finished, receive, comes, happens, run, opened, delivered, has_end}
use Rattle.tcp_stream.specs.History.Told.{Deliver, End}
use Rattle.tcp_stream.specs.History.Event.{Write, Close, Send, Comes, Timer}
use Rattle.tcp_stream.proofs.HeldLaws.{offered, get-taken_in}

pub record Sound (w : World) : Type 0 where
  pub fits : length w.written ≤ 2 ^ 30
  pub sent : AllByRecursion (CarriesWritten w.written w.closed) w.sent
  pub held : (q b : ℕ) → get w.sink.held q ≡ Some b → written_at w.written q ≡ Some b
  pub told : IsPrefixOf (delivered w.told) w.written
  pub next : w.sink.ended ≡ false → w.sink.rcv ≡ suc (length (delivered w.told))
  pub fin : (f : ℕ) → w.sink.fin_at ≡ Some f → (w.closed ≡ true) × (f ≡ length w.written + 1)
  pub ended : w.sink.ended ≡ true → (w.closed ≡ true) × (delivered w.told ≡ w.written)
  pub told_end : has_end w.told ≡ true → w.sink.ended ≡ true

-- lists

slice_get-append : (xs ys : List ℕ) (i b : ℕ) → slice_get xs i ≡ Some b → slice_get (xs ++ ys) i ≡ Some b
slice_get-append [] ys i b e = (cc)
slice_get-append (x ∷ xs) ys zero b e = e
slice_get-append (x ∷ xs) ys (suc i) b e = slice_get-append xs ys i b e

slice_get-behind : (xs ys : List ℕ) → slice_get (xs ++ ys) (length xs) ≡ slice_get ys 0
slice_get-behind [] ys = refl
slice_get-behind (x ∷ xs) ys = slice_get-behind xs ys

all-get : {A : Type 0} (P : A → Type 0) (xs : List A) (i : ℕ) (x : A) → AllByRecursion P xs → slice_get xs i ≡ Some x → P x
all-get P [] i x h e = absurd (let bad : ⊥ = (cc) in bad)
all-get P (y ∷ ys) zero x h e = let same : y ≡ x = (cc) in subst P same h.0
all-get P (y ∷ ys) (suc i) x h e = all-get P ys i x h.1 e

all-map : {A : Type 0} (P Q : A → Type 0) → ((x : A) → P x → Q x) → (xs : List A) → AllByRecursion P xs → AllByRecursion Q xs
all-map P Q f [] h = tt
all-map P Q f (x ∷ xs) h = (f x h.0, all-map P Q f xs h.1)

delivered-append : (xs ys : List Told) → delivered (xs ++ ys) ≡ delivered xs ++ delivered ys
delivered-append [] ys = refl
delivered-append (Deliver bytes ∷ xs) ys = ap (λ t. bytes ++ t) (delivered-append xs ys) ∙ sym (append_assoc bytes (delivered xs) (delivered ys))
delivered-append (End ∷ xs) ys = delivered-append xs ys

has_end-append : (xs ys : List Told) → has_end ys ≡ false → has_end (xs ++ ys) ≡ has_end xs
has_end-append [] ys e = e
has_end-append (Deliver bytes ∷ xs) ys e = has_end-append xs ys e
has_end-append (End ∷ xs) ys e = refl

delivered-delivery : (bytes : List ℕ) → delivered (delivery bytes) ≡ bytes
delivered-delivery [] = refl
delivered-delivery (b ∷ bytes) = append-nil (b ∷ bytes)

has_end-delivery : (bytes : List ℕ) → has_end (delivery bytes) ≡ false
has_end-delivery [] = refl
has_end-delivery (b ∷ bytes) = refl

-- what was written

written-append : (w more : List ℕ) (q b : ℕ) → written_at w q ≡ Some b → written_at (w ++ more) q ≡ Some b
written-append w more zero b e = (cc)
written-append w more (suc i) b e = slice_get-append w more i b e

written-within : (w : List ℕ) (q b : ℕ) → written_at w q ≡ Some b → q ≤ length w
written-within w zero b e = omega arith
written-within w (suc i) b e = let h : i < length w = slice_get_within w i b e in omega arith

carries-write : (w more : List ℕ) (closed : Bool) (s : Segment) → closed ≡ false → CarriesWritten w closed s → CarriesWritten (w ++ more) closed s
carries-write w more closed s before c = record {
  position = c.position;
  seq = c.seq;
  syn = c.syn;
  bytes = λ i b e. written-append w more (c.position + i) b (c.bytes i b e);
  fin = λ e. absurd (let is : closed ≡ true = (c.fin e).0 in let bad : ⊥ = (cc) in bad);
}

carries-close : (w : List ℕ) (closed : Bool) (s : Segment) → CarriesWritten w closed s → CarriesWritten w true s
carries-close w closed s c = record { position = c.position; seq = c.seq; syn = c.syn; bytes = c.bytes; fin = λ e. (refl, (c.fin e).1) }

seq-is : (s : Segment) (position : ℕ) → s.seq ≡ position % 2 ^ 32 → position ≤ 2 ^ 30 + 1 → s.seq ≡ position
seq-is s position e h = let small : position < 2 ^ 32 = omega arith in e ∙ mod-eq_of_lt small

pub carried-bytes : (w : List ℕ) (closed : Bool) (s : Segment) → CarriesWritten w closed s → length w ≤ 2 ^ 30 → (i b : ℕ) →
    slice_get s.bytes i ≡ Some b → written_at w (s.seq + i) ≡ Some b
carried-bytes w closed s c fits i b e =
    let at : written_at w (c.position + i) ≡ Some b = c.bytes i b e in
    let within : c.position + i ≤ length w = written-within w (c.position + i) b at in
    let same : s.seq ≡ c.position = seq-is s c.position c.seq (omega arith) in
    subst (λ p. written_at w (p + i) ≡ Some b) (sym same) at

pub carried-fin : (w : List ℕ) (closed : Bool) (s : Segment) → CarriesWritten w closed s → length w ≤ 2 ^ 30 → s.fin ≡ true →
    (closed ≡ true) × (s.seq + length s.bytes ≡ length w + 1)
carried-fin w closed s c fits e =
    let at : c.position + length s.bytes ≡ length w + 1 = (c.fin e).1 in
    let same : s.seq ≡ c.position = seq-is s c.position c.seq (omega arith) in
    ((c.fin e).0, omega arith)

-- bytes that are written at their positions

same_position : (q p : ℕ) → nat_eq q p ≡ true → q ≡ p
same_position q p e = grind (arith, nat_tests)

and-left : (a b : Bool) → (a && b) ≡ true → a ≡ true
and-left true b e = refl
and-left false b e = e

and-right : (a b : Bool) → (a && b) ≡ true → b ≡ true
and-right true b e = e
and-right false b e = absurd (let bad : ⊥ = (cc) in bad)

either : {A : Type 0} (x y : Option A) (z : A) → option_or x y ≡ Some z → (x ≡ Some z) ⊎ (y ≡ Some z)
either None y z e = inr e
either (Some x) y z e = inl e

offered-written : (w : List ℕ) (rcv p : ℕ) (bs : List ℕ) (q x : ℕ) → ((i b : ℕ) → slice_get bs i ≡ Some b → written_at w (p + i) ≡ Some b) →
    offered rcv p bs q ≡ Some x → written_at w q ≡ Some x
offered-written w rcv p [] q x h e = absurd (let bad : ⊥ = (cc) in bad)
offered-written w rcv p (b ∷ bs) q x h e = elim (either _ (offered rcv (p + 1) bs q) x e) [
  | inl here ↦
      let t = cond_some (in_window rcv p && nat_eq q p) b x here in
      let same : q ≡ p + 0 = omega (arith, same_position q p (and-right (in_window rcv p) (nat_eq q p) t.0)) in
      subst (λ k. written_at w k ≡ Some x) (sym same) (h 0 x (ap (λ v. Some v) t.1))
  | inr later ↦
      offered-written w rcv (p + 1) bs q x (λ i c at. let same : p + suc i ≡ p + 1 + i = omega arith in subst (λ k. written_at w k ≡ Some c) same (h (suc i) c at)) later
]

held-written : (w : List ℕ) (rcv : ℕ) (held : Held) (p : ℕ) (bs : List ℕ) →
    ((q b : ℕ) → get held q ≡ Some b → written_at w q ≡ Some b) →
    ((i b : ℕ) → slice_get bs i ≡ Some b → written_at w (p + i) ≡ Some b) →
    (q b : ℕ) → get (taken_in rcv held p bs) q ≡ Some b → written_at w q ≡ Some b
held-written w rcv held p bs old new q b e = elim (either (get held q) (offered rcv p bs q) b (sym (get-taken_in rcv held p bs q) ∙ e)) [
  | inl was ↦ old q b was
  | inr is ↦ offered-written w rcv p bs q b new is
]

-- the front

first_of : (d rest w : List ℕ) (b : ℕ) → d ++ rest ≡ w → written_at w (suc (length d)) ≡ Some b → slice_get rest 0 ≡ Some b
first_of d rest w b e at = sym (slice_get-behind d rest) ∙ ap (λ l. slice_get l (length d)) e ∙ at

-- a prefix grows by the byte that was written behind it
grown : (d rest w : List ℕ) (b : ℕ) → d ++ rest ≡ w → slice_get rest 0 ≡ Some b → IsPrefixOf (d ++ b ∷ []) w
grown d [] w b e g = absurd (let bad : ⊥ = (cc) in bad)
grown d (x ∷ rest) w b e g =
    let same : x ≡ b = (cc) in
    (rest, append_assoc d (b ∷ []) rest ∙ ap (λ y. d ++ (y ∷ rest)) (sym same) ∙ e)

front-prefix : (n : ℕ) (held : Held) (w d : List ℕ) → ((q b : ℕ) → get held q ≡ Some b → written_at w q ≡ Some b) →
    IsPrefixOf d w → IsPrefixOf (d ++ front n held (suc (length d))) w
unfolding front
front-prefix zero held w d h p = subst (λ l. IsPrefixOf l w) (sym (append-nil d)) p
front-prefix (suc n) held w d h p =
    elim (get held (suc (length d))) as
    (λ here. get held (suc (length d)) ≡ here → IsPrefixOf (d ++ begun here (front n held (suc (length d) + 1))) w) [
      | None ↦ λ e. subst (λ l. IsPrefixOf l w) (sym (append-nil d)) p
      | Some b ↦ λ e.
          let more : IsPrefixOf (d ++ b ∷ []) w = grown d p.0 w b p.1 (first_of d p.0 w b p.1 (h (suc (length d)) b e)) in
          let at : suc (length (d ++ b ∷ [])) ≡ suc (length d) + 1 = omega (arith, length-append d (b ∷ [])) in
          subst (λ l. IsPrefixOf l w) (append_assoc d (b ∷ []) (front n held (suc (length d) + 1)))
          (subst (λ k. IsPrefixOf ((d ++ b ∷ []) ++ front n held k) w) at (front-prefix n held w (d ++ b ∷ []) h more))
    ] refl

-- each event

not_both : {A : Type 0} (b : Bool) → b ≡ false → b ≡ true → A
not_both b isn_t is = absurd (let bad : ⊥ = (cc) in bad)

sound-write : (w : World) (bytes : List ℕ) → Sound w → w.closed ≡ false → length w.written + length bytes ≤ 2 ^ 30 → Sound (happens w (Write bytes))
sound-write w bytes s before fits = record {
  fits = omega (arith, length-append w.written bytes);
  sent = all-map _ _ (λ x c. carries-write w.written bytes w.closed x before c) w.sent s.sent;
  held = λ q b e. written-append w.written bytes q b (s.held q b e);
  told = (s.told.0 ++ bytes, sym (append_assoc (delivered w.told) s.told.0 bytes) ∙ ap (λ l. l ++ bytes) s.told.1);
  next = s.next;
  fin = λ f e. not_both w.closed before (s.fin f e).0;
  ended = λ e. not_both w.closed before (s.ended e).0;
  told_end = s.told_end;
}

sound-close : (w : World) → Sound w → Sound (happens w Close)
sound-close w s = record {
  fits = s.fits;
  sent = all-map _ _ (λ x c. carries-close w.written w.closed x c) w.sent s.sent;
  held = s.held;
  told = s.told;
  next = s.next;
  fin = λ f e. (refl, (s.fin f e).1);
  ended = λ e. (refl, (s.ended e).1);
  told_end = s.told_end;
}

sound-send : (w : World) (x : Segment) → Sound w → CarriesWritten w.written w.closed x → Sound (happens w (Send x))
sound-send w x s c = record {
  fits = s.fits;
  sent = (c, s.sent);
  held = s.held;
  told = s.told;
  next = s.next;
  fin = s.fin;
  ended = s.ended;
  told_end = s.told_end;
}

-- a segment at the sink

fin-written : (w : List ℕ) (closed : Bool) (rcv : ℕ) (x : Segment) → CarriesWritten w closed x → length w ≤ 2 ^ 30 → (f : ℕ) →
    fin_of rcv x ≡ Some f → (closed ≡ true) × (f ≡ length w + 1)
fin-written w closed rcv x c fits f e =
    let t = cond_some (x.fin && in_window rcv (x.seq + length x.bytes)) (x.seq + length x.bytes) f e in
    let is = carried-fin w closed x c fits (and-left x.fin (in_window rcv (x.seq + length x.bytes)) t.0) in
    (is.0, sym t.1 ∙ is.1)

kept-some : (b : Bool) (o : Option ℕ) (x : ℕ) → cond b o None ≡ Some x → o ≡ Some x
kept-some true o x e = e
kept-some false o x e = absurd (let bad : ⊥ = (cc) in bad)

kept : (held : Held) (from q b : ℕ) → get (retain_keys held (λ p. nat_le from p)) q ≡ Some b → get held q ≡ Some b
kept held from q b e =
    kept-some (nat_le from q) (get held q) b
    (sym (get-retain_keys held (λ p. nat_le from p) q (λ x tied. ap (λ p. nat_le from p) (sym (nat_cmp-IsAntisymmetric q x tied)))) ∙ e)

told-delivery : (told : List Told) (bytes : List ℕ) → delivered (told ++ delivery bytes) ≡ delivered told ++ bytes
told-delivery told bytes = delivered-append told (delivery bytes) ∙ ap (λ l. delivered told ++ l) (delivered-delivery bytes)

-- what is delivered when a segment comes
abbrev fresh : Sink → Segment → List ℕ
fresh k x = front window (taken_in k.rcv k.held x.seq x.bytes) k.rcv

abbrev advanced : World → Segment → World
advanced w x = record w { sink = past (with_segment w.sink x) (fresh w.sink x); told = w.told ++ delivery (fresh w.sink x) }

sound-advanced : (w : World) (x : Segment) → Sound w → w.sink.ended ≡ false → CarriesWritten w.written w.closed x → Sound (advanced w x)
sound-advanced w x s running c =
    let held = taken_in w.sink.rcv w.sink.held x.seq x.bytes in
    let bytes = front window held w.sink.rcv in
    let right : (q b : ℕ) → get held q ≡ Some b → written_at w.written q ≡ Some b =
    held-written w.written w.sink.rcv w.sink.held x.seq x.bytes s.held (carried-bytes w.written w.closed x c s.fits) in
    let joined : delivered (w.told ++ delivery bytes) ≡ delivered w.told ++ bytes = told-delivery w.told bytes in
    let longer : length (delivered (w.told ++ delivery bytes)) ≡ length (delivered w.told) + length bytes = ap length joined ∙ length-append (delivered w.told) bytes in
    let rcv : w.sink.rcv ≡ suc (length (delivered w.told)) = s.next running in
    record {
      fits = s.fits;
      sent = s.sent;
      held = λ q b e. right q b (kept held (w.sink.rcv + length bytes) q b e);
      told = subst (λ l. IsPrefixOf l w.written) (sym joined)
          (subst (λ r. IsPrefixOf (delivered w.told ++ front window held r) w.written) (sym rcv)
          (front-prefix window held w.written (delivered w.told) right s.told));
      next = λ e. omega arith;
      fin = λ f e. elim (either w.sink.fin_at (fin_of w.sink.rcv x) f e) [
        | inl was ↦ s.fin f was
        | inr is ↦ fin-written w.written w.closed w.sink.rcv x c s.fits f is
      ];
      ended = λ e. not_both w.sink.ended running e;
      told_end = λ e. s.told_end (sym (has_end-append w.told (delivery bytes) (has_end-delivery bytes)) ∙ e);
    }

at_is : (o : Option ℕ) (p : ℕ) → is_at o p ≡ true → o ≡ Some p
at_is None p e = absurd (let bad : ⊥ = (cc) in bad)
at_is (Some f) p e = ap (λ v. Some v) (same_position f p e)

whole : (d rest w : List ℕ) → d ++ rest ≡ w → length d ≡ length w → d ≡ w
whole d [] w e same = sym (append-nil d) ∙ e
whole d (x ∷ rest) w e same = absurd (let n = ap length e in let l = length-append d (x ∷ rest) in let bad : ⊥ = omega arith in bad)

sound-finished : (w : World) → Sound w → w.sink.ended ≡ false → Sound (record w { sink = (finished w.sink).0; told = w.told ++ (finished w.sink).1 })
sound-finished w s running =
    elim (is_at w.sink.fin_at w.sink.rcv) as
    (λ b. is_at w.sink.fin_at w.sink.rcv ≡ b → Sound (record w {
      sink = (cond {A = Sink × List Told} b (record w.sink { rcv = w.sink.rcv + 1; ended = true }, End ∷ []) (w.sink, [])).0;
      told = w.told ++ (cond {A = Sink × List Told} b (record w.sink { rcv = w.sink.rcv + 1; ended = true }, End ∷ []) (w.sink, [])).1;
    })) [
      | true ↦ λ e.
          let fin = s.fin w.sink.rcv (at_is w.sink.fin_at w.sink.rcv e) in
          let rcv : w.sink.rcv ≡ suc (length (delivered w.told)) = s.next running in
          let long : length (delivered w.told) ≡ length w.written = omega (arith, fin.1) in
          let all : delivered w.told ≡ w.written = whole (delivered w.told) s.told.0 w.written s.told.1 long in
          let joined : delivered (w.told ++ End ∷ []) ≡ delivered w.told = delivered-append w.told (End ∷ []) ∙ append-nil (delivered w.told) in
          record {
            fits = s.fits;
            sent = s.sent;
            held = s.held;
            told = subst (λ l. IsPrefixOf l w.written) (sym joined) s.told;
            next = λ e. not_both true e refl;
            fin = s.fin;
            ended = λ _. (fin.0, joined ∙ all);
            told_end = λ _. refl;
          }
      | false ↦ λ e. subst (λ l. Sound (record w { sink = w.sink; told = l })) (sym (append-nil w.told)) s
    ] refl

sound-received : (w : World) (x : Segment) → Sound w → w.sink.ended ≡ false → CarriesWritten w.written w.closed x →
    Sound (record w { sink = (receive w.sink x).0; told = w.told ++ (receive w.sink x).1 })
sound-received w x s running c =
    let k = past (with_segment w.sink x) (fresh w.sink x) in
    subst (λ l. Sound (record w { sink = (finished k).0; told = l })) (append_assoc w.told (delivery (fresh w.sink x)) (finished k).1)
    (sound-finished (advanced w x) (sound-advanced w x s running c) running)

or-false : (a b : Bool) → (a || b) ≡ false → a ≡ false
or-false false b e = refl
or-false true b e = e

sound-segment : (w : World) (x : Segment) → Sound w → CarriesWritten w.written w.closed x → Sound (comes w (Some x))
sound-segment w x s c =
    elim (w.sink.ended || x.syn) as
    (λ b. (w.sink.ended || x.syn) ≡ b → Sound (cond b w (record w { sink = (receive w.sink x).0; told = w.told ++ (receive w.sink x).1 }))) [
      | true ↦ λ e. s
      | false ↦ λ e. sound-received w x s (or-false w.sink.ended x.syn e) c
    ] refl

sound-comes : (w : World) (which : ℕ) → Sound w → Sound (happens w (Comes which))
sound-comes w which s =
    elim (slice_get w.sent which) as (λ o. slice_get w.sent which ≡ o → Sound (comes w o)) [
      | None ↦ λ e. s
      | Some x ↦ λ e. sound-segment w x s (all-get (CarriesWritten w.written w.closed) w.sent which x s.sent e)
    ] refl

sound-happens : (w : World) (e : Event) → Sound w → MayHappen w e → Sound (happens w e)
sound-happens w (Write bytes) s may = sound-write w bytes s may.0 may.1
sound-happens w Close s may = sound-close w s
sound-happens w (Send x) s may = sound-send w x s may
sound-happens w (Comes which) s may = sound-comes w which s
sound-happens w Timer s may = s

pub sound-run : (w : World) (events : List Event) → Sound w → IsHistory w events → Sound (run w events)
sound-run w [] s h = s
sound-run w (e ∷ events) s h = sound-run (happens w e) events (sound-happens w e s h.0) h.1

pub sound-opened : Sound opened
sound-opened = record {
  fits = omega arith;
  sent = tt;
  held = λ q b e. let none = get-empty {X = ℕ} nat_cmp q in absurd (let bad : ⊥ = (cc) in bad);
  told = ([], refl);
  next = λ _. refl;
  fin = λ f e. absurd (let bad : ⊥ = (cc) in bad);
  ended = λ e. not_both true (sym e) refl;
  told_end = λ e. e;
}
