-- Runs of bytes as what is held: the byte at a position of them, and merging bytes into them. `Front` has what is taken out.
use Rattle.std.proofs.Common.{◌≡◌, ℕ, zero, suc, ◌+◌, ◌-◌, ◌<◌, ◌≤◌, Bool, true, false, cond, ◌&&◌, ◌⊎◌, nat_eq, nat_le, nat_lt, List, [], ◌∷◌, ◌++◌, length, take, drop, max, Option, Some, None, refl, sym, ap, ◌∙◌, arith, inl, inr, length-drop, get_or}
use Rattle.std.proofs.lemmas.Bool.{le-leb, lt-leb}
use Rattle.std.proofs.lemmas.Bool.Decides.{nat_tests}
use Rattle.std.proofs.lemmas.List.{length-take}
use Rattle.std.proofs.lemmas.Option.{slice_get_past, slice_get-get_or}
use Rattle.std.specs.Cmp.{unsigned_tied, nat_cmp_total}
use Rattle.std.specs.Ordering.{nat_cmp}
use Rattle.std.specs.List.{slice_get}
use Rattle.std.specs.Option.{option_or}
use Rattle.std.specs.FinMap.{get, get-insert, get-empty, same_map, nat_cmp-IsAntisymmetric}
use Rattle.tcp_stream.specs.Held.{Held, window, in_window, taken_in}
use Rattle.tcp_stream.specs.Pieces.{Run, end_of, with_run, held_of, InOrder, piece_at, merge}
use Rattle.tcp_stream.proofs.HeldLaws.{option_or-none, option_or-assoc, offered, get-taken_in}

-- the byte at a position of bytes that begin at another
abbrev pub at_run : ℕ → List ℕ → ℕ → Option ℕ
at_run start bytes q = cond (nat_le start q) (slice_get bytes (q - start)) None

abbrev pub byte_at : List Run → ℕ → Option ℕ
byte_at [] q = None
byte_at (r ∷ rs) q = option_or (at_run r.start r.bytes q) (byte_at rs q)

pub at-in : (start : ℕ) (bytes : List ℕ) (q k : ℕ) → q ≡ start + k → at_run start bytes q ≡ slice_get bytes k
at-in start bytes q k e =
    let there : start ≤ q = omega arith in
    let d : q - start ≡ k = omega arith in
    ap (λ b. cond b (slice_get bytes (q - start)) None) (le-leb start q there) ∙ ap (slice_get bytes) d

pub at-below : (start : ℕ) (bytes : List ℕ) (q : ℕ) → q < start → at_run start bytes q ≡ None
at-below start bytes q h = ap (λ b. cond b (slice_get bytes (q - start)) None) (lt-leb start q h)

pub at-past : (start : ℕ) (bytes : List ℕ) (q : ℕ) → start + length bytes ≤ q → at_run start bytes q ≡ None
at-past start bytes q h =
    let e : q ≡ start + (q - start) = omega arith in
    at-in start bytes q (q - start) e ∙ slice_get_past bytes (q - start) (omega arith)

pub at-within : (start : ℕ) (bytes : List ℕ) (q : ℕ) → start ≤ q → q < start + length bytes → at_run start bytes q ≡ Some (get_or bytes (q - start) 0)
at-within start bytes q low high =
    let e : q ≡ start + (q - start) = omega arith in
    at-in start bytes q (q - start) e ∙ slice_get-get_or bytes (q - start) 0 (omega arith)

order : (p q : ℕ) → (q < p) ⊎ (p ≤ q)
order p q = grind (arith, nat_tests)

pub slice_get-take : (n : ℕ) (xs : List ℕ) (i : ℕ) → i < n → slice_get (take n xs) i ≡ slice_get xs i
slice_get-take zero xs i h = absurd (omega arith)
slice_get-take (suc n) [] i h = refl
slice_get-take (suc n) (x ∷ xs) zero h = refl
slice_get-take (suc n) (x ∷ xs) (suc i) h = slice_get-take n xs i (omega arith)

pub slice_get-drop : (n : ℕ) (xs : List ℕ) (i j : ℕ) → j ≡ n + i → slice_get (drop n xs) i ≡ slice_get xs j
slice_get-drop zero xs i j e = let same : i ≡ j = omega arith in ap (slice_get xs) same
slice_get-drop (suc n) [] i j e = refl
slice_get-drop (suc n) (x ∷ xs) i zero e = absurd (omega arith)
slice_get-drop (suc n) (x ∷ xs) i (suc j) e = slice_get-drop n xs i j (omega arith)

at-take : (start n : ℕ) (bytes : List ℕ) (q : ℕ) → q < start + n → at_run start (take n bytes) q ≡ at_run start bytes q
at-take start n bytes q h = elim (order start q) [
  | inl below ↦ at-below start (take n bytes) q below ∙ sym (at-below start bytes q below)
  | inr up ↦
      let e : q ≡ start + (q - start) = omega arith in
      at-in start (take n bytes) q (q - start) e ∙ slice_get-take n bytes (q - start) (omega arith) ∙ sym (at-in start bytes q (q - start) e)
]

at-take_past : (start n : ℕ) (bytes : List ℕ) (q : ℕ) → (start ≤ q → start + n ≤ q) → at_run start (take n bytes) q ≡ None
at-take_past start n bytes q h = elim (order start q) [
  | inl below ↦ at-below start (take n bytes) q below
  | inr up ↦
      let far : start + n ≤ q = h up in
      let short : length (take n bytes) ≤ n = omega (arith, length-take n bytes) in
      at-past start (take n bytes) q (omega arith)
]

at-drop : (start end : ℕ) (bytes : List ℕ) (q : ℕ) → end ≤ q → at_run (max start end) (drop (end - start) bytes) q ≡ at_run start bytes q
at-drop start end bytes q h = elim (order start q) [
  | inl below ↦ at-below (max start end) (drop (end - start) bytes) q (omega arith) ∙ sym (at-below start bytes q below)
  | inr up ↦
      let e : q ≡ max start end + (q - max start end) = omega arith in
      let j : q - start ≡ (end - start) + (q - max start end) = omega arith in
      let f : q ≡ start + (q - start) = omega arith in
      at-in (max start end) (drop (end - start) bytes) q (q - max start end) e
      ∙ slice_get-drop (end - start) bytes (q - max start end) (q - start) j
      ∙ sym (at-in start bytes q (q - start) f)
]

-- runs

byte_at-append : (xs ys : List Run) (q : ℕ) → byte_at (xs ++ ys) q ≡ option_or (byte_at xs q) (byte_at ys q)
byte_at-append [] ys q = refl
byte_at-append (x ∷ xs) ys q =
    ap (λ v. option_or (at_run x.start x.bytes q) v) (byte_at-append xs ys q) ∙ sym (option_or-assoc (at_run x.start x.bytes q) (byte_at xs q) (byte_at ys q))

slice_get-empty : (i : ℕ) (b : Bool) → cond b (slice_get {X = ℕ} [] i) None ≡ None
slice_get-empty i true = refl
slice_get-empty i false = refl

byte_at-piece : (start : ℕ) (bytes : List ℕ) (q : ℕ) → byte_at (piece_at start bytes) q ≡ at_run start bytes q
byte_at-piece start [] q = sym (slice_get-empty (q - start) (nat_le start q))
byte_at-piece start (b ∷ bytes) q = option_or-none (at_run start (b ∷ bytes) q)

pub byte_at-before : (from to : ℕ) (rs : List Run) (q : ℕ) → InOrder from to rs → q < from → byte_at rs q ≡ None
byte_at-before from to [] q o h = refl
byte_at-before from to (r ∷ rs) q o h =
    ap (λ v. option_or v (byte_at rs q)) (at-below r.start r.bytes q (omega arith)) ∙ byte_at-before (end_of r) to rs q o.2 (omega arith)

byte_at-beyond : (from to : ℕ) (rs : List Run) (q : ℕ) → InOrder from to rs → to ≤ q → byte_at rs q ≡ None
byte_at-beyond from to [] q o h = refl
byte_at-beyond from to (r ∷ rs) q o h =
    ap (λ v. option_or v (byte_at rs q)) (at-past r.start r.bytes q (omega (arith, order-end (end_of r) to rs o.2))) ∙ byte_at-beyond (end_of r) to rs q o.2 h
  where
    order-end : (from to : ℕ) (rs : List Run) → InOrder from to rs → from ≤ to
    order-end from to [] o = o
    order-end from to (r ∷ rs) o = omega (arith, order-end (end_of r) to rs o.2)

before-case : (g p r s n : Option ℕ) → p ≡ None → r ≡ None → s ≡ None → g ≡ n → option_or g (option_or p (option_or r s)) ≡ option_or (option_or p r) n
before-case g p r s n ep er es e =
    ap (λ v. option_or g (option_or v (option_or r s))) ep ∙ ap (λ v. option_or g (option_or v s)) er ∙ ap (option_or g) es ∙ option_or-none g ∙ e
    ∙ sym (ap (λ v. option_or (option_or v r) n) ep ∙ ap (λ v. option_or v n) er)

inside-case : (g p r s n : Option ℕ) (x : ℕ) → g ≡ None → p ≡ Some x → option_or g (option_or p (option_or r s)) ≡ option_or (option_or p r) n
inside-case g p r s n x eg ep =
    ap (λ v. option_or v (option_or p (option_or r s))) eg ∙ ap (λ v. option_or v (option_or r s)) ep ∙ sym (ap (λ v. option_or (option_or v r) n) ep)

behind-case : (g p r s n : Option ℕ) → g ≡ None → p ≡ None → s ≡ n → option_or g (option_or p (option_or r s)) ≡ option_or (option_or p r) n
behind-case g p r s n eg ep es =
    ap (λ v. option_or v (option_or p (option_or r s))) eg ∙ ap (λ v. option_or v (option_or r s)) ep ∙ ap (option_or r) es ∙ sym (ap (λ v. option_or (option_or v r) n) ep)

pub byte_at-merge : (from to : ℕ) (rs : List Run) (start : ℕ) (bytes : List ℕ) (q : ℕ) → InOrder from to rs →
    byte_at (merge rs start bytes) q ≡ option_or (byte_at rs q) (at_run start bytes q)
byte_at-merge from to [] start bytes q o = byte_at-piece start bytes q
byte_at-merge from to (r ∷ rs) start bytes q o =
    let gap = take (r.start - start) bytes in
    let later = merge rs (max start (end_of r)) (drop (end_of r - start) bytes) in
    let n = at_run start bytes q in
    let p = at_run r.start r.bytes q in
    let s = at_run (max start (end_of r)) (drop (end_of r - start) bytes) q in
    let whole : byte_at (piece_at start gap ++ r ∷ later) q ≡ option_or (at_run start gap q) (option_or p (option_or (byte_at rs q) s)) =
    byte_at-append (piece_at start gap) (r ∷ later) q
    ∙ ap (λ v. option_or v (option_or p (byte_at later q))) (byte_at-piece start gap q)
    ∙ ap (λ v. option_or (at_run start gap q) (option_or p v)) (byte_at-merge (end_of r) to rs (max start (end_of r)) (drop (end_of r - start) bytes) q o.2) in
    whole ∙ elim (order r.start q) [
      | inl below ↦ before-case (at_run start gap q) p (byte_at rs q) s n
          (at-below r.start r.bytes q below)
          (byte_at-before (end_of r) to rs q o.2 (omega arith))
          (at-below (max start (end_of r)) (drop (end_of r - start) bytes) q (omega arith))
          (at-take start (r.start - start) bytes q (omega arith))
      | inr up ↦
          let none : at_run start gap q ≡ None = at-take_past start (r.start - start) bytes q (λ h. omega arith) in
          elim (order (end_of r) q) [
            | inl within ↦ inside-case (at_run start gap q) p (byte_at rs q) s n (get_or r.bytes (q - r.start) 0) none
                (at-within r.start r.bytes q up within)
            | inr past ↦ behind-case (at_run start gap q) p (byte_at rs q) s n none
                (at-past r.start r.bytes q past)
                (at-drop start (end_of r) bytes q past)
          ]
    ]

-- what runs hold

at-cons : (start b : ℕ) (bytes : List ℕ) (q : ℕ) → at_run start (b ∷ bytes) q ≡ cond (nat_eq q start) (Some b) (at_run (start + 1) bytes q)
at-cons start b bytes q = elim (order start q) [
  | inl below ↦
      let no : nat_eq q start ≡ false = grind (arith, nat_tests) in
      at-below start (b ∷ bytes) q below ∙ sym (ap (λ e. cond e (Some b) (at_run (start + 1) bytes q)) no ∙ at-below (start + 1) bytes q (omega arith))
  | inr up ↦ elim (order (start + 1) q) [
    | inl here ↦
        let same : q ≡ start + 0 = omega arith in
        let yes : nat_eq q start ≡ true = grind (arith, nat_tests) in
        at-in start (b ∷ bytes) q 0 same ∙ sym (ap (λ e. cond e (Some b) (at_run (start + 1) bytes q)) yes)
    | inr past ↦
        let no : nat_eq q start ≡ false = grind (arith, nat_tests) in
        let k : q ≡ start + suc (q - (start + 1)) = omega arith in
        let l : q ≡ (start + 1) + (q - (start + 1)) = omega arith in
        at-in start (b ∷ bytes) q (suc (q - (start + 1))) k
        ∙ sym (ap (λ e. cond e (Some b) (at_run (start + 1) bytes q)) no ∙ at-in (start + 1) bytes q (q - (start + 1)) l)
  ]
]

or-cond : (e : Bool) (b : ℕ) (x y : Option ℕ) → cond e (Some b) (option_or x y) ≡ option_or (cond e (Some b) x) y
or-cond true b x y = refl
or-cond false b x y = refl

get-with_run : (held : Held) (start : ℕ) (bytes : List ℕ) (q : ℕ) → get (with_run held start bytes) q ≡ option_or (at_run start bytes q) (get held q)
get-with_run held start [] q = sym (ap (λ v. option_or v (get held q)) (slice_get-empty (q - start) (nat_le start q)))
get-with_run held start (b ∷ bytes) q =
    get-insert nat_cmp_total (with_run held (start + 1) bytes) start b q
    ∙ ap (λ e. cond e (Some b) (get (with_run held (start + 1) bytes) q)) (unsigned_tied q start)
    ∙ ap (λ v. cond (nat_eq q start) (Some b) v) (get-with_run held (start + 1) bytes q)
    ∙ or-cond (nat_eq q start) b (at_run (start + 1) bytes q) (get held q)
    ∙ ap (λ v. option_or v (get held q)) (sym (at-cons start b bytes q))

pub get-held_of : (rs : List Run) (q : ℕ) → get (held_of rs) q ≡ byte_at rs q
get-held_of [] q = get-empty {X = ℕ} nat_cmp q
get-held_of (r ∷ rs) q = get-with_run (held_of rs) r.start r.bytes q ∙ ap (option_or (at_run r.start r.bytes q)) (get-held_of rs q)

offered-case : (w v e : Bool) (b : ℕ) (x : Option ℕ) → (e ≡ true → w ≡ v) →
    option_or (cond (w && e) (Some b) None) (cond v x None) ≡ cond v (cond e (Some b) x) None
offered-case true v true b x h = ap (λ u. cond u (Some b) None) (h refl)
offered-case false v true b x h = ap (λ u. cond u x None) (sym (h refl)) ∙ ap (λ u. cond u (Some b) None) (h refl)
offered-case true v false b x h = refl
offered-case false v false b x h = refl

same_position : (q p : ℕ) → nat_eq q p ≡ true → p ≡ q
same_position q p e = grind (arith, nat_tests)

nothing : (b : Bool) → ◌≡◌ {A = Option ℕ} None (cond b None None)
nothing true = refl
nothing false = refl

pub offered-at : (rcv p : ℕ) (bytes : List ℕ) (q : ℕ) → offered rcv p bytes q ≡ cond (in_window rcv q) (at_run p bytes q) None
offered-at rcv p [] q = nothing (in_window rcv q) ∙ ap (λ v. cond (in_window rcv q) v None) (sym (slice_get-empty (q - p) (nat_le p q)))
offered-at rcv p (b ∷ bytes) q =
    ap (option_or (cond (in_window rcv p && nat_eq q p) (Some b) None)) (offered-at rcv (p + 1) bytes q)
    ∙ offered-case (in_window rcv p) (in_window rcv q) (nat_eq q p) b (at_run (p + 1) bytes q) (λ e. ap (in_window rcv) (same_position q p e))
    ∙ ap (λ v. cond (in_window rcv q) v None) (sym (at-cons p b bytes q))

-- taking in

-- the part of bytes that lies in the window
abbrev pub start_in : ℕ → ℕ → ℕ
start_in next p = max p next

abbrev pub bytes_in : ℕ → ℕ → List ℕ → List ℕ
bytes_in next p bytes = take ((next + window) - start_in next p) (drop (next - p) bytes)

in-false : (w x : Bool) (o : Option ℕ) → w ≡ false → None ≡ cond (w && x) o None
in-false w x o e = sym (ap (λ b. cond (b && x) o None) e)

at-clipped : (next p : ℕ) (bytes : List ℕ) (q : ℕ) → at_run (start_in next p) (bytes_in next p bytes) q ≡ cond (in_window next q) (at_run p bytes q) None
at-clipped next p bytes q = elim (order next q) [
  | inl below ↦
      at-below (start_in next p) (bytes_in next p bytes) q (omega arith)
      ∙ in-false (nat_le next q) (nat_lt q (next + window)) (at_run p bytes q) (lt-leb next q below)
  | inr up ↦ elim (order (next + window) q) [
    | inl within ↦
        let yes : in_window next q ≡ true = grind (arith, nat_tests) in
        at-take (start_in next p) ((next + window) - start_in next p) (drop (next - p) bytes) q (omega arith)
        ∙ at-drop p next bytes q up
        ∙ sym (ap (λ b. cond b (at_run p bytes q) None) yes)
    | inr past ↦
        let no : in_window next q ≡ false = grind (arith, nat_tests) in
        at-take_past (start_in next p) ((next + window) - start_in next p) (drop (next - p) bytes) q (λ h. omega arith)
        ∙ sym (ap (λ b. cond b (at_run p bytes q) None) no)
  ]
]

pub held-merged : (next to p : ℕ) (rs : List Run) (bytes : List ℕ) → InOrder next to rs →
    held_of (merge rs (start_in next p) (bytes_in next p bytes)) ≡ taken_in next (held_of rs) p bytes
held-merged next to p rs bytes o = same_map nat_cmp_total nat_cmp-IsAntisymmetric _ _ (λ q.
    get-held_of (merge rs (start_in next p) (bytes_in next p bytes)) q
    ∙ byte_at-merge next to rs (start_in next p) (bytes_in next p bytes) q o
    ∙ ap (option_or (byte_at rs q)) (at-clipped next p bytes q ∙ sym (offered-at next p bytes q))
    ∙ ap (λ v. option_or v (offered next p bytes q)) (sym (get-held_of rs q))
    ∙ sym (get-taken_in next (held_of rs) p bytes q))

pub order-weaken : (from later to : ℕ) (rs : List Run) → from ≤ later → InOrder later to rs → InOrder from to rs
order-weaken from later to [] h o = omega arith
order-weaken from later to (r ∷ rs) h o = (omega arith, o.1, o.2)

pub order-widen : (from to more : ℕ) (rs : List Run) → to ≤ more → InOrder from to rs → InOrder from more rs
order-widen from to more [] h o = omega arith
order-widen from to more (r ∷ rs) h o = (o.0, o.1, order-widen (end_of r) to more rs h o.2)

order-piece : (from to start : ℕ) (bytes : List ℕ) (rs : List Run) → from ≤ start → InOrder from to rs →
    (0 < length bytes → InOrder (start + length bytes) to rs) → InOrder from to (piece_at start bytes ++ rs)
order-piece from to start [] rs h o later = o
order-piece from to start (b ∷ bytes) rs h o later = (h, omega arith, later (omega arith))

pub order-merge : (from to : ℕ) (rs : List Run) (start : ℕ) (bytes : List ℕ) → InOrder from to rs → from ≤ start →
    (0 < length bytes → start + length bytes ≤ to) → InOrder from to (merge rs start bytes)
order-merge from to [] start [] o h fits = o
order-merge from to [] start (b ∷ bytes) o h fits = (h, omega arith, fits (omega arith))
order-merge from to (r ∷ rs) start bytes o h fits =
    let gap = take (r.start - start) bytes in
    let rest = drop (end_of r - start) bytes in
    let later : InOrder (end_of r) to (merge rs (max start (end_of r)) rest) =
    order-merge (end_of r) to rs (max start (end_of r)) rest o.2 (omega arith)
    (λ some. let long : 0 < length bytes - (end_of r - start) = omega (arith, length-drop (end_of r - start) bytes) in
    omega (arith, length-drop (end_of r - start) bytes, fits (omega arith))) in
    order-piece from to start gap (r ∷ merge rs (max start (end_of r)) rest) h (o.0, o.1, later)
    (λ some. (omega (arith, length-take (r.start - start) bytes), o.1, later))

pub clipped-fits : (next p : ℕ) (bytes : List ℕ) → 0 < length (bytes_in next p bytes) → start_in next p + length (bytes_in next p bytes) ≤ next + window
clipped-fits next p bytes some = omega (arith, length-take ((next + window) - start_in next p) (drop (next - p) bytes))
