-- What an end has sent stays sent, and what came to an end was sent.
use Rattle.std.proofs.Common.{◌≡◌, Bool, true, false, cond, List, [], ◌∷◌, Option, refl, sym, ap, subst}
use Rattle.std.specs.List.{All, Contains}
use Rattle.std.proofs.lemmas.Bool.{false≢true}
use Rattle.std.proofs.lemmas.List.Elements.{All-cons, Contains-append_right}
use Rattle.sim_base.specs.declared.numbers.Numbers.{Numbers}
use Rattle.sim_base.specs.Packet.{Packet}
use Rattle.tcp_flow.specs.declared.words.Seg.{Seg}
use Rattle.tcp_flow.specs.declared.words.Act.{Act}
use Rattle.tcp_flow.specs.declared.words.Act.TheVariants.{Emit, TimerAt, Connected, Room, Deliver, End, Reset, Dropped}
use Rattle.tcp_flow.specs.declared.words.In.{In}
use Rattle.tcp_flow.specs.declared.words.In.TheVariants.{Connect, Listen, Segment, Timer, Write, Close}
use Rattle.tcp_flow.specs.declared.conn.Conn.{Conn}
use Rattle.tcp_flow.specs.Conns.{PlainConns, step}
use Rattle.tcp_flow.specs.Life.{Life, concerned, is_number, with_acts, with_emitted, with_input}
use Rattle.tcp_flow.specs.Table.{under}
use Rattle.delivered_prefix.specs.Nodes.{Awaited, Removed, Stage, Stands, lives, reaches}

-- ---- what was sent

-- what was sent before is among what was sent, and something was if something had been
pub record Grows (old new : List (Seg Packet)) : Type 0 where
  pub holds : (s : Seg Packet) → Contains old s → Contains new s
  pub none : new ≡ [] → old ≡ []

same-grows : (old : List (Seg Packet)) → Grows old old
same-grows old = record { holds = λ s h. h; none = λ h. h }

no-cons : (s : Seg Packet) (ss : List (Seg Packet)) → s ∷ ss ≡ [] → ⊥
no-cons s ss h = false≢true (sym (ap some h))
  where
    some : List (Seg Packet) → Bool
    some [] = false
    some (x ∷ xs) = true

emitted-grows : (acts : List (Act Packet)) (sent : List (Seg Packet)) → Grows sent (with_emitted acts sent)
emitted-grows [] sent = same-grows sent
emitted-grows (Emit s ∷ acts) sent =
    let more = emitted-grows acts (s ∷ sent) in
    record {
      holds = λ x h. more.holds x (Contains-append_right (s ∷ []) sent x h);
      none = λ h. absurd (no-cons s sent (more.none h));
    }
emitted-grows (TimerAt at conn stamp ∷ acts) sent = let more = emitted-grows acts sent in record { holds = more.holds; none = more.none }
emitted-grows (Connected app ∷ acts) sent = let more = emitted-grows acts sent in record { holds = more.holds; none = more.none }
emitted-grows (Room app free ∷ acts) sent = let more = emitted-grows acts sent in record { holds = more.holds; none = more.none }
emitted-grows (Deliver app src sport packet ∷ acts) sent = let more = emitted-grows acts sent in record { holds = more.holds; none = more.none }
emitted-grows (End app ∷ acts) sent = let more = emitted-grows acts sent in record { holds = more.holds; none = more.none }
emitted-grows (Reset app ∷ acts) sent = let more = emitted-grows acts sent in record { holds = more.holds; none = more.none }
emitted-grows (Dropped ∷ acts) sent = let more = emitted-grows acts sent in record { holds = more.holds; none = more.none }

input-sent : (o : Option Conn) (input : In Packet) (l : Life) → (with_input o input l).sent ≡ l.sent
input-sent o (Connect now app src sport dst port mss) l = refl
input-sent o (Listen app port) l = refl
input-sent o (Segment now s) l = refl
input-sent o (Timer now conn stamp) l = refl
input-sent o (Write now app bytes) l = refl
input-sent o (Close now app) l = refl

either-grows : (b : Bool) (l x : Life) → Grows l.sent x.sent → Grows l.sent (cond b x l).sent
either-grows true l x h = h
either-grows false l x h = same-grows l.sent

pub lives-grow : (stage : Stage) (t : PlainConns) (n : Numbers) (input : In Packet) (l : Life) → Grows l.sent (lives stage t n input l).sent
lives-grow Awaited t n input l = same-grows l.sent
lives-grow Removed t n input l = same-grows l.sent
lives-grow (Stands m) t n input l =
    let acts = (step t n input).acts in
    let o = under m t.conns in
    let from : List (Seg Packet) → Type 0 = λ sent. Grows sent (with_emitted acts (with_input o input l).sent) in
    either-grows (is_number m (concerned t input)) l (with_acts acts (with_input o input l))
    (subst from (input-sent o input l) (emitted-grows acts (with_input o input l).sent))

-- ---- what came

module _ (P : Seg Packet → Type 0) where
  abbrev pub Came : Life → Type 0
  Came l = All P l.came

  -- a segment that comes is one of these
  abbrev pub May : In Packet → Type 0
  May (Segment now s) = P s
  May other = Unit {0}

  input-came : (o : Option Conn) (input : In Packet) (l : Life) → May input → Came l → Came (with_input o input l)
  input-came o (Connect now app src sport dst port mss) l may came = came
  input-came o (Listen app port) l may came = came
  input-came o (Segment now s) l may came = All-cons P s l.came may came
  input-came o (Timer now conn stamp) l may came = came
  input-came o (Write now app bytes) l may came = came
  input-came o (Close now app) l may came = came

  either-came : (b : Bool) (l x : Life) → (b ≡ true → Came x) → Came l → Came (cond b x l)
  either-came true l x h came = h refl
  either-came false l x h came = came

  pub lives-came : (stage : Stage) (t : PlainConns) (n : Numbers) (input : In Packet) (l : Life) → (reaches stage t input ≡ true → May input) → Came l →
      Came (lives stage t n input l)
  lives-came Awaited t n input l may came = came
  lives-came Removed t n input l may came = came
  lives-came (Stands m) t n input l may came =
      let o = under m t.conns in
      either-came (is_number m (concerned t input)) l (with_acts (step t n input).acts (with_input o input l)) (λ b. input-came o input l (may b) came) came
