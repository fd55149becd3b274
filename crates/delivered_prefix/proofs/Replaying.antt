-- A history in which segments come as they were sent goes as one in which their very packets come.
use Rattle.std.proofs.Common.{◌≡◌, ℕ, ◌&&◌, Bool, true, false, cond, List, [], ◌∷◌, Option, None, Some, refl, sym, ap, subst, ◌∙◌}
use Rattle.std.specs.List.{Contains}
use Rattle.std.proofs.lemmas.Bool.{both_ways}
use Rattle.sim_base.specs.declared.numbers.Numbers.{Numbers}
use Rattle.sim_base.specs.declared.time.Time.{Time}
use Rattle.sim_base.specs.Packet.{Packet}
use Rattle.tcp_wire.specs.declared.words.SocketPair.{SocketPair}
use Rattle.tcp_wire.specs.declared.words.Arrived.{Arrived}
use Rattle.tcp_wire.specs.Segment.{arrived}
use Rattle.tcp_flow.specs.declared.words.Seg.{Seg}
use Rattle.tcp_flow.specs.declared.words.In.{In}
use Rattle.tcp_flow.specs.declared.words.In.TheVariants.{Connect, Listen, Segment, Timer, Write, Close}
use Rattle.tcp_flow.specs.declared.conn.Conn.{Conn}
use Rattle.tcp_flow.specs.Conns.{PlainConns, comes, step}
use Rattle.tcp_flow.specs.Life.{Life, come_to, concerned, is_number, with_acts, with_input}
use Rattle.tcp_flow.specs.Table.{least_free, under}
use Rattle.tcp_flow.proofs.Indexing.{by_cases}
use Rattle.delivered_prefix.specs.Nodes.{Awaited, Happening, Here, IsAsSent, IsHistory, IsOnItsWay, IsWithinLimits, Node, Nodes, Removed, Stage, Stands, There, accepts, happens, is_between, lives, mirrored, reaches, run, stage_after, stage_at, takes}

-- ---- histories in which the very packets come

abbrev pub Contained : SocketPair → Nodes → In Packet → Type 0
Contained pair w (Segment now s) =
    reaches (stage_at (accepts (mirrored pair)) w.sink.stage w.sink.conns (Segment now s)) w.sink.conns (Segment now s) ≡ true → Contains w.opener.life.sent s
Contained pair w other = Unit {0}

abbrev pub MayExactly : SocketPair → Nodes → Happening → Type 0
MayExactly pair w (There input) = IsWithinLimits input
MayExactly pair w (Here input) = Contained pair w input

abbrev pub IsExact : SocketPair → Nodes → List Happening → Type 0
IsExact pair w [] = Unit {0}
IsExact pair w (h ∷ hs) = MayExactly pair w h × IsExact pair (happens pair w h) hs

-- ---- a segment that comes as it was sent is read as it was

arrived-same : (src dst : ℕ) (p q : Packet) → p.bytes ≡ q.bytes → arrived src dst p ≡ arrived src dst q
unfolding arrived
arrived-same src dst p q e = λ i. arrived src dst (record p { bytes = e i })

module _ (sent come : Seg Packet) (same : IsAsSent sent come) where
  -- and so is all that is made of its addresses and of what is read
  same-read : {X : Type 0} → (F : ℕ → ℕ → Option Arrived → X) → F sent.src sent.dst (arrived sent.src sent.dst sent.packet) ≡ F come.src come.dst (arrived come.src come.dst come.packet)
  same-read F =
      sym
      ((λ i. F (same.src i) (same.dst i) (arrived (same.src i) (same.dst i) come.packet))
      ∙ ap (F sent.src sent.dst) (arrived-same sent.src sent.dst come.packet sent.packet same.bytes))

  pub same-step : (t : PlainConns) (n : Numbers) (now : Time) → step t n (Segment now sent) ≡ step t n (Segment now come)
  same-step t n now = same-read (λ src dst o. comes now.0 src dst o t n)

  any-packet : (t : PlainConns) (s : Seg Packet) (p : Packet) (o : Option Arrived) → come_to s o t ≡ come_to (record s { packet = p }) o t
  any-packet t s p None = refl
  any-packet t s p (Some a) = refl

  same-concern : (t : PlainConns) (now : Time) → concerned t (Segment now sent) ≡ concerned t (Segment now come)
  same-concern t now =
      any-packet t sent come.packet (arrived sent.src sent.dst sent.packet) ∙ same-read (λ src dst o. come_to (record { src = src; dst = dst; packet = come.packet }) o t)

  same-accepts : (pair : SocketPair) (t : PlainConns) (now : Time) → accepts pair t (Segment now sent) ≡ accepts pair t (Segment now come)
  same-accepts pair t now =
      let between = same-read (is_between pair) in
      let concern = same-concern t now in
      λ i. between i && is_number (least_free 0 t.conns) (concern i)

  pub same-stage : (pair : SocketPair) (stage : Stage) (t : PlainConns) (now : Time) → stage_at (accepts pair) stage t (Segment now sent) ≡ stage_at (accepts pair) stage t (Segment now come)
  same-stage pair Awaited t now = ap (λ b. cond b (Stands (least_free 0 t.conns)) Awaited) (same-accepts pair t now)
  same-stage pair (Stands number) t now = refl
  same-stage pair Removed t now = refl

-- ---- lives that differ in the packets that came

abbrev pub with_came : List (Seg Packet) → Life → Life
with_came came l = record l { came = came }

abbrev pub node_with : List (Seg Packet) → Node → Node
node_with came a = record a { life = with_came came a.life }

abbrev pub nodes_with : List (Seg Packet) → Nodes → Nodes
nodes_with came w = record w { sink = node_with came w.sink }

record Goes (other : Life) (l : Life) : Type 0 where
  now : List (Seg Packet)
  is : other ≡ with_came now l

either-goes : (b : Bool) (x y : List (Seg Packet)) (k l : Life) → cond b (with_came x k) (with_came y l) ≡ with_came (cond b x y) (cond b k l)
either-goes true x y k l = refl
either-goes false x y k l = refl

-- Two inputs of which a node makes the same, but for the packet that came
record Alike (pair : SocketPair) (t : PlainConns) (n : Numbers) (stage : Stage) (other input : In Packet) (came : List (Seg Packet)) : Type 0 where
  step_is : step t n other ≡ step t n input
  concern : concerned t other ≡ concerned t input
  stage_is : stage_at (accepts pair) stage t other ≡ stage_at (accepts pair) stage t input
  more : List (Seg Packet)
  with_it : (o : Option Conn) (l : Life) → with_input o other (with_came came l) ≡ with_came more (with_input o input l)

-- an input, and itself

abbrev came_with : In Packet → List (Seg Packet) → List (Seg Packet)
came_with (Segment now s) came = s ∷ came
came_with other came = came

itself-with : (came : List (Seg Packet)) (o : Option Conn) (input : In Packet) (l : Life) → with_input o input (with_came came l) ≡ with_came (came_with input came) (with_input o input l)
itself-with came o (Connect now app src sport dst port mss) l = refl
itself-with came o (Listen app port) l = refl
itself-with came o (Segment now s) l = refl
itself-with came o (Timer now conn stamp) l = refl
itself-with came o (Write now app bytes) l = refl
itself-with came o (Close now app) l = refl

alike-itself : (pair : SocketPair) (t : PlainConns) (n : Numbers) (stage : Stage) (input : In Packet) (came : List (Seg Packet)) → Alike pair t n stage input input came
alike-itself pair t n stage input came =
    record { step_is = refl; concern = refl; stage_is = refl; more = came_with input came; with_it = λ o l. itself-with came o input l }

alike-sent : (pair : SocketPair) (t : PlainConns) (n : Numbers) (stage : Stage) (now : Time) (sent come : Seg Packet) (came : List (Seg Packet)) → IsAsSent sent come →
    Alike pair t n stage (Segment now sent) (Segment now come) came
alike-sent pair t n stage now sent come came same =
    record {
      step_is = same-step sent come same t n now;
      concern = same-concern sent come same t now;
      stage_is = same-stage sent come same pair stage t now;
      more = sent ∷ came;
      with_it = λ o l. refl;
    }

module _ (pair : SocketPair) (a : Node) (other input : In Packet) (came : List (Seg Packet)) (alike : Alike pair a.conns a.numbers a.stage other input came) where
  lives-alike : (stage : Stage) → Goes (lives stage a.conns a.numbers other (with_came came a.life)) (lives stage a.conns a.numbers input a.life)
  lives-alike Awaited = record { now = came; is = refl }
  lives-alike Removed = record { now = came; is = refl }
  lives-alike (Stands m) =
      let b = is_number m (concerned a.conns input) in
      let o = under m a.conns.conns in
      record {
        now = cond b alike.more came;
        is =
            (λ i. cond (is_number m (alike.concern i)) (with_acts (alike.step_is i).acts (alike.with_it o a.life i)) (with_came came a.life))
            ∙ either-goes b alike.more came (with_acts (step a.conns a.numbers input).acts (with_input o input a.life)) a.life;
      }

  takes-alike : (g : Goes (lives (stage_at (accepts pair) a.stage a.conns input) a.conns a.numbers other (with_came came a.life)) (lives (stage_at (accepts pair) a.stage a.conns input) a.conns a.numbers input a.life)) →
      takes (accepts pair) (node_with came a) other ≡ node_with g.now (takes (accepts pair) a input)
  takes-alike g =
      let s = step a.conns a.numbers input in
      (λ i.
      record {
        conns = (alike.step_is i).state;
        numbers = (alike.step_is i).numbers;
        stage = stage_after (alike.stage_is i) (alike.step_is i).state;
        life = lives (alike.stage_is i) a.conns a.numbers other (with_came came a.life);
      })
      ∙ ap (λ (l : Life). record { conns = s.state; numbers = s.numbers; stage = stage_after (stage_at (accepts pair) a.stage a.conns input) s.state; life = l }) g.is

-- ---- a history, played again

record Next (pair : SocketPair) (w : Nodes) (input : In Packet) (came : List (Seg Packet)) : Type 0 where
  other : In Packet
  contained : Contained pair (nodes_with came w) other
  after : List (Seg Packet)
  is : happens pair (nodes_with came w) (Here other) ≡ nodes_with after (happens pair w (Here input))

next-alike : (pair : SocketPair) (w : Nodes) (other input : In Packet) (came : List (Seg Packet)) → Contained pair (nodes_with came w) other →
    Alike (mirrored pair) w.sink.conns w.sink.numbers w.sink.stage other input came → Next pair w input came
next-alike pair w other input came contained alike =
    let g = lives-alike (mirrored pair) w.sink other input came alike (stage_at (accepts (mirrored pair)) w.sink.stage w.sink.conns input) in
    record {
      other = other;
      contained = contained;
      after = g.now;
      is = ap (λ (a : Node). record w { sink = a }) (takes-alike (mirrored pair) w.sink other input came alike g);
    }

next-itself : (pair : SocketPair) (w : Nodes) (input : In Packet) (came : List (Seg Packet)) → Contained pair (nodes_with came w) input → Next pair w input came
next-itself pair w input came contained =
    next-alike pair w input input came contained (alike-itself (mirrored pair) w.sink.conns w.sink.numbers w.sink.stage input came)

next : (pair : SocketPair) (w : Nodes) (input : In Packet) (came : List (Seg Packet)) → IsOnItsWay pair w input → Next pair w input came
next pair w (Connect now app src sport dst port mss) came h = next-itself pair w (Connect now app src sport dst port mss) came tt
next pair w (Listen app port) came h = next-itself pair w (Listen app port) came tt
next pair w (Segment now s) came h =
    let reached = reaches (stage_at (accepts (mirrored pair)) w.sink.stage w.sink.conns (Segment now s)) w.sink.conns (Segment now s) in
    by_cases reached
    (λ b.
    let was = h b in
    next-alike pair w (Segment now was.0) (Segment now s) came (λ again. was.1)
    (alike-sent (mirrored pair) w.sink.conns w.sink.numbers w.sink.stage now was.0 s came was.2))
    (λ b. next-itself pair w (Segment now s) came (λ c. absurd (both_ways reached b c)))
next pair w (Timer now conn stamp) came h = next-itself pair w (Timer now conn stamp) came tt
next pair w (Write now app bytes) came h = next-itself pair w (Write now app bytes) came tt
next pair w (Close now app) came h = next-itself pair w (Close now app) came tt

pub record Replay (pair : SocketPair) (w : Nodes) (hs : List Happening) (came : List (Seg Packet)) : Type 0 where
  pub replayed : List Happening
  pub exact : IsExact pair (nodes_with came w) replayed
  pub last : List (Seg Packet)
  pub is : run pair (nodes_with came w) replayed ≡ nodes_with last (run pair w hs)

pub replay : (pair : SocketPair) (w : Nodes) (hs : List Happening) (came : List (Seg Packet)) → IsHistory pair w hs → Replay pair w hs came
replay pair w [] came h = record { replayed = []; exact = tt; last = came; is = refl }
replay pair w (There input ∷ hs) came h =
    let r = replay pair (happens pair w (There input)) hs came h.1 in
    record { replayed = There input ∷ r.replayed; exact = (h.0, r.exact); last = r.last; is = r.is }
replay pair w (Here input ∷ hs) came h =
    let x = next pair w input came h.0 in
    let r = replay pair (happens pair w (Here input)) hs x.after h.1 in
    record {
      replayed = Here x.other ∷ r.replayed;
      exact = (x.contained, subst (λ (v : Nodes). IsExact pair v r.replayed) (sym x.is) r.exact);
      last = r.last;
      is = ap (λ (v : Nodes). run pair v r.replayed) x.is ∙ r.is;
    }
