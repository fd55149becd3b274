-- What both ends have lived in a history is what two ends of one connection live; so what the sink tells is a prefix.
use Rattle.std.proofs.Common.{◌≡◌, ℕ, true, false, ⊎_elim, List, [], ◌∷◌, None, Some, refl, sym, ap, subst, ◌∙◌, arith}
use Rattle.std.specs.List.{All, AllByRecursion, Contains}
use Rattle.std.proofs.lemmas.Bool.{and_parts, cond-true, cond-false, false≢true}
use Rattle.std.proofs.lemmas.List.Elements.{All-from_recursion, All-nil, All-weaker}
use Rattle.sim_base.specs.declared.numbers.Numbers.{Numbers}
use Rattle.sim_base.specs.Packet.{Packet}
use Rattle.tcp_stream.specs.History.{IsPrefixOf, delivered, has_end}
use Rattle.tcp_wire.specs.declared.words.SocketPair.{SocketPair}
use Rattle.tcp_wire.specs.Segment.{arrived}
use Rattle.tcp_flow.specs.declared.words.Seg.{Seg}
use Rattle.tcp_flow.specs.declared.words.In.{In}
use Rattle.tcp_flow.specs.declared.words.In.TheVariants.{Connect, Listen, Segment, Timer, Write, Close}
use Rattle.tcp_flow.specs.Conns.{PlainConns, step}
use Rattle.tcp_flow.specs.Index.{InOrder}
use Rattle.tcp_flow.specs.Life.{Birth, IsSegment, IsTransfer, Life, Opens, WritesBytes, life_of, no_life}
use Rattle.tcp_flow.specs.Table.{least_free, same_pair}
use Rattle.tcp_flow.proofs.Indexing.{by_cases}
use Rattle.delivered_prefix.specs.Nodes.{Awaited, Happening, Here, IsHistory, IsWithinLimits, Node, Nodes, Stage, Stands, There, accepts, happens, is_between, lives, makes, mirrored, nodes_before, opens, reaches, run, stage_after, stage_at}
use Rattle.delivered_prefix.proofs.Coming.{Came, May, lives-came, lives-grow}
use Rattle.delivered_prefix.proofs.Replaying.{Contained, IsExact, replay}
use Rattle.delivered_prefix.proofs.Following.{Begins, IsLifeOf, Lived, awaited-life, taken}

-- ---- the inputs of each node

abbrev theirs : List Happening → List (In Packet)
theirs [] = []
theirs (There input ∷ hs) = input ∷ theirs hs
theirs (Here input ∷ hs) = theirs hs

abbrev ours : List Happening → List (In Packet)
ours [] = []
ours (There input ∷ hs) = ours hs
ours (Here input ∷ hs) = input ∷ ours hs

opener-run : (pair : SocketPair) (w : Nodes) (hs : List Happening) → (run pair w hs).opener ≡ taken (opens pair) w.opener (theirs hs)
opener-run pair w [] = refl
opener-run pair w (There input ∷ hs) = opener-run pair (happens pair w (There input)) hs
opener-run pair w (Here input ∷ hs) = opener-run pair (happens pair w (Here input)) hs

sink-run : (pair : SocketPair) (w : Nodes) (hs : List Happening) → (run pair w hs).sink ≡ taken (accepts (mirrored pair)) w.sink (ours hs)
sink-run pair w [] = refl
sink-run pair w (There input ∷ hs) = sink-run pair (happens pair w (There input)) hs
sink-run pair w (Here input ∷ hs) = sink-run pair (happens pair w (Here input)) hs

within : (pair : SocketPair) (w : Nodes) (hs : List Happening) → IsExact pair w hs → AllByRecursion IsWithinLimits (theirs hs)
within pair w [] h = tt
within pair w (There input ∷ hs) h = (h.0, within pair (happens pair w (There input)) hs h.1)
within pair w (Here input ∷ hs) h = within pair (happens pair w (Here input)) hs h.1

abbrev Any : In Packet → Type 0
Any input = Unit {0}

any-inputs : (inputs : List (In Packet)) → AllByRecursion Any inputs
any-inputs [] = tt
any-inputs (input ∷ inputs) = (tt, any-inputs inputs)

-- ---- what makes an end

opens-makes : (pair : SocketPair) (t : PlainConns) (input : In Packet) → opens pair t input ≡ true → makes t input ≡ true
opens-makes pair t (Connect now app None sport dst port mss) h = absurd (false≢true h)
opens-makes pair t (Connect now app (Some src) sport dst port mss) h =
    (and_parts (same_pair pair (record { addr = src; port = sport; other_addr = dst; other_port = port })) (makes t (Connect now app (Some src) sport dst port mss)) h).1
opens-makes pair t (Listen app port) h = absurd (false≢true h)
opens-makes pair t (Segment now s) h = absurd (false≢true h)
opens-makes pair t (Timer now conn stamp) h = absurd (false≢true h)
opens-makes pair t (Write now app bytes) h = absurd (false≢true h)
opens-makes pair t (Close now app) h = absurd (false≢true h)

accepts-makes : (pair : SocketPair) (t : PlainConns) (input : In Packet) → accepts pair t input ≡ true → makes t input ≡ true
accepts-makes pair t (Connect now app src sport dst port mss) h = absurd (false≢true h)
accepts-makes pair t (Listen app port) h = absurd (false≢true h)
accepts-makes pair t (Segment now s) h =
    (and_parts (is_between pair s.src s.dst (arrived s.src s.dst s.packet)) (makes t (Segment now s)) h).1
accepts-makes pair t (Timer now conn stamp) h = absurd (false≢true h)
accepts-makes pair t (Write now app bytes) h = absurd (false≢true h)
accepts-makes pair t (Close now app) h = absurd (false≢true h)

an-open : (pair : SocketPair) (t : PlainConns) (input : In Packet) → opens pair t input ≡ true → IsWithinLimits input → Opens input
an-open pair t (Connect now app src sport dst port mss) h limits = limits
an-open pair t (Listen app port) h limits = absurd (false≢true h)
an-open pair t (Segment now s) h limits = absurd (false≢true h)
an-open pair t (Timer now conn stamp) h limits = absurd (false≢true h)
an-open pair t (Write now app bytes) h limits = absurd (false≢true h)
an-open pair t (Close now app) h limits = absurd (false≢true h)

a-segment : (pair : SocketPair) (t : PlainConns) (input : In Packet) → accepts pair t input ≡ true → IsSegment input
a-segment pair t (Connect now app src sport dst port mss) h = absurd (false≢true h)
a-segment pair t (Listen app port) h = absurd (false≢true h)
a-segment pair t (Segment now s) h = tt
a-segment pair t (Timer now conn stamp) h = absurd (false≢true h)
a-segment pair t (Write now app bytes) h = absurd (false≢true h)
a-segment pair t (Close now app) h = absurd (false≢true h)

writes-bytes : (input : In Packet) → IsWithinLimits input → WritesBytes input
writes-bytes (Connect now app src sport dst port mss) h = tt
writes-bytes (Listen app port) h = tt
writes-bytes (Segment now s) h = tt
writes-bytes (Timer now conn stamp) h = tt
writes-bytes (Write now app bytes) h = h
writes-bytes (Close now app) h = tt

-- ---- what came to the sink's end was sent, and nothing came before anything was sent

record Sound (w : Nodes) : Type 0 where
  came : Came (Contains w.opener.life.sent) w.sink.life
  waits : w.opener.life.sent ≡ [] → (w.sink.stage ≡ Awaited) × (w.sink.life ≡ no_life)

there-sound : (pair : SocketPair) (w : Nodes) (input : In Packet) → Sound w → Sound (happens pair w (There input))
there-sound pair w input s =
    let a = w.opener in
    let stage = stage_at (opens pair) a.stage a.conns input in
    let grows = lives-grow stage a.conns a.numbers input a.life in
    record {
      came = All-weaker (Contains a.life.sent) (Contains (lives stage a.conns a.numbers input a.life).sent) grows.holds w.sink.life.came s.came;
      waits = λ none. s.waits (grows.none none);
    }

may-come : (pair : SocketPair) (w : Nodes) (input : In Packet) → Contained pair w input →
    reaches (stage_at (accepts (mirrored pair)) w.sink.stage w.sink.conns input) w.sink.conns input ≡ true → May (Contains w.opener.life.sent) input
may-come pair w (Connect now app src sport dst port mss) h b = tt
may-come pair w (Listen app port) h b = tt
may-come pair w (Segment now s) h b = h b
may-come pair w (Timer now conn stamp) h b = tt
may-come pair w (Write now app bytes) h b = tt
may-come pair w (Close now app) h b = tt

-- an end that is awaited is reached by the input that makes it
reaches-made : (begins : Begins) (stage : Stage) (t : PlainConns) (input : In Packet) → stage ≡ Awaited → begins t input ≡ true → makes t input ≡ true →
    reaches (stage_at begins stage t input) t input ≡ true
reaches-made begins stage t input is b made =
    ap (λ (x : Stage). reaches (stage_at begins x t input) t input) is
    ∙ ap (λ (x : Stage). reaches x t input) (cond-true (begins t input) (Stands (least_free 0 t.conns)) Awaited b) ∙ made

nothing-contained : (s : Seg Packet) → Contains [] s → ⊥
nothing-contained s h = let low = h.1 in absurd (omega arith)

not-made : (pair : SocketPair) (w : Nodes) (input : In Packet) → Contained pair w input → w.sink.stage ≡ Awaited → w.opener.life.sent ≡ [] →
    accepts (mirrored pair) w.sink.conns input ≡ true → ⊥
not-made pair w (Connect now app src sport dst port mss) h is none b = absurd (false≢true b)
not-made pair w (Listen app port) h is none b = absurd (false≢true b)
not-made pair w (Segment now s) h is none b =
    let t = w.sink.conns in
    let reached = reaches-made (accepts (mirrored pair)) w.sink.stage t (Segment now s) is b (accepts-makes (mirrored pair) t (Segment now s) b) in
    nothing-contained s (subst (λ (sent : List (Seg Packet)). Contains sent s) none (h reached))
not-made pair w (Timer now conn stamp) h is none b = absurd (false≢true b)
not-made pair w (Write now app bytes) h is none b = absurd (false≢true b)
not-made pair w (Close now app) h is none b = absurd (false≢true b)

still-awaited : (begins : Begins) (stage : Stage) (t : PlainConns) (input : In Packet) → stage ≡ Awaited → begins t input ≡ false → stage_at begins stage t input ≡ Awaited
still-awaited begins stage t input is b =
    ap (λ (x : Stage). stage_at begins x t input) is ∙ cond-false (begins t input) (Stands (least_free 0 t.conns)) Awaited b

here-waits : (pair : SocketPair) (w : Nodes) (input : In Packet) → Sound w → Contained pair w input → w.opener.life.sent ≡ [] →
    ((happens pair w (Here input)).sink.stage ≡ Awaited) × ((happens pair w (Here input)).sink.life ≡ no_life)
here-waits pair w input s h none =
    let a = w.sink in
    let begins = accepts (mirrored pair) in
    let before = s.waits none in
    let off : begins a.conns input ≡ false = by_cases (begins a.conns input) (λ b. absurd (not-made pair w input h before.0 none b)) (λ b. b) in
    let still = still-awaited begins a.stage a.conns input before.0 off in
    (ap (λ (x : Stage). stage_after x (step a.conns a.numbers input).state) still, ap (λ (x : Stage). lives x a.conns a.numbers input a.life) still ∙ before.1)

here-sound : (pair : SocketPair) (w : Nodes) (input : In Packet) → Sound w → Contained pair w input → Sound (happens pair w (Here input))
here-sound pair w input s h =
    let a = w.sink in
    record {
      came =
          lives-came (Contains w.opener.life.sent) (stage_at (accepts (mirrored pair)) a.stage a.conns input) a.conns a.numbers input a.life (may-come pair w input h) s.came;
      waits = here-waits pair w input s h;
    }

sound-run : (pair : SocketPair) (w : Nodes) (hs : List Happening) → Sound w → IsExact pair w hs → Sound (run pair w hs)
sound-run pair w [] s h = s
sound-run pair w (There input ∷ hs) s h = sound-run pair (happens pair w (There input)) hs (there-sound pair w input s) h.1
sound-run pair w (Here input ∷ hs) s h = sound-run pair (happens pair w (Here input)) hs (here-sound pair w input s h.0) h.1

-- ---- the law

nothing-prefix : (l : Life) (written : List ℕ) → l ≡ no_life → IsPrefixOf (delivered l.told) written
nothing-prefix l written is = subst (λ (x : Life). IsPrefixOf (delivered x.told) written) (sym is) (written, refl)

nothing-ends : (l : Life) → l ≡ no_life → has_end l.told ≡ true → ⊥
nothing-ends l is ended = false≢true (sym (ap (λ (x : Life). has_end x.told) is) ∙ ended)

abbrev IsAll : Life → Life → Type 0
IsAll there here = has_end here.told ≡ true → (there.closed ≡ true) × (delivered here.told ≡ there.written)

module _ (pair : SocketPair) (there : PlainConns) (n : Numbers) (here : PlainConns) (m : Numbers) (happenings : List Happening)
    (there-order : InOrder there.conns) (here-order : InOrder here.conns) (history : IsExact pair (nodes_before there n here m) happenings) where
  abbrev start : Nodes
  start = nodes_before there n here m

  abbrev end : Nodes
  end = run pair start happenings

  abbrev OpenersLife : Type 0
  OpenersLife = IsLifeOf (opens pair) IsWithinLimits (opens-makes pair) end.opener.life

  abbrev SinksLife : Type 0
  SinksLife = IsLifeOf (accepts (mirrored pair)) Any (accepts-makes (mirrored pair)) end.sink.life

  opener-lived : Lived (opens pair) IsWithinLimits (opens-makes pair) end.opener.life
  opener-lived =
      subst (λ (a : Node). Lived (opens pair) IsWithinLimits (opens-makes pair) a.life) (sym (opener-run pair start happenings))
      (awaited-life (opens pair) IsWithinLimits (opens-makes pair) there n (theirs happenings) there-order (within pair start happenings history))

  sink-lived : Lived (accepts (mirrored pair)) Any (accepts-makes (mirrored pair)) end.sink.life
  sink-lived =
      subst (λ (a : Node). Lived (accepts (mirrored pair)) Any (accepts-makes (mirrored pair)) a.life) (sym (sink-run pair start happenings))
      (awaited-life (accepts (mirrored pair)) Any (accepts-makes (mirrored pair)) here m (ours happenings) here-order (any-inputs (ours happenings)))

  sound : Sound end
  sound = sound-run pair start happenings (record { came = All-nil (Contains []); waits = λ none. (refl, refl) }) history

  -- an opener's end that wasn't made has sent nothing, and so the sink's end isn't made either
  unsent : end.opener.life ≡ no_life → end.sink.life ≡ no_life
  unsent none = let waits = sound.waits (ap (λ (l : Life). l.sent) none) in waits.1

  transfer : (o : OpenersLife) (s : SinksLife) → IsTransfer o.birth s.birth o.inputs s.inputs
  transfer o s =
      record {
        opener_born = o.born;
        opens = an-open pair o.birth.conns o.birth.input o.begun o.first;
        sink_born = s.born;
        segment = a-segment (mirrored pair) s.birth.conns s.birth.input s.begun;
        bytes = All-weaker IsWithinLimits WritesBytes writes-bytes o.inputs (All-from_recursion IsWithinLimits o.inputs o.rest);
        unaltered =
            subst (λ (l : Life). All (Contains l.sent) (life_of s.birth s.inputs).came) o.is
            (subst (λ (l : Life). All (Contains end.opener.life.sent) l.came) s.is sound.came);
      }

  prefix-exact : ((opener sink : Birth) (those these : List (In Packet)) → IsTransfer opener sink those these → IsPrefixOf (delivered (life_of sink these).told) (life_of opener those).written) →
      IsPrefixOf (delivered end.sink.life.told) end.opener.life.written
  prefix-exact law =
      ⊎_elim (λ (none : end.sink.life ≡ no_life). nothing-prefix end.sink.life end.opener.life.written none)
      (λ (s : SinksLife).
      ⊎_elim (λ (none : end.opener.life ≡ no_life). nothing-prefix end.sink.life end.opener.life.written (unsent none))
      (λ (o : OpenersLife).
      subst (λ (l : Life). IsPrefixOf (delivered end.sink.life.told) l.written) (sym o.is)
      (subst (λ (l : Life). IsPrefixOf (delivered l.told) (life_of o.birth o.inputs).written) (sym s.is) (law o.birth s.birth o.inputs s.inputs (transfer o s))))
      opener-lived)
      sink-lived

  end-exact : ((opener sink : Birth) (those these : List (In Packet)) → IsTransfer opener sink those these → IsAll (life_of opener those) (life_of sink these)) →
      IsAll end.opener.life end.sink.life
  end-exact law =
      ⊎_elim (λ (none : end.sink.life ≡ no_life) ended. absurd (nothing-ends end.sink.life none ended))
      (λ (s : SinksLife).
      ⊎_elim (λ (none : end.opener.life ≡ no_life) ended. absurd (nothing-ends end.sink.life (unsent none) ended))
      (λ (o : OpenersLife).
      subst (λ (l : Life). IsAll l end.sink.life) (sym o.is)
      (subst (λ (l : Life). IsAll (life_of o.birth o.inputs) l) (sym s.is) (law o.birth s.birth o.inputs s.inputs (transfer o s))))
      opener-lived)
      sink-lived

-- where segments come as they were sent, the history goes as one in which their very packets come
module _ (pair : SocketPair) (there : PlainConns) (n : Numbers) (here : PlainConns) (m : Numbers) (happenings : List Happening)
    (there-order : InOrder there.conns) (here-order : InOrder here.conns) (history : IsHistory pair (nodes_before there n here m) happenings) where
  abbrev last : Nodes
  last = run pair (nodes_before there n here m) happenings

  pub prefix-of : ((opener sink : Birth) (those these : List (In Packet)) → IsTransfer opener sink those these → IsPrefixOf (delivered (life_of sink these).told) (life_of opener those).written) →
      IsPrefixOf (delivered last.sink.life.told) last.opener.life.written
  prefix-of law =
      let r = replay pair (nodes_before there n here m) happenings [] history in
      subst (λ (w : Nodes). IsPrefixOf (delivered w.sink.life.told) w.opener.life.written) r.is
      (prefix-exact pair there n here m r.replayed there-order here-order r.exact law)

  pub end-of : ((opener sink : Birth) (those these : List (In Packet)) → IsTransfer opener sink those these → IsAll (life_of opener those) (life_of sink these)) →
      IsAll last.opener.life last.sink.life
  end-of law =
      let r = replay pair (nodes_before there n here m) happenings [] history in
      subst (λ (w : Nodes). IsAll w.opener.life w.sink.life) r.is (end-exact pair there n here m r.replayed there-order here-order r.exact law)
