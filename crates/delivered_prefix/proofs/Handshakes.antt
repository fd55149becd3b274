-- An application's OPEN and its SYN, which comes to a port where another one listens, make both ends of a connection.
use Rattle.std.proofs.Common.{◌≡◌, ℕ, ◌+◌, ◌<◌, ◌≤◌, ◌==◌, Bool, true, false, cond, List, [], ◌∷◌, Option, None, Some, is_some, refl, sym, ap, subst, ◌∙◌, eq-eqb, arith}
use Rattle.std.specs.BTreeMap.{insert_entry}
use Rattle.std.specs.List.{All, Contains}
use Rattle.std.specs.Ordering.{nat_cmp}
use Rattle.std.proofs.lemmas.Bool.{and_from, cond-true}
use Rattle.std.proofs.lemmas.List.Elements.{All-contains_itself, All-nil, Contains-push}
use Rattle.sim_base.specs.declared.numbers.Numbers.{Numbers}
use Rattle.sim_base.specs.declared.numbers.Uid.{Uid}
use Rattle.sim_base.specs.declared.time.Time.{Time}
use Rattle.sim_base.specs.Packet.{Packet}
use Rattle.layer_words.specs.Counting.{new_uid}
use Rattle.tcp_conn.specs.declared.words.Heard.{Heard}
use Rattle.tcp_conn.specs.declared.words.Outgoing.{Outgoing}
use Rattle.tcp_conn.specs.declared.words.Effect.{Effect}
use Rattle.tcp_conn.specs.declared.words.Effect.TheVariants.{Emit, TimerAt}
use Rattle.tcp_conn.specs.declared.connection.Connection.{Connection}
use Rattle.tcp_conn.specs.declared.connection.Phase.{Phase}
use Rattle.tcp_conn.specs.declared.connection.Phase.TheVariants.{SynSent, SynReceived}
use Rattle.tcp_conn.specs.Begin.{opening, heard_syn}
use Rattle.tcp_conn.specs.Following.{told_by}
use Rattle.tcp_conn.specs.OnItsWay.{said, bytes_of}
use Rattle.tcp_conn.specs.RoundTrip.{unsampled}
use Rattle.tcp_conn.specs.Send.{Stepped}
use Rattle.tcp_wire.specs.declared.words.SocketPair.{SocketPair}
use Rattle.tcp_wire.specs.declared.words.Arrived.{Arrived}
use Rattle.tcp_wire.specs.Sayable.{IsSayable}
use Rattle.tcp_wire.specs.Segment.{arrived, segment}
use Rattle.tcp_flow.specs.declared.words.Act.{Act}
use Rattle.tcp_flow.specs.declared.words.Seg.{Seg}
use Rattle.tcp_flow.specs.declared.words.In.{In}
use Rattle.tcp_flow.specs.declared.words.In.TheVariants.{Segment}
use Rattle.tcp_flow.specs.declared.conn.Conn.{Conn}
use Rattle.tcp_flow.specs.Conn.{all_done, begun, fresh}
use Rattle.tcp_flow.specs.Conns as conns
use Rattle.tcp_flow.specs.Conns.{PlainConns, comes, comes_new, comes_to, dropped, is_opening, step, with_conns}
use Rattle.tcp_flow.specs.Life.{Life, WritesBytes, come_to, concerned, found_or_made, is_number, lived, made_at, no_life, told_in, with_acts, with_emitted, with_input}
use Rattle.tcp_flow.specs.Table.{least_free, same_pair, under}
use Rattle.tcp_flow.proofs.Entries.{under-added}
use Rattle.tcp_flow.proofs.Indexing.{pair_itself}
use Rattle.tcp_flow.proofs.Sending.{all_done-connection, all_done-pair, told-done}
use Rattle.delivered_prefix.specs.Handshake.{Ask, BeginsTransfer, IsAsk, IsEnd, IsReady, asked}
use Rattle.delivered_prefix.specs.Nodes.{Awaited, Node, Removed, Stage, Stands, accepts, is_between, lives, makes, mirrored, node_before, opens, stage_after, takes}
use Rattle.delivered_prefix.proofs.Does.{Step}
use Rattle.delivered_prefix.proofs.Following.{Begins}

-- ---- the SYN, and its answer

abbrev syn_out : ℕ → Outgoing
syn_out mss = record { position = 0; ack = None; syn = true; fin = false; mss = Some mss; bytes = 0 }

abbrev syn_ack : Outgoing
syn_ack = record { position = 0; ack = Some 1; syn = true; fin = false; mss = Some 9000; bytes = 0 }

abbrev two : Outgoing → ℕ → List Effect
two o now = Emit o ∷ TimerAt (record { 0 = now + unsampled.rto }) ∷ []

-- a first step sends one segment and starts the timer
record IsFirst (s : Stepped) (o : Outgoing) (now : ℕ) (side : Bool) (phase : Phase) : Type 0 where
  effects : s.effects ≡ two o now
  side_is : s.now.opener ≡ side
  phase_is : s.now.phase ≡ phase

opening-first : (now mss : ℕ) → IsFirst (opening now mss) (syn_out mss) now true SynSent
unfolding opening
opening-first now mss = record { effects = refl; side_is = refl; phase_is = refl }

heard_syn-first : (now : ℕ) → IsFirst (heard_syn now) syn_ack now false SynReceived
unfolding heard_syn
heard_syn-first now = record { effects = refl; side_is = refl; phase_is = refl }

-- ---- a node after the input that makes its end

module _ (begins : Begins) (t : PlainConns) (n : Numbers) (input : In Packet) where
  abbrev number : ℕ
  number = least_free 0 t.conns

  abbrev with_first : Life
  with_first = with_input (under number t.conns) input no_life

  abbrev made : Step → Node
  made u = record { conns = u.state; numbers = u.numbers; stage = Stands number; life = with_acts u.acts with_first }

  module _ (u : Step) (is : step t n input ≡ u) (concerns : concerned t input ≡ Some number) where
    made-life : lived number t n input no_life ≡ with_acts u.acts with_first
    made-life =
        (λ i. cond (is_number number (concerns i)) (with_acts (is i).acts with_first) no_life)
        ∙ cond-true (number == number) (with_acts u.acts with_first) no_life (eq-eqb number number refl)

    made-node : (k : Conn) → begins t input ≡ true → under number u.state.conns ≡ Some k → takes begins (node_before t n) input ≡ made u
    made-node k b found =
        let at : Stage → Node = λ stage. record { conns = (step t n input).state; numbers = (step t n input).numbers; stage = stage_after stage (step t n input).state; life = lives stage t n input no_life } in
        ap at (cond-true (begins t input) (Stands number) Awaited b)
        ∙ (λ i. record { conns = (is i).state; numbers = (is i).numbers; stage = stage_after (Stands number) (is i).state; life = made-life i })
        ∙ ap (λ (stage : Stage). record (made u) { stage = stage })
        (cond-true (is_some (under number u.state.conns)) (Stands number) Removed (ap (is_some {T = Conn}) found))

-- such a connection, made by a first step
module _ (t : PlainConns) (n : Numbers) (app : ℕ) (pair : SocketPair) (s : Stepped) (o : Outgoing) (now : ℕ) (side : Bool) (phase : Phase)
    (first : IsFirst s o now side phase) where
  abbrev new : ℕ
  new = least_free 0 t.conns

  abbrev conn : Conn
  conn = fresh new app pair s.now

  abbrev first_acts : List (Act Packet)
  first_acts = (all_done conn n s.effects).acts

  abbrev first_segment : Seg Packet
  first_segment = record { src = pair.addr; dst = pair.other_addr; packet = segment (new_uid n) app pair (said o) (bytes_of s.now o) }

  sends-one : with_emitted first_acts [] ≡ first_segment ∷ []
  sends-one = ap (λ (es : List Effect). with_emitted (all_done conn n es).acts []) first.effects

  tells-nothing : told_in first_acts ≡ []
  tells-nothing = told-done conn n s.effects ∙ ap told_by first.effects

  is-end : (u : PlainConns) (m : Numbers) (l : Life) → u.conns ≡ insert_entry nat_cmp t.conns new (begun new app pair n s).conn → l.written ≡ [] → l.told ≡ [] →
      IsEnd side app pair phase (record { conns = u; numbers = m; stage = Stands new; life = l })
  is-end u m l added written told =
      record {
        number = new;
        stands = refl;
        conn = (begun new app pair n s).conn;
        found = ap (under new) added ∙ under-added new (begun new app pair n s).conn t.conns;
        number_is = ap (λ (es : List Effect). (all_done conn n es).conn.number) first.effects;
        app_is = ap (λ (es : List Effect). (all_done conn n es).conn.app) first.effects;
        pair_is = all_done-pair conn n s.effects;
        side = ap (λ (c : Connection). c.opener) (all_done-connection conn n s.effects) ∙ first.side_is;
        phase_is = ap (λ (c : Connection). c.phase) (all_done-connection conn n s.effects) ∙ first.phase_is;
        written = written;
        told = told;
      }

-- ---- both

module _ (reads : (uid : Uid) (app : ℕ) (pair : SocketPair) (says : Heard) (bytes : List ℕ) → IsSayable pair says bytes →
    arrived pair.addr pair.other_addr (segment uid app pair says bytes) ≡ Some (record { sport = pair.port; dport = pair.other_port; says = says; bytes = bytes }))
    (ask : Ask) (later : Time) (listener : ℕ) (there : PlainConns) (n : Numbers) (here : PlainConns) (m : Numbers)
    (limits : IsAsk ask) (ready : IsReady ask.pair listener there here) where
  abbrev pair : SocketPair
  pair = ask.pair

  abbrev far : SocketPair
  far = mirrored ask.pair

  abbrev opened : Stepped
  opened = opening ask.now.0 ask.mss

  abbrev opens-first : IsFirst opened (syn_out ask.mss) ask.now.0 true SynSent
  opens-first = opening-first ask.now.0 ask.mss

  abbrev syn : Seg Packet
  syn = first_segment there n ask.app pair opened (syn_out ask.mss) ask.now.0 true SynSent opens-first

  -- at the opener's node

  abbrev their-number : ℕ
  their-number = least_free 0 there.conns

  abbrev their-step : Step
  their-step = conns.opens ask.now.0 ask.app pair ask.mss there n

  their-concern : concerned there (asked ask) ≡ Some their-number
  their-concern = ap (λ (o : Option ℕ). cond (is_some o) None (Some their-number)) ready.opener_free

  their-step-is : step there n (asked ask) ≡ their-step
  their-step-is = ap (λ (o : Option ℕ). cond (is_some o) (dropped there n) their-step) ready.opener_free

  they-open : opens pair there (asked ask) ≡ true
  they-open =
      and_from (same_pair pair pair) (makes there (asked ask)) (pair_itself pair)
      (ap (is_number their-number) their-concern ∙ eq-eqb their-number their-number refl)

  abbrev their-node : Node
  their-node = made (opens pair) there n (asked ask) their-step

  they-stand : takes (opens pair) (node_before there n) (asked ask) ≡ their-node
  they-stand =
      let k = (begun their-number ask.app pair n opened).conn in
      made-node (opens pair) there n (asked ask) their-step their-step-is their-concern k they-open (under-added their-number k there.conns)

  sent-one : their-node.life.sent ≡ syn ∷ []
  sent-one = sends-one there n ask.app pair opened (syn_out ask.mss) ask.now.0 true SynSent opens-first

  their-end : IsEnd true ask.app pair SynSent their-node
  their-end =
      is-end there n ask.app pair opened (syn_out ask.mss) ask.now.0 true SynSent opens-first their-step.state their-step.numbers their-node.life refl refl
      (tells-nothing there n ask.app pair opened (syn_out ask.mss) ask.now.0 true SynSent opens-first)

  -- the SYN is read as it was written

  abbrev syn_read : Arrived
  syn_read = record { sport = pair.port; dport = pair.other_port; says = said (syn_out ask.mss); bytes = bytes_of opened.now (syn_out ask.mss) }

  sayable : IsSayable pair (said (syn_out ask.mss)) (bytes_of opened.now (syn_out ask.mss))
  sayable =
      let most : ask.mss ≤ 9000 = limits.most in
      record {
        port = limits.port;
        other_port = limits.other_port;
        seq = omega arith;
        ack = omega arith;
        window = omega arith;
        mss = omega arith;
        small = All-nil (λ b. b < 256);
        few = omega arith;
      }

  read : arrived syn.src syn.dst syn.packet ≡ Some syn_read
  read = reads (new_uid n) ask.app pair (said (syn_out ask.mss)) (bytes_of opened.now (syn_out ask.mss)) sayable

  -- at the sink's node

  abbrev comes-in : In Packet
  comes-in = Segment later syn

  abbrev our-number : ℕ
  our-number = least_free 0 here.conns

  abbrev our-step : Step
  our-step = conns.accepts later.0 listener far here m

  our-concern : concerned here comes-in ≡ Some our-number
  our-concern =
      ap (λ (o : Option Arrived). come_to syn o here) read
      ∙ ap (λ (o : Option ℕ). found_or_made o syn_read here) ready.sink_free
      ∙ ap (λ (o : Option ℕ). made_at o syn_read.says here) ready.listens

  our-step-is : step here m comes-in ≡ our-step
  our-step-is =
      ap (λ (o : Option Arrived). comes later.0 syn.src syn.dst o here m) read
      ∙ ap (λ (o : Option ℕ). comes_to later.0 syn.src syn.dst syn_read o here m) ready.sink_free
      ∙ ap (λ (o : Option ℕ). comes_new later.0 syn.src syn.dst syn_read o here m) ready.listens

  we-accept : accepts far here comes-in ≡ true
  we-accept =
      and_from (is_between far syn.src syn.dst (arrived syn.src syn.dst syn.packet)) (makes here comes-in)
      (ap (is_between far syn.src syn.dst) read ∙ pair_itself far)
      (ap (is_number our-number) our-concern ∙ eq-eqb our-number our-number refl)

  abbrev our-node : Node
  our-node = made (accepts far) here m comes-in our-step

  we-stand : takes (accepts far) (node_before here m) comes-in ≡ our-node
  we-stand =
      let k = (begun our-number listener far m (heard_syn later.0)).conn in
      made-node (accepts far) here m comes-in our-step our-step-is our-concern k we-accept (under-added our-number k here.conns)

  our-end : IsEnd false listener far SynReceived our-node
  our-end =
      let first = heard_syn-first later.0 in
      is-end here m listener far (heard_syn later.0) syn_ack later.0 false SynReceived first our-step.state our-step.numbers our-node.life refl refl
      (tells-nothing here m listener far (heard_syn later.0) syn_ack later.0 false SynReceived first)

  -- together

  came-from : All (Contains (lived their-number there n (asked ask) no_life).sent) (lived our-number here m comes-in no_life).came
  came-from =
      let theirs = made-life (opens pair) there n (asked ask) their-step their-step-is their-concern in
      let ours = made-life (accepts far) here m comes-in our-step our-step-is our-concern in
      subst (λ (sent : List (Seg Packet)). All (Contains sent) (lived our-number here m comes-in no_life).came) (sym (ap (λ (l : Life). l.sent) theirs ∙ sent-one))
      (subst (λ (l : Life). All (Contains (syn ∷ [])) l.came) (sym ours) (All-contains_itself (syn ∷ [])))

  pub begins-transfer : BeginsTransfer ask later listener there n here m
  begins-transfer =
      let sent : (takes (opens pair) (node_before there n) (asked ask)).life.sent ≡ syn ∷ [] = ap (λ (a : Node). a.life.sent) they-stand ∙ sent-one in
      record {
        syn = syn;
        sent = sent;
        history = (
          (limits.port, limits.other_port, limits.some, limits.most),
          (λ reached. (syn, subst (λ (ss : List (Seg Packet)). Contains ss syn) (sym sent) (Contains-push [] syn), record { src = refl; dst = refl; bytes = refl }), tt),
        );
        opener = subst (IsEnd true ask.app pair SynSent) (sym they-stand) their-end;
        sink = subst (IsEnd false listener far SynReceived) (sym we-stand) our-end;
        transfer =
            record {
              opener_born = record { in_order = ready.there_in_order; makes = their-concern };
              opens = (limits.port, limits.other_port, limits.some, limits.most);
              sink_born = record { in_order = ready.here_in_order; makes = our-concern };
              segment = tt;
              bytes = All-nil WritesBytes;
              unaltered = came-from;
            };
      }
