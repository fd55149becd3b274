-- What holds of a connection and its life as long as it stands, whatever is asked of it or comes to it, holds of its whole life
-- in a run of its node: what concerns other connections leaves it as it is.
use Rattle.std.proofs.Common.{◌≡◌, ℕ, ◌==◌, Bool, true, false, cond, List, [], ◌∷◌, ◌++◌, take, Option, None, Some, is_some, refl, sym, ap, subst, ◌∙◌}
use Rattle.std.specs.BTreeMap.{insert_entry, is_at}
use Rattle.std.specs.List.{All}
use Rattle.std.specs.Map.{keys_of, remove_entry, set_value}
use Rattle.std.specs.Ordering.{nat_cmp}
use Rattle.std.proofs.lemmas.Bool.{and_parts, cond-true, cond-false, eqb-true, eqb-false}
use Rattle.std.proofs.lemmas.List.Elements.{All-head, All-tail}
use Rattle.std.proofs.lemmas.Option.{none-some}
use Rattle.sim_base.specs.declared.numbers.Numbers.{Numbers}
use Rattle.sim_base.specs.declared.time.Time.{Time}
use Rattle.sim_base.specs.Packet.{Packet}
use Rattle.layer_words.specs.Acts.{Numbered}
use Rattle.tcp_conn.specs.Send.{room}
use Rattle.tcp_wire.specs.declared.words.SocketPair.{SocketPair}
use Rattle.tcp_wire.specs.declared.words.Arrived.{Arrived}
use Rattle.tcp_wire.specs.Segment.{arrived}
use Rattle.tcp_flow.specs.declared.words.Seg.{Seg}
use Rattle.tcp_flow.specs.declared.words.Act.{Act}
use Rattle.tcp_flow.specs.declared.words.Event.{Event}
use Rattle.tcp_flow.specs.declared.words.Event.TheVariants.{Segment as SegmentEvent, Timer as TimerEvent, Write as WriteEvent, Close as CloseEvent}
use Rattle.tcp_flow.specs.declared.words.In.{In}
use Rattle.tcp_flow.specs.declared.words.In.TheVariants.{Connect, Listen, Segment, Timer, Write, Close}
use Rattle.tcp_flow.specs.declared.conn.Conn.{Conn}
use Rattle.tcp_conn.specs.Begin.{opening, heard_syn}
use Rattle.tcp_flow.specs.Conn.{begun, happened}
use Rattle.tcp_flow.specs.Conns.{PlainConns, with_conns, passed, dropped, opens, is_opening, accepts, refuses, comes_new, comes_to, comes, asks_of, step}
use Rattle.tcp_flow.specs.Index.{InOrder}
use Rattle.tcp_flow.specs.Life.{Life, made_at, found_or_made, come_to, asked_by, is_number, taken_by, with_acts, with_input, lived, life}
use Rattle.tcp_flow.specs.Stray.{answering}
use Rattle.tcp_flow.specs.Table.{between, has_stamp, happens, happens_to, is_closed, is_opener_of, kept, least_free, under}
use Rattle.tcp_flow.proofs.Adding.{any_low}
use Rattle.tcp_flow.proofs.Entries.{apart, under-others_added, under-added, in_order-added, under-changed, in_order-changed, under-removed, in_order-removed}
use Rattle.tcp_flow.proofs.Indexing.{at_itself, by_cases}
use Rattle.tcp_flow.proofs.Lookups.{by_option, least_none}

abbrev Entries : Type 0
Entries = List (ℕ × Conn)

abbrev Step : Type 0
Step = Numbered PlainConns (Act Packet)

module _ (m : ℕ) (W : In Packet → Type 0) (Stands : Conn → Life → Type 0) (Over : Life → Type 0)
    (over : (k : Conn) (l : Life) → Stands k l → Over l)
    (hears : (now : ℕ) (s : Seg Packet) (a : Arrived) (k : Conn) (n : Numbers) (l : Life) → arrived s.src s.dst s.packet ≡ Some a → Stands k l →
    Stands (happened now (SegmentEvent a) k n).conn (with_acts (happened now (SegmentEvent a) k n).acts (record l { came = s ∷ l.came })))
    (fires : (now : ℕ) (k : Conn) (n : Numbers) (l : Life) → Stands k l → Stands (happened now TimerEvent k n).conn (with_acts (happened now TimerEvent k n).acts l))
    (writes : (now : Time) (app : ℕ) (bytes : List ℕ) (k : Conn) (n : Numbers) (l : Life) → W (Write now app bytes) → k.connection.opener ≡ true → Stands k l →
    Stands (happened now.0 (WriteEvent bytes) k n).conn (with_acts (happened now.0 (WriteEvent bytes) k n).acts (record l { written = l.written ++ take (room k.connection) bytes })))
    (closes : (now : ℕ) (k : Conn) (n : Numbers) (l : Life) → k.connection.opener ≡ true → Stands k l →
    Stands (happened now CloseEvent k n).conn (with_acts (happened now CloseEvent k n).acts (record l { closed = true }))) where
  abbrev Holds : Option Conn → Life → Type 0
  Holds None l = Over l
  Holds (Some k) l = Stands k l

  -- the connections of the node after a step, and the life so far
  record Goes (conns : Entries) (l : Life) : Type 0 where
    order : InOrder conns
    holds : Holds (under m conns) l

  holds-along : (o p : Option Conn) (l : Life) → o ≡ p → Holds p l → Holds o l
  holds-along o p l is h = subst (λ (x : Option Conn). Holds x l) (sym is) h

  -- ---- an event of a connection

  kept-own : (k : Conn) (conns : Entries) (l : Life) → InOrder conns → is_some (under m conns) ≡ true → Stands k l → Goes (kept m k conns) l
  kept-own k conns l o there s =
      let removed = remove_entry (is_at (nat_cmp m)) conns in
      let changed = set_value (is_at (nat_cmp m)) conns k in
      elim (is_closed k.connection.phase) as (λ b. Goes (cond b removed changed) l) [
        | true ↦
            record {
              order = in_order-removed m conns o;
              holds = holds-along (under m removed) None l (under-removed m m conns o ∙ cond-true (is_at (nat_cmp m) m) None (under m conns) (at_itself m)) (over k l s);
            }
        | false ↦
            record {
              order = in_order-changed m k conns o;
              holds = holds-along (under m changed) (Some k) l (under-changed m m k conns there ∙ cond-true (is_at (nat_cmp m) m) (Some k) (under m conns) (at_itself m)) s;
            }
      ]

  kept-other : (number : ℕ) (k : Conn) (conns : Entries) (l : Life) → InOrder conns → is_some (under number conns) ≡ true → (number ≡ m → ⊥) →
      Holds (under m conns) l → Goes (kept number k conns) l
  kept-other number k conns l o there ne h =
      let removed = remove_entry (is_at (nat_cmp number)) conns in
      let changed = set_value (is_at (nat_cmp number)) conns k in
      let off = apart number m ne in
      elim (is_closed k.connection.phase) as (λ b. Goes (cond b removed changed) l) [
        | true ↦
            record {
              order = in_order-removed number conns o;
              holds = holds-along (under m removed) (under m conns) l (under-removed m number conns o ∙ cond-false (is_at (nat_cmp number) m) None (under m conns) off) h;
            }
        | false ↦
            record {
              order = in_order-changed number k conns o;
              holds = holds-along (under m changed) (under m conns) l (under-changed m number k conns there ∙ cond-false (is_at (nat_cmp number) m) (Some k) (under m conns) off) h;
            }
      ]

  own-goes : (number now : ℕ) (event : Event) (n : Numbers) (conns : Entries) (k : Conn) (l : Life) → under m conns ≡ Some k → InOrder conns → number ≡ m →
      Stands (happened now event k n).conn (with_acts (happened now event k n).acts l) →
      Goes (happens number now event n conns).state (with_acts (happens number now event n conns).acts l)
  own-goes number now event n conns k l is o same s =
      let d = happened now event k n in
      let found : under number conns ≡ Some k = ap (λ x. under x conns) same ∙ is in
      let own = kept-own d.conn conns (with_acts d.acts l) o (ap (is_some {T = Conn}) is) s in
      subst (λ (x : Option Conn). Goes (happens_to x number now event n conns).state (with_acts (happens_to x number now event n conns).acts l)) (sym found)
      (subst (λ (x : ℕ). Goes (kept x d.conn conns) (with_acts d.acts l)) (sym same) own)

  others-go : (number now : ℕ) (event : Event) (n : Numbers) (conns : Entries) (l : Life) → InOrder conns → (number ≡ m → ⊥) → Holds (under m conns) l →
      Goes (happens number now event n conns).state l
  others-go number now event n conns l o ne h =
      by_option (under number conns)
      (λ none. subst (λ (x : Option Conn). Goes (happens_to x number now event n conns).state l) (sym none) (record { order = o; holds = h }))
      (λ j found.
      let other = kept-other number (happened now event j n).conn conns l o (ap (is_some {T = Conn}) found) ne h in
      subst (λ (x : Option Conn). Goes (happens_to x number now event n conns).state l) (sym found) other)

  -- ---- an input, while the connection stands

  module _ (t : PlainConns) (n : Numbers) (input : In Packet) (l : Life) (k : Conn) (is : under m t.conns ≡ Some k) (o : InOrder t.conns) (s : Stands k l) where
    -- what becomes of the node and of the life where the input concerns the connection with this number, if any
    abbrev Lives : Step → Option ℕ → Type 0
    Lives u c = Goes u.state.conns (cond (is_number m c) (with_acts u.acts (with_input (under m t.conns) input l)) l)

    stays : Goes t.conns l
    stays = record { order = o; holds = holds-along (under m t.conns) (Some k) l is s }

    lives-if : (b : Bool) (u v : Step) (c d : Option ℕ) → (b ≡ true → Lives u c) → Lives v d → Lives (cond b u v) (cond b c d)
    lives-if true u v c d h g = h refl
    lives-if false u v c d h g = g

    event-lives : (number now : ℕ) (event : Event) →
        (number ≡ m → Stands (happened now event k n).conn (with_acts (happened now event k n).acts (with_input (under m t.conns) input l))) →
        Lives (with_conns t (happens number now event n t.conns)) (Some number)
    event-lives number now event met =
        let a = happens number now event n t.conns in
        let l' = with_input (under m t.conns) input l in
        by_cases (number == m)
        (λ b.
        let same = eqb-true number m b in
        subst (Goes a.state) (sym (cond-true (number == m) (with_acts a.acts l') l b)) (own-goes number now event n t.conns k l' is o same (met same)))
        (λ b.
        subst (Goes a.state) (sym (cond-false (number == m) (with_acts a.acts l') l b))
        (others-go number now event n t.conns l o (eqb-false number m b) (holds-along (under m t.conns) (Some k) l is s)))

    -- a connection that is made has another number
    made-lives : (j : Conn) (acts : List (Act Packet)) →
        Goes (insert_entry nat_cmp t.conns (least_free 0 t.conns) j) (cond (least_free 0 t.conns == m) (with_acts acts (with_input (under m t.conns) input l)) l)
    made-lives j acts =
        let number = least_free 0 t.conns in
        let free : under number t.conns ≡ None = least_none 0 t.conns o (any_low (keys_of t.conns)) in
        let ne : number ≡ m → ⊥ = λ same. none-some k (sym free ∙ ap (λ x. under x t.conns) same ∙ is) in
        let off : (number == m) ≡ false = by_cases (number == m) (λ b. absurd (ne (eqb-true number m b))) (λ b. b) in
        let conns = insert_entry nat_cmp t.conns number j in
        subst (Goes conns) (sym (cond-false (number == m) (with_acts acts (with_input (under m t.conns) input l)) l off))
        (record {
          order = in_order-added number j t.conns o;
          holds = holds-along (under m conns) (Some k) l (under-others_added m number j t.conns (λ same. ne (sym same)) ∙ is) s;
        })

    connect-lives : (now : ℕ) (app : ℕ) (pair : SocketPair) (mss : ℕ) →
        Lives (cond (is_some (between pair t.conns)) (dropped t n) (opens now app pair mss t n)) (cond (is_some (between pair t.conns)) None (Some (least_free 0 t.conns)))
    connect-lives now app pair mss =
        let d = begun (least_free 0 t.conns) app pair n (opening now mss) in
        lives-if (is_some (between pair t.conns)) (dropped t n) (opens now app pair mss t n) None (Some (least_free 0 t.conns)) (λ there. stays) (made-lives d.conn d.acts)

    new-lives : (now src dst : ℕ) (a : Arrived) (p : Option ℕ) → Lives (comes_new now src dst a p t n) (made_at p a.says t)
    new-lives now src dst a None = stays
    new-lives now src dst a (Some app) =
        let d = begun (least_free 0 t.conns) app (answering src dst a) n (heard_syn now) in
        lives-if (is_opening a.says) (accepts now app (answering src dst a) t n) (refuses src dst a t n) (Some (least_free 0 t.conns)) None
        (λ opens. made-lives d.conn d.acts) stays

    module _ (now : ℕ) (a : Arrived)
        (met : Stands (happened now (SegmentEvent a) k n).conn (with_acts (happened now (SegmentEvent a) k n).acts (with_input (under m t.conns) input l))) where
      segment-lives : (src dst : ℕ) (f : Option ℕ) → Lives (comes_to now src dst a f t n) (found_or_made f a t)
      segment-lives src dst None = new-lives now src dst a (under a.dport t.listening)
      segment-lives src dst (Some number) = event-lives number now (SegmentEvent a) (λ same. met)

    is_opener : (app number : ℕ) → is_opener_of app (under number t.conns) ≡ true → number ≡ m → k.connection.opener ≡ true
    is_opener app number b same =
        let found : under number t.conns ≡ Some k = ap (λ x. under x t.conns) same ∙ is in
        (and_parts k.connection.opener (k.app == app) (sym (ap (is_opener_of app) found) ∙ b)).0

    asked-lives : (now app : ℕ) (event : Event) (f : Option ℕ) →
        (k.connection.opener ≡ true → Stands (happened now event k n).conn (with_acts (happened now event k n).acts (with_input (under m t.conns) input l))) →
        Lives (asks_of now app event f t n) (asked_by app f t)
    asked-lives now app event None met = stays
    asked-lives now app event (Some number) met =
        lives-if (is_opener_of app (under number t.conns)) (with_conns t (happens number now event n t.conns)) (passed t n) (Some number) None
        (λ b. event-lives number now event (λ same. met (is_opener app number b same))) stays

  come-lives : (now : Time) (g : Seg Packet) (t : PlainConns) (n : Numbers) (l : Life) (k : Conn) (is : under m t.conns ≡ Some k) (o : InOrder t.conns) (s : Stands k l) →
      (f : Option Arrived) → arrived g.src g.dst g.packet ≡ f → Lives t n (Segment now g) l k is o s (comes now.0 g.src g.dst f t n) (come_to g f t)
  come-lives now g t n l k is o s None e = stays t n (Segment now g) l k is o s
  come-lives now g t n l k is o s (Some a) e =
      segment-lives t n (Segment now g) l k is o s now.0 a (hears now.0 g a k n l e s) g.src g.dst (between (answering g.src g.dst a) t.conns)

  step-goes : (t : PlainConns) (n : Numbers) (input : In Packet) (l : Life) (k : Conn) → under m t.conns ≡ Some k → InOrder t.conns → W input → Stands k l →
      Goes (step t n input).state.conns (lived m t n input l)
  step-goes t n (Connect now app None sport dst port mss) l k is o w s = stays t n (Connect now app None sport dst port mss) l k is o s
  step-goes t n (Connect now app (Some src) sport dst port mss) l k is o w s =
      connect-lives t n (Connect now app (Some src) sport dst port mss) l k is o s now.0 app (record { addr = src; port = sport; other_addr = dst; other_port = port }) mss
  step-goes t n (Listen app port) l k is o w s = stays t n (Listen app port) l k is o s
  step-goes t n (Segment now g) l k is o w s = come-lives now g t n l k is o s (arrived g.src g.dst g.packet) refl
  step-goes t n (Timer now number stamp) l k is o w s =
      lives-if t n (Timer now number stamp) l k is o s (has_stamp stamp (under number t.conns)) (with_conns t (happens number now.0 TimerEvent n t.conns)) (passed t n) (Some number) None
      (λ b. event-lives t n (Timer now number stamp) l k is o s number now.0 TimerEvent (λ same. fires now.0 k n l s))
      (stays t n (Timer now number stamp) l k is o s)
  step-goes t n (Write now app bytes) l k is o w s =
      let d = happened now.0 (WriteEvent bytes) k n in
      asked-lives t n (Write now app bytes) l k is o s now.0 app (WriteEvent bytes) (under app t.opened)
      (λ opener.
      subst (λ (x : Option Conn). Stands d.conn (with_acts d.acts (record l { written = l.written ++ taken_by x bytes }))) (sym is)
      (writes now app bytes k n l w opener s))
  step-goes t n (Close now app) l k is o w s =
      asked-lives t n (Close now app) l k is o s now.0 app CloseEvent (under app t.opened) (λ opener. closes now.0 k n l opener s)

  -- ---- all inputs

  is-over : (o : Option Conn) (l : Life) → Holds o l → Over l
  is-over None l h = h
  is-over (Some k) l h = over k l h

  pub life-over : (t : PlainConns) (n : Numbers) (inputs : List (In Packet)) (l : Life) → InOrder t.conns → All W inputs → Holds (under m t.conns) l →
      Over (life m t n inputs l)
  life-over t n [] l o w h = is-over (under m t.conns) l h
  life-over t n (input ∷ inputs) l o w h =
      let s = step t n input in
      let more = life m s.state s.numbers inputs (lived m t n input l) in
      by_option (under m t.conns)
      (λ none. subst Over (sym (cond-false (is_some (under m t.conns)) more l (ap (is_some {T = Conn}) none))) (is-over (under m t.conns) l h))
      (λ k is.
      let g = step-goes t n input l k is o (All-head W input inputs w) (subst (λ (x : Option Conn). Holds x l) is h) in
      subst Over (sym (cond-true (is_some (under m t.conns)) more l (ap (is_some {T = Conn}) is)))
      (life-over s.state s.numbers inputs (lived m t n input l) g.order (All-tail W input inputs w) g.holds))

  -- from a connection that was just made on
  pub born-over : (conns : Entries) (t : PlainConns) (n : Numbers) (inputs : List (In Packet)) (j : Conn) (l : Life) →
      t.conns ≡ insert_entry nat_cmp conns m j → InOrder conns → All W inputs → Stands j l → Over (life m t n inputs l)
  born-over conns t n inputs j l made o w s =
      life-over t n inputs l (subst InOrder (sym made) (in_order-added m j conns o)) w
      (holds-along (under m t.conns) (Some j) l (ap (under m) made ∙ under-added m j conns) s)
