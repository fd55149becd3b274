-- Events that stand in a list, the last of which is taken first.
use Rattle.std.proofs.Common.{◌≡◌, ℕ, Bool, true, false, List, [], ◌∷◌, ◌++◌, map, reverse, refl, sym, ap, ◌∙◌, subst, filter, not, length, ◌<◌, arith}
use Rattle.std.proofs.lemmas.List.{map-append, reverse-append, reverse-reverse}
use Rattle.sim_base.specs.declared.key.Key.{Key}
use Rattle.sim_base.specs.KeyOrder.{insert_by}
use Rattle.sim_base.specs.Packet.{Packet}
use Rattle.pkt_face.specs.declared.line.Line.{Line}
use Rattle.event_queue.specs.Pending.{key_of}
use Rattle.round_core.specs.Order.{insert_each}
use Rattle.round_core.specs.Parts.{is_for}
use Rattle.round_core.specs.World.{Event}
use Rattle.node_step.specs.declared.loads.Event.{Event as NodeEvent}
use Rattle.node_step.specs.declared.loads.Load.{Load}
use Rattle.pkt_face.specs.Seen.{plain_line}
use Rattle.node_step.specs.Loads.{plain_event, plain_load}
use Rattle.node_step.specs.Part.{PlainPart, has}
use Rattle.node_rules.specs.Worlds.{event_of}
use Rattle.lp_run.specs.Lp.{PlainLp, own_group}
use Rattle.lp_run.specs.Pending.{AreNew, pending_event}
use Rattle.lp_run.proofs.HandedOut.{Handed, handed-first, handed-own, handed-other, handed-last}
use Rattle.lp_run.proofs.QueueLaws.{insert-seen}

-- whether an event is for a node of the part
abbrev pub own : PlainPart → Event (Load Packet) → Bool
own part = is_for (own_group part) 0

own-has : (part : PlainPart) (e : Event (Load Packet)) (here : Bool) → has e.key.node.0 part ≡ here → own part e ≡ here
own-has part e true h = rw h refl
own-has part e false h = rw h refl

module _ {P : Type 0} (plain : P → Packet) where
  abbrev pub seen : List (NodeEvent P) → List (Event (Load Packet))
  seen events = map event_of (map (plain_event plain) events)

  abbrev pub held : List (Key × Load P) → List (Event (Load Packet))
  held events = map (pending_event (plain_load plain)) events

  pub seen-pop : (xs ys : List (NodeEvent P)) (x : NodeEvent P) → xs ≡ ys ++ x ∷ [] →
      seen (reverse xs) ≡ event_of (plain_event plain x) ∷ seen (reverse ys)
  seen-pop xs ys x last = ap (λ l. seen (reverse l)) last ∙ ap seen (reverse-append ys (x ∷ []))

  seen-push : (xs ys : List (NodeEvent P)) (x : NodeEvent P) → ys ≡ xs ++ x ∷ [] → seen ys ≡ seen xs ++ event_of (plain_event plain x) ∷ []
  seen-push xs ys x last = ap seen last ∙ ap (map event_of) (map-append (plain_event plain) xs (x ∷ []))
      ∙ map-append event_of (map (plain_event plain) xs) (plain_event plain x ∷ [])

  -- what the loop keeps: some events are left in the list, and the others have been handed out
  abbrev pub HandedOut : PlainPart → List (NodeEvent P) → List (Key × Load P) → List (NodeEvent P) → List (NodeEvent P) →
      List (Key × Load P) → List (NodeEvent P) → Type 0
  HandedOut part all pending sends left now kept = Handed (own part) (seen all) (held pending) (seen sends) (seen (reverse left)) (held now) (seen kept)

  pub out-first : (part : PlainPart) (all turned : List (NodeEvent P)) (pending : List (Key × Load P)) (sends : List (NodeEvent P)) →
      turned ≡ reverse all → AreNew (seen all) (held pending) → HandedOut part all pending sends turned pending sends
  out-first part all turned pending sends is new =
      let same : seen all ≡ seen (reverse turned) = ap seen (sym (ap reverse is ∙ reverse-reverse all)) in
      let P : List (Event (Load Packet)) → Type 0 = λ l. Handed (own part) (seen all) (held pending) (seen sends) l (held pending) (seen sends) in
      subst P same (handed-first (own part) (seen all) (held pending) (seen sends) new)

  module _ (part : PlainPart) (all : List (NodeEvent P)) (pending : List (Key × Load P)) (sends left rest : List (NodeEvent P))
      (now : List (Key × Load P)) (kept : List (NodeEvent P)) (e : NodeEvent P) (last : left ≡ rest ++ e ∷ [])
      (h : HandedOut part all pending sends left now kept) where
    opened : Handed (own part) (seen all) (held pending) (seen sends) (event_of (plain_event plain e) ∷ seen (reverse rest)) (held now) (seen kept)
    opened = let P : List (Event (Load Packet)) → Type 0 = λ l. Handed (own part) (seen all) (held pending) (seen sends) l (held now) (seen kept) in
        subst P (seen-pop left rest e last) h

    pub out-own : (new : List (Key × Load P)) → has e.key.node.0 part ≡ true → new ≡ insert_by key_of (e.key, e.load) now →
        HandedOut part all pending sends rest new kept
    out-own new here is =
        let P : List (Event (Load Packet)) → Type 0 = λ l. Handed (own part) (seen all) (held pending) (seen sends) (seen (reverse rest)) l (seen kept) in
        subst P (sym (ap held is ∙ insert-seen (plain_load plain) (e.key, e.load) now))
        (handed-own (own part) (seen all) (held pending) (seen sends) (seen (reverse rest)) (held now) (seen kept) (event_of (plain_event plain e))
        (own-has part (event_of (plain_event plain e)) true here) opened)

    pub out-other : (new : List (NodeEvent P)) → has e.key.node.0 part ≡ false → new ≡ kept ++ e ∷ [] → HandedOut part all pending sends rest now new
    out-other new here is =
        let P : List (Event (Load Packet)) → Type 0 = λ l. Handed (own part) (seen all) (held pending) (seen sends) (seen (reverse rest)) (held now) l in
        subst P (sym (seen-push kept new e is))
        (handed-other (own part) (seen all) (held pending) (seen sends) (seen (reverse rest)) (held now) (seen kept) (event_of (plain_event plain e))
        (own-has part (event_of (plain_event plain e)) false here) opened)

    pub out-new : AreNew (event_of (plain_event plain e) ∷ seen (reverse rest)) (held now)
    out-new = opened.new

  pub out-last : (part : PlainPart) (all : List (NodeEvent P)) (pending : List (Key × Load P)) (sends left : List (NodeEvent P))
      (now : List (Key × Load P)) (kept : List (NodeEvent P)) → left ≡ [] → HandedOut part all pending sends left now kept →
      (held now ≡ insert_each (λ e. e.key) (filter (own part) (seen all)) (held pending))
      × (seen kept ≡ seen sends ++ filter (λ e. not (own part e)) (seen all))
  out-last part all pending sends left now kept none h =
      let Q : List (NodeEvent P) → Type 0 = λ l. Handed (own part) (seen all) (held pending) (seen sends) (seen (reverse l)) (held now) (seen kept) in
      handed-last (own part) (seen all) (held pending) (seen sends) (held now) (seen kept) (subst Q none h)

-- a list without an item is empty
pub none-left : {A : Type 0} (xs : List A) → (0 < length xs → false ≡ true) → xs ≡ []
none-left [] h = refl
none-left (x ∷ xs) h = absurd (let d : false ≡ true = h (omega arith) in cc)

-- a group by its fields
abbrev pub seen_lp : {P : Type 0} → (P → Packet) → PlainPart → List (Key × Load P) → List (NodeEvent P) → List (Line P) → ℕ → PlainLp
seen_lp plain part pending sends lines fired = record {
  part = part;
  pending = held plain pending;
  sends = seen plain sends;
  lines = map (plain_line plain) lines;
  fired = fired;
}
