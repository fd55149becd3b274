use Rattle.std.proofs.Common.{◌≡◌, ◌+◌, ◌++◌, ◌∷◌, sym, ap, ◌∙◌, subst, arith}
use Rattle.std.proofs.lemmas.List.{append-nil}
use Rattle.tcp_stream.specs.Held.{front, window}
use Rattle.tcp_stream.specs.Pieces.{InOrder, joined, behind}
use Rattle.tcp_stream.proofs.Front.{front-joined, after-front}
use Rattle.tcp_stream.proofs.Runs.{order-widen}
use Rattle.tcp_stream.proofs.store.ReceiveStore.take_front.Goals as goal

pub invariant_of-self : goal.invariant_of-self
invariant_of-self c =
    let next = c.loop-piece.self-inside.next in
    let to = c.self.inside.next + window in
    let end = c.end-self-inside.result in
    let popped : c.loop-piece.self-inside.pieces.items ≡ c.in-Some.piece ∷ c.pop_at.new.pieces.items = c.in-Some.ensures.first.1 in
    let order : InOrder next to (c.in-Some.piece ∷ c.pop_at.new.pieces.items) = subst (InOrder next to) popped c.loop-piece.invariant.order in
    let behind_it : InOrder end to c.pop_at.new.pieces.items = subst (λ p. InOrder p to c.pop_at.new.pieces.items) (sym c.end-self-inside.ensures.value) order.2 in (
      c.end-self-inside.ensures.small,
      order-widen end to (end + window) c.pop_at.new.pieces.items (omega arith) behind_it,
    )

pub invariant_of-self-in_default : goal.invariant_of-self-in_default
invariant_of-self-in_default c =
    let next = c.loop-piece.self-inside.next in
    let to = c.self.inside.next + window in
    let none = c.in_default.ensures.none in (
      c.loop-piece.invariant.small,
      order-widen next to (next + window) c.pop_at.new.pieces.items (omega arith)
          (subst (InOrder next to) (sym none.2) c.loop-piece.invariant.order),
    )

pub returns-clause-bytes : goal.returns-clause-bytes
returns-clause-bytes c =
    let none = c.in_default.ensures.none in
    let is : c.loop-piece.bytes.items ≡ joined c.self.inside.next c.self.inside.pieces.items =
    sym (append-nil c.loop-piece.bytes.items) ∙ ap (λ l. c.loop-piece.bytes.items ++ l) (sym none.0) ∙ c.loop-piece.invariant.bytes in
    is ∙ sym (front-joined c.self.inside.next c.self.inside.pieces.items c.self.invariant.1) ∙ ap (λ v. front window v.1 v.0) c.self.view_is

pub returns-clause-after : goal.returns-clause-after
returns-clause-after c =
    let none = c.in_default.ensures.none in
    let is : c.loop-piece.bytes.items ≡ joined c.self.inside.next c.self.inside.pieces.items =
    sym (append-nil c.loop-piece.bytes.items) ∙ ap (λ l. c.loop-piece.bytes.items ++ l) (sym none.0) ∙ c.loop-piece.invariant.bytes in
    let rest : c.pop_at.new.pieces.items ≡ behind c.self.inside.next c.self.inside.pieces.items = none.2 ∙ sym none.1 ∙ c.loop-piece.invariant.rest in
    after-front c.self.inside.next c.loop-piece.self-inside.next c.self.inside.pieces.items c.pop_at.new.pieces.items c.loop-piece.bytes.items
    c.args.self.now c.self.invariant.1 is rest c.loop-piece.invariant.next c.self.view_is
