use Rattle.std.proofs.Common.{◌≡◌, ◌+◌, List, sym, ap, ◌∙◌, subst, arith}
use Rattle.tcp_stream.specs.Held.{taken_in, window}
use Rattle.tcp_stream.specs.Pieces.{InOrder, Run, held_of, merge}
use Rattle.tcp_stream.proofs.Runs.{held-merged, order-merge, clipped-fits, start_in, bytes_in}
use Rattle.tcp_stream.proofs.store.ReceiveStore.take_in.Goals as goal

pub invariant_of-self-2 : goal.invariant_of-self-2
invariant_of-self-2 c =
    let next = c.self.inside.next in
    let m : c.merge_in.new.pieces.items ≡ merge c.self.inside.pieces.items c.max-start.result c.first_of-bytes.result.now = c.in_ok-merge_in.ensures.ok in
    let e : c.merge_in.new.pieces.items ≡ merge c.self.inside.pieces.items (start_in next c.args.position) (bytes_in next c.args.position c.args.bytes.now) = (cc) in (
      c.self.invariant.0,
      subst (InOrder next (next + window)) (sym e)
          (order-merge next (next + window) c.self.inside.pieces.items (start_in next c.args.position) (bytes_in next c.args.position c.args.bytes.now)
          c.self.invariant.1 (omega arith) (clipped-fits next c.args.position c.args.bytes.now)),
    )

pub returns : goal.returns
returns c =
    let next = c.self.inside.next in
    let m : c.merge_in.new.pieces.items ≡ merge c.self.inside.pieces.items c.max-start.result c.first_of-bytes.result.now = c.in_ok-merge_in.ensures.ok in
    let e : c.merge_in.new.pieces.items ≡ merge c.self.inside.pieces.items (start_in next c.args.position) (bytes_in next c.args.position c.args.bytes.now) = (cc) in
    ap (λ (rs : List Run). (next, held_of rs)) e
    ∙ ap (λ h. (next, h)) (held-merged next (next + window) c.args.position c.self.inside.pieces.items c.args.bytes.now c.self.invariant.1)
    ∙ ap (λ v. (v.0, taken_in v.0 v.1 c.args.position c.args.bytes.now)) c.self.view_is
