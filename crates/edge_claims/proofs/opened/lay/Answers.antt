-- The new table keeps the rule: its one window stands at both edges.
use Rattle.std.proofs.Common.{◌-◌, List, ℕ, refl, sym, subst, ◌∙◌, arith}
use Rattle.atomic_table.specs.Table.{opening}
use Rattle.byte_block.specs.Ranges.{end_of}
use Rattle.edge_claims.specs.Rule.{BlockInvariant, first_view}
use Rattle.edge_claims.proofs.Steps.{opens_at}
use Rattle.edge_claims.proofs.opened.lay.Goals as goal

pub new-requires : goal.new-requires
new-requires c =
    let o = c.args.opening.now in
    let list = c.in_ok-list.ensures.ok in
    let within = c.requires.within in
    subst (λ (ws : List ℕ). BlockInvariant o (opening ws c.in_ok-list.list.items (first_view o))) (sym c.requires.rooms)
    (opens_at o o.bytes.from (o.capacity - end_of o.bytes) c.in_ok-list.list.items list.low list.high list.two refl (omega (arith, within)) c.requires.low c.requires.high (list.before_low ∙ c.requires.ends.low) (list.behind_high ∙ c.requires.ends.high))
