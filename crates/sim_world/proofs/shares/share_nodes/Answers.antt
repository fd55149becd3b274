use Rattle.std.proofs.Common.{◌≡◌, ◌+◌, ◌<◌, ℕ, [], ◌∷◌, length, length-append, slice_index, ap, subst, ◌∙◌, arith}
use Rattle.sim_world.specs.Shares.{changed, with_node}
use Rattle.sim_world.proofs.ShareLaws.{nodes-few, places-know, sharing-more}
use Rattle.sim_world.proofs.shares.share_nodes.Goals as goal

pub give_node-requires-clause-known : goal.give_node-requires-clause-known
give_node-requires-clause-known g c κs within =
    let long : length c.nodes.nodes.items ≡ length c.pop.new.self.items + 1 = ap length c.in-Some.ensures.items ∙ length-append c.pop.new.self.items (c.in-Some.node ∷ []) in
    let low = c.nodes.invariant.low in
    let number = c.len-number.ensures in
    places-know c.args.group_of.now c.args.nodes.items c.args.shares.now.items c.nodes.nodes.items c.nodes.shares.items c.len-number.result c.nodes.invariant
    (omega (arith, c.pop.new.self.ok.0))

pub give_node-requires-clause-few : goal.give_node-requires-clause-few
give_node-requires-clause-few g c κs within =
    nodes-few c.args.group_of.now c.args.nodes.items c.args.shares.now.items c.nodes.nodes.items c.nodes.shares.items c.nodes.invariant c.requires.few

pub give_node-requires-clause-within : goal.give_node-requires-clause-within
give_node-requires-clause-within g c κs within k d lt =
    let w = c.requires.within k d lt in let n = c.nodes.invariant.have.count in omega arith

pub nodes-preserved : goal.nodes-preserved
nodes-preserved g c =
    let long : length c.nodes.nodes.items ≡ length c.pop.new.self.items + 1 = ap length c.in-Some.ensures.items ∙ length-append c.pop.new.self.items (c.in-Some.node ∷ []) in
    let low = c.nodes.invariant.low in
    let is : c.len-number.result ≡ length c.pop.new.self.items = (let number = c.len-number.ensures in omega (arith, c.pop.new.self.ok.0)) in
    let each = c.requires.each in
    let there : slice_index c.args.group_of.now (length c.pop.new.self.items) < length c.nodes.shares.items =
    (let w = c.requires.within (length c.pop.new.self.items) 0 (omega arith) in let n = c.nodes.invariant.have.count in omega arith) in
    sharing-more c.args.group_of.now c.args.nodes.items c.args.shares.now.items c.nodes.nodes.items c.pop.new.self.items c.in-Some.node c.nodes.shares.items
    c.give_node.new.shares.items c.nodes.invariant c.in-Some.ensures.items there
    (subst (λ (k : ℕ). c.give_node.new.shares.items ≡ changed (with_node k c.in-Some.node) (slice_index c.args.group_of.now k) c.nodes.shares.items) is
    c.in_ok-give_node.ensures)
