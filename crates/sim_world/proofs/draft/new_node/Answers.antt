use Rattle.sim_world.proofs.draft.new_node.Goals as goal

pub ip-requires-clause-ends : goal.ip-requires-clause-ends
ip-requires-clause-ends g c = λ k d lt. (c.requires.ends k d lt).network
