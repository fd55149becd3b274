use Rattle.std.proofs.Common.{◌∙◌, ◌<◌, ◌==◌, ap, sym, arith, ℕ, List, length, slice_get, set, ◌+◌, ◌++◌, ◌∷◌, []}
use Rattle.round_core.specs.World.{Event}
use Rattle.model_tokens.proofs.FireLaws.{fire-refused, fire-kept, fire-passed, head-well, read-at}
use Rattle.model_tokens.specs.declared.Token.{Token}
use Rattle.model_tokens.specs.Tokens.{group_of}
use Rattle.model_tokens.proofs.Part.fire_first.Goals as goal

pub react_to-requires-clause-target : goal.react_to-requires-clause-target
react_to-requires-clause-target c = head-well (λ (e : Event ℕ). e.key.node.0 < length c.args.net.now.links.items) c.args.self.now.pending.items c.in-Some.token
    c.requires.healthy.pending (ap (λ (l : List Token). slice_get l 0) (sym c.deref.ensures.value) ∙ c.in-Some.ensures.1)

pub index-passed_on-requires : goal.index-passed_on-requires
index-passed_on-requires c = let t = head-well (λ (e : Event ℕ). e.key.node.0 < length c.args.net.now.links.items) c.args.self.now.pending.items c.in-Some.token
    c.requires.healthy.pending (ap (λ (l : List Token). slice_get l 0) (sym c.deref.ensures.value) ∙ c.in-Some.ensures.1) in omega (arith, c.requires.nodes)

pub returns-in-Refused-clause-step : goal.returns-in-Refused-clause-step
returns-in-Refused-clause-step c = fire-refused c.args.net.now.links.items c.args.net.now.allowance (group_of c.args.groups.now) c.args.group c.args.end
    c.index-passed_on.result.now c.in-Some.token c.args.self.now.counts.items c.args.self.now.pending.items c.args.self.now.sent.items c.args.self.now.fired.items
    c.in-Some.ensures.0 (read-at c.args.self.now.counts.items c.in-Some.token.key.node.0 c.index-passed_on.result.now (let t = head-well (λ (e : Event ℕ). e.key.node.0 < length c.args.net.now.links.items) c.args.self.now.pending.items c.in-Some.token c.requires.healthy.pending (ap (λ (l : List Token). slice_get l 0) (sym c.deref.ensures.value) ∙ c.in-Some.ensures.1) in omega (arith, c.requires.nodes)) c.index-passed_on.ensures)
    (ap (λ (l : List Token). slice_get l 0) (sym c.deref.ensures.value) ∙ c.in-Some.ensures.1) c.in-Refused.ensures.reaction

pub returns-in_ok-log_first-in-Kept-clause-step : goal.returns-in_ok-log_first-in-Kept-clause-step
returns-in_ok-log_first-in-Kept-clause-step c = fire-kept c.args.net.now.links.items c.args.net.now.allowance (group_of c.args.groups.now) c.args.group c.args.end
    c.index-passed_on.result.now c.in-Some.token c.args.self.now.counts.items c.args.self.now.pending.items c.args.self.now.sent.items c.args.self.now.fired.items
    c.in-Some.ensures.0 (read-at c.args.self.now.counts.items c.in-Some.token.key.node.0 c.index-passed_on.result.now (let t = head-well (λ (e : Event ℕ). e.key.node.0 < length c.args.net.now.links.items) c.args.self.now.pending.items c.in-Some.token c.requires.healthy.pending (ap (λ (l : List Token). slice_get l 0) (sym c.deref.ensures.value) ∙ c.in-Some.ensures.1) in omega (arith, c.requires.nodes)) c.index-passed_on.ensures)
    c.log_first.new.self.counts.items c.log_first.new.self.pending.items c.log_first.new.self.sent.items c.log_first.new.self.fired.items
    c.in-Kept.ensures.reaction c.in_ok-log_first-in-Kept.ensures.counts c.in_ok-log_first-in-Kept.ensures.pending
    c.in_ok-log_first-in-Kept.ensures.sent c.in_ok-log_first-in-Kept.ensures.fired

pub returns-in_ok-pass_on-in-PassedOn-clause-step : goal.returns-in_ok-pass_on-in-PassedOn-clause-step
returns-in_ok-pass_on-in-PassedOn-clause-step c = fire-passed c.args.net.now.links.items c.args.net.now.allowance (group_of c.args.groups.now) c.args.group c.args.end
    c.index-passed_on.result.now c.in-Some.token c.args.self.now.counts.items c.args.self.now.pending.items c.args.self.now.sent.items c.args.self.now.fired.items
    c.in-Some.ensures.0 (read-at c.args.self.now.counts.items c.in-Some.token.key.node.0 c.index-passed_on.result.now (let t = head-well (λ (e : Event ℕ). e.key.node.0 < length c.args.net.now.links.items) c.args.self.now.pending.items c.in-Some.token c.requires.healthy.pending (ap (λ (l : List Token). slice_get l 0) (sym c.deref.ensures.value) ∙ c.in-Some.ensures.1) in omega (arith, c.requires.nodes)) c.index-passed_on.ensures)
    c.in-PassedOn.next (c.group_at.result == c.args.group)
    c.pass_on.new.self.counts.items c.log_first-in-PassedOn.new.self.pending.items c.pass_on.new.self.pending.items c.pass_on.new.self.sent.items c.pass_on.new.self.fired.items
    c.in-PassedOn.ensures.reaction c.in-PassedOn.ensures.numbered (ap (λ (x : ℕ). x == c.args.group) c.group_at.ensures)
    (c.in_ok-pass_on-in-PassedOn.ensures.counts ∙ ap (λ (l : List ℕ). set l c.in-Some.token.key.node.0 (c.index-passed_on.result.now + 1)) c.in_ok-log_first-in-PassedOn.ensures.counts)
    c.in_ok-log_first-in-PassedOn.ensures.pending (c.in_ok-pass_on-in-PassedOn.ensures.fired ∙ c.in_ok-log_first-in-PassedOn.ensures.fired)
    (λ own. let o = c.in_ok-pass_on-in-PassedOn.ensures.own own in (o.0, o.1 ∙ c.in_ok-log_first-in-PassedOn.ensures.sent))
    (λ other. let o = c.in_ok-pass_on-in-PassedOn.ensures.other other in
    (o.0, o.1 ∙ ap (λ (l : List Token). l ++ c.in-PassedOn.next ∷ []) c.in_ok-log_first-in-PassedOn.ensures.sent))
