use Rattle.model_tokens.proofs.Heads.{short-none, late-head}
use Rattle.model_tokens.proofs.first_below.Goals as goal

pub returns-in-empty : goal.returns-in-empty
returns-in-empty c = short-none c.args.end c.args.tokens.now c.in-empty.len_below

pub returns-else-token-end : goal.returns-else-token-end
returns-else-token-end c = late-head c.args.end c.args.tokens.now _ c.in-len1-up.len_at_least c.if-token-end.false c.requires
