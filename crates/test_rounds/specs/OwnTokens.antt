-- What a token of a group's part must be, so that the group may fire it.
use Rattle.std.specs.Prelude.{◌≡◌, ℕ, ◌<◌, List, slice_get, unwrap_or}
use Rattle.model_tokens.specs.Tokens.{group_of}
use Rattle.model_tokens.specs.declared.Token.{Token}

-- it is for a node of the net and of the group, and has been counted by its sender, where that is the group's
pub record IsOwnToken (nodes : ℕ) (groups : List ℕ) (group : ℕ) (counts : List ℕ) (token : Token) : Type 0 where
  pub target : token.key.node.0 < nodes
  pub own : group_of groups token.key.node.0 ≡ group
  pub counted : group_of groups token.key.by.0 ≡ group → token.key.count < unwrap_or (slice_get counts token.key.by.0) 0
