-- The rules of the tokens.
use Rattle.std.specs.Prelude.{◌≡◌, ℕ, ◌+◌, ◌-◌, ◌<◌, ◌≤◌, ◌^◌, false, List, [], ◌∷◌, length, Option, Some, None, ◌==◌, nat_lt, slice_get, if◌then◌else◌, unwrap_or, ◌⊎◌}
use Rattle.round_core.specs.Laws.{Health}
use Rattle.round_core.specs.World.{Event, Firing, Effect, Reaction, Limit, Does, Rules, Send}
use Rattle.model_tokens.specs.declared.Token.{Token}
use Rattle.model_tokens.specs.declared.Link.{Link}
use Rattle.model_tokens.specs.declared.Net.{Net}
use Rattle.model_tokens.specs.declared.Answer.{Answer}
use Rattle.model_tokens.specs.declared.Answer.TheVariants.{Refused, Kept, PassedOn}

abbrev pub event_of : Token → Event ℕ
event_of t = record { key = t.key; load = t.hops }

abbrev pub firing_of : Token → Firing ℕ
firing_of t = record { key = t.key; texts = t.hops ∷ [] }

-- a node keeps a token, and writes how often that might still be passed on
abbrev pub keeps : ℕ → ℕ → Effect (Option ℕ) ℕ ℕ ℕ
keeps passed_on hops = record { node = Some passed_on; lans = λ l. 0; sends = []; texts = hops ∷ [] }

-- a node passes a token on
abbrev pub passes : ℕ → ℕ → Send ℕ → Effect (Option ℕ) ℕ ℕ ℕ
passes passed_on hops send = record { node = Some (passed_on + 1); lans = λ l. 0; sends = send ∷ []; texts = hops ∷ [] }

abbrev pub over_link : ℕ → Event ℕ → ℕ → Option Link → Reaction (Option ℕ) ℕ ℕ ℕ
over_link allowance e passed_on None = Limit
over_link allowance e passed_on (Some link) =
    if e.load == 0 then Does (keeps passed_on e.load) else
    if nat_lt passed_on allowance
    then Does (passes passed_on e.load (record { at = e.key.time.0 + link.delay; to = link.to; load = e.load - 1 }))
    else Limit

-- what a node that has passed on so many tokens does with the next
abbrev pub react : List Link → ℕ → Event ℕ → Option ℕ → Reaction (Option ℕ) ℕ ℕ ℕ
react links allowance e None = Limit
react links allowance e (Some passed_on) = over_link allowance e passed_on (slice_get links e.key.node.0)

-- a node's state is how many tokens it has passed on; there are no LANs
abbrev pub token_rules : List Link → ℕ → Rules (Option ℕ) ℕ ℕ ℕ
token_rules links allowance = record {
  sits = λ n l. false;
  counter = λ node. unwrap_or node 0;
  react = λ e node seen. react links allowance e node;
}

-- what an answer means
abbrev pub reaction_of : Answer → ℕ → Token → Reaction (Option ℕ) ℕ ℕ ℕ
reaction_of Refused passed_on t = Limit
reaction_of Kept passed_on t = Does (keeps passed_on t.hops)
reaction_of (PassedOn next) passed_on t =
    Does (passes passed_on t.hops (record { at = next.key.time.0; to = next.key.node.0; load = next.hops }))

abbrev pub token_health : List Link → Health (Option ℕ) ℕ ℕ
token_health links = record {
  node = λ n node. Unit {0};
  lan = λ l lan. Unit {0};
  event = λ e. e.key.node.0 < length links;
}

abbrev pub IsWellLink : ℕ → Link → Type 0
IsWellLink count link = (link.to < count) × (0 < link.delay) × (link.delay < 2 ^ 32)

-- each link leads to a node and takes some time
pub record IsWell (net : Net) : Type 0 where
  pub links : (n : ℕ) (link : Link) → slice_get net.links.items n ≡ Some link → IsWellLink (length net.links.items) link
  pub count : length net.links.items < 2 ^ 32
  pub stop : net.stop < 2 ^ 40
  pub allowance : net.allowance < 2 ^ 32

-- which group each node is in, by a list of groups; a node that isn't in the list is in group 0
abbrev pub group_of : List ℕ → ℕ → ℕ
group_of groups n = unwrap_or (slice_get groups n) 0

-- how many more tokens a node may pass on
abbrev pub room : ℕ → Option ℕ → ℕ
room allowance node = allowance - unwrap_or node 0

-- a delay that a lookahead allows
abbrev pub IsLong : Option ℕ → ℕ → Type 0
IsLong None delay = ⊥
IsLong (Some lookahead) delay = lookahead ≤ delay

-- each link between two groups takes at least the lookahead
abbrev pub IsCutBy : List Link → List ℕ → Option ℕ → Type 0
IsCutBy links groups lookahead = (n : ℕ) (link : Link) → slice_get links n ≡ Some link →
    (group_of groups link.to ≡ group_of groups n) ⊎ IsLong lookahead link.delay

-- a token that is passed on has its key from the node that does so, which may
abbrev pub IsNumbered : Answer → ℕ → ℕ → Token → Type 0
IsNumbered Refused allowance passed_on t = Unit {0}
IsNumbered Kept allowance passed_on t = Unit {0}
IsNumbered (PassedOn next) allowance passed_on t =
    (next.key.sent ≡ t.key.time) × (next.key.by ≡ t.key.node) × (next.key.count ≡ passed_on) × (passed_on < allowance)
