-- What tests of tokens, one by one, say of a part.
use Rattle.std.proofs.Common.{◌≡◌, ℕ, true, All, List, [], ◌∷◌, length, map, ◌≤◌, ◌-◌, get_or, take, drop, ap, ◌∙◌, subst, arith}
use Rattle.std.proofs.Math.Seq.{take-length}
use Rattle.std.proofs.lemmas.List.Elements.{All-head, All-tail}
use Rattle.std.specs.List.{AllByRecursion}
use Rattle.round_core.specs.World.{Event}
use Rattle.sim_base.specs.KeyOrder.{IsRising, before}
use Rattle.model_tokens.specs.Tokens.{event_of}
use Rattle.model_tokens.specs.TokenParts.{MayRun}
use Rattle.model_tokens.specs.declared.Net.{Net}
use Rattle.model_tokens.specs.declared.Part.{Part}
use Rattle.model_tokens.specs.declared.Token.{Token}
use Rattle.test_rounds.specs.OwnTokens.{IsOwnToken}

all-events : (P : Token → Type 0) (Q : Event ℕ → Type 0) → ((t : Token) → P t → Q (event_of t)) → (ts : List Token) → All P ts → AllByRecursion Q (map event_of ts)
all-events P Q f [] all = tt
all-events P Q f (t ∷ ts) all = (f t (All-head P t ts all), all-events P Q f ts (All-tail P t ts all))

may-run : (net : Net) (groups : List ℕ) (group : ℕ) (p : Part) → length p.counts.items ≡ length net.links.items →
    IsRising (λ e. e.key) (map event_of p.pending.items) →
    All (IsOwnToken (length net.links.items) groups group p.counts.items) p.pending.items → MayRun net groups group p
may-run net groups group p same rising own =
    let Own : Token → Type 0 = λ t. IsOwnToken (length net.links.items) groups group p.counts.items t in
    record {
      nodes = same;
      sound = record {
        health = record {
          nodes = λ n. tt;
          lans = λ l. tt;
          pending = all-events Own _ (λ t o. o.target) p.pending.items own;
        };
        rising = rising;
        own = all-events Own _ (λ t o. o.own) p.pending.items own;
        counted = all-events Own _ (λ t o. o.counted) p.pending.items own;
      };
    }

-- a part whose tokens the group may fire, in the order of their keys, may run
pub part-may_run : (net : Net) (groups : List ℕ) (group : ℕ) (p : Part) (nodes : ℕ) (counts : List ℕ) (tokens : List Token) →
    nodes ≡ length net.links.items → length p.counts.items ≡ length net.links.items → counts ≡ p.counts.items → tokens ≡ p.pending.items →
    IsRising (λ e. e.key) (map event_of tokens) → All (λ token. IsOwnToken nodes groups group counts token) tokens → MayRun net groups group p
part-may_run net groups group p nodes counts tokens n same cs ts rising own =
    let Rising : List Token → Type 0 = λ l. IsRising (λ e. e.key) (map event_of l) in
    let Own : ℕ → List ℕ → List Token → Type 0 = λ m c l. All (λ token. IsOwnToken m groups group c token) l in
    may-run net groups group p same (subst Rising ts rising)
    (subst (Own (length net.links.items) p.counts.items) ts
    (subst (λ c. Own (length net.links.items) c tokens) cs (subst (λ m. Own m counts tokens) n own)))

-- tokens of which the first comes before all the others
pub first-rises : (tokens : List Token) (d : Token) → 1 ≤ length tokens →
    All (λ other. before (get_or tokens 0 d).key other.key ≡ true) (take (length tokens - 1) (drop 1 tokens)) →
    IsRising (λ e. e.key) (map event_of (take (length tokens - 1) (drop 1 tokens))) → IsRising (λ e. e.key) (map event_of tokens)
first-rises [] d some all rising = absurd (omega arith)
first-rises (token ∷ tokens) d some all rising =
    let Before : List Token → Type 0 = λ l. All (λ other. before token.key other.key ≡ true) l in
    let Rising : List Token → Type 0 = λ l. IsRising (λ e. e.key) (map event_of l) in
    let whole : take (length (token ∷ tokens) - 1) tokens ≡ tokens =
    ap (λ n. take n tokens) (let n : length (token ∷ tokens) - 1 ≡ length tokens = omega arith in n) ∙ take-length tokens in
    (all-events (λ other. before token.key other.key ≡ true) _ (λ other h. h) tokens (subst Before whole all), subst Rising whole rising)
