-- What a node's end of a connection has lived, over any inputs, is no life, or that of a connection that one of them made.
use Rattle.std.proofs.Common.{◌≡◌, ℕ, Bool, true, List, [], ◌∷◌, Option, None, Some, is_some, refl, sym, ap, subst, ◌∙◌, inl, inr, ◌⊎◌}
use Rattle.std.specs.List.{AllByRecursion}
use Rattle.std.proofs.lemmas.Bool.{cond-true, cond-false, eqb-true, false≢true}
use Rattle.sim_base.specs.declared.numbers.Numbers.{Numbers}
use Rattle.sim_base.specs.Packet.{Packet}
use Rattle.tcp_flow.specs.declared.words.In.{In}
use Rattle.tcp_flow.specs.Conns.{PlainConns, step}
use Rattle.tcp_flow.specs.Index.{InOrder}
use Rattle.tcp_flow.specs.Life.{Birth, IsBirth, Life, concerned, is_number, life, life_of, lived, no_life}
use Rattle.tcp_flow.specs.Table.{least_free, under}
use Rattle.tcp_flow.proofs.Indexing.{by_cases}
use Rattle.delivered_prefix.specs.Nodes.{Awaited, Node, Removed, Stage, Stands, lives, makes, stage_after, takes}
use Rattle.delivered_prefix.proofs.Does.{step-does}
use Rattle.delivered_prefix.proofs.Others.{in_order}

abbrev pub Begins : Type 0
Begins = PlainConns → In Packet → Bool

-- a node after many inputs
abbrev pub taken : Begins → Node → List (In Packet) → Node
taken begins a [] = a
taken begins a (input ∷ inputs) = taken begins (takes begins a input) inputs

abbrev node : PlainConns → Numbers → Stage → Life → Node
node t n stage l = record { conns = t; numbers = n; stage = stage; life = l }

-- a node of which the end was at this stage when the input came
abbrev after : Stage → PlainConns → Numbers → In Packet → Life → Node
after stage t n input l = let s = step t n input in node s.state s.numbers (stage_after stage s.state) (lives stage t n input l)

pub next-in_order : (t : PlainConns) (n : Numbers) (input : In Packet) → InOrder t.conns → InOrder (step t n input).state.conns
next-in_order t n input order = in_order t n input (step t n input) order (concerned t input) (step-does t n input order)

pub is-number : (m : ℕ) (c : Option ℕ) → is_number m c ≡ true → c ≡ Some m
is-number m None h = absurd (false≢true h)
is-number m (Some x) h = ap Some (eqb-true x m h)

module _ (begins : Begins) where
  -- an end that is removed lives no more

  removed-life : (t : PlainConns) (n : Numbers) (inputs : List (In Packet)) (l : Life) → (taken begins (node t n Removed l) inputs).life ≡ l
  removed-life t n [] l = refl
  removed-life t n (input ∷ inputs) l = let s = step t n input in removed-life s.state s.numbers inputs l

  -- an end that stands lives until it is removed

  standing-life : (m : ℕ) (t : PlainConns) (n : Numbers) (inputs : List (In Packet)) (l : Life) →
      (taken begins (node t n (stage_after (Stands m) t) l) inputs).life ≡ life m t n inputs l
  standing-life m t n [] l = refl
  standing-life m t n (input ∷ inputs) l =
      let s = step t n input in
      let there = is_some (under m t.conns) in
      let more = life m s.state s.numbers inputs (lived m t n input l) in
      let from : Stage → Life = λ stage. (taken begins (node t n stage l) (input ∷ inputs)).life in
      by_cases there
      (λ b. ap from (cond-true there (Stands m) Removed b) ∙ standing-life m s.state s.numbers inputs (lived m t n input l) ∙ sym (cond-true there more l b))
      (λ b. ap from (cond-false there (Stands m) Removed b) ∙ removed-life t n (input ∷ inputs) l ∙ sym (cond-false there more l b))

  -- an end that is awaited may be made by an input

  module _ (W : In Packet → Type 0) (makes-one : (t : PlainConns) (input : In Packet) → begins t input ≡ true → makes t input ≡ true) where
    pub record IsLifeOf (l : Life) : Type 0 where
      pub birth : Birth
      pub born : IsBirth birth
      pub begun : begins birth.conns birth.input ≡ true
      pub first : W birth.input
      pub inputs : List (In Packet)
      pub rest : AllByRecursion W inputs
      pub is : l ≡ life_of birth inputs

    abbrev pub Lived : Life → Type 0
    Lived l = (l ≡ no_life) ⊎ IsLifeOf l

    born-life : (t : PlainConns) (n : Numbers) (input : In Packet) (inputs : List (In Packet)) → InOrder t.conns → begins t input ≡ true →
        W input → AllByRecursion W inputs → IsLifeOf (taken begins (after (Stands (least_free 0 t.conns)) t n input no_life) inputs).life
    born-life t n input inputs order b first rest =
        let s = step t n input in
        let m = least_free 0 t.conns in
        record {
          birth = record { conns = t; numbers = n; input = input };
          born = record { in_order = order; makes = is-number m (concerned t input) (makes-one t input b) };
          begun = b;
          first = first;
          inputs = inputs;
          rest = rest;
          is = standing-life m s.state s.numbers inputs (lived m t n input no_life);
        }

    pub awaited-life : (t : PlainConns) (n : Numbers) (inputs : List (In Packet)) → InOrder t.conns → AllByRecursion W inputs →
        Lived (taken begins (node t n Awaited no_life) inputs).life
    awaited-life t n [] order all = inl refl
    awaited-life t n (input ∷ inputs) order all =
        let s = step t n input in
        let m = least_free 0 t.conns in
        let From : Stage → Type 0 = λ stage. Lived (taken begins (after stage t n input no_life) inputs).life in
        by_cases (begins t input)
        (λ b. subst From (sym (cond-true (begins t input) (Stands m) Awaited b)) (inr (born-life t n input inputs order b all.0 all.1)))
        (λ b. subst From (sym (cond-false (begins t input) (Stands m) Awaited b)) (awaited-life s.state s.numbers inputs (next-in_order t n input order) all.1))
