-- What a step of a layer leaves.
use Rattle.std.specs.Prelude.{◌≡◌, List, ◌++◌, map}
use Rattle.sim_base.specs.declared.numbers.Numbers.{Numbers}

-- the state of a layer after a step, and what is to be done then, in this order
pub record Stepped (State Act : Type 0) : Type 0 where
  pub state : State
  pub acts : List Act

-- the node's numbers after a step of a layer whose state stays, and what is to be done then, in this order
pub record Made (Act : Type 0) : Type 0 where
  pub numbers : Numbers
  pub acts : List Act

-- the state of a layer and the node's numbers after a step, and what is to be done then, in this order
pub record Numbered (State Act : Type 0) : Type 0 where
  pub state : State
  pub numbers : Numbers
  pub acts : List Act

-- these acts, seen so, were put behind those that were there
abbrev pub Appends : {A B : Type 0} → (A → B) → List A → List A → List B → Type 0
Appends see old new acts = map see new ≡ map see old ++ acts
