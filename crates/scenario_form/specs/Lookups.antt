-- What the reader keeps to look things up while it checks.
use Rattle.std.specs.Prelude.{◌≡◌, ℕ, cond, nat_eq, List, [], ◌∷◌, Option, Some, None, unwrap_or}
use Rattle.std.specs.List.{list_any}
use Rattle.std.specs.HashMap.{HashMap, get}
use Rattle.std.specs.HashSet.{HashSet}
use Rattle.scenario_form.specs.declared.interface.Interface.{Interface}
use Rattle.scenario_form.specs.Across.{Target, same_target, connected, interface_count}

-- the last interface that has the address, and where none has it, the one that was found before
abbrev pub found_from : Option Interface → List Interface → ℕ → Option Interface
found_from before [] a = before
found_from before (i ∷ more) a = found_from (cond (nat_eq i.address a) (Some i) before) more a

-- each address's interface
abbrev pub IsByAddress : {S : Type 0} → List Interface → HashMap ℕ Interface S → Type 0
IsByAddress all m = (a : ℕ) → get nat_eq m a ≡ found_from None all a

-- the networks that nodes are on
abbrev pub IsConnected : {S : Type 0} → List Interface → HashSet Target S → Type 0
IsConnected all s = (t : Target) → list_any (same_target t) s.keys ≡ list_any (same_target t) (connected all)

abbrev pub count_at : {S : Type 0} → HashMap ℕ ℕ S → ℕ → ℕ
count_at m node = unwrap_or (get nat_eq m node) 0

-- how many interfaces each node has
abbrev pub IsCount : {S : Type 0} → List Interface → HashMap ℕ ℕ S → Type 0
IsCount all m = (node : ℕ) → count_at m node ≡ interface_count all node
