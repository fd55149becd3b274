-- Which applications of a node get what comes.
use Rattle.std.specs.Prelude.{ℕ, Option, List}
use Rattle.std.specs.Map.{lookup}
use Rattle.std.specs.Ordering.{is_eq, nat_cmp}

-- the application at each port of UDP, whether it listens there or sends from there, and the `ping` with each number
pub record PlainPorts : Type 0 where
  pub udp : List (ℕ × ℕ)
  pub pings : List (ℕ × ℕ)

-- the application at a port, or with a number
abbrev pub app_at : ℕ → List (ℕ × ℕ) → Option ℕ
app_at number apps = lookup (λ n. is_eq (nat_cmp number n)) apps
