-- Counts, the numbers of new packets, and the stamps of timers.
use Rattle.std.specs.Prelude.{ℕ, ◌+◌, ◌-◌, ◌^◌, min}
use Rattle.sim_base.specs.declared.numbers.Numbers.{Numbers}
use Rattle.sim_base.specs.declared.numbers.Uid.{Uid}

-- a count that has risen by n, or stays at the end of its type
abbrev pub count_up : ℕ → ℕ → ℕ
count_up n count = min (count + n) (2 ^ 64 - 1)

-- the identity of the next packet that a node makes
abbrev pub new_uid : Numbers → Uid
new_uid numbers = record { node = numbers.node; count = numbers.packets }

-- a node's numbers when it has made one more packet
abbrev pub with_packet : Numbers → Numbers
with_packet numbers = record numbers { packets = count_up 1 numbers.packets }

-- a node's numbers when it has started one more timer
abbrev pub with_stamp : Numbers → Numbers
with_stamp numbers = record numbers { stamps = count_up 1 numbers.stamps }
