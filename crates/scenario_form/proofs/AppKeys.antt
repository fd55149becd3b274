-- What a kind of application asks for stands.
use Rattle.std.proofs.Common.{◌≡◌, ℕ, ℤ, ◌<◌, ◌≤◌, pos, true, List, [], ◌∷◌, length, get_or, Option, Some, None, option_map, option_and_then, unwrap_or, is_some, Ok, IsSome, refl, arith, codes}
use Rattle.toml.specs.Data.{Data, Members, as_integer, as_str, get_member}
use Rattle.scenario_form.specs.declared.field.Code.TheVariants.{Range}
use Rattle.scenario_form.specs.declared.field.Code.TheVariants as code
use Rattle.scenario_form.specs.declared.scenario.Kind.{Kind}
use Rattle.scenario_form.specs.declared.scenario.Kind.TheVariants.{UdpSend, UdpEchoClient, UdpSink, UdpEchoServer, TcpSink, OnOff, Ping, TcpBulk}
use Rattle.scenario_form.specs.Address.{address}
use Rattle.scenario_form.specs.Checks.{require, refuse_as}
use Rattle.scenario_form.specs.Forms.{of_type, is_from_to}
use Rattle.scenario_form.specs.Rows.{Row, must, may, integer, addr, flag, fault, value_check, row_check, table_check}
use Rattle.scenario_form.specs.Values.{natural, rate_of, time_of, number_in, number_at, number_or, address_at}
use Rattle.scenario_form.specs.Tables.{rows_of_kind, app_of}
use Rattle.scenario_form.specs.Limits.{HasKeys, IsFromTo}
use Rattle.scenario_form.proofs.Steps.{require_ok, refuse_ok}
use Rattle.scenario_form.proofs.Counted.{field_ok}
use Rattle.scenario_form.proofs.FieldNumbers.{may_number}

-- ---- what has to stand does

integer_stands : (low high : ℕ) (o : Option ℤ) → of_type o (λ z. require (is_from_to (pos low) (pos high) z) Range) ≡ Ok tt → IsSome (option_map natural o)
integer_stands low high None h = cc
integer_stands low high (Some z) h = refl

number_stands : (nodes n low high : ℕ) (k : List ℕ) (o : Option Data) → refuse_as (fault n) (value_check nodes (must n k (integer low high)) o) ≡ Ok tt
    → IsSome (option_and_then number_in o)
number_stands nodes n low high k None h = cc
number_stands nodes n low high k (Some d) h = integer_stands low high (as_integer d) (refuse_ok _ _ h)

some_number : (nodes n low high : ℕ) (k : List ℕ) (t : Members) → row_check nodes t (must n k (integer low high)) ≡ Ok tt → IsSome (number_at k t)
some_number nodes n low high k t h = number_stands nodes n low high k (get_member k t) h

found : {A : Type 0} (o : Option A) → is_some o ≡ true → IsSome o
found None h = cc
found (Some a) h = refl

text_stands : (o : Option (List ℕ)) → of_type o (λ s. require (is_some (address s)) code.Address) ≡ Ok tt → IsSome (option_and_then address o)
text_stands None h = cc
text_stands (Some s) h = found (address s) (require_ok _ _ h)

address_stands : (nodes n : ℕ) (k : List ℕ) (o : Option Data) → refuse_as (fault n) (value_check nodes (must n k addr) o) ≡ Ok tt
    → IsSome (option_and_then (λ d. option_and_then address (as_str d)) o)
address_stands nodes n k None h = cc
address_stands nodes n k (Some d) h = text_stands (as_str d) (refuse_ok _ _ h)

some_address : (nodes n : ℕ) (k : List ℕ) (t : Members) → row_check nodes t (must n k addr) ≡ Ok tt → IsSome (address_at k t)
some_address nodes n k t h = address_stands nodes n k (get_member k t) h

some_rate : (o : Option ℕ) → IsSome o → IsSome (option_map rate_of o)
some_rate None h = h
some_rate (Some n) h = refl

some_time : (o : Option ℕ) → IsSome o → IsSome (option_map time_of o)
some_time None h = h
some_time (Some n) h = refl

-- ---- by the place of a field among those of the kind

port_at : (nodes i : ℕ) (rows : List Row) (t : Members) → i < length rows → get_or rows i (may 0 [] flag) ≡ must 3 (codes "port") (integer 1 49152)
    → table_check nodes rows t ≡ Ok tt → IsSome (number_at (codes "port") t)
port_at nodes i rows t lt is h = some_number nodes 3 1 49152 (codes "port") t (rw is at (field_ok nodes rows t i (may 0 [] flag) lt h))

dst_at : (nodes i : ℕ) (rows : List Row) (t : Members) → i < length rows → get_or rows i (may 0 [] flag) ≡ must 4 (codes "dst") addr
    → table_check nodes rows t ≡ Ok tt → IsSome (address_at (codes "dst") t)
dst_at nodes i rows t lt is h = some_address nodes 4 (codes "dst") t (rw is at (field_ok nodes rows t i (may 0 [] flag) lt h))

number_there : (nodes n low high : ℕ) (k : List ℕ) (i : ℕ) (rows : List Row) (t : Members) → i < length rows → get_or rows i (may 0 [] flag) ≡ must n k (integer low high)
    → table_check nodes rows t ≡ Ok tt → IsSome (number_at k t)
number_there nodes n low high k i rows t lt is h = some_number nodes n low high k t (rw is at (field_ok nodes rows t i (may 0 [] flag) lt h))

-- `on-off` sends at least one byte
some_bytes : (nodes : ℕ) (t : Members) → table_check nodes (rows_of_kind (Some OnOff)) t ≡ Ok tt → 1 ≤ number_or 512 (codes "size") t
some_bytes nodes t h =
    let default : IsFromTo 1 65507 512 = record { from = omega arith; to = omega arith } in
    let is : IsFromTo 1 65507 (number_or 512 (codes "size") t) =
    may_number nodes 8 1 65507 512 (codes "size") t default (field_ok nodes (rows_of_kind (Some OnOff)) t 6 (may 0 [] flag) (omega arith) h) in
    is.from

-- an application that passed has what its kind asks for
pub app_keys : (nodes : ℕ) (o : Option Kind) (t : Members) → table_check nodes (rows_of_kind o) t ≡ Ok tt → HasKeys (unwrap_or o UdpSink) (app_of t)
app_keys nodes None t h = port_at nodes 2 (rows_of_kind None) t (omega arith) refl h
app_keys nodes (Some UdpSend) t h = (port_at nodes 2 (rows_of_kind (Some UdpSend)) t (omega arith) refl h, dst_at nodes 3 (rows_of_kind (Some UdpSend)) t (omega arith) refl h)
app_keys nodes (Some UdpEchoClient) t h =
    (port_at nodes 2 (rows_of_kind (Some UdpEchoClient)) t (omega arith) refl h, dst_at nodes 3 (rows_of_kind (Some UdpEchoClient)) t (omega arith) refl h)
app_keys nodes (Some UdpSink) t h = port_at nodes 2 (rows_of_kind (Some UdpSink)) t (omega arith) refl h
app_keys nodes (Some UdpEchoServer) t h = port_at nodes 2 (rows_of_kind (Some UdpEchoServer)) t (omega arith) refl h
app_keys nodes (Some TcpSink) t h = port_at nodes 2 (rows_of_kind (Some TcpSink)) t (omega arith) refl h
app_keys nodes (Some OnOff) t h = (
  port_at nodes 2 (rows_of_kind (Some OnOff)) t (omega arith) refl h,
  dst_at nodes 3 (rows_of_kind (Some OnOff)) t (omega arith) refl h,
  some_rate (number_at (codes "rate_bps") t) (number_there nodes 10 1 1000000000000 (codes "rate_bps") 8 (rows_of_kind (Some OnOff)) t (omega arith) refl h),
  some_time (number_at (codes "on_ns") t) (number_there nodes 11 1 1000000000000 (codes "on_ns") 9 (rows_of_kind (Some OnOff)) t (omega arith) refl h),
  some_time (number_at (codes "off_ns") t) (number_there nodes 12 0 1000000000000 (codes "off_ns") 10 (rows_of_kind (Some OnOff)) t (omega arith) refl h),
  some_bytes nodes t h,
)
app_keys nodes (Some Ping) t h = dst_at nodes 2 (rows_of_kind (Some Ping)) t (omega arith) refl h
app_keys nodes (Some TcpBulk) t h = (
  port_at nodes 2 (rows_of_kind (Some TcpBulk)) t (omega arith) refl h,
  dst_at nodes 3 (rows_of_kind (Some TcpBulk)) t (omega arith) refl h,
  number_there nodes 13 0 1073741824 (codes "bytes") 5 (rows_of_kind (Some TcpBulk)) t (omega arith) refl h,
)
