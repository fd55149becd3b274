-- A sink's value as a model's, and the code that it needs for this.
use Rattle.std.specs.Prelude.{ℕ, Bool, Option, refl}
use Rattle.std.specs.Coded.{Coded, code_by, coded×, coded_ℕ, coded_bool, coded_option}
use Rattle.std.specs.FinMap.{code}
use Rattle.tcp_stream.specs.Held.{Held}
use Rattle.tcp_stream.specs.History.{Sink}

abbrev pub Parts : Type 0
Parts = ℕ × (Held × (Option ℕ × Bool))

abbrev pub sink_code : Coded Sink
sink_code =
    code_by Parts (coded× coded_ℕ (coded× (code coded_ℕ coded_ℕ) (coded× (coded_option coded_ℕ) coded_bool)))
    (λ k. (k.rcv, (k.held, (k.fin_at, k.ended))))
    (λ p. record { rcv = p.0; held = p.1.0; fin_at = p.1.1.0; ended = p.1.1.1 })
    (λ _. refl)
