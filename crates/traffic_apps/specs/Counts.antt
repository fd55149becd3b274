-- What an application has sent and got.
use Rattle.std.specs.Prelude.{ℕ}
use Rattle.layer_words.specs.Counting.{count_up}
use Rattle.traffic_apps.specs.declared.counts.Counts.{Counts}

abbrev pub none_counted : Counts
none_counted = record { sent = 0; sent_bytes = 0; got = 0; got_bytes = 0 }

-- one more packet was sent, of so many bytes
abbrev pub with_sent : ℕ → Counts → Counts
with_sent bytes c = record c { sent = count_up 1 c.sent; sent_bytes = count_up bytes c.sent_bytes }

-- one more packet was got, of so many bytes
abbrev pub with_got : ℕ → Counts → Counts
with_got bytes c = record c { got = count_up 1 c.got; got_bytes = count_up bytes c.got_bytes }
