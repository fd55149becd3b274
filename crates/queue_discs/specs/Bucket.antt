-- A token bucket: each byte that leaves costs credit, and credit comes back with time, up to what the bucket holds.
use Rattle.std.specs.Prelude.{ℕ, ◌+◌, ◌-◌, ◌*◌, ◌≤◌, ◌^◌, min, max}
use Rattle.std.specs.Int.{div_ceil}
use Rattle.queue_discs.specs.declared.bucket.Bucket.{Bucket}

-- the credit that so many bytes cost, in billionths of a bit: a nanosecond brings as many of these as the rate has bits per second
abbrev pub cost : ℕ → ℕ
cost bytes = 8 * 10 ^ 9 * bytes

-- a bucket is full at time 0
abbrev pub full : ℕ → ℕ → Bucket
full rate burst = record { rate = rate; most = cost burst; credit = cost burst; latest = 0 }

-- at a time the bucket has got credit for each nanosecond by which the latest time so far rises
abbrev pub filled : ℕ → Bucket → Bucket
filled now b = record b { credit = min (b.credit + b.rate * (now - b.latest)) b.most; latest = max b.latest now }

-- a frame has left
abbrev pub paid : ℕ → Bucket → Bucket
paid bytes b = record b { credit = b.credit - cost bytes }

-- how many nanoseconds it takes until a bucket has the credit that so many bytes miss
abbrev pub wait : ℕ → Bucket → ℕ
wait bytes b = div_ceil (cost bytes - b.credit) b.rate

-- rates of 1 to 10^12 bits per second, and bursts of 1 to 10^9 bytes
abbrev pub IsBucket : Bucket → Type 0
IsBucket b = (1 ≤ b.rate) × (b.rate ≤ 10 ^ 12) × (b.most ≤ cost (10 ^ 9)) × (b.credit ≤ b.most) × (b.latest ≤ 10 ^ 12)
