-- Times in nanoseconds, as numbers of 64 bits.
use Rattle.std.specs.Prelude.{ℕ, ◌==◌, ◌-◌, ◌^◌, if◌then◌else◌, min}

-- at most the greatest u64
abbrev pub clock_nanos : ℕ → ℕ
clock_nanos elapsed = min elapsed (2 ^ 64 - 1)

-- how long a nap is: a nap of no length takes the short one
abbrev pub nap_nanos : ℕ → ℕ → ℕ
nap_nanos short nanos = if nanos == 0 then short else nanos
