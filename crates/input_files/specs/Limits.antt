-- The limit of a file.
use Rattle.std.specs.Prelude.{ℕ}

-- the most bytes
abbrev pub most_bytes : ℕ
most_bytes = 4194304
