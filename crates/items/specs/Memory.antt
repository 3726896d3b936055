-- What is said of calls that may find no memory.
use Rattle.std.specs.Prelude.{◌≡◌, Result, MatchResult}

-- The call succeeded, with such a value, unless memory ran out. `no_memory` is the error that says so.
abbrev pub OkUnless : {T E : Type 0} → Result T E → E → (T → Type 0) → Type 0
OkUnless result no_memory P = MatchResult result P (λ e. e ≡ no_memory)
