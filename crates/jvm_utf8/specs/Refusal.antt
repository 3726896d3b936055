-- What a refusal says of the bytes.
use Rattle.std.specs.Prelude.{◌≡◌, ℕ, ◌<◌, ◌^◌, List, ◌++◌, length, take, drop}
use Rattle.jvm_utf8.specs.Text.{unit, text, AreUnits}

-- The bytes before this offset are a text, there are bytes after it, and these begin with no unit.
pub record IsFirstBad (bytes : List ℕ) (at : ℕ) : Type 0 where
  pub inside : at < length bytes
  pub units : List ℕ
  pub are_units : AreUnits units
  pub before : take at bytes ≡ text units
  pub none : (u : ℕ) (rest : List ℕ) → u < 2 ^ 16 → drop at bytes ≡ unit u ++ rest → ⊥
