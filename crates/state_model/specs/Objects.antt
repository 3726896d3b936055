-- An object of the heap (JVMS 2.4, 2.5.3).
use Rattle.std.specs.Prelude.{ℕ, List}
use Rattle.instruction_rows.specs.declared.value.Value.{Value}

pub data Object : Type 0 where
  -- of a class by its number, with the values of its fields, or of an array's elements, in order
  instance : (class : ℕ) → List Value → Object
  -- a String, with its units (own: a String is its text)
  text : List ℕ → Object
