-- The numbers and runs of bytes of a class file (JVMS 4), read from front to back.
use Rattle.std.specs.Prelude.{ℕ, ◌-◌, List, length, Ok, Err, ◌==◌, if◌then◌else◌}
use Rattle.class_grammar.specs.declared.class_why.ClassWhy.{ClassWhy}
use Rattle.class_grammar.specs.declared.class_why.ClassWhy.TheVariants.{Short, Length}
use Rattle.byte_reader.specs.Reader.{◌>>=◌, Reader, fault_at, number_at, bytes_at, both, count_then}

-- a reader of a part of a class file
abbrev pub ClassReader : Type 0 → Type 0
ClassReader A = Reader ClassWhy A

abbrev pub u1_at : ClassReader ℕ
u1_at = number_at Short 1

abbrev pub u2_at : ClassReader ℕ
u2_at = number_at Short 2

abbrev pub u4_at : ClassReader ℕ
u4_at = number_at Short 4

abbrev pub u8_at : ClassReader ℕ
u8_at = number_at Short 8

-- two numbers of two bytes each
abbrev pub pair_at : ClassReader (ℕ × ℕ)
pair_at = both u2_at u2_at

abbrev pub run_at : ℕ → ClassReader (List ℕ)
run_at = bytes_at Short

-- a count in two bytes, and what it counts
abbrev pub table_at : {A : Type 0} → (ℕ → ClassReader A) → ClassReader A
table_at reader = count_then Short 2 reader

-- a length in four bytes, and that many bytes
abbrev pub sized_bytes_at : ClassReader (List ℕ)
sized_bytes_at = count_then Short 4 run_at

-- A length in four bytes, and a value of that length. The length is checked after the value.
abbrev pub sized_value_at : {A : Type 0} → ClassReader A → ClassReader A
sized_value_at reader bytes = do
  n ← u4_at bytes
  x ← reader n.1
  if length n.1 - length x.1 == n.0 then Ok x else Err (fault_at bytes Length)
