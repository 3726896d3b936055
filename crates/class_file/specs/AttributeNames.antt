-- The name of an attribute as the code has it.
use Rattle.std.specs.Prelude.{ℕ, List}
use Rattle.std.specs.Borrow.{Bor}
use Rattle.class_file.specs.declared.names.Name as source
use Rattle.class_file.specs.Attributes.{Name}

-- a name and the bytes after it
abbrev pub name_and_rest : source.Name × Bor (List ℕ) → Name × List ℕ
name_and_rest x = (record { index = x.0.index; text = x.0.text.now }, x.1.now)
