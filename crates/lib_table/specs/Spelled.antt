-- Class files that have bytes.
use Rattle.std.specs.Prelude.{ℕ, List}
use Rattle.class_model.specs.declared.class_file.ClassFile.{ClassFile}
use Rattle.class_grammar.specs.Grammar.{Spells}

-- these are the bytes of some class file
abbrev pub IsSpelled : ClassFile → Type 0
IsSpelled f = (bytes : List ℕ) × Spells bytes f
