-- The classes that the constants of a class's pool mean (JVMS 4.4.1), as types.
use Rattle.std.specs.Prelude.{ℕ, Option, slice_get}
use Rattle.std.specs.Option.{option_and_then}
use Rattle.class_model.specs.declared.class_file.ClassFile.{ClassFile}
use Rattle.class_grammar.specs.Pool.{class_name_at}
use Rattle.stack_maps.specs.declared.types.VType.{VType}
use Rattle.link_model.specs.World.{World, named_type}

-- the type that the constant at this index of a class file's pool means, where it is a class
abbrev pub type_in : World → ℕ → ClassFile → Option VType
type_in w index f = option_and_then (named_type w) (class_name_at f.pool index)

-- the same of the class with this number
abbrev pub pool_type : World → ℕ → ℕ → Option VType
pool_type w class index = option_and_then (type_in w index) (slice_get w.program.classes class)
