-- Which programs have the built-in classes.
use Rattle.std.specs.Prelude.{◌≡◌, All, List}
use Rattle.class_model.specs.declared.class_file.ClassFile.{ClassFile}
use Rattle.lib_table.specs.Library.{library}
use Rattle.lib_table.specs.Spelled.{IsSpelled}
use Rattle.link_rules.specs.Program.{Program, program}

-- The first classes are exactly the built-in ones, and those of the files come after them, each a class file that has bytes.
pub record HasLibrary (p : Program) : Type 0 where
  pub files : List ClassFile
  pub is : p ≡ program library files
  pub spelled : All IsSpelled files
