-- Classes by their names.
use Rattle.std.specs.Prelude.{◌≡◌, ℕ, List}
use Rattle.class_model.specs.declared.class_file.ClassFile.{ClassFile}
use Rattle.link_resolution.specs.Names.{first_named}
use Rattle.link_resolution.specs.TextNumbers.{number_at}
use Rattle.link_resolution.specs.declared.text_numbers.TextNumbers.{TextNumbers}

-- each name has the number of the first of these files that has it
abbrev pub NamesAll : List ClassFile → TextNumbers → Type 0
NamesAll files m = (name : List ℕ) → number_at m name ≡ first_named files name
