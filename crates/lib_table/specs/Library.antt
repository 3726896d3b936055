-- The built-in classes as class files.
use Rattle.std.specs.Prelude.{List, map}
use Rattle.std.specs.List.{flat_map}
use Rattle.class_model.specs.declared.class_file.ClassFile.{ClassFile}
use Rattle.lib_table.specs.Build.{class_file}
use Rattle.lib_table.specs.Table.{groups}

abbrev pub library : List ClassFile
library = flat_map (map class_file) groups
