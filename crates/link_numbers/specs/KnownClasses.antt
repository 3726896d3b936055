-- The built-in classes that typing speaks of.
use Rattle.std.specs.Prelude.{ℕ, List, codes}
use Rattle.class_grammar.specs.Names.{object_class}
use Rattle.link_model.specs.Numbering.{number_of}
use Rattle.link_numbers.specs.declared.known_classes.KnownClasses.{KnownClasses}

abbrev pub known_in : List (List ℕ) → KnownClasses
known_in names = record {
  object = number_of names object_class;
  cloneable = number_of names (codes "java/lang/Cloneable");
  serializable = number_of names (codes "java/io/Serializable");
  string = number_of names (codes "java/lang/String");
  throwable = number_of names (codes "java/lang/Throwable");
}
