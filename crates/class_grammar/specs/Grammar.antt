-- The one relation between the bytes of a class file and its value.
use Rattle.std.specs.Prelude.{◌≡◌, ℕ, List, None}
use Rattle.std.specs.List.{AllByRecursion}
use Rattle.class_model.specs.declared.class_file.ClassFile.{ClassFile}
use Rattle.class_grammar.specs.Layout.{class_file}
use Rattle.class_grammar.specs.Ranges.{IsInRange}
use Rattle.class_grammar.specs.Attributes.{HasAttributes}
use Rattle.class_grammar.specs.Checks.{Item, items}

-- nothing is wrong with an item
abbrev pub IsSound : Item → Type 0
IsSound i = i.fault ≡ None

-- These bytes are this class file (JVMS 4.1 to 4.9): its parts one after the other, each number in its range, each attribute of
-- the kind that its name and its holder say, and nothing wrong with any item.
pub record Spells (bytes : List ℕ) (f : ClassFile) : Type 0 where
  pub layout : bytes ≡ class_file f
  pub range : IsInRange f
  pub by_name : HasAttributes f
  pub sound : AllByRecursion IsSound (items f)

-- these bytes are this class file and no other
pub record SpellsOnly (bytes : List ℕ) (f : ClassFile) : Type 0 where
  pub spelled : Spells bytes f
  pub only : (g : ClassFile) → Spells bytes g → g ≡ f
