-- Classes and array classes as the machine asks for them, by their numbers in the linked world.
use Rattle.std.specs.Prelude.{ℕ, ◌-◌, Bool, List, [], ◌++◌, Option, Some, None, codes, map, replicate, get_or, ◌==◌, if◌then◌else◌}
use Rattle.stack_maps.specs.declared.types.Base.{Base}
use Rattle.stack_maps.specs.declared.types.Base.TheVariants as bases
use Rattle.link_model.specs.declared.sites.ArrayType.{ArrayType}
use Rattle.link_model.specs.World.{World, array_type}
pub use Rattle.link_model.specs.LookUps.{same_base, same_type, array_class}
pub use Rattle.link_model.specs.Subtypes.{is_array, type_of, base_below, type_below, is_sub}

-- ---- elements

-- the type of the elements of an array
abbrev pub element_of : ArrayType → ArrayType
element_of array = record array { dimensions = array.dimensions - 1 }

-- whether an object of the class may be an element of the array
abbrev pub is_element : World → ℕ → ArrayType → Bool
is_element w class array = type_below w (type_of w class) (element_of array)

-- ---- names (java.lang.Class.getName)

abbrev pub base_letter : World → Base → List ℕ
base_letter w (bases.Class class) = codes "L" ++ get_or w.names class [] ++ codes ";"
base_letter w bases.Bool = codes "Z"
base_letter w bases.Byte = codes "B"
base_letter w bases.Char = codes "C"
base_letter w bases.Short = codes "S"
base_letter w bases.Int = codes "I"
base_letter w bases.Long = codes "J"
base_letter w bases.Float = codes "F"
base_letter w bases.Double = codes "D"

-- the name of a class, or the descriptor of an array class, with slashes
abbrev pub slashed_name : World → ℕ → List ℕ
slashed_name w class = by (array_type w class)
  where
    by : Option ArrayType → List ℕ
    by None = get_or w.names class []
    by (Some array) = replicate array.dimensions 91 ++ base_letter w array.base

-- the same with dots
abbrev pub class_name : World → ℕ → List ℕ
class_name w class = map (λ u. if u == 47 then 46 else u) (slashed_name w class)
