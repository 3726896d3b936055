-- A linked world: the classes of a program, and tables by number. Classes have the numbers of their places in the program; after
-- them come the other names of classes that a pool or a descriptor has, and after these the array types. Fields and methods are
-- numbered in the order of the classes, and in a class in the order of its file.
use Rattle.std.specs.Prelude.{ℕ, ◌-◌, List, [], ◌∷◌, Option, Some, None, length, position, slice_get, nat_lt, nat_le, ◌==◌, if◌then◌else◌}
use Rattle.std.specs.Option.{option_and_then, option_map, option_map_or}
use Rattle.stack_maps.specs.declared.types.Base.{Base}
use Rattle.stack_maps.specs.declared.types.Base.TheVariants as bases
use Rattle.stack_maps.specs.declared.types.VType.{VType}
use Rattle.stack_maps.specs.declared.types.VType.TheVariants.{Named}
use Rattle.class_grammar.specs.Text.{same_text}
use Rattle.link_rules.specs.Program.{Program, is_array_name}
use Rattle.link_rules.specs.Constants.{dimensions_of, last_element, name_in}
use Rattle.link_model.specs.declared.members.FieldInfo.{FieldInfo}
use Rattle.link_model.specs.declared.members.MethodInfo.{MethodInfo}
use Rattle.link_model.specs.declared.members.MethodCode.{MethodCode}
use Rattle.link_model.specs.declared.sites.ArrayType.{ArrayType}
use Rattle.link_model.specs.declared.sites.Resolution.{Resolution}

pub record World : Type 0 where
  pub program : Program
  -- the names of classes by number, those of the program first
  pub names : List (List ℕ)
  -- the array types after them
  pub arrays : List ArrayType
  pub fields : List FieldInfo
  pub methods : List MethodInfo
  -- by method, for one without code None
  pub codes : List (Option MethodCode)
  -- by method, and then by instruction
  pub resolutions : List (List Resolution)
  -- by method, and then by row of the exception table: the number of the class that is caught, None for every throwable
  pub catches : List (List (Option ℕ))

-- ---- classes and arrays by number

-- how many classes the program has
abbrev pub class_count : World → ℕ
class_count w = length w.program.classes

-- the number of the class of this name
abbrev pub name_number : World → List ℕ → Option ℕ
name_number w name = position (λ other. same_text other name) w.names

-- the array type with this number
abbrev pub array_type : World → ℕ → Option ArrayType
array_type w n = if nat_lt n (length w.names) then None else slice_get w.arrays (n - length w.names)

-- the type of the objects of the class with this number
abbrev pub class_type : World → ℕ → VType
class_type w n = option_map_or (λ (a : ArrayType). Named a.dimensions a.base) (array_type w n) (Named 0 (bases.Class n))

-- ---- types by name

-- the type that the descriptor of the last elements of an array has
abbrev pub base_of : World → List ℕ → Option Base
base_of w [] = None
base_of w (u ∷ us) =
    if u == 66 then Some bases.Byte  -- B
    else if u == 67 then Some bases.Char  -- C
    else if u == 68 then Some bases.Double  -- D
    else if u == 70 then Some bases.Float  -- F
    else if u == 73 then Some bases.Int  -- I
    else if u == 74 then Some bases.Long  -- J
    else if u == 83 then Some bases.Short  -- S
    else if u == 90 then Some bases.Bool  -- Z
    else option_map bases.Class (name_number w (name_in (u ∷ us)))

-- the array of these dimensions and elements, which has at most 255 dimensions (JVMS 4.4.1)
abbrev pub array_of : ℕ → Base → Option VType
array_of dimensions base = if nat_le dimensions 255 then Some (Named dimensions base) else None

-- the type that the name of an array class means
abbrev pub array_named : World → List ℕ → Option VType
array_named w name = option_and_then (array_of (dimensions_of name)) (base_of w (last_element name))

-- the type that the name of a class or of an array class means
abbrev pub named_type : World → List ℕ → Option VType
named_type w name =
    if is_array_name name then array_named w name
    else option_map (λ n. Named 0 (bases.Class n)) (name_number w name)
