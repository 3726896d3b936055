-- What the names in a constant pool mean in a program: classes and arrays (JVMS 4.4.1, 5.4.3.1), and descriptors as far as linking
-- looks at them.
use Rattle.std.specs.Prelude.{ℕ, ◌+◌, ◌-◌, Bool, true, false, not, List, [], ◌∷◌, Option, Some, None, codes, length, take, drop, is_some, unwrap_or, slice_get, ◌==◌, ◌&&◌, ◌||◌, if◌then◌else◌}
use Rattle.std.specs.Option.{option_map_or, option_and_then}
use Rattle.std.specs.List.{prefix_len}
use Rattle.class_model.specs.declared.constant.Const.{Const}
use Rattle.class_model.specs.declared.constant.Const.TheVariants.{NameAndType}
use Rattle.class_grammar.specs.Text.{is_one_of}
use Rattle.class_grammar.specs.Pool.{text_at, class_name_at}
use Rattle.class_grammar.specs.Names.{object_class, begins_with}
use Rattle.descriptors.specs.Descriptors.{bracket, semicolon, close_parenthesis, class_letter, unit_slots}
use Rattle.link_rules.specs.Program.{Program, class_named, is_array_name, is_internal}
use Rattle.link_rules.specs.Members.{Key}

-- ---- array classes

-- how many dimensions the array class of this name has
abbrev pub dimensions_of : List ℕ → ℕ
dimensions_of name = prefix_len (λ u. u == bracket) name

-- the descriptor of its last elements
abbrev pub last_element : List ℕ → List ℕ
last_element name = drop (dimensions_of name) name

-- whether a descriptor is that of a class
abbrev pub is_class_descriptor : List ℕ → Bool
is_class_descriptor descriptor = begins_with (codes "L") descriptor

-- the name in the descriptor of a class
abbrev pub name_in : List ℕ → List ℕ
name_in descriptor = take (length descriptor - 2) (drop 1 descriptor)

-- The class that a name means, where it means one: the class itself, or what an array has as its last elements, which is
-- none where they are primitive.
abbrev pub base_name : List ℕ → Option (List ℕ)
base_name name =
    if is_array_name name then (if is_class_descriptor (last_element name) then Some (name_in (last_element name)) else None)
    else Some name

-- ---- classes by name

-- whether the program has the class; an array class counts by its last elements
abbrev pub is_known : Program → List ℕ → Bool
is_known p name = option_map_or (λ base. is_some (class_named p base)) (base_name name) true

-- the class that a name means, or that an array has as its last elements
abbrev pub base_class : Program → List ℕ → Option ℕ
base_class p name = option_and_then (class_named p) (base_name name)

-- whether it is an internal class of the built-in ones, or an array of them
abbrev pub names_internal : Program → List ℕ → Bool
names_internal p name = option_map_or (is_internal p) (base_class p name) false

-- the class in which members of the named one are looked for: an array class has those of Object (JVMS 5.4.3.3)
abbrev pub home_of : Program → List ℕ → Option ℕ
home_of p name = if is_array_name name then class_named p object_class else class_named p name

-- ---- descriptors

-- Going over a descriptor from the left, whether a class name is being read; its letter begins it, and a semicolon ends it.
abbrev pub is_in_name : Bool → ℕ → Bool
is_in_name inside u = if inside then not (u == semicolon) else u == class_letter

-- whether a float or double is among the types of the descriptor
abbrev pub has_floating : Bool → List ℕ → Bool
has_floating inside [] = false
has_floating inside (u ∷ us) = (not inside && is_one_of (codes "DF") u) || has_floating (is_in_name inside u) us

abbrev pub is_floating : List ℕ → Bool
is_floating descriptor = has_floating false descriptor

-- whether it is an array class of floats or doubles
abbrev pub is_floating_array : List ℕ → Bool
is_floating_array name = is_array_name name && is_floating name

-- how many slots begin with this unit, where `array` says that a bracket precedes it
abbrev pub slots_at : Bool → Bool → ℕ → ℕ
slots_at inside array u = if inside || u == bracket then 0 else if array then 1 else unit_slots u

-- how many slots the arguments take that the rest of a descriptor has (JVMS 4.3.3)
abbrev pub slots_in : Bool → Bool → List ℕ → ℕ
slots_in inside array [] = 0
slots_in inside array (u ∷ us) =
    if not inside && u == close_parenthesis then 0
    else slots_at inside array u + slots_in (is_in_name inside u) (not inside && u == bracket) us

-- how many slots the arguments of a method take
abbrev pub argument_slots : List ℕ → ℕ
argument_slots descriptor = slots_in false false (drop 1 descriptor)

-- ---- constants

-- the key that a NameAndType has
abbrev pub key_in : List Const → Const → Key
key_in pool (NameAndType name descriptor) = record { name = unwrap_or (text_at pool name) []; descriptor = unwrap_or (text_at pool descriptor) [] }
key_in pool c = record { name = []; descriptor = [] }

abbrev pub key_at : List Const → ℕ → Key
key_at pool index = option_map_or (key_in pool) (slice_get pool index) (record { name = []; descriptor = [] })

-- the name of the class at an index
abbrev pub name_at : List Const → ℕ → List ℕ
name_at pool index = unwrap_or (class_name_at pool index) []
