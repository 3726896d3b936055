-- Which classes and array classes are below others, by their numbers (JVMS 6.5: checkcast, instanceof, aastore).
use Rattle.std.specs.Prelude.{ℕ, Bool, true, false, List, Option, codes, is_some, nat_le, nat_lt, unwrap_or, ◌==◌, ◌&&◌, ◌||◌, if◌then◌else◌}
use Rattle.std.specs.Option.{option_map_or}
use Rattle.class_grammar.specs.Names.{object_class}
use Rattle.link_rules.specs.Hierarchy.{is_below}
use Rattle.stack_maps.specs.declared.types.Base.{Base}
use Rattle.stack_maps.specs.declared.types.Base.TheVariants as bases
use Rattle.link_model.specs.declared.sites.ArrayType.{ArrayType}
use Rattle.link_model.specs.World.{World, array_type, class_count, name_number}

-- ---- what is above each array class

-- whether the number that was found, if any, is this one
abbrev pub is_number : Option ℕ → ℕ → Bool
is_number found class = option_map_or (λ n. n == class) found false

-- whether this is the number of the class of that name
abbrev pub is_named : World → List ℕ → ℕ → Bool
is_named w name class = is_number (name_number w name) class

abbrev pub is_object : World → ℕ → Bool
is_object w class = is_named w object_class class

-- the class and the interfaces above each array class (JVMS 4.10.1.2, JLS 4.10.3)
abbrev pub is_above_arrays : World → ℕ → Bool
is_above_arrays w class =
    is_object w class || is_named w (codes "java/lang/Cloneable") class || is_named w (codes "java/io/Serializable") class

abbrev pub is_array_super : World → Base → Bool
is_array_super w (bases.Class class) = is_above_arrays w class
is_array_super w base = false

-- ---- classes and array classes

abbrev pub is_array : World → ℕ → Bool
is_array w class = is_some (array_type w class)

-- a class as the type of its objects: one that is no array class has no dimensions
abbrev pub type_of : World → ℕ → ArrayType
type_of w class = unwrap_or (array_type w class) (record { dimensions = 0; base = bases.Class class })

abbrev pub same_primitive : Base → Base → Bool
same_primitive bases.Bool bases.Bool = true
same_primitive bases.Byte bases.Byte = true
same_primitive bases.Char bases.Char = true
same_primitive bases.Short bases.Short = true
same_primitive bases.Int bases.Int = true
same_primitive bases.Long bases.Long = true
same_primitive bases.Float bases.Float = true
same_primitive bases.Double bases.Double = true
same_primitive a b = false

-- A class is below itself, its superclasses and its superinterfaces (JLS 4.10.2). A class that isn't in the program, named by a
-- descriptor or a map alone, counts as one whose only superclass is Object.
abbrev pub class_below : World → ℕ → ℕ → Bool
class_below w a b = a == b || is_below w.program a b || (nat_le (class_count w) a && is_object w b)

-- of two types of last elements: a primitive type is below itself alone
abbrev pub base_below : World → Base → Base → Bool
base_below w (bases.Class a) (bases.Class b) = class_below w a b
base_below w a b = same_primitive a b

-- Of two types: with as many dimensions, where their last elements are below one another; with more dimensions, where the other has as
-- last elements what is above each array class: Object, Cloneable or Serializable.
abbrev pub type_below : World → ArrayType → ArrayType → Bool
type_below w a b =
    if a.dimensions == b.dimensions then base_below w a.base b.base
    else nat_lt b.dimensions a.dimensions && is_array_super w b.base

-- whether the objects of class a are instances of b
abbrev pub is_sub : World → ℕ → ℕ → Bool
is_sub w a b = type_below w (type_of w a) (type_of w b)
