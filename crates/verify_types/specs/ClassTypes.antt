-- The verification types that names, descriptors and constants mean (JVMS 4.10.1.2), by numbers of the world.
use Rattle.std.specs.Prelude.{ℕ, List, Option, Some, codes, length, unwrap_or, ◌==◌, if◌then◌else◌}
use Rattle.class_grammar.specs.Names.{object_class}
use Rattle.descriptors.specs.declared.kind.ElementType.{ElementType}
use Rattle.descriptors.specs.declared.kind.ElementType.TheVariants as elements
use Rattle.descriptors.specs.declared.kind.Kind.{Kind}
use Rattle.opcodes.specs.declared.op.Primitive.{Primitive}
use Rattle.opcodes.specs.declared.op.Primitive.TheVariants as primitives
use Rattle.stack_maps.specs.declared.types.Base.{Base}
use Rattle.stack_maps.specs.declared.types.Base.TheVariants as bases
use Rattle.stack_maps.specs.declared.types.VType.{VType}
use Rattle.stack_maps.specs.declared.types.VType.TheVariants as types
use Rattle.instruction_rows.specs.declared.value.Value.{Value}
use Rattle.instruction_rows.specs.declared.value.Value.TheVariants as values
use Rattle.link_model.specs.World.{World, name_number}
use Rattle.link_model.specs.Pools.{pool_type}

-- ---- types of a stack map

-- What a type means in the code of a class: a constant of its pool becomes the class that it names, and every other type is
-- itself. It is undefined where the constant isn't a class.
abbrev pub resolve : World → ℕ → VType → Option VType
resolve w class (types.Object index) = pool_type w class index
resolve w class t = Some t

-- ---- types by name

-- The class of this name. A linked world has a number for each name that a pool or a descriptor has; a name that it doesn't have
-- is given a number of no class.
abbrev pub base_numbered : World → Option ℕ → Base
base_numbered w found = bases.Class (unwrap_or found (length w.names))

abbrev pub base_named : World → List ℕ → Base
base_named w name = base_numbered w (name_number w name)

abbrev pub type_named : World → List ℕ → VType
type_named w name = types.Named 0 (base_named w name)

abbrev pub object_type : World → VType
object_type w = type_named w object_class

abbrev pub string_type : World → VType
string_type w = type_named w (codes "java/lang/String")

abbrev pub throwable_type : World → VType
throwable_type w = type_named w (codes "java/lang/Throwable")

-- ---- types of descriptors (JVMS 4.3.2): boolean, byte, char and short are ints, but not as elements of an array

abbrev pub base_of_element : World → ElementType → Base
base_of_element w elements.Byte = bases.Byte
base_of_element w elements.Char = bases.Char
base_of_element w elements.Double = bases.Double
base_of_element w elements.Float = bases.Float
base_of_element w elements.Int = bases.Int
base_of_element w elements.Long = bases.Long
base_of_element w elements.Short = bases.Short
base_of_element w elements.Bool = bases.Bool
base_of_element w (elements.Class name) = base_named w name

abbrev pub type_of_element : World → ElementType → VType
type_of_element w elements.Byte = types.Int
type_of_element w elements.Char = types.Int
type_of_element w elements.Double = types.Double
type_of_element w elements.Float = types.Float
type_of_element w elements.Int = types.Int
type_of_element w elements.Long = types.Long
type_of_element w elements.Short = types.Int
type_of_element w elements.Bool = types.Int
type_of_element w (elements.Class name) = type_named w name

abbrev pub type_of_kind : World → Kind → VType
type_of_kind w kind =
    if kind.dimensions == 0 then type_of_element w kind.element
    else types.Named kind.dimensions (base_of_element w kind.element)

-- ---- types of instructions

-- the elements of an array that newarray creates
abbrev pub base_of_primitive : Primitive → Base
base_of_primitive primitives.Boolean = bases.Bool
base_of_primitive primitives.Char = bases.Char
base_of_primitive primitives.Float = bases.Float
base_of_primitive primitives.Double = bases.Double
base_of_primitive primitives.Byte = bases.Byte
base_of_primitive primitives.Short = bases.Short
base_of_primitive primitives.Int = bases.Int
base_of_primitive primitives.Long = bases.Long

-- a constant that is pushed; the only objects among them are Strings
abbrev pub type_of_value : World → Value → VType
type_of_value w (values.Int n) = types.Int
type_of_value w (values.Long n) = types.Long
type_of_value w values.Null = types.Null
type_of_value w (values.Ref object) = string_type w
