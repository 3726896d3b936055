-- The numbers of classes and array types. A class of the program has the number of its place there. After these come the other
-- names of classes that a pool or a descriptor has, in the order in which they are met. After these come the array types: those that a
-- pool or a descriptor has, those that newarray and anewarray make, and the types of their elements. They are grouped by the type of
-- their last elements, and in a group those of fewer dimensions come first.
use Rattle.std.specs.Prelude.{ℕ, zero, suc, ◌+◌, ◌-◌, List, [], ◌∷◌, ◌++◌, Option, Some, None, length, map, take, position, is_some, unwrap_or, get_or, slice_set, max, min, replicate, nat_lt, nat_le, ◌==◌, ◌&&◌, if◌then◌else◌}
use Rattle.std.specs.Option.{option_map, option_map_or, option_to_list}
use Rattle.std.specs.List.{flat_map, fold, enumerate_from, sum}
use Rattle.class_model.specs.declared.constant.Const.{Const}
use Rattle.class_model.specs.declared.constant.Const.TheVariants.{Class, NameAndType, MethodType}
use Rattle.class_model.specs.declared.member.Member.{Member}
use Rattle.class_model.specs.declared.class_file.ClassFile.{ClassFile}
use Rattle.class_grammar.specs.Text.{same_text}
use Rattle.class_grammar.specs.Names.{is_like_method}
use Rattle.class_grammar.specs.Pool.{text_at}
use Rattle.descriptors.specs.declared.kind.ElementType.{ElementType}
use Rattle.descriptors.specs.declared.kind.ElementType.TheVariants as elements
use Rattle.descriptors.specs.declared.kind.Kind.{Kind}
use Rattle.descriptors.specs.declared.kind.Signature.{Signature}
use Rattle.descriptors.specs.Meaning.{kind_of, signature_of}
use Rattle.opcodes.specs.declared.op.Primitive.{Primitive}
use Rattle.opcodes.specs.declared.op.Primitive.TheVariants as primitives
use Rattle.opcodes.specs.declared.op.Op.{Op}
use Rattle.opcodes.specs.declared.op.Op.TheVariants.{NewArray, ANewArray}
use Rattle.opcodes.specs.declared.op.Instr.{Instr}
use Rattle.stack_maps.specs.declared.types.Base.{Base}
use Rattle.stack_maps.specs.declared.types.Base.TheVariants as bases
use Rattle.link_rules.specs.Program.{Program, own_name, is_array_name}
use Rattle.link_rules.specs.Constants.{name_at}
use Rattle.link_model.specs.declared.sites.ArrayType.{ArrayType}
use Rattle.link_model.specs.Codes.{instructions_of}

-- ---- the types that a file names

-- the type that the constant of a class means, by its name (JVMS 4.4.1)
abbrev pub kind_named : List ℕ → Kind
kind_named name = if is_array_name name then kind_of name else record { dimensions = 0; element = elements.Class name }

abbrev pub kinds_in_signature : Signature → List Kind
kinds_in_signature s = s.args ++ option_to_list s.result

-- those in the descriptor of a field or a method
abbrev pub kinds_in_descriptor : List ℕ → List Kind
kinds_in_descriptor text = if is_like_method text then kinds_in_signature (signature_of text) else kind_of text ∷ []

abbrev pub kinds_at : List Const → ℕ → List Kind
kinds_at pool index = option_map_or kinds_in_descriptor (text_at pool index) []

abbrev pub kinds_in_constant : List Const → Const → List Kind
kinds_in_constant pool (Class name) = option_to_list (option_map kind_named (text_at pool name))
kinds_in_constant pool (NameAndType name descriptor) = kinds_at pool descriptor
kinds_in_constant pool (MethodType descriptor) = kinds_at pool descriptor
kinds_in_constant pool c = []

abbrev pub kinds_in_member : List Const → Member → List Kind
kinds_in_member pool m = kinds_at pool m.descriptor

-- the elements of an array that newarray creates
abbrev pub element_of_primitive : Primitive → ElementType
element_of_primitive primitives.Boolean = elements.Bool
element_of_primitive primitives.Char = elements.Char
element_of_primitive primitives.Float = elements.Float
element_of_primitive primitives.Double = elements.Double
element_of_primitive primitives.Byte = elements.Byte
element_of_primitive primitives.Short = elements.Short
element_of_primitive primitives.Int = elements.Int
element_of_primitive primitives.Long = elements.Long

-- the array of such elements
abbrev pub array_of_primitive : Primitive → Kind
array_of_primitive primitive = record { dimensions = 1; element = element_of_primitive primitive }

-- An array of arrays has one dimension more, and 255 at most.
abbrev pub array_of_kind : Kind → Kind
array_of_kind kind = record { dimensions = min (kind.dimensions + 1) 255; element = kind.element }

-- the array that an instruction makes of another class than a constant's
abbrev pub kinds_in_op : List Const → Op → List Kind
kinds_in_op pool (NewArray primitive) = array_of_primitive primitive ∷ []
kinds_in_op pool (ANewArray index) = array_of_kind (kind_named (name_at pool index)) ∷ []
kinds_in_op pool op = []

abbrev pub kinds_in_instr : List Const → Instr → List Kind
kinds_in_instr pool i = kinds_in_op pool i.op

abbrev pub kinds_in_code : List Const → Member → List Kind
kinds_in_code pool m = flat_map (kinds_in_instr pool) (instructions_of m)

abbrev pub kinds_in_file : ClassFile → List Kind
kinds_in_file f =
    flat_map (kinds_in_constant f.pool) f.pool
    ++ flat_map (kinds_in_member f.pool) f.fields
    ++ flat_map (kinds_in_member f.pool) f.methods
    ++ flat_map (kinds_in_code f.pool) f.methods

abbrev pub kinds_of : Program → List Kind
kinds_of p = flat_map kinds_in_file p.classes

-- ---- names

abbrev pub number_of : List (List ℕ) → List ℕ → Option ℕ
number_of names name = position (λ other. same_text other name) names

-- with one name more, unless it is there
abbrev pub with_name : List (List ℕ) → List ℕ → List (List ℕ)
with_name names name = if is_some (number_of names name) then names else names ++ name ∷ []

-- ---- array types

-- The types that are no arrays in order: the eight primitive ones, and after them the classes.
abbrev pub element_index : List (List ℕ) → ElementType → ℕ
element_index names elements.Bool = 0
element_index names elements.Byte = 1
element_index names elements.Char = 2
element_index names elements.Short = 3
element_index names elements.Int = 4
element_index names elements.Long = 5
element_index names elements.Float = 6
element_index names elements.Double = 7
element_index names (elements.Class name) = 8 + unwrap_or (number_of names name) (length names)

abbrev pub base_at : ℕ → Base
base_at index =
    if index == 0 then bases.Bool
    else if index == 1 then bases.Byte
    else if index == 2 then bases.Char
    else if index == 3 then bases.Short
    else if index == 4 then bases.Int
    else if index == 5 then bases.Long
    else if index == 6 then bases.Float
    else if index == 7 then bases.Double
    else bases.Class (index - 8)

-- The names of classes, those of the program first; and by the order of the types that are no arrays the greatest number of dimensions of
-- an array of such elements.
pub record Numbering : Type 0 where
  pub names : List (List ℕ)
  pub depths : List ℕ

-- with one name more, unless it is there
abbrev pub with_class : Numbering → List ℕ → Numbering
with_class n name =
    if is_some (number_of n.names name) then n else record { names = n.names ++ name ∷ []; depths = n.depths ++ 0 ∷ [] }

abbrev pub with_element : Numbering → ElementType → Numbering
with_element n (elements.Class name) = with_class n name
with_element n element = n

-- with an array of these elements and dimensions
abbrev pub deeper : Numbering → ElementType → ℕ → Numbering
deeper n element dimensions =
    let index = element_index n.names element in
    record { names = n.names; depths = slice_set n.depths index (max (get_or n.depths index 0) dimensions) }

abbrev pub with_kind : Numbering → Kind → Numbering
with_kind n kind = deeper (with_element n kind.element) kind.element kind.dimensions

-- the classes of the program alone
abbrev pub first_numbers : Program → Numbering
first_numbers p = record { names = map own_name p.classes; depths = replicate (8 + length p.classes) 0 }

abbrev pub numbering_of : Program → Numbering
numbering_of p = fold with_kind (first_numbers p) (kinds_of p)

-- the array types of at most n dimensions
abbrev pub arrays_of_base : Base → ℕ → List ArrayType
arrays_of_base base zero = []
arrays_of_base base (suc n) = arrays_of_base base n ++ record { dimensions = suc n; base = base } ∷ []

abbrev pub arrays_of : List ℕ → List ArrayType
arrays_of depths = flat_map (λ x. arrays_of_base (base_at x.0) x.1) (enumerate_from 0 depths)

-- ---- numbers

-- the number of an array type; it has none if no array of such elements is as deep
abbrev pub array_number : Numbering → Kind → Option ℕ
array_number n kind =
    let index = element_index n.names kind.element in
    if nat_lt 0 kind.dimensions && nat_le kind.dimensions (get_or n.depths index 0)
    then Some (length n.names + sum (take index n.depths) + (kind.dimensions - 1))
    else None

-- the number of a class, by its name in a constant
abbrev pub class_number : Numbering → List ℕ → Option ℕ
class_number n name = if is_array_name name then array_number n (kind_of name) else number_of n.names name
