-- Which words may name a class, a field or a method, and which are their descriptors (JVMS 4.2, 4.3). Words are ASCII,
-- so their bytes are their units.
use Rattle.std.specs.Prelude.{ℕ, Bool, true, List, Option, Some, None, ◌&&◌, nat_lt, if◌then◌else◌}
use Rattle.std.specs.List.{list_all}
use Rattle.items.specs.Options.{◌>>=◌}
use Rattle.class_model.specs.declared.constant.Const.{Const}
use Rattle.descriptors.specs.States.{is_field, is_method}
use Rattle.class_grammar.specs.Names.{is_class_text, is_field_name, is_method_name}
use Rattle.asm_text.specs.declared.instruction.Operands.{Operands}
use Rattle.asm_text.specs.declared.instruction.Operands.TheVariants as operands
use Rattle.asm_text.specs.declared.line.FrameType.{FrameType}
use Rattle.asm_text.specs.declared.line.FrameType.TheVariants as types
use Rattle.asm_pool.specs.Mentions.{Mention}
use Rattle.asm_pool.specs.Mentions as pools

abbrev pub is_field_of : List ℕ → List ℕ → Bool
is_field_of name descriptor = is_field_name name && is_field descriptor

abbrev pub is_method_of : List ℕ → List ℕ → Bool
is_method_of name descriptor = is_method_name name && is_method descriptor

-- getstatic to putfield name fields, and the others methods
abbrev pub is_member_of : ℕ → List ℕ → List ℕ → Bool
is_member_of opcode name descriptor =
    if nat_lt opcode 182 then is_field_of name descriptor else is_method_of name descriptor

-- whether what an instruction names has such names
abbrev pub is_sound : ℕ → Operands → Bool
is_sound opcode (operands.Member class name descriptor) = is_class_text class && is_member_of opcode name descriptor
is_sound opcode (operands.Class name) = is_class_text name
is_sound opcode (operands.Dimensions name n) = is_class_text name
is_sound opcode other = true

abbrev pub is_sound_type : FrameType → Bool
is_sound_type (types.Ref name) = is_class_text name
is_sound_type other = true

abbrev pub are_sound_types : List FrameType → Bool
are_sound_types ts = list_all is_sound_type ts

-- the index of a class, whose name is one
abbrev pub class_at : List ℕ → List Const → Mention
class_at name pool = if is_class_text name then pools.class name pool else None

-- the indexes of a name and a descriptor
abbrev pub names_at : List ℕ → List ℕ → List Const → Option ((ℕ × ℕ) × List Const)
names_at name descriptor pool = do
  n ← pools.text name pool
  d ← pools.text descriptor n.1
  Some ((n.0, d.0), d.1)
