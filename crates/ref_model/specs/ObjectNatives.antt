-- The native methods of java.lang.Object but those of monitors.
use Rattle.std.specs.Prelude.{ℕ, pos, Bool, List, [], ◌∷◌, ◌++◌, Option, Some, None, codes, if◌then◌else◌}
use Rattle.std.specs.Option.{option_map_or}
use Rattle.std.specs.Int.{w32, int_wrap}
use Rattle.opcodes.specs.declared.op.ValueKind.TheVariants.{Int, Reference}
use Rattle.instruction_rows.specs.declared.value.Value.{Value}
use Rattle.instruction_rows.specs.declared.value.Value.TheVariants as values
use Rattle.instruction_rows.specs.Comparisons.{same_reference}
use Rattle.link_model.specs.World.{World}
use Rattle.ref_model.specs.declared.exception.Exception.TheVariants as exceptions
use Rattle.ref_model.specs.Classes.{class_name}
use Rattle.ref_model.specs.Memory.{Memory}
use Rattle.ref_model.specs.Heap.{class_at}
use Rattle.ref_model.specs.Texts.{hex_text}
use Rattle.ref_model.specs.NativeRows.{Answer, NativeRow, native, returns, returns_value, fails, gives_text}

-- a boolean as an int
abbrev pub boolean : Bool → Value
boolean b = values.Int (if b then pos 1 else pos 0)

-- Object(): nothing
abbrev pub object_init : Memory → NativeRow
object_init r = native (Reference ∷ []) (λ this. returns r)

-- equals(Object): the same object
abbrev pub object_equals : Memory → NativeRow
object_equals r = native (Reference ∷ Reference ∷ []) (λ other this. returns_value r (boolean (same_reference this other)))

-- hashCode(): the number of the object
abbrev pub identity_hash : Memory → Option ℕ → Answer
identity_hash r None = fails exceptions.NullPointerException
identity_hash r (Some o) = returns_value r (values.Int (int_wrap w32 (pos o)))

abbrev pub object_hash_code : Memory → NativeRow
object_hash_code r = native (Reference ∷ []) (λ this. identity_hash r this)

-- the text of an object whose hash code is this: the name of its class, `@`, and the hash code
abbrev pub described : World → Memory → Option ℕ → List ℕ → Answer
described w r None hash = fails exceptions.NullPointerException
described w r (Some o) hash =
    option_map_or (λ class. gives_text r (class_name w class ++ codes "@" ++ hash)) (class_at w r o) (fails exceptions.VerifyError)

abbrev pub object_to_string : World → Memory → NativeRow
object_to_string w r = native (Int ∷ Reference ∷ []) (λ hash this. described w r this (hex_text hash))
