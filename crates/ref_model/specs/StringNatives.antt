-- The native methods of java.lang.String.
use Rattle.std.specs.Prelude.{ℕ, ℤ, pos, negsuc, Bool, false, List, [], ◌∷◌, ◌++◌, Option, Some, None, length, slice_get, ◌==◌}
use Rattle.std.specs.Option.{option_map_or}
use Rattle.items.specs.Options.{◌>>=◌}
use Rattle.class_grammar.specs.Text.{same_text}
use Rattle.opcodes.specs.declared.op.ValueKind.TheVariants.{Int, Long, Reference}
use Rattle.instruction_rows.specs.declared.value.Value.TheVariants as values
use Rattle.ref_model.specs.declared.exception.Exception.TheVariants as exceptions
use Rattle.ref_model.specs.Memory.{Memory}
use Rattle.ref_model.specs.Heap.{units_at}
use Rattle.ref_model.specs.Texts.{decimal_text, boolean_text, char_text, text_hash}
use Rattle.ref_model.specs.NativeRows.{Answer, NativeRow, native, returns_value, fails, gives_text, on_text, reference}
use Rattle.ref_model.specs.ObjectNatives.{boolean}

-- length()
abbrev pub string_length : Memory → NativeRow
string_length r = native (Reference ∷ []) (λ this.
    on_text r this (λ units. returns_value r (values.Int (pos (length units)))))

-- charAt(int): an index outside throws StringIndexOutOfBoundsException
abbrev pub unit_at : List ℕ → ℤ → Option ℕ
unit_at units (pos n) = slice_get units n
unit_at units (negsuc n) = None

abbrev pub char_given : Memory → Option ℕ → Answer
char_given r None = fails exceptions.StringIndexOutOfBoundsException
char_given r (Some u) = returns_value r (values.Int (pos u))

abbrev pub string_char_at : Memory → NativeRow
string_char_at r = native (Int ∷ Reference ∷ []) (λ index this.
    on_text r this (λ units. char_given r (unit_at units index)))

-- isEmpty()
abbrev pub string_is_empty : Memory → NativeRow
string_is_empty r = native (Reference ∷ []) (λ this.
    on_text r this (λ units. returns_value r (boolean (length units == 0))))

-- equals(Object): a String of the same units
abbrev pub is_text : List ℕ → Option (List ℕ) → Bool
is_text units other = option_map_or (same_text units) other false

abbrev pub string_equals : Memory → NativeRow
string_equals r = native (Reference ∷ Reference ∷ []) (λ other this.
    on_text r this (λ units. returns_value r (boolean (is_text units (other >>= units_at r)))))

-- hashCode()
abbrev pub string_hash_code : Memory → NativeRow
string_hash_code r = native (Reference ∷ []) (λ this.
    on_text r this (λ units. returns_value r (values.Int (text_hash units))))

-- concat(String): this String where the other is empty, else a new one
abbrev pub concatenated : Memory → Option ℕ → List ℕ → List ℕ → Answer
concatenated r this units [] = returns_value r (reference this)
concatenated r this units (u ∷ others) = gives_text r (units ++ u ∷ others)

abbrev pub string_concat : Memory → NativeRow
string_concat r = native (Reference ∷ Reference ∷ []) (λ other this.
    on_text r this (λ units. on_text r other (concatenated r this units)))

-- toString(): this String
abbrev pub string_to_string : Memory → NativeRow
string_to_string r = native (Reference ∷ []) (λ this. on_text r this (λ units. returns_value r (reference this)))

-- valueOf of an int, a long, a char and a boolean: a new String
abbrev pub string_of_int : Memory → NativeRow
string_of_int r = native (Int ∷ []) (λ n. gives_text r (decimal_text n))

abbrev pub string_of_long : Memory → NativeRow
string_of_long r = native (Long ∷ []) (λ n. gives_text r (decimal_text n))

abbrev pub string_of_char : Memory → NativeRow
string_of_char r = native (Int ∷ []) (λ n. gives_text r (char_text n))

abbrev pub string_of_boolean : Memory → NativeRow
string_of_boolean r = native (Int ∷ []) (λ n. gives_text r (boolean_text n))
