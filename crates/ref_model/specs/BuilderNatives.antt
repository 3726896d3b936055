-- The native methods of java.lang.StringBuilder. A builder has one field, the String of its text so far; null is the empty text. What
-- appends makes a new String.
use Rattle.std.specs.Prelude.{ℕ, pos, List, [], ◌∷◌, ◌++◌, Option, Some, None, length, slice_get}
use Rattle.items.specs.Options.{◌>>=◌}
use Rattle.opcodes.specs.declared.op.ValueKind.TheVariants.{Int, Long, Reference}
use Rattle.instruction_rows.specs.declared.value.Value.{Value}
use Rattle.instruction_rows.specs.declared.value.Value.TheVariants as values
use Rattle.ref_model.specs.declared.exception.Exception.TheVariants as exceptions
use Rattle.ref_model.specs.Memory.{Memory}
use Rattle.ref_model.specs.Heap.{units_at, values_at, with_value, with_text}
use Rattle.ref_model.specs.Texts.{decimal_text, boolean_text, char_text, null_text}
use Rattle.ref_model.specs.NativeRows.{Answer, NativeRow, native, returns, returns_value, fails, gives_text, on_units, on_text_or}

-- the text of a builder
abbrev pub text_in : Memory → Value → Option (List ℕ)
text_in r values.Null = Some []
text_in r (values.Ref o) = units_at r o
text_in r v = None

abbrev pub builder_text : Memory → ℕ → Option (List ℕ)
builder_text r o = values_at r o >>= λ fields. slice_get fields 0 >>= text_in r

abbrev pub on_builder : Memory → Option ℕ → (ℕ → List ℕ → Answer) → Answer
on_builder r None act = fails exceptions.NullPointerException
on_builder r (Some o) act = on_units (builder_text r o) (act o)

-- the builder has the new String now, and is the result
abbrev pub builder_given : ℕ → Option Memory → Answer
builder_given o None = fails exceptions.VerifyError
builder_given o (Some r) = returns_value r (values.Ref o)

abbrev pub builder_with : ℕ → Option (Memory × ℕ) → Answer
builder_with o None = fails exceptions.OutOfMemoryError
builder_with o (Some x) = builder_given o (with_value x.0 o 0 (values.Ref x.1))

-- the builder with these units more
abbrev pub appended : Memory → Option ℕ → List ℕ → Answer
appended r this units = on_builder r this (λ o before. builder_with o (with_text r (before ++ units)))

-- StringBuilder(): nothing, since the field is null
abbrev pub builder_init : Memory → NativeRow
builder_init r = native (Reference ∷ []) (λ this. returns r)

-- append of an int, a long, a char, a boolean and a String
abbrev pub append_int : Memory → NativeRow
append_int r = native (Int ∷ Reference ∷ []) (λ n this. appended r this (decimal_text n))

abbrev pub append_long : Memory → NativeRow
append_long r = native (Long ∷ Reference ∷ []) (λ n this. appended r this (decimal_text n))

abbrev pub append_char : Memory → NativeRow
append_char r = native (Int ∷ Reference ∷ []) (λ n this. appended r this (char_text n))

abbrev pub append_boolean : Memory → NativeRow
append_boolean r = native (Int ∷ Reference ∷ []) (λ n this. appended r this (boolean_text n))

abbrev pub append_string : Memory → NativeRow
append_string r = native (Reference ∷ Reference ∷ []) (λ text this. on_text_or null_text r text (appended r this))

-- length()
abbrev pub builder_length : Memory → NativeRow
builder_length r = native (Reference ∷ []) (λ this.
    on_builder r this (λ o units. returns_value r (values.Int (pos (length units)))))

-- toString(): a new String
abbrev pub builder_to_string : Memory → NativeRow
builder_to_string r = native (Reference ∷ []) (λ this. on_builder r this (λ o units. gives_text r units))
