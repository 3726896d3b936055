-- The native methods of java.io.PrintStream and System.exit. One call writes one text, in UTF-8.
use Rattle.std.specs.Prelude.{ℕ, List, [], ◌∷◌, ◌++◌, Option, Some, None, ◌==◌, if◌then◌else◌}
use Rattle.opcodes.specs.declared.op.ValueKind.TheVariants.{Int, Long, Reference}
use Rattle.ref_model.specs.declared.exception.Exception.TheVariants as exceptions
use Rattle.ref_model.specs.Memory.{Memory}
use Rattle.ref_model.specs.Texts.{text_bytes, decimal_text, boolean_text, char_text, null_text}
use Rattle.ref_model.specs.NativeRows.{Answer, NativeRow, native, returns, fails, on_text_or}

-- the number of System.err; every other stream is System.out (own: no program makes one)
abbrev pub err_stream : ℕ
err_stream = 2

abbrev pub out_stream : ℕ
out_stream = 1

-- these units more on a stream
abbrev pub written : Memory → Option ℕ → List ℕ → Answer
written r None units = fails exceptions.NullPointerException
written r (Some stream) units =
    returns (if stream == err_stream then record r { err = r.err ++ text_bytes units } else record r { out = r.out ++ text_bytes units })

-- a line ends with LF
abbrev pub line : List ℕ → List ℕ
line units = units ++ 10 ∷ []

-- ---- println

abbrev pub println_nothing : Memory → NativeRow
println_nothing r = native (Reference ∷ []) (λ stream. written r stream (line []))

abbrev pub println_int : Memory → NativeRow
println_int r = native (Int ∷ Reference ∷ []) (λ n stream. written r stream (line (decimal_text n)))

abbrev pub println_long : Memory → NativeRow
println_long r = native (Long ∷ Reference ∷ []) (λ n stream. written r stream (line (decimal_text n)))

abbrev pub println_char : Memory → NativeRow
println_char r = native (Int ∷ Reference ∷ []) (λ n stream. written r stream (line (char_text n)))

abbrev pub println_boolean : Memory → NativeRow
println_boolean r = native (Int ∷ Reference ∷ []) (λ n stream. written r stream (line (boolean_text n)))

abbrev pub println_string : Memory → NativeRow
println_string r = native (Reference ∷ Reference ∷ []) (λ text stream.
    on_text_or null_text r text (λ units. written r stream (line units)))

-- ---- print

abbrev pub print_int : Memory → NativeRow
print_int r = native (Int ∷ Reference ∷ []) (λ n stream. written r stream (decimal_text n))

abbrev pub print_long : Memory → NativeRow
print_long r = native (Long ∷ Reference ∷ []) (λ n stream. written r stream (decimal_text n))

abbrev pub print_char : Memory → NativeRow
print_char r = native (Int ∷ Reference ∷ []) (λ n stream. written r stream (char_text n))

abbrev pub print_boolean : Memory → NativeRow
print_boolean r = native (Int ∷ Reference ∷ []) (λ n stream. written r stream (boolean_text n))

abbrev pub print_string : Memory → NativeRow
print_string r = native (Reference ∷ Reference ∷ []) (λ text stream. on_text_or null_text r text (written r stream))

-- ---- System.exit: the program has ended with this status

abbrev pub exit : Memory → NativeRow
exit r = native (Int ∷ []) (λ status. returns (record r { exited = Some status }))
