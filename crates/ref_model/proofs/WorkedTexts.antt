-- Texts and native methods at single values, beside the API of java.lang.String, StringBuilder and Object.
use Rattle.std.proofs.Common.{◌≡◌, ℕ, ℤ, pos, negsuc, List, [], ◌∷◌, Some, None, refl}
use Rattle.std.specs.Char.{encode_utf8}
use Rattle.std.specs.Int.{int_wrap}
use Rattle.std.specs.Fmt.{digits}
use Rattle.std.specs.Prelude.{codes}
use Rattle.instruction_rows.specs.declared.value.Value.{Value}
use Rattle.instruction_rows.specs.declared.value.Value.TheVariants.{Int, Null, Ref}
use Rattle.instruction_rows.specs.declared.value.Slot.{Slot}
use Rattle.instruction_rows.specs.declared.value.Slot.TheVariants.{One}
use Rattle.state_model.specs.Objects.{instance, text}
use Rattle.ref_model.specs.declared.exception.Exception.{Exception}
use Rattle.ref_model.specs.declared.exception.Exception.TheVariants as exceptions
use Rattle.ref_model.specs.Memory.{Memory}
use Rattle.ref_model.specs.Texts.{text_bytes, text_hash, decimal_text, hex_text}
use Rattle.ref_model.specs.Effects.{done, throws}
use Rattle.ref_model.specs.NativeRows.{NativeRow, native_acted}
use Rattle.ref_model.specs.ObjectNatives.{object_equals, object_hash_code}
use Rattle.ref_model.specs.StringNatives.{string_length, string_char_at, string_equals, string_concat, string_of_int}
use Rattle.ref_model.specs.BuilderNatives.{append_int, append_string}
use Rattle.ref_model.specs.Printing.{println_int, print_char, print_string, println_nothing, exit}

-- ---- UTF-8

ascii : text_bytes (codes "A?") ≡ codes "A?"
unfolding encode_utf8
ascii = refl

-- é, and the euro sign
two_and_three_bytes : text_bytes (0xe9 ∷ 0x20ac ∷ []) ≡ 0xc3 ∷ 0xa9 ∷ 0xe2 ∷ 0x82 ∷ 0xac ∷ []
unfolding encode_utf8
two_and_three_bytes = refl

-- U+1F600, of the surrogates d83d and de00
four_bytes : text_bytes (0xd83d ∷ 0xde00 ∷ []) ≡ 0xf0 ∷ 0x9f ∷ 0x98 ∷ 0x80 ∷ []
unfolding encode_utf8
four_bytes = refl

-- a surrogate without its partner: a high one at the end, before another high one, before a letter; a low one alone
surrogates_alone : text_bytes (0xdc00 ∷ 0xd800 ∷ 0xd83d ∷ 0xde00 ∷ 0xd800 ∷ 65 ∷ 0xd800 ∷ []) ≡ 63 ∷ 63 ∷ 0xf0 ∷ 0x9f ∷ 0x98 ∷ 0x80 ∷ 63 ∷ 65 ∷ 63 ∷ []
unfolding encode_utf8
surrogates_alone = refl

-- ---- numbers

least_int : decimal_text (negsuc 2147483647) ≡ codes "-2147483648"
unfolding digits
least_int = refl

minus_one_in_hexadecimal : hex_text (negsuc 0) ≡ codes "ffffffff"
unfolding digits
minus_one_in_hexadecimal = refl

hexadecimal_has_no_leading_zeros : hex_text (pos 26) ≡ codes "1a"
unfolding digits
hexadecimal_has_no_leading_zeros = refl

-- 97 times 31, and 98
hash_of_ab : text_hash (codes "ab") ≡ pos 3105
unfolding int_wrap
hash_of_ab = refl

-- it wraps: "polygenelubricants" is known for its hash code
hash_wraps : text_hash (codes "polygenelubricants") ≡ negsuc 2147483647
unfolding int_wrap
hash_wraps = refl

-- ---- natives, in a memory with a builder of no text, the Strings "ab" and "", and room for two cells

abbrev ready : Memory
ready = record {
  heap = instance 7 (Null ∷ []) ∷ text (codes "ab") ∷ text [] ∷ [];
  room = 2;
  statics = [];
  out = [];
  err = [];
  exited = None;
}

abbrev int : ℤ → Slot
int n = One (Int n)

abbrev ref : ℕ → Slot
ref o = One (Ref o)

-- what a native gives, and leaves everything as it is
abbrev Gives : (Memory → NativeRow) → List Slot → Value → Type 0
Gives row stack v = native_acted (row ready) stack ≡ Some (done ready (One v ∷ []))

abbrev Throws : (Memory → NativeRow) → List Slot → Exception → Type 0
Throws row stack e = native_acted (row ready) stack ≡ Some (throws e)

two_units : Gives string_length (ref 1 ∷ []) (Int (pos 2))
two_units = refl

the_second_unit : Gives string_char_at (int (pos 1) ∷ ref 1 ∷ []) (Int (pos 98))
the_second_unit = refl

no_third_unit : Throws string_char_at (int (pos 2) ∷ ref 1 ∷ []) exceptions.StringIndexOutOfBoundsException
no_third_unit = refl

no_unit_before_the_first : Throws string_char_at (int (negsuc 0) ∷ ref 1 ∷ []) exceptions.StringIndexOutOfBoundsException
no_unit_before_the_first = refl

no_string_equals_a_builder : Gives string_equals (ref 0 ∷ ref 1 ∷ []) (Int (pos 0))
no_string_equals_a_builder = refl

no_string_equals_null : Gives string_equals (One Null ∷ ref 1 ∷ []) (Int (pos 0))
no_string_equals_null = refl

-- concat of the empty String gives the String itself, and of null throws
with_nothing_more : Gives string_concat (ref 2 ∷ ref 1 ∷ []) (Ref 1)
with_nothing_more = refl

with_null : Throws string_concat (One Null ∷ ref 1 ∷ []) exceptions.NullPointerException
with_null = refl

-- the number of an object is its hash code
second_object : Gives object_hash_code (ref 1 ∷ []) (Int (pos 1))
unfolding int_wrap
second_object = refl

same_object : Gives object_equals (ref 1 ∷ ref 1 ∷ []) (Int (pos 1))
same_object = refl

-- a new String of three units takes two cells, and there is no room for another
new_string : native_acted (string_of_int ready) (int (pos 120) ∷ []) ≡ Some (done
    (record ready { heap = instance 7 (Null ∷ []) ∷ text (codes "ab") ∷ text [] ∷ text (codes "120") ∷ []; room = 0 })
    (ref 3 ∷ []))
unfolding digits
new_string = refl

no_room : native_acted (string_of_int (record ready { room = 1 })) (int (pos 120) ∷ []) ≡ Some (throws exceptions.OutOfMemoryError)
unfolding digits
no_room = refl

-- append gives the builder back, whose field is a new String
appended_number : native_acted (append_int ready) (int (negsuc 4) ∷ ref 0 ∷ []) ≡ Some (done
    (record ready { heap = instance 7 (Ref 3 ∷ []) ∷ text (codes "ab") ∷ text [] ∷ text (codes "-5") ∷ []; room = 0 })
    (ref 0 ∷ []))
unfolding digits
appended_number = refl

appended_null : native_acted (append_string ready) (One Null ∷ ref 0 ∷ []) ≡ Some (done
    (record ready { heap = instance 7 (Ref 3 ∷ []) ∷ text (codes "ab") ∷ text [] ∷ text (codes "null") ∷ []; room = 0 })
    (ref 0 ∷ []))
appended_null = refl

-- ---- output: object 2 is System.err, and 1 System.out

-- -42 and LF
printed_line : native_acted (println_int ready) (int (negsuc 41) ∷ ref 1 ∷ []) ≡ Some (done (record ready { out = 45 ∷ 52 ∷ 50 ∷ 10 ∷ [] }) [])
unfolding digits encode_utf8
printed_line = refl

printed_on_err : native_acted (print_char ready) (int (pos 65) ∷ ref 2 ∷ []) ≡ Some (done (record ready { err = codes "A" }) [])
unfolding encode_utf8
printed_on_err = refl

printed_null : native_acted (print_string ready) (One Null ∷ ref 1 ∷ []) ≡ Some (done (record ready { out = codes "null" }) [])
unfolding encode_utf8
printed_null = refl

no_stream : Throws println_nothing (One Null ∷ []) exceptions.NullPointerException
no_stream = refl

exited : native_acted (exit ready) (int (negsuc 0) ∷ []) ≡ Some (done (record ready { exited = Some (negsuc 0) }) [])
exited = refl
