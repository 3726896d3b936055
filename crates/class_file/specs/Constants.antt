-- The constant pool, read from front to back (JVMS 4.4).
use Rattle.std.specs.Prelude.{ℕ, ◌-◌, Bool, true, false, not, List, ◌∷◌, length, Result, Ok, Err, ◌==◌, ◌&&◌, ◌||◌, if◌then◌else◌}
use Rattle.std.specs.Int.{w32, w64, cast_signed}
use Rattle.byte_reader.specs.declared.fault.Fault.{Fault}
use Rattle.byte_reader.specs.Reader.{◌>>=◌, fault_at, both, map_value, verify, list_by}
use Rattle.class_model.specs.declared.tags.TheConstants.{TAG_UTF8, TAG_INTEGER, TAG_FLOAT, TAG_LONG, TAG_DOUBLE, TAG_CLASS, TAG_STRING, TAG_FIELDREF, TAG_METHODREF, TAG_INTERFACE_METHODREF, TAG_NAME_AND_TYPE, TAG_METHOD_HANDLE, TAG_METHOD_TYPE, TAG_DYNAMIC, TAG_INVOKE_DYNAMIC, TAG_MODULE, TAG_PACKAGE}
use Rattle.class_model.specs.declared.constant.Const.{Const}
use Rattle.class_model.specs.declared.constant.Const.TheVariants.{Unused, Utf8, Integer, Float, Long, Double, Class, Text, Fieldref, Methodref, InterfaceMethodref, NameAndType, MethodHandle, MethodType, Dynamic, InvokeDynamic, Module, Package}
use Rattle.jvm_utf8.specs.Units as utf8
use Rattle.class_grammar.specs.declared.class_why.ClassWhy.{ClassWhy}
use Rattle.class_grammar.specs.declared.class_why.ClassWhy.TheVariants as whys
use Rattle.class_grammar.specs.Ranges.{is_wide}
use Rattle.class_file.specs.Numbers.{ClassReader, u1_at, u2_at, u4_at, u8_at, pair_at, run_at}

-- the units of a text, or its first bad unit, where so many bytes are left before the text
abbrev pub units_of : ℕ → Result (List ℕ) ℕ → Result (List ℕ) (Fault ClassWhy)
units_of left (Ok units) = Ok units
units_of left (Err at) = Err (record { left = left - at; why = whys.Utf8 })

-- a length in two bytes, and a text of that many bytes (JVMS 4.4.7)
unfoldable pub text_at : ClassReader (List ℕ)
text_at bytes = do
  n ← u2_at bytes
  text ← run_at n.0 n.1
  units ← units_of (length n.1) (utf8.units_of text.0)
  Ok (units, text.1)

abbrev pub pair_as : (ℕ → ℕ → Const) → ClassReader Const
pair_as f bytes = map_value (λ (p : ℕ × ℕ). f p.0 p.1) pair_at bytes

-- The constant after a tag (JVMS 4.4, table 4.4-A). No constant has any other tag, which is the fault `unknown`.
unfoldable pub tagged_at : Fault ClassWhy → ℕ → ClassReader Const
tagged_at unknown tag bytes =
    if tag == TAG_UTF8 then map_value Utf8 text_at bytes
    else if tag == TAG_INTEGER then map_value (λ n. Integer (cast_signed w32 n)) u4_at bytes
    else if tag == TAG_FLOAT then map_value Float u4_at bytes
    else if tag == TAG_LONG then map_value (λ n. Long (cast_signed w64 n)) u8_at bytes
    else if tag == TAG_DOUBLE then map_value Double u8_at bytes
    else if tag == TAG_CLASS then map_value Class u2_at bytes
    else if tag == TAG_STRING then map_value Text u2_at bytes
    else if tag == TAG_FIELDREF then pair_as Fieldref bytes
    else if tag == TAG_METHODREF then pair_as Methodref bytes
    else if tag == TAG_INTERFACE_METHODREF then pair_as InterfaceMethodref bytes
    else if tag == TAG_NAME_AND_TYPE then pair_as NameAndType bytes
    else if tag == TAG_METHOD_HANDLE then map_value (λ (p : ℕ × ℕ). MethodHandle p.0 p.1) (both u1_at u2_at) bytes
    else if tag == TAG_METHOD_TYPE then map_value MethodType u2_at bytes
    else if tag == TAG_DYNAMIC then pair_as Dynamic bytes
    else if tag == TAG_INVOKE_DYNAMIC then pair_as InvokeDynamic bytes
    else if tag == TAG_MODULE then map_value Module u2_at bytes
    else if tag == TAG_PACKAGE then map_value Package u2_at bytes
    else Err unknown

-- the tags of Long and Double, which take two entries
abbrev pub is_wide_tag : ℕ → Bool
is_wide_tag tag = tag == TAG_LONG || tag == TAG_DOUBLE

-- A constant, where so many entries follow. A Long or a Double needs one of them (JVMS 4.4.5).
unfoldable pub constant_at : ℕ → ClassReader Const
constant_at more bytes = do
  tag ← u1_at bytes
  if is_wide_tag tag.0 && more == 0 then Err (fault_at bytes whys.Count) else tagged_at (fault_at bytes whys.Tag) tag.0 tag.1

-- an entry of the pool, which takes no bytes after a Long or a Double
abbrev pub entry_at : Bool → ℕ → ClassReader Const
entry_at true more bytes = Ok (Unused, bytes)
entry_at false more bytes = constant_at more bytes

abbrev pub next_entry : Bool → Const → Bool
next_entry behind c = is_wide c

-- that many entries; `behind` says that they follow a Long or a Double
unfoldable pub entries_at : Bool → ℕ → ClassReader (List Const)
entries_at behind n bytes = list_by entry_at next_entry behind n bytes

-- entry 0, which isn't used, and that many entries after it
abbrev pub all_entries_at : ℕ → ClassReader (List Const)
all_entries_at n bytes = map_value (λ entries. Unused ∷ entries) (entries_at false n) bytes

-- the pool after the number of its entries (JVMS 4.1)
unfoldable pub pool_at : ClassReader (List Const)
pool_at bytes = do
  count ← verify (λ n. not (n == 0)) whys.Count u2_at bytes
  all_entries_at (count.0 - 1) count.1
