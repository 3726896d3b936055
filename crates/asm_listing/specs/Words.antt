-- The words for labels and for entries of the constant pool. What has none is not listed.
use Rattle.std.specs.Prelude.{ℕ, ℤ, pos, ◌+ℤ◌, int_lt, unsigned_abs, List, ◌++◌, codes, decimal, Option, Some, None, slice_get, nat_lt, ◌==◌, ◌||◌, if◌then◌else◌}
use Rattle.std.specs.List.{list_all}
use Rattle.items.specs.Options.{◌>>=◌}
use Rattle.class_model.specs.declared.constant.Const.{Const}
use Rattle.class_model.specs.declared.constant.Const.TheVariants.{Integer, Long, Text, Fieldref, Methodref, InterfaceMethodref, NameAndType}
use Rattle.class_grammar.specs.Pool.{text_at, class_name_at}
use Rattle.asm_text.specs.declared.instruction.Operands.{Operands}
use Rattle.asm_text.specs.declared.instruction.Operands.TheVariants as operands
use Rattle.asm_text.specs.declared.instruction.Constant.{Constant}
use Rattle.asm_text.specs.declared.instruction.Constant.TheVariants as constants

-- ---- labels

abbrev pub label_of : ℕ → List ℕ
label_of pc = codes "L" ++ decimal pc

-- the pc at an offset from another, where it is one
abbrev pub as_pc : ℤ → Option ℕ
as_pc target = if int_lt target (pos 0) || int_lt (pos 65535) target then None else Some (unsigned_abs target)

abbrev pub target_of : ℕ → ℤ → Option ℕ
target_of pc offset = as_pc (pos pc +ℤ offset)

-- ---- texts in ASCII

abbrev pub ascii_of : List ℕ → Option (List ℕ)
ascii_of units = if list_all (λ u. nat_lt u 128) units then Some units else None

abbrev pub word_at : List Const → ℕ → Option (List ℕ)
word_at pool index = text_at pool index >>= λ units. ascii_of units

abbrev pub class_at : List Const → ℕ → Option (List ℕ)
class_at pool index = class_name_at pool index >>= λ units. ascii_of units

-- the class, or none where the index is 0
abbrev pub caught_at : List Const → ℕ → Option (Option (List ℕ))
caught_at pool index = if index == 0 then Some None else (class_at pool index >>= λ name. Some (Some name))

-- ---- members and constants

abbrev pub member_by : List Const → ℕ → Const → Option Operands
member_by pool class (NameAndType name descriptor) = do
  class ← class_at pool class
  name ← word_at pool name
  descriptor ← word_at pool descriptor
  Some (operands.Member class name descriptor)
member_by pool class other = None

abbrev pub member_with : List Const → ℕ → ℕ → Option Operands
member_with pool class member = slice_get pool member >>= λ c. member_by pool class c

abbrev pub member_of : List Const → Const → Option Operands
member_of pool (Fieldref class member) = member_with pool class member
member_of pool (Methodref class member) = member_with pool class member
member_of pool (InterfaceMethodref class member) = member_with pool class member
member_of pool other = None

abbrev pub member_at : List Const → ℕ → Option Operands
member_at pool index = slice_get pool index >>= λ c. member_of pool c

abbrev pub text_constant : List Const → ℕ → Option Constant
text_constant pool text = word_at pool text >>= λ word. Some (constants.Text word)

abbrev pub constant_of : List Const → Const → Option Constant
constant_of pool (Integer n) = Some (constants.Int n)
constant_of pool (Long n) = Some (constants.Long n)
constant_of pool (Text text) = text_constant pool text
constant_of pool other = None

abbrev pub constant_at : List Const → ℕ → Option Constant
constant_at pool index = slice_get pool index >>= λ c. constant_of pool c
