-- Attributes, read from front to back (JVMS 4.7).
use Rattle.std.specs.Prelude.{ℕ, Bool, false, List, Option, Some, None, Result, Ok, Err, ◌||◌, if◌then◌else◌}
use Rattle.std.specs.Int.{is_in_range}
use Rattle.byte_reader.specs.declared.fault.Fault.{Fault}
use Rattle.byte_reader.specs.Reader.{◌>>=◌, fault_at, both, map_value, verify, list_by, many}
use Rattle.class_model.specs.declared.constant.Const.{Const}
use Rattle.class_model.specs.declared.attribute.Attribute.{Attribute}
use Rattle.class_model.specs.declared.attribute.Body.TheVariants.{Code, Constant, Other}
use Rattle.class_model.specs.declared.attribute.CodeBody.{CodeBody}
use Rattle.class_model.specs.declared.attribute.Row.{Row}
use Rattle.class_model.specs.declared.attribute.CodeAttribute.{CodeAttribute}
use Rattle.class_model.specs.declared.attribute.CodeExtra.TheVariants as extras
use Rattle.class_grammar.specs.declared.class_why.ClassWhy.{ClassWhy}
use Rattle.class_grammar.specs.declared.class_why.ClassWhy.TheVariants as whys
use Rattle.class_grammar.specs.declared.holder.Holder.{Holder}
use Rattle.class_grammar.specs.declared.holder.Holder.TheVariants as holders
use Rattle.class_grammar.specs.Pool.{text_at}
use Rattle.class_grammar.specs.Attributes.{is_recognized, is_stack_map_name, is_recognized_body, is_map}
use Rattle.class_file.specs.declared.code.TheConstants.{MOST_CODE}
use Rattle.class_file.specs.Numbers.{ClassReader, u2_at, u4_at, pair_at, run_at, table_at, sized_bytes_at, sized_value_at}

-- the name of an attribute
pub record Name : Type 0 where
  -- its index in the constant pool
  pub index : ℕ
  pub text : List ℕ

-- a name by its index and the text there, which is a fault at the index where there is no text
abbrev pub name_of : List ℕ → ℕ → List ℕ → Option (List ℕ) → Result (Name × List ℕ) (Fault ClassWhy)
name_of front index rest None = Err (fault_at front whys.Index)
name_of front index rest (Some text) = Ok (record { index = index; text = text }, rest)

unfoldable pub name_at : List Const → ClassReader Name
name_at pool bytes = do
  index ← u2_at bytes
  name_of bytes index.0 index.1 (text_at pool index.0)

-- ---- the attributes of a Code

abbrev pub other_extra_at : ℕ → ClassReader CodeAttribute
other_extra_at name bytes = map_value (λ body. record { name = name; body = extras.Other body }) sized_bytes_at bytes

abbrev pub stack_map_at : ℕ → ClassReader CodeAttribute
stack_map_at name bytes = map_value (λ body. record { name = name; body = extras.StackMap body }) sized_bytes_at bytes

-- An attribute after its name. `seen` says that there was a StackMapTable before, and `front` begins at the name.
abbrev pub extra_of_name : Bool → List ℕ → Name → ClassReader CodeAttribute
extra_of_name seen front name bytes =
    if is_stack_map_name name.text then (if seen then Err (fault_at front whys.Duplicate) else stack_map_at name.index bytes)
    else other_extra_at name.index bytes

unfoldable pub extra_at : List Const → Bool → ClassReader CodeAttribute
extra_at pool seen bytes = do
  name ← name_at pool bytes
  extra_of_name seen bytes name.0 name.1

abbrev pub next_extra : Bool → CodeAttribute → Bool
next_extra seen a = seen || is_map a.body

unfoldable pub extras_at : List Const → Bool → ℕ → ClassReader (List CodeAttribute)
extras_at pool seen n bytes = list_by (λ (seen : Bool) (more : ℕ). extra_at pool seen) next_extra seen n bytes

-- ---- a Code (JVMS 4.7.3)

unfoldable pub row_at : ClassReader Row
row_at bytes =
    map_value (λ (p : (ℕ × ℕ) × (ℕ × ℕ)). record { start = p.0.0; end = p.0.1; handler = p.1.0; catch_type = p.1.1 }) (both pair_at pair_at) bytes

unfoldable pub rows_at : ℕ → ClassReader (List Row)
rows_at n bytes = many row_at n bytes

abbrev pub is_code_length : ℕ → Bool
is_code_length n = is_in_range 1 MOST_CODE n

-- the bytes of the code after their number, which is from 1 to 65,535
unfoldable pub code_bytes_at : ClassReader (List ℕ)
code_bytes_at bytes = do
  n ← verify is_code_length whys.Length u4_at bytes
  run_at n.0 n.1

unfoldable pub code_at : List Const → ClassReader CodeBody
code_at pool bytes =
    map_value (λ (p : ((ℕ × ℕ) × List ℕ) × (List Row × List CodeAttribute)). record { max_stack = p.0.0.0; max_locals = p.0.0.1; code = p.0.1; rows = p.1.0; attributes = p.1.1 })
    (both (both pair_at code_bytes_at) (both (table_at rows_at) (table_at (extras_at pool false)))) bytes

-- ---- the attributes of a class, a field or a method

abbrev pub other_at : ℕ → ClassReader Attribute
other_at name bytes = map_value (λ body. record { name = name; body = Other body }) sized_bytes_at bytes

-- a recognized attribute of a holder
abbrev pub recognized_at : List Const → Holder → ℕ → ClassReader Attribute
recognized_at pool holders.Method name bytes = map_value (λ c. record { name = name; body = Code c }) (sized_value_at (code_at pool)) bytes
recognized_at pool holders.Field name bytes = map_value (λ value. record { name = name; body = Constant value }) (sized_value_at u2_at) bytes
recognized_at pool holders.Class name bytes = other_at name bytes

-- An attribute after its name. `seen` says that there was a recognized one before, and `front` begins at the name.
abbrev pub attribute_of_name : List Const → Holder → Bool → List ℕ → Name → ClassReader Attribute
attribute_of_name pool holder seen front name bytes =
    if is_recognized holder name.text then (if seen then Err (fault_at front whys.Duplicate) else recognized_at pool holder name.index bytes)
    else other_at name.index bytes

unfoldable pub attribute_at : List Const → Holder → Bool → ClassReader Attribute
attribute_at pool holder seen bytes = do
  name ← name_at pool bytes
  attribute_of_name pool holder seen bytes name.0 name.1

abbrev pub next_attribute : Bool → Attribute → Bool
next_attribute seen a = seen || is_recognized_body a.body

unfoldable pub attributes_at : List Const → Holder → Bool → ℕ → ClassReader (List Attribute)
attributes_at pool holder seen n bytes = list_by (λ (seen : Bool) (more : ℕ). attribute_at pool holder seen) next_attribute seen n bytes
