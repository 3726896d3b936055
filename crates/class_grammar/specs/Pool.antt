-- Look-ups in a constant pool (JVMS 4.4): a text, or the text behind a chain of references.
use Rattle.std.specs.Prelude.{ℕ, Bool, false, List, Option, Some, None, slice_get, option_and_then}
use Rattle.std.specs.Option.{option_map_or}
use Rattle.class_model.specs.declared.constant.Const.{Const}
use Rattle.class_model.specs.declared.constant.Const.TheVariants.{Utf8, Class}
use Rattle.class_grammar.specs.Text.{same_text}

abbrev pub text_of : Const → Option (List ℕ)
text_of (Utf8 units) = Some units
text_of c = None

-- the text at an index
abbrev pub text_at : List Const → ℕ → Option (List ℕ)
text_at pool i = option_and_then text_of (slice_get pool i)

abbrev pub class_name_of : List Const → Const → Option (List ℕ)
class_name_of pool (Class name) = text_at pool name
class_name_of pool c = None

-- the name of the class at an index
abbrev pub class_name_at : List Const → ℕ → Option (List ℕ)
class_name_at pool i = option_and_then (class_name_of pool) (slice_get pool i)

-- a field or a method by name: its class, its own name, its descriptor
pub record MemberName : Type 0 where
  pub class : List ℕ
  pub name : List ℕ
  pub descriptor : List ℕ

-- whether units are this text
abbrev pub is_text : List ℕ → List ℕ → Bool
is_text text units = same_text units text

-- whether there is a text at the index that passes the test
abbrev pub has_text : (List ℕ → Bool) → List Const → ℕ → Bool
has_text test pool index = option_map_or test (text_at pool index) false

-- whether the class at the index has this name
abbrev pub is_class_named : List ℕ → List Const → ℕ → Bool
is_class_named name pool index = option_map_or (is_text name) (class_name_at pool index) false
