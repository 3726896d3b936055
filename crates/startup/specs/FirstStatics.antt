-- The values with which static fields begin, by the list of Strings (JVMS 4.7.2, 5.1).
use Rattle.std.specs.Prelude.{ℕ, ◌+◌, List, [], ◌∷◌, Option, Some, None, codes, position, slice_get, if◌then◌else◌}
use Rattle.std.specs.Option.{option_map}
use Rattle.std.specs.List.{flat_map}
use Rattle.items.specs.Options.{◌>>=◌}
use Rattle.items.specs.First.{first_in}
use Rattle.class_grammar.specs.Pool.{text_at}
use Rattle.class_grammar.specs.Text.{same_text}
use Rattle.class_model.specs.declared.constant.Const.{Const}
use Rattle.class_model.specs.declared.constant.Const.TheVariants.{Integer, Long, Text}
use Rattle.class_model.specs.declared.class_file.ClassFile.{ClassFile}
use Rattle.class_model.specs.declared.member.Member.{Member}
use Rattle.descriptors.specs.Meaning.{kind_of}
use Rattle.instruction_rows.specs.declared.value.Value.{Value}
use Rattle.instruction_rows.specs.declared.value.Value.TheVariants as values
use Rattle.link_rules.specs.Program.{own_name}
use Rattle.link_rules.specs.Members.{is_static}
use Rattle.link_rules.specs.Selection.{key_in}
use Rattle.link_model.specs.Strings.{string_number}
use Rattle.ref_model.specs.Opening.{constant_in, constant_or_zero, first_state, object_or, opening_object, state_names}
use Rattle.ref_model.specs.Printing.{out_stream, err_stream}

abbrev pub stream_of : List ℕ → Option ℕ
stream_of name =
    if same_text name (codes "out") then Some out_stream
    else if same_text name (codes "err") then Some err_stream
    else None

abbrev pub state_of : List ℕ → Option ℕ
state_of name = option_map (λ index. first_state + index) (position (same_text name) state_names)

abbrev pub text_value : List (List ℕ) → List ℕ → Option Value
text_value strings units = string_number strings units >>= λ n. Some (values.Ref n)

abbrev pub constant_value : List (List ℕ) → List Const → Const → Option Value
constant_value strings pool (Integer n) = Some (values.Int n)
constant_value strings pool (Long n) = Some (values.Long n)
constant_value strings pool (Text index) = text_at pool index >>= text_value strings
constant_value strings pool c = None

abbrev pub attribute_value : List (List ℕ) → List Const → Member → Option Value
attribute_value strings pool m =
    first_in constant_in m.attributes >>= λ index. slice_get pool index >>= constant_value strings pool

abbrev pub static_opening : List (List ℕ) → ClassFile → Member → Value
static_opening strings f m =
    object_or (opening_object (own_name f) (key_in f.pool m).name)
    (constant_or_zero (kind_of (key_in f.pool m).descriptor) (attribute_value strings f.pool m))

-- none, where the field isn't static
abbrev pub static_value : List (List ℕ) → ClassFile → Member → List Value
static_value strings f m = if is_static m then static_opening strings f m ∷ [] else []

abbrev pub static_values : List (List ℕ) → ClassFile → List Value
static_values strings f = flat_map (static_value strings f) f.fields
