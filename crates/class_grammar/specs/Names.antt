-- Names of fields, methods and classes (JVMS 4.2).
use Rattle.std.specs.Prelude.{ℕ, Bool, true, false, not, List, [], ◌∷◌, codes, ◌&&◌, ◌||◌}
use Rattle.std.specs.List.{list_all}
use Rattle.descriptors.specs.Descriptors.{are_parts}
use Rattle.descriptors.specs.States.{is_field}
use Rattle.class_grammar.specs.Text.{same_text, is_one_of}

-- no unit of a name: . ; [ /
abbrev pub is_name_unit : ℕ → Bool
is_name_unit u = not (is_one_of (codes ".;[/") u)

-- nor, in a name of a method, < >
abbrev pub is_method_unit : ℕ → Bool
is_method_unit u = is_name_unit u && not (is_one_of (codes "<>") u)

abbrev pub is_some_text : List ℕ → Bool
is_some_text [] = false
is_some_text (u ∷ us) = true

-- a name of a field (JVMS 4.2.2)
abbrev pub is_field_name : List ℕ → Bool
is_field_name units = is_some_text units && list_all is_name_unit units

-- the names with angle brackets that a method may have: of an instance's initialization, and of a class's (JVMS 2.9)
abbrev pub init_name : List ℕ
init_name = codes "<init>"

abbrev pub clinit_name : List ℕ
clinit_name = codes "<clinit>"

abbrev pub is_init : List ℕ → Bool
is_init units = same_text units init_name

abbrev pub is_clinit : List ℕ → Bool
is_clinit units = same_text units clinit_name

abbrev pub is_initializer : List ℕ → Bool
is_initializer units = is_init units || is_clinit units

-- a name of a method (JVMS 4.2.2, 2.9)
abbrev pub is_method_name : List ℕ → Bool
is_method_name units =
    is_initializer units || (is_some_text units && list_all is_method_unit units)

-- whether a text begins with one of these characters
abbrev pub begins_with : List ℕ → List ℕ → Bool
begins_with chars [] = false
begins_with chars (u ∷ us) = is_one_of chars u

-- a name of a class, its packages before it, or the descriptor of an array class (JVMS 4.2.1, 4.4.1)
abbrev pub is_class_text : List ℕ → Bool
is_class_text units = are_parts false units || (begins_with (codes "[") units && is_field units)

-- a text that begins as the descriptor of a method does, and is checked as one
abbrev pub is_like_method : List ℕ → Bool
is_like_method units = begins_with (codes "(") units

abbrev pub object_class : List ℕ
object_class = codes "java/lang/Object"

abbrev pub string_descriptor : List ℕ
string_descriptor = codes "Ljava/lang/String;"
