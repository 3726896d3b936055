-- What the text of an entry of the pool may be used as.
use Rattle.std.specs.Prelude.{ℕ, Bool, true, false, List, [], ◌∷◌, Option, is_some, ◌==◌, ◌&&◌, if◌then◌else◌}
use Rattle.std.specs.Option.{option_map_or}
use Rattle.class_model.specs.declared.constant.Const.{Const}
use Rattle.descriptors.specs.Descriptors.{bracket, class_letter, is_base}
use Rattle.descriptors.specs.States.{is_field, is_method}
use Rattle.class_grammar.specs.Names.{is_field_name, is_method_name, is_class_text, string_descriptor, begins_with}
use Rattle.class_grammar.specs.Pool.{text_of, text_at, is_text}
use Rattle.class_grammar.specs.declared.class_why.ClassWhy.{ClassWhy}
use Rattle.class_grammar.specs.declared.class_why.ClassWhy.TheVariants.{Index}
use Rattle.class_checks.specs.NameUnits.{ends_with_semicolon}
use Rattle.class_checks.specs.declared.text_roles.TextRoles.{TextRoles}

-- the roles of a text; an entry that is no text has none
abbrev pub roles_of : Option (List ℕ) → TextRoles
roles_of text = record {
  is_field_name = option_map_or is_field_name text false;
  is_method_name = option_map_or is_method_name text false;
  is_class_name = option_map_or is_class_text text false;
  is_field = option_map_or is_field text false;
  is_method = option_map_or is_method text false;
  is_string = option_map_or (is_text string_descriptor) text false;
}

unfoldable pub entry_roles : Const → TextRoles
entry_roles c = roles_of (text_of c)

-- why an index is refused whose text, if there is one, is wrong for this reason
abbrev pub reason_at : ClassWhy → List Const → ℕ → ClassWhy
reason_at why pool index = if is_some (text_at pool index) then why else Index

-- whether the text is the descriptor of a field that is a class
abbrev pub is_class_descriptor : List ℕ → Bool
is_class_descriptor units = is_field units && begins_with (76 ∷ []) units

abbrev pub is_empty : List ℕ → Bool
is_empty [] = true
is_empty (u ∷ us) = false

-- Whether the text can be the descriptor of a field, by its first unit and its last one.
abbrev pub may_be_field : List ℕ → Bool
may_be_field [] = false
may_be_field (u ∷ us) =
    if u == bracket then true
    else if u == class_letter then ends_with_semicolon us
    else if is_base u then is_empty us
    else false
