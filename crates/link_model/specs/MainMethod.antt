-- The method main of a class (JLS 12.1.4).
use Rattle.std.specs.Prelude.{ℕ, Bool, false, List, [], ◌∷◌, Option, is_none, codes, position, ◌==◌, ◌&&◌}
use Rattle.std.specs.Option.{option_and_then}
use Rattle.class_model.specs.declared.access_flags.TheConstants.{ACC_PUBLIC, ACC_STATIC}
use Rattle.class_grammar.specs.Text.{same_text}
use Rattle.descriptors.specs.declared.kind.ElementType.{ElementType}
use Rattle.descriptors.specs.declared.kind.ElementType.TheVariants as elements
use Rattle.descriptors.specs.declared.kind.Kind.{Kind}
use Rattle.descriptors.specs.declared.kind.Signature.{Signature}
use Rattle.link_rules.specs.Program.{class_named, has_flag}
use Rattle.link_model.specs.declared.members.MethodInfo.{MethodInfo}
use Rattle.link_model.specs.World.{World}

abbrev pub is_string : ElementType → Bool
is_string (elements.Class name) = same_text name (codes "java/lang/String")
is_string element = false

-- one argument, an array of Strings
abbrev pub takes_strings : List Kind → Bool
takes_strings [] = false
takes_strings (kind ∷ []) = kind.dimensions == 1 && is_string kind.element
takes_strings (kind ∷ (other ∷ kinds)) = false

abbrev pub is_of_main : Signature → Bool
is_of_main signature = takes_strings signature.args && is_none signature.result

-- whether it is `public static void main(String[])` of class c
abbrev pub is_main : ℕ → MethodInfo → Bool
is_main c m =
    m.class == c && has_flag ACC_PUBLIC m.flags && has_flag ACC_STATIC m.flags && same_text m.name (codes "main") && is_of_main m.signature

-- the number of the main method that the class of this name declares
abbrev pub main_of : World → List ℕ → Option ℕ
main_of w name = option_and_then (λ c. position (is_main c) w.methods) (class_named w.program name)
