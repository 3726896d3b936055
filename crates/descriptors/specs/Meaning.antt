-- What a descriptor means, as a function of its text (JVMS 4.3). A text that is no descriptor of a field counts as that of int, and
-- one that is no descriptor of a method as that of a method without arguments and without a result.
use Rattle.std.specs.Prelude.{ℕ, zero, suc, Bool, false, not, List, [], ◌∷◌, Option, Some, None, length, take, drop, ◌-◌, ◌==◌, ◌||◌, if◌then◌else◌}
use Rattle.std.specs.List.{prefix_len}
use Rattle.descriptors.specs.declared.kind.ElementType.{ElementType}
use Rattle.descriptors.specs.declared.kind.ElementType.TheVariants as elements
use Rattle.descriptors.specs.declared.kind.Kind.{Kind}
use Rattle.descriptors.specs.declared.kind.Signature.{Signature}
use Rattle.descriptors.specs.Descriptors.{bracket, semicolon, class_letter, void_letter, close_parenthesis}
use Rattle.descriptors.specs.States.{is_field, is_method}

-- ---- fields

-- the type that is no array whose descriptor this is; a name comes between its letter and a semicolon
abbrev pub element_of : List ℕ → ElementType
element_of [] = elements.Int
element_of (u ∷ us) =
    if u == 66 then elements.Byte  -- B
    else if u == 67 then elements.Char  -- C
    else if u == 68 then elements.Double  -- D
    else if u == 70 then elements.Float  -- F
    else if u == 73 then elements.Int  -- I
    else if u == 74 then elements.Long  -- J
    else if u == 83 then elements.Short  -- S
    else if u == 90 then elements.Bool  -- Z
    else elements.Class (take (length us - 1) us)

-- how many brackets are in front
abbrev pub brackets_in : List ℕ → ℕ
brackets_in units = prefix_len (λ u. u == bracket) units

abbrev pub type_of : List ℕ → Kind
type_of units = record { dimensions = brackets_in units; element = element_of (drop (brackets_in units) units) }

abbrev pub kind_of : List ℕ → Kind
kind_of units = if is_field units then type_of units else record { dimensions = 0; element = elements.Int }

-- ---- methods

-- Going over the descriptor of a type from the left, whether the unit ends it; `inside` says that a name is being read.
abbrev pub ends_type : Bool → ℕ → Bool
ends_type inside u = if inside then u == semicolon else not (u == bracket || u == class_letter)

-- how many units the descriptor of the first type has
abbrev pub first_length : Bool → List ℕ → ℕ
first_length inside [] = 0
first_length inside (u ∷ us) =
    if ends_type inside u then 1 else suc (first_length (inside || u == class_letter) us)

abbrev pub begins_with : ℕ → List ℕ → Bool
begins_with v [] = false
begins_with v (u ∷ us) = u == v

-- the types in front of the closing parenthesis, so many at most
abbrev pub arguments_in : ℕ → List ℕ → List Kind
arguments_in zero units = []
arguments_in (suc n) units =
    if begins_with close_parenthesis units then []
    else type_of (take (first_length false units) units) ∷ arguments_in n (drop (first_length false units) units)

-- the text after the closing parenthesis, so many types before it at most
abbrev pub result_in : ℕ → List ℕ → List ℕ
result_in zero units = []
result_in (suc n) units =
    if begins_with close_parenthesis units then drop 1 units
    else result_in n (drop (first_length false units) units)

abbrev pub result_of : List ℕ → Option Kind
result_of units = if begins_with void_letter units then None else Some (type_of units)

-- After the opening parenthesis each type has a unit at least, which bounds their number.
abbrev pub signature_of : List ℕ → Signature
signature_of units =
    if is_method units then record {
      args = arguments_in (length units) (drop 1 units);
      result = result_of (result_in (length units) (drop 1 units));
    }
    else record { args = []; result = None }
