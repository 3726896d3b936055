-- The descriptor of a field and of a method (JVMS 4.3.2, 4.3.3).
use Rattle.std.specs.Prelude.{ℕ, ◌≡◌, ◌≤◌, Bool, true, false, not, List, [], ◌∷◌, ◌++◌, Option, Some, None, ◌==◌, ◌&&◌, ◌||◌, if◌then◌else◌}
use Rattle.std.specs.List.{flat_map, list_any, repeat, sum_by, AllByRecursion}
use Rattle.descriptors.specs.declared.kind.ElementType.{ElementType}
use Rattle.descriptors.specs.declared.kind.ElementType.TheVariants.{Byte, Char, Double, Float, Int, Long, Short, Class}
use Rattle.descriptors.specs.declared.kind.ElementType.TheVariants as elements
use Rattle.descriptors.specs.declared.kind.Kind.{Kind}
use Rattle.descriptors.specs.declared.kind.Signature.{Signature}

-- ---- the characters of descriptors, as units

abbrev pub dot : ℕ
dot = 46  -- .

abbrev pub slash : ℕ
slash = 47  -- /

abbrev pub semicolon : ℕ
semicolon = 59  -- ;

abbrev pub bracket : ℕ
bracket = 91  -- [

abbrev pub open_parenthesis : ℕ
open_parenthesis = 40  -- (

abbrev pub close_parenthesis : ℕ
close_parenthesis = 41  -- )

abbrev pub class_letter : ℕ
class_letter = 76  -- L

abbrev pub void_letter : ℕ
void_letter = 86  -- V

abbrev pub byte_letter : ℕ
byte_letter = 66  -- B

abbrev pub char_letter : ℕ
char_letter = 67  -- C

abbrev pub double_letter : ℕ
double_letter = 68  -- D

abbrev pub float_letter : ℕ
float_letter = 70  -- F

abbrev pub int_letter : ℕ
int_letter = 73  -- I

abbrev pub long_letter : ℕ
long_letter = 74  -- J

abbrev pub short_letter : ℕ
short_letter = 83  -- S

abbrev pub bool_letter : ℕ
bool_letter = 90  -- Z

-- the letters of the types that are no class and no array
abbrev pub base_letters : List ℕ
base_letters =
    byte_letter ∷ char_letter ∷ double_letter ∷ float_letter ∷ int_letter ∷ long_letter ∷ short_letter ∷ bool_letter ∷ []

-- ---- descriptors of fields

-- this many `[`
abbrev pub brackets : ℕ → List ℕ
brackets n = repeat n (bracket ∷ [])

-- the descriptor of a type that is no array
abbrev pub element_spelling : ElementType → List ℕ
element_spelling Byte = byte_letter ∷ []
element_spelling Char = char_letter ∷ []
element_spelling Double = double_letter ∷ []
element_spelling Float = float_letter ∷ []
element_spelling Int = int_letter ∷ []
element_spelling Long = long_letter ∷ []
element_spelling Short = short_letter ∷ []
element_spelling elements.Bool = bool_letter ∷ []
element_spelling (Class name) = class_letter ∷ (name ++ semicolon ∷ [])

-- the descriptor of a kind
abbrev pub spelling : Kind → List ℕ
spelling kind = brackets kind.dimensions ++ element_spelling kind.element

-- a unit of a name but the slash: none of . ; [
abbrev pub is_name_unit : ℕ → Bool
is_name_unit u = not (u == dot || u == semicolon || u == bracket)

-- Whether each part between slashes has a unit, where `begun` says that the first part has one already.
abbrev pub are_parts : Bool → List ℕ → Bool
are_parts begun [] = begun
are_parts begun (u ∷ us) =
    if u == slash then begun && are_parts false us else is_name_unit u && are_parts true us

-- a name of a class, its packages before it (JVMS 4.2.1)
abbrev pub IsClassName : List ℕ → Type 0
IsClassName name = are_parts false name ≡ true

-- a type that has a descriptor and is no array
abbrev pub IsElement : ElementType → Type 0
IsElement (Class name) = IsClassName name
IsElement element = Unit {0}

-- a kind that has a descriptor: it has at most 255 dimensions
pub record IsKind (kind : Kind) : Type 0 where
  pub few : kind.dimensions ≤ 255
  pub element : IsElement kind.element

abbrev pub element_slots : ElementType → ℕ
element_slots Long = 2
element_slots Double = 2
element_slots element = 1

-- how many of the 255 slots of arguments the kind takes
abbrev pub slots : Kind → ℕ
slots kind = if kind.dimensions == 0 then element_slots kind.element else 1

-- the same of a kind by its first unit
abbrev pub unit_slots : ℕ → ℕ
unit_slots u = if u == double_letter || u == long_letter then 2 else 1

abbrev pub result_spelling : Option Kind → List ℕ
result_spelling None = void_letter ∷ []
result_spelling (Some kind) = spelling kind

abbrev pub method_spelling : Signature → List ℕ
method_spelling s = open_parenthesis ∷ (flat_map spelling s.args ++ close_parenthesis ∷ result_spelling s.result)

abbrev pub IsResult : Option Kind → Type 0
IsResult None = Unit {0}
IsResult (Some kind) = IsKind kind

-- a signature that has a descriptor: its arguments take at most 255 slots
pub record IsSignature (s : Signature) : Type 0 where
  pub args : AllByRecursion IsKind s.args
  pub slots_fit : sum_by slots s.args ≤ 255
  pub result : IsResult s.result

-- the units that are a kind by themselves
abbrev pub is_base : ℕ → Bool
is_base u = list_any (λ b. u == b) base_letters
