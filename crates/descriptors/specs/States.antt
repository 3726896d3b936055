-- What each unit of a descriptor does, and the first that is not allowed (JVMS 4.3).
use Rattle.std.specs.Prelude.{ℕ, ◌+◌, Bool, false, not, nat_lt, nat_le, List, [], ◌∷◌, Option, Some, None, ◌==◌, ◌&&◌, ◌||◌, if◌then◌else◌}
use Rattle.std.specs.Option.{is_none}
use Rattle.descriptors.specs.declared.fronts.Front.{Front}
use Rattle.descriptors.specs.declared.fronts.Front.TheVariants.{Brackets, Name}
use Rattle.descriptors.specs.declared.fronts.Turn.{Turn}
use Rattle.descriptors.specs.declared.fronts.Turn.TheVariants.{Ends, GoesOn, Stops}
use Rattle.descriptors.specs.Descriptors.{bracket, semicolon, slash, class_letter, open_parenthesis, close_parenthesis, void_letter, is_base, is_name_unit, unit_slots}

-- ---- a unit in the descriptor of a kind

-- whether a unit is allowed in a name whose last part has a unit, or has none
abbrev pub name_goes_on : Bool → ℕ → Bool
name_goes_on begun u = if u == slash then begun else is_name_unit u

-- a unit after `[`, or a capital letter: every name may have it
abbrev pub is_letter : ℕ → Bool
is_letter u = nat_lt 91 u || (nat_le 65 u && nat_le u 90)

abbrev pub is_letter_of_name : Front → ℕ → Bool
is_letter_of_name (Brackets n) u = false
is_letter_of_name (Name begun) u = is_letter u

abbrev pub bracket_turn : ℕ → ℕ → Turn
bracket_turn n u =
    if u == bracket then (if nat_lt n 255 then GoesOn (Brackets (n + 1)) else Stops)
    else if u == class_letter then GoesOn (Name false)
    else if is_base u then Ends
    else Stops

abbrev pub name_turn : Bool → ℕ → Turn
name_turn begun u =
    if u == semicolon then (if begun then Ends else Stops)
    else if name_goes_on begun u then GoesOn (Name (not (u == slash)))
    else Stops

abbrev pub turn : Front → ℕ → Turn
turn (Brackets n) u = bracket_turn n u
turn (Name begun) u = name_turn begun u

-- nothing was read of the kind
abbrev pub is_start : Front → Bool
is_start (Brackets n) = n == 0
is_start (Name begun) = false

-- ---- a unit in a descriptor

-- What was read of a descriptor: so much of the kind of a field or of a method's result; nothing
-- of a method; so much of an argument of a method, where it and those before it take so many slots;
-- all up to the result of a method; all of it.
pub data State : Type 0 where
  Field : Front → State
  Method : State
  Args : ℕ → Front → State
  Result : State
  Whole : State

abbrev pub in_field : Turn → Option State
in_field Ends = Some Whole
in_field (GoesOn more) = Some (Field more)
in_field Stops = None

-- an argument, whose slots are counted
abbrev pub in_arg : ℕ → Turn → Option State
in_arg slots t =
    if nat_lt 255 slots then None
    else elim t [
      | Ends ↦ Some (Args slots (Brackets 0))
      | GoesOn more ↦ Some (Args slots more)
      | Stops ↦ None
    ]

-- the slots of the arguments with the one that a unit begins, or goes on with
abbrev pub slots_with : ℕ → Front → ℕ → ℕ
slots_with slots front u = if is_start front then slots + unit_slots u else slots

-- the state with one more unit, unless it is not allowed there
abbrev pub next : State → ℕ → Option State
next (Field front) u = in_field (turn front u)
next Method u = if u == open_parenthesis then Some (Args 0 (Brackets 0)) else None
next (Args slots front) u =
    if is_start front && u == close_parenthesis then Some Result
    else in_arg (slots_with slots front u) (turn front u)
next Result u = if u == void_letter then Some Whole else in_field (turn (Brackets 0) u)
next Whole u = None

-- the end of the units, where they end too early
abbrev pub bad_end : State → ℕ → Option ℕ
bad_end Whole at = None
bad_end state at = Some at

-- The offset of the first unit that is not allowed, or of the end where they end too early. The
-- first of these units has the offset `at`.
abbrev pub first_bad : State → ℕ → List ℕ → Option ℕ
first_bad state at [] = bad_end state at
first_bad state at (u ∷ us) = elim (next state u) [
  | None ↦ Some at
  | Some more ↦ first_bad more (at + 1) us
]

-- ---- the tests

-- whether the units are the descriptor of a field
abbrev pub is_field : List ℕ → Bool
is_field units = is_none (first_bad (Field (Brackets 0)) 0 units)

-- whether the units are the descriptor of a method
abbrev pub is_method : List ℕ → Bool
is_method units = is_none (first_bad Method 0 units)
