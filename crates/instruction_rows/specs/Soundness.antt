-- What it means that slots have the kinds of types, and that a local row keeps that.
use Rattle.std.specs.Prelude.{◌≡◌, ◌⊎◌, ℤ, true, false, List, Option, Some, None, Ok}
use Rattle.std.specs.List.{AllZip, IsAmong}
use Rattle.opcodes.specs.declared.op.ValueKind.{ValueKind}
use Rattle.opcodes.specs.declared.op.Op.{Op}
use Rattle.stack_maps.specs.declared.types.VType.{VType}
use Rattle.instruction_rows.specs.declared.value.Slot.{Slot}
use Rattle.instruction_rows.specs.Kinds.{Of, kind_of, held, kind_of_type}
use Rattle.instruction_rows.specs.Contents.{Contents}
use Rattle.instruction_rows.specs.Rows.{LocalRow, push, select, Row, local, goes_on, targets_of}
use Rattle.instruction_rows.specs.Table.{row}
use Rattle.instruction_rows.specs.SlotEffect.{Way, on, to, Moved, acted, divides_by_zero}
use Rattle.instruction_rows.specs.TypeEffect.{typed}

-- a slot holds a value of this kind
pub record Holds (k : ValueKind) (slot : Slot) : Type 0 where
  pub value : Of k
  pub is : held k slot ≡ Some value

abbrev pub IsOfKind : Option ValueKind → Slot → Type 0
IsOfKind None slot = Unit {0}
IsOfKind (Some k) slot = Holds k slot

-- A slot has the kind of this type. Top says nothing of it.
abbrev pub IsOf : VType → Slot → Type 0
IsOf t slot = IsOfKind (kind_of_type t) slot

abbrev pub AreOf : List VType → List Slot → Type 0
AreOf ts slots = AllZip IsOf ts slots

pub record HasKinds (types : Contents VType) (c : Contents Slot) : Type 0 where
  pub locals : AreOf types.locals c.locals
  pub stack : AreOf types.stack c.stack

-- What is known of a slot of one type is known of it as one of the other: the other is Top or the like, or both have
-- one kind.
abbrev pub KeepsKind : VType → VType → Type 0
KeepsKind a b = (kind_of_type b ≡ None) ⊎ (kind_of_type a ≡ kind_of_type b)

-- what a row pushes is of its type, and a switch goes to one of its targets
abbrev pub IsSound : LocalRow → Type 0
IsSound (push t v) = kind_of_type t ≡ Some (kind_of v)
IsSound (select choice targets) = (n : ℤ) → IsAmong targets (choice n)
IsSound r = Unit {0}

abbrev pub IsSoundRow : Row → Type 0
IsSoundRow (local r) = IsSound r
IsSoundRow r = Unit {0}

-- a way that a row may lead
abbrev pub IsWay : LocalRow → Way → Type 0
IsWay r on = goes_on r ≡ true
IsWay r (to target) = IsAmong (targets_of r) target

-- a row is defined, leaves slots of these types, and leads where it may
pub record Keeps (r : LocalRow) (after : Contents VType) (made : Option Moved) : Type 0 where
  pub moved : Moved
  pub is : made ≡ Some moved
  pub kinds : HasKinds after moved.contents
  pub way : IsWay r moved.way

-- A row that fits the types of a frame keeps to them, unless it divides by 0.
abbrev pub RowsKeepKinds : Type 0
RowsKeepKinds = (r : LocalRow) (before after : Contents VType) (c : Contents Slot) → IsSound r
    → typed r before ≡ Ok after → HasKinds before c → divides_by_zero r c ≡ false → Keeps r after (acted r c)

-- The rows of the table are such.
abbrev pub RowsAreSound : Type 0
RowsAreSound = (op : Op) → IsSoundRow (row op)
