-- What a local row does to the types of a frame (JVMS 4.10.1.9), or why it doesn't fit them.
use Rattle.std.specs.Prelude.{ℕ, zero, suc, List, [], ◌∷◌, get_or, slice_get, slice_set, Result, Ok, Err, ok_or, if◌then◌else◌}
use Rattle.opcodes.specs.declared.op.ValueKind.{ValueKind}
use Rattle.opcodes.specs.declared.op.ValueKind.TheVariants as kinds
use Rattle.stack_maps.specs.declared.types.VType.{VType}
use Rattle.stack_maps.specs.declared.types.VType.TheVariants as types
use Rattle.instruction_rows.specs.declared.row_why.RowWhy.{RowWhy}
use Rattle.instruction_rows.specs.declared.row_why.RowWhy.TheVariants as whys
use Rattle.instruction_rows.specs.Results.{◌then◌}
use Rattle.instruction_rows.specs.Kinds.{kind_of_type, is_kind}
use Rattle.instruction_rows.specs.Contents.{Contents, is_wide, is_narrow, types_of, with_items}
use Rattle.instruction_rows.specs.StackItems.{Width, one, two, items_on}
use Rattle.instruction_rows.specs.Rows.{LocalRow, push, int, long, moves, load, store, increment, branch, jump, select}

-- this, where the type is of the kind
abbrev pub only_of : {A : Type 0} → ValueKind → VType → A → Result A RowWhy
only_of k t x = if is_kind k (kind_of_type t) then Ok x else Err whys.Kind

-- the type of the value of this kind on top, and what lies below it
abbrev pub type_popped : ValueKind → List VType → Result (VType × List VType) RowWhy
type_popped k [] = Err whys.Depth
type_popped kinds.Long (types.Top ∷ types.Long ∷ rest) = Ok (types.Long, rest)
type_popped kinds.Long stack = Err whys.Kind
type_popped k (t ∷ rest) = only_of k t (t, rest)

-- what lies below the values of these kinds, the topmost first
abbrev pub types_popped : List ValueKind → List VType → Result (List VType) RowWhy
types_popped [] stack = Ok stack
types_popped (k ∷ ks) stack = type_popped k stack then λ x. types_popped ks x.1

abbrev pub type_pushed : VType → List VType → List VType
type_pushed t stack = if is_wide t then types.Top ∷ t ∷ stack else t ∷ stack

-- ---- items of the stack, none of which splits a long

abbrev pub narrow_popped : List VType → Result (VType × List VType) RowWhy
narrow_popped [] = Err whys.Depth
narrow_popped (t ∷ rest) = if is_narrow t then Ok (t, rest) else Err whys.Kind

abbrev pub two_popped : List VType → Result (List VType × List VType) RowWhy
two_popped stack = narrow_popped stack then λ x. narrow_popped x.1 then λ y. Ok (x.0 ∷ y.0 ∷ [], y.1)

abbrev pub item_popped : Width → List VType → Result (List VType × List VType) RowWhy
item_popped one stack = narrow_popped stack then λ x. Ok (x.0 ∷ [], x.1)
item_popped two (types.Top ∷ t ∷ rest) = if is_wide t then Ok (types.Top ∷ t ∷ [], rest) else Err whys.Kind
item_popped two stack = two_popped stack

abbrev pub items_popped : List Width → List VType → Result (List (List VType) × List VType) RowWhy
items_popped [] stack = Ok ([], stack)
items_popped (width ∷ widths) stack =
    item_popped width stack then λ x. items_popped widths x.1 then λ y. Ok (x.0 ∷ y.0, y.1)

-- ---- local variables

-- the type of a local variable, where it is of this kind
abbrev pub local_type : ValueKind → ℕ → List VType → Result VType RowWhy
local_type k n locals = ok_or (slice_get locals n) whys.Locals then λ t. only_of k t t

-- a value in two slots loses its type where a store writes its second slot, at this index (JVMS 4.10.1.7)
abbrev pub without_half : ℕ → List VType → List VType
without_half zero locals = locals
without_half (suc n) locals = if is_wide (get_or locals n types.Top) then slice_set locals n types.Top else locals

-- the local variables with a value of this type from an index on
abbrev pub with_type : VType → ℕ → List VType → Result (List VType) RowWhy
with_type t n locals = ok_or (with_items n (types_of t) (without_half n locals)) whys.Locals

-- ---- rows

abbrev pub types_on : List VType → List VType → Result (Contents VType) RowWhy
types_on locals stack = Ok (record { locals = locals; stack = stack })

abbrev pub typed : LocalRow → Contents VType → Result (Contents VType) RowWhy
typed (push t v) c = types_on c.locals (type_pushed t c.stack)
typed (int takes f) c = types_popped takes c.stack then λ stack. types_on c.locals (type_pushed types.Int stack)
typed (long takes f) c = types_popped takes c.stack then λ stack. types_on c.locals (type_pushed types.Long stack)
typed (moves widths order) c = items_popped widths c.stack then λ x. types_on c.locals (items_on x.0 order x.1)
typed (load k n) c = local_type k n c.locals then λ t. types_on c.locals (type_pushed t c.stack)
typed (store k n) c = type_popped k c.stack then λ x. with_type x.0 n c.locals then λ locals. types_on locals x.1
typed (increment n amount) c = local_type kinds.Int n c.locals then λ t. Ok c
typed (branch takes test target) c = types_popped takes c.stack then λ stack. types_on c.locals stack
typed (jump target) c = Ok c
typed (select choice targets) c = type_popped kinds.Int c.stack then λ x. types_on c.locals x.1
