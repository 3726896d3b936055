-- The code, the stack map and the exception table of a body, where the pc of each label is known. The first line that
-- doesn't fit is the fault.
use Rattle.std.specs.Prelude.{◌≡◌, ℕ, ◌-◌, List, [], ◌∷◌, ◌++◌, length, Bool, ◌&&◌, nat_lt, nat_le, Option, Some, None, Result, Ok, Err, if◌then◌else◌}
use Rattle.items.specs.Options.{◌>>=◌}
use Rattle.class_model.specs.declared.attribute.Row.{Row}
use Rattle.asm_text.specs.declared.error.LineError.{LineError}
use Rattle.asm_text.specs.declared.error.LineError.TheVariants as line_errors
use Rattle.asm_code.specs.Encoding.{Targets, Step, u2, with_instruction}
use Rattle.asm_body.specs.declared.error.BodyError.{BodyError}
use Rattle.asm_body.specs.declared.error.BodyError.TheVariants as errors
use Rattle.asm_body.specs.declared.placed.Placed.{Placed}
use Rattle.asm_body.specs.declared.placed.PlacedType.{PlacedType}
use Rattle.asm_body.specs.declared.placed.PlacedType.TheVariants as types
use Rattle.asm_body.specs.declared.placed.PlacedFrame.{PlacedFrame}
use Rattle.asm_body.specs.declared.placed.PlacedRow.{PlacedRow}

-- the call answered this value, or named the first bad line, unless memory ran out
abbrev pub AnswersBy : {X Y : Type 0} → (X → Y) → Result X BodyError → Result Y ℕ → Type 0
AnswersBy view (Ok x) made = made ≡ Ok (view x)
AnswersBy view (Err (errors.Bad line)) made = made ≡ Err line
AnswersBy view (Err errors.NoMemory) made = Unit {0}

-- the error of a line
abbrev pub at_line : ℕ → LineError → BodyError
at_line line line_errors.Bad = errors.Bad line
at_line line line_errors.NoMemory = errors.NoMemory

-- what is made, or this line
abbrev pub or_line : {A : Type 0} → ℕ → Option A → Result A ℕ
or_line line (Some x) = Ok x
or_line line None = Err line

infixl 10 ◌then◌
abbrev pub ◌then◌ : {A B : Type 0} → Result A ℕ → (A → Result B ℕ) → Result B ℕ
(Ok x) then f = f x
(Err line) then f = Err line

-- ---- the code

abbrev pub put_one : Targets → Placed → List ℕ → Result (List ℕ) ℕ
put_one target i code = or_line i.line (with_instruction target i.pc i.opcode i.mentioned i.operands code)

abbrev pub put_all : Targets → List Placed → List ℕ → Result (List ℕ) ℕ
put_all target [] code = Ok code
put_all target (i ∷ is) code = put_one target i code then λ next. put_all target is next

-- ---- the stack map (JVMS 4.7.4): full frames

abbrev pub tagged : ℕ → Step
tagged tag map = Some (map ++ tag ∷ [])

abbrev pub tagged_u2 : ℕ → ℕ → Step
tagged_u2 tag n map = Some (map ++ tag ∷ u2 n)

abbrev pub with_new : Targets → List ℕ → Step
with_new target label map = do
  t ← target label
  tagged_u2 8 t map

abbrev pub with_type : Targets → PlacedType → Step
with_type target types.Top map = tagged 0 map
with_type target types.Int map = tagged 1 map
with_type target types.Long map = tagged 4 map
with_type target types.Null map = tagged 5 map
with_type target types.This map = tagged 6 map
with_type target (types.New label) map = with_new target label map
with_type target (types.Object index) map = tagged_u2 7 index map

abbrev pub with_types : Targets → List PlacedType → Step
with_types target [] map = Some map
with_types target (t ∷ ts) map = do
  next ← with_type target t map
  with_types target ts next

-- a count, and so many types
abbrev pub with_counted : Targets → List PlacedType → Step
with_counted target ts map =
    if nat_lt 65535 (length ts) then None else with_types target ts (map ++ u2 (length ts))

-- what is told of the place of a frame: the first tells its pc, each later one how far behind the next pc it is
abbrev pub delta_of : Option ℕ → ℕ → Option ℕ
delta_of None pc = Some pc
delta_of (Some before) pc = if nat_lt before pc then Some (pc - before - 1) else None

abbrev pub with_frame : Targets → Option ℕ → PlacedFrame → Step
with_frame target before f map = do
  delta ← delta_of before f.pc
  locals ← with_counted target f.locals (map ++ 255 ∷ u2 delta)
  with_counted target f.stack locals

abbrev pub put_frame : Targets → Option ℕ → PlacedFrame → List ℕ → Result (List ℕ) ℕ
put_frame target before f map = or_line f.line (with_frame target before f map)

abbrev pub put_frames : Targets → Option ℕ → List PlacedFrame → List ℕ → Result (List ℕ) ℕ
put_frames target before [] map = Ok map
put_frames target before (f ∷ fs) map =
    put_frame target before f map then λ next. put_frames target (Some f.pc) fs next

-- ---- the exception table (JVMS 4.7.3): a row covers some code, and its handler is inside the code

abbrev pub is_range : ℕ → Row → Bool
is_range size row = nat_lt row.start row.end && nat_le row.end size && nat_lt row.handler size

abbrev pub in_range : ℕ → Row → Option Row
in_range size row = if is_range size row then Some row else None

abbrev pub row_at : ℕ → ℕ → ℕ → ℕ → Row
row_at start end handler caught = record { start = start; end = end; handler = handler; catch_type = caught }

abbrev pub row_of : Targets → ℕ → PlacedRow → Option Row
row_of target size r = do
  start ← target r.from
  end ← target r.to
  handler ← target r.handler
  in_range size (row_at start end handler r.catch_type)

abbrev pub put_rows : Targets → ℕ → List PlacedRow → List Row → Result (List Row) ℕ
put_rows target size [] rows = Ok rows
put_rows target size (r ∷ rs) rows =
    or_line r.line (row_of target size r) then λ row. put_rows target size rs (rows ++ row ∷ [])
