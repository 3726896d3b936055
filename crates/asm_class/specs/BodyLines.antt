-- The lines of the body of a method, before its end (JVMS 4.7.3, 4.7.4).
use Rattle.std.specs.Prelude.{ℕ, true, false, not, List, [], ◌∷◌, ◌++◌, codes, Option, Some, None, is_some, ◌&&◌, if◌then◌else◌}
use Rattle.std.specs.Str.{bytes_eq}
use Rattle.items.specs.Options.{◌>>=◌}
use Rattle.class_model.specs.declared.constant.Const.{Const}
use Rattle.asm_text.specs.declared.line.FrameType.{FrameType}
use Rattle.asm_text.specs.declared.instruction.Operands.{Operands}
use Rattle.asm_pool.specs.Mentions as pools
use Rattle.asm_code.specs.Encoding.{Targets}
use Rattle.asm_body.specs.declared.placed.PlacedType.{PlacedType}
use Rattle.asm_body.specs.declared.placed.PlacedFrame.{PlacedFrame}
use Rattle.asm_body.specs.declared.placed.PlacedRow.{PlacedRow}
use Rattle.asm_body.specs.declared.growing.Instructions.{Instructions}
use Rattle.asm_body.specs.Growing.{grown}
use Rattle.asm_body.specs.FrameTypes.{types_behind}
use Rattle.asm_class.specs.declared.assembly.Stage.TheVariants as stages
use Rattle.asm_class.specs.declared.assembly.BodyParts.{BodyParts}
use Rattle.asm_class.specs.Names.{class_at, is_sound, are_sound_types}
use Rattle.asm_class.specs.States.{State}
use Rattle.asm_class.specs.ClassLines.{has_room}

-- no label has a place
abbrev pub no_targets : Targets
no_targets label = None

abbrev pub new_body : ℕ → ℕ → BodyParts
new_body stack locals = record {
  max_stack = stack;
  max_locals = locals;
  instructions = record { size = 0; placed = [] };
  map_name = 0;
  frames = [];
  frame_waits = false;
  rows = [];
}

abbrev pub stack_line : ℕ → ℕ → State → State
stack_line stack locals s = record s { stage = stages.Code; body = new_body stack locals; targets = no_targets }

-- ---- labels: each has one place in a method

abbrev pub with_target : List ℕ → ℕ → Targets → Targets
with_target label pc targets other = if bytes_eq label other then Some pc else targets other

abbrev pub label_line : List ℕ → State → Option State
label_line label s =
    if is_some (s.targets label) then None
    else Some (record s { targets = with_target label s.body.instructions.size s.targets })

-- ---- frames: each is that of the instruction behind it, which has one at most

abbrev pub with_frame : BodyParts → ℕ → PlacedFrame → BodyParts
with_frame body map_name frame = record body { map_name = map_name; frames = body.frames ++ frame ∷ []; frame_waits = true }

abbrev pub frame_at : ℕ → ℕ → List PlacedType → List PlacedType → PlacedFrame
frame_at line pc locals stack = record { line = line; pc = pc; locals = locals; stack = stack }

-- The name of the attribute comes before the classes of the types.
abbrev pub frame_by : ℕ → List FrameType → List FrameType → State → Option State
frame_by line locals stack s = do
  name ← pools.text (codes "StackMapTable") s.pool
  locals ← types_behind [] locals name.1
  stack ← types_behind [] stack locals.1
  Some (record s {
    pool = stack.1;
    body = with_frame s.body name.0 (frame_at line s.body.instructions.size locals.0 stack.0);
  })

abbrev pub frame_line : ℕ → List FrameType → List FrameType → State → Option State
frame_line line locals stack s =
    if not s.body.frame_waits && are_sound_types locals && are_sound_types stack
    then frame_by line locals stack s
    else None

-- ---- instructions

abbrev pub with_instructions : BodyParts → Instructions → BodyParts
with_instructions body is = record body { instructions = is; frame_waits = false }

abbrev pub instruction_line : ℕ → ℕ → Operands → State → Option State
instruction_line line opcode ops s =
    if is_sound opcode ops
    then (grown s.body.instructions line opcode ops s.pool >>= λ new.
    Some (record s { pool = new.1; body = with_instructions s.body new.0 }))
    else None

-- ---- rows of the exception table, behind all instructions

-- the index of the class that is caught, or 0 for every throwable
abbrev pub caught_at : Option (List ℕ) → List Const → pools.Mention
caught_at None pool = Some (0, pool)
caught_at (Some name) pool = class_at name pool

abbrev pub with_row : BodyParts → PlacedRow → BodyParts
with_row body row = record body { rows = body.rows ++ row ∷ [] }

abbrev pub row_at : ℕ → ℕ → List ℕ → List ℕ → List ℕ → PlacedRow
row_at line caught from to using = record { line = line; from = from; to = to; handler = using; catch_type = caught }

abbrev pub catch_line : ℕ → Option (List ℕ) → List ℕ → List ℕ → List ℕ → State → Option State
catch_line line caught from to using s =
    if not s.body.frame_waits && has_room s.body.rows
    then (caught_at caught s.pool >>= λ class. Some (record s {
      stage = stages.Rows;
      pool = class.1;
      body = with_row s.body (row_at line class.0 from to using);
    }))
    else None
