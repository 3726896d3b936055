-- The end of a method, and of the text.
use Rattle.std.specs.Prelude.{ℕ, ◌+◌, ◌*◌, Bool, true, false, not, ◌&&◌, List, [], ◌∷◌, ◌++◌, length, Option, Some, None, Result, Ok, Err, min, nat_le, ◌==◌, if◌then◌else◌}
use Rattle.class_model.specs.declared.constant.Const.{Const}
use Rattle.class_model.specs.declared.constant.Const.TheVariants.{Unused}
use Rattle.class_model.specs.declared.attribute.Attribute.{Attribute}
use Rattle.class_model.specs.declared.attribute.Body.TheVariants.{Code}
use Rattle.class_model.specs.declared.attribute.CodeBody.{CodeBody}
use Rattle.class_model.specs.declared.attribute.CodeAttribute.{CodeAttribute}
use Rattle.class_model.specs.declared.attribute.CodeExtra.TheVariants as extras
use Rattle.class_model.specs.declared.attribute.Row.{Row}
use Rattle.class_model.specs.declared.class_file.ClassFile.{ClassFile}
use Rattle.asm_code.specs.Encoding.{Targets, u2}
use Rattle.asm_body.specs.declared.error.BodyError.{BodyError}
use Rattle.asm_body.specs.declared.error.BodyError.TheVariants as errors
use Rattle.asm_body.specs.declared.placed.PlacedFrame.{PlacedFrame}
use Rattle.asm_body.specs.Bodies.{◌then◌, or_line, put_all, put_frames, put_rows}
use Rattle.asm_class.specs.declared.assembly.Stage.{Stage}
use Rattle.asm_class.specs.declared.assembly.Stage.TheVariants as stages
use Rattle.asm_class.specs.declared.assembly.ClassParts.{ClassParts}
use Rattle.asm_class.specs.declared.assembly.MethodParts.{MethodParts}
use Rattle.asm_class.specs.declared.assembly.BodyParts.{BodyParts}
use Rattle.asm_class.specs.States.{State}
use Rattle.asm_class.specs.ClassLines.{with_method}
use Rattle.asm_class.specs.BodyLines.{new_body, no_targets}

-- of two errors that of the earlier line
abbrev pub earlier : BodyError → BodyError → BodyError
earlier (errors.Bad line) (errors.Bad other) = errors.Bad (min line other)
earlier (errors.Bad line) errors.NoMemory = errors.NoMemory
earlier errors.NoMemory other = errors.NoMemory

-- two parts, or the earlier of two bad lines
abbrev pub both : {A B : Type 0} → Result A ℕ → Result B ℕ → Result (A × B) ℕ
both (Ok a) (Ok b) = Ok (a, b)
both (Ok a) (Err line) = Err line
both (Err line) (Ok b) = Err line
both (Err line) (Err other) = Err (min line other)

-- the attribute of a code that has frames
abbrev pub maps_of : ℕ → List PlacedFrame → List ℕ → List CodeAttribute
maps_of name [] map = []
maps_of name (f ∷ fs) map = record { name = name; body = extras.StackMap (u2 (length (f ∷ fs)) ++ map) } ∷ []

-- the bytes of the attribute, with those of the map
abbrev pub attribute_size : ℕ → List Row → List ℕ → ℕ
attribute_size size rows map = size + 8 * length rows + length map + 20

-- code with at least one instruction, whose frames have a count in two bytes and whose attribute a size in four
abbrev pub is_code : ℕ → List PlacedFrame → List Row → List ℕ → Bool
is_code size frames rows map =
    not (size == 0) && nat_le (length frames) 65535 && nat_le (attribute_size size rows map) 0xffffffff

abbrev pub code_body : BodyParts → List ℕ → List ℕ → List Row → CodeBody
code_body body code map rows = record {
  max_stack = body.max_stack;
  max_locals = body.max_locals;
  code = code;
  rows = rows;
  attributes = maps_of body.map_name body.frames map;
}

abbrev pub code_of : BodyParts → List ℕ → List ℕ → List Row → Option CodeBody
code_of body code map rows =
    if is_code body.instructions.size body.frames rows map then Some (code_body body code map rows) else None

-- the instructions and the frames, whose lines may stand between each other, and then the rows
abbrev pub body_of : ℕ → BodyParts → Targets → Result CodeBody ℕ
body_of line body targets =
    both (put_all targets body.instructions.placed []) (put_frames targets None body.frames []) then λ made.
    put_rows targets body.instructions.size body.rows [] then λ rows.
    or_line line (code_of body made.0 made.1 rows)

abbrev pub code_attribute : ℕ → CodeBody → Attribute
code_attribute name body = record { name = name; body = Code body }

-- the end of a method with code; no frame waits for an instruction
abbrev pub code_end : ℕ → State → Result State ℕ
code_end line s =
    if s.body.frame_waits then Err line
    else (body_of line s.body s.targets then λ body. Ok (with_method (code_attribute s.method.code body ∷ []) s))

-- ---- the end of the text

-- whether the class and its methods are whole
abbrev pub is_whole : Stage → Bool
is_whole stages.Interfaces = true
is_whole stages.Fields = true
is_whole stages.Methods = true
is_whole stage = false

-- the class file of these parts, in version 61.0 (Java 17)
abbrev pub file_with : List Const → ClassParts → ClassFile
file_with pool class = record {
  minor = 0;
  major = 61;
  pool = pool;
  flags = class.flags;
  own = class.own;
  parent = class.parent;
  interfaces = class.interfaces;
  fields = class.fields;
  methods = class.methods;
  attributes = [];
}

abbrev pub finished : State → Option ClassFile
finished s = if is_whole s.stage then Some (file_with s.pool s.class) else None

-- ---- the state before the first line

abbrev pub no_class : ClassParts
no_class = record { flags = 0; own = 0; parent = 0; interfaces = []; fields = []; methods = [] }

abbrev pub no_method : MethodParts
no_method = record { flags = 0; name = 0; descriptor = 0; code = 0 }

abbrev pub start : State
start = record {
  stage = stages.Class;
  pool = Unused ∷ [];
  class = no_class;
  method = no_method;
  body = new_body 0 0;
  targets = no_targets;
}
