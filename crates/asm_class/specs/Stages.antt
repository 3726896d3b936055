-- Which line may come next, and what it makes.
use Rattle.std.specs.Prelude.{ℕ, [], Option, Some, None, Result, Ok}
use Rattle.asm_text.specs.declared.line.Line.{Line}
use Rattle.asm_text.specs.declared.line.Line.TheVariants as lines
use Rattle.asm_body.specs.Bodies.{or_line}
use Rattle.asm_class.specs.declared.assembly.Stage.{Stage}
use Rattle.asm_class.specs.declared.assembly.Stage.TheVariants as stages
use Rattle.asm_class.specs.States.{State}
use Rattle.asm_class.specs.ClassLines.{class_line, super_line, implements_line, field_line, method_line, with_method}
use Rattle.asm_class.specs.BodyLines.{stack_line, label_line, frame_line, instruction_line, catch_line}
use Rattle.asm_class.specs.Ends.{code_end}

-- the first line
abbrev pub first : Line → State → Option State
first (lines.Class flags name) s = class_line flags name s
first other s = None

abbrev pub second : Line → State → Option State
second (lines.Super name) s = super_line name s
second other s = None

-- behind the superclass come interfaces, then fields, then methods
abbrev pub method : Line → State → Option State
method (lines.Method flags name descriptor) s = method_line flags name descriptor s
method other s = None

abbrev pub field : Line → State → Option State
field (lines.Field flags name descriptor) s = field_line flags name descriptor s
field other s = method other s

abbrev pub interface : Line → State → Option State
interface (lines.Implements name) s = implements_line name s
interface other s = field other s

-- a method without code is its line and its end
abbrev pub no_code : Line → State → Option State
no_code lines.End s = Some (with_method [] s)
no_code other s = None

-- the body of a method begins with its sizes
abbrev pub sizes : Line → State → Option State
sizes (lines.Stack stack locals) s = Some (stack_line stack locals s)
sizes other s = None

-- in the body
abbrev pub code : ℕ → Line → State → Option State
code line (lines.Label label) s = label_line label s
code line (lines.Frame locals stack) s = frame_line line locals stack s
code line (lines.Instruction opcode ops) s = instruction_line line opcode ops s
code line (lines.Catch caught from to using) s = catch_line line caught from to using s
code line other s = None

-- behind the first row of the exception table
abbrev pub rows : ℕ → Line → State → Option State
rows line (lines.Catch caught from to using) s = catch_line line caught from to using s
rows line other s = None

-- a line that isn't the end of a method with code
abbrev pub other_line : Stage → ℕ → Line → State → Option State
other_line stages.Class line l s = first l s
other_line stages.Super line l s = second l s
other_line stages.Interfaces line l s = interface l s
other_line stages.Fields line l s = field l s
other_line stages.Methods line l s = method l s
other_line stages.NoCode line l s = no_code l s
other_line stages.Stack line l s = sizes l s
other_line stages.Code line l s = code line l s
other_line stages.Rows line l s = rows line l s

-- the end of a method; behind the frames and rows the places of all labels are known
abbrev pub end_line : Stage → ℕ → State → Result State ℕ
end_line stages.Code line s = code_end line s
end_line stages.Rows line s = code_end line s
end_line stage line s = or_line line (other_line stage line lines.End s)

-- What the line makes of the state, or the number of the first line that doesn't fit: this one, or at the end of a
-- method one of its body. An empty line and a comment mean nothing.
abbrev pub after_line : ℕ → Line → State → Result State ℕ
after_line line lines.Blank s = Ok s
after_line line lines.End s = end_line s.stage line s
after_line line other s = or_line line (other_line s.stage line other s)
